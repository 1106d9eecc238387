-- A commit and a web edit have one answer each, but that memory may be wanted.
use Rattle.std.proofs.Common.{◌≡◌, ◌≢◌, ℕ, Bool, List, [], ◌∷◌, Option, None, Some, refl, sym, ◌∙◌, ap, subst, inl, inr}
use Rattle.std.specs.FinMap.{get}
use Rattle.nuc_base.specs.Faults.{PutFaulty}
use Rattle.nuc_base.specs.Legal.{LegalPut}
use Rattle.nuc_base.specs.SamePlace.{same_place-sym, same_place-trans}
use Rattle.nuc_base.specs.Trees.{Nodes, StandsAt, WellFormed}
use Rattle.nuc_base.specs.declared.node.Counters.{Counters}
use Rattle.nuc_base.specs.declared.node.Kind.{Kind}
use Rattle.nuc_base.specs.declared.node.Kind.TheVariants.{Folder, File}
use Rattle.nuc_base.specs.declared.node.Node.{Node}
use Rattle.nuc_base.specs.declared.node.NodeId.{NodeId}
use Rattle.nuc_base.specs.declared.node.Place.{Place}
use Rattle.nuc_base.specs.declared.tree_fault.CutFault.TheVariants as cut
use Rattle.nuc_base.specs.declared.tree_fault.PutFault.{PutFault}
use Rattle.nuc_base.specs.declared.tree_fault.PutFault.TheVariants as put
use Rattle.nuc_base.proofs.Maps.{one_node}
use Rattle.nuc_base.proofs.Reasons.{legal_cut-fault, legal_put-fault}
use Rattle.nuc_edits.specs.Edits.{Recorded}
use Rattle.nuc_hash.specs.Filling.{filling_bytes}
use Rattle.nuc_journal.specs.Entries.{tree_of}
use Rattle.nuc_journal.specs.declared.entry.Entry.{Entry}
use Rattle.nuc_paths.specs.Paths.{ByHolder, ByPath, LeadsOn, LeadsTo, place_in}
use Rattle.nuc_server.specs.Web.{AnswersAt, OneWebAnswer, path_of}
use Rattle.nuc_server.specs.WebEdits.{CutAnswers, EndsFile, Enters, IsUnchanged, MkdirAnswers, PutAnswers, SetsBit, WebState, Writes, WritesNew, WritesOver}
use Rattle.nuc_server.specs.declared.web_edit.WebEdit.{WebEdit}
use Rattle.nuc_server.specs.declared.web_edit.WebEdit.TheVariants as edit
use Rattle.nuc_server.specs.declared.web_edit.WebReply.{WebReply}
use Rattle.nuc_server.specs.declared.web_edit.WebReply.TheVariants as reply

-- ONE PLACE, ONE HOLDER
one_at : (m : Nodes) (y z : ℕ) (p : Place) → WellFormed m → StandsAt m y p → StandsAt m z p → y ≡ z
one_at m y z p form (n, e, s) (k, f, t) = form.places y z n k e f (same_place-trans n.place p k.place s (same_place-sym k.place p t))

leads_on_one : (m : Nodes) (x : ℕ) (name : List ℕ) (names : List (List ℕ)) (p q : Place) → WellFormed m → LeadsOn m x name names p → LeadsOn m x name names q → p ≡ q
leads_on_one m x name [] p q form a b = a.1 ∙ sym b.1
leads_on_one m x name (next ∷ names) p q form (y, at, rest) (z, there, more) =
    leads_on_one m y next names p q form rest (subst (λ z. LeadsOn m z next names q) (sym (one_at m y z (place_in x name) form at there)) more)

leads_one : (m : Nodes) (x : ℕ) (names : List (List ℕ)) (p q : Place) → WellFormed m → LeadsTo m x names p → LeadsTo m x names q → p ≡ q
leads_one m x [] p q form a b = absurd a
leads_one m x (name ∷ names) p q form a b = leads_on_one m x name names p q form a b

both_paths : {N M Q : Type 0} {T U : Place → Type 0} (m : Nodes) (names : List (List ℕ)) → WellFormed m → ByPath m names N T → ByPath m names M U
    → (N → M → Q) → ((p : Place) → T p → U p → Q) → Q
both_paths m names form (inl (never, a)) (inl (none, b)) f g = f a b
both_paths m names form (inl (never, a)) (inr (p, leads, b)) f g = absurd (never p leads)
both_paths m names form (inr (p, leads, a)) (inl (never, b)) f g = absurd (never p leads)
both_paths {U = U} m names form (inr (p, leads, a)) (inr (q, to, b)) f g = g p a (subst U (sym (leads_one m 0 names p q form leads to)) b)

both_holders : {N M Q : Type 0} {H I : ℕ → Node → Type 0} (m : Nodes) (place : Place) → WellFormed m → ByHolder m place N H → ByHolder m place M I
    → (N → M → Q) → ((x : ℕ) (n : Node) → H x n → I x n → Q) → Q
both_holders m place form (inl (vacant, a)) (inl (free, b)) f g = f a b
both_holders m place form (inl (vacant, a)) (inr (x, n, e, s, b)) f g = absurd (vacant x n e s)
both_holders m place form (inr (x, n, e, s, a)) (inl (vacant, b)) f g = absurd (vacant x n e s)
both_holders {I = I} m place form (inr (x, n, e, s, a)) (inr (y, k, d, t, b)) f g =
    let same : y ≡ x = one_at m y x place form (k, d, t) (n, e, s) in
    let node : k ≡ n = one_node m x k n (subst (λ y. get m y ≡ Some k) same d) e in
    g x n a (subst (λ k. I x k) node (subst (λ y. I y k) same b))

-- ONE ANSWER to each edit of a place
identity_one : (y z : NodeId) → y.0 ≡ z.0 → y ≡ z
identity_one y z same = ap (λ k. record { 0 = k }) same

enters_one : (es now then : List Entry) (x : ℕ) (value : Option Node) (r q : ℕ) → Enters es x value r now → Enters es x value q then → (reply.Accepted r ≡ reply.Accepted q) × (now ≡ then)
enters_one es now then x value r q a b = (ap reply.Accepted (a.0 ∙ sym b.0), a.1 ∙ sym b.1)

mkdir_one : (es now then : List Entry) (ids left more : Counters) (place : Place) (a b : WebReply) → WellFormed (tree_of es) → a ≢ reply.Memory → b ≢ reply.Memory
    → MkdirAnswers es ids place a now left → MkdirAnswers es ids place b then more → (a ≡ b) × (now ≡ then) × (left ≡ more)
mkdir_one es now then ids left more place (reply.Accepted r) (reply.Accepted q) form c d a b =
    let one = enters_one es now then ids.next_id _ r q a.1 b.1 in (one.0, one.1, a.2 ∙ sym b.2)
mkdir_one es now then ids left more place (reply.Accepted r) (reply.Taken y) form c d a b = let (n, e, s) = b.0 in absurd (a.0 y.0 n e s)
mkdir_one es now then ids left more place (reply.Taken y) (reply.Accepted q) form c d a b = let (n, e, s) = a.0 in absurd (b.0 y.0 n e s)
mkdir_one es now then ids left more place (reply.Taken y) (reply.Taken z) form c d a b =
    (ap reply.Taken (identity_one y z (one_at (tree_of es) y.0 z.0 place form a.0 b.0)), a.1 ∙ sym b.1, a.2 ∙ sym b.2)
mkdir_one es now then ids left more place reply.Memory _ form c d a b = absurd (c refl)
mkdir_one es now then ids left more place _ reply.Memory form c d a b = absurd (d refl)
mkdir_one es now then ids left more place (reply.Accepted r) _ form c d a b = absurd b
mkdir_one es now then ids left more place (reply.Taken y) _ form c d a b = absurd b
mkdir_one es now then ids left more place _ b form c d a e = absurd a

no_fault : (es : List Entry) (x : ℕ) (n : Node) (fault : PutFault) → fault ≢ put.Memory → LegalPut (tree_of es) x n → PutFaulty (tree_of es) x n fault → ⊥
no_fault es x n fault other legal faulty = other (legal_put-fault (tree_of es) x n fault legal faulty)

put_one : (es now then : List Entry) (x : ℕ) (n : Node) (a b : WebReply) → WellFormed (tree_of es) → a ≢ reply.Memory → b ≢ reply.Memory
    → PutAnswers es x n a now → PutAnswers es x n b then → (a ≡ b) × (now ≡ then)
put_one es now then x n (reply.Accepted r) (reply.Accepted q) form c d a b = enters_one es now then x (Some n) r q a.1 b.1
put_one es now then x n (reply.Accepted r) (reply.Taken y) form c d a b = absurd (no_fault es x n (put.Taken y) (λ e. let clash : put.Taken y ≡ put.Memory = e in cc) a.0 b.0)
put_one es now then x n (reply.Accepted r) reply.Cycle form c d a b = absurd (no_fault es x n put.Cycle (λ e. let clash : put.Cycle ≡ put.Memory = e in cc) a.0 b.0)
put_one es now then x n (reply.Taken y) (reply.Accepted q) form c d a b = absurd (no_fault es x n (put.Taken y) (λ e. let clash : put.Taken y ≡ put.Memory = e in cc) b.0 a.0)
put_one es now then x n reply.Cycle (reply.Accepted q) form c d a b = absurd (no_fault es x n put.Cycle (λ e. let clash : put.Cycle ≡ put.Memory = e in cc) b.0 a.0)
put_one es now then x n (reply.Taken y) (reply.Taken z) form c d a b =
    (ap reply.Taken (identity_one y z (one_at (tree_of es) y.0 z.0 n.place form a.0.3 b.0.3)), a.1 ∙ sym b.1)
put_one es now then x n (reply.Taken y) reply.Cycle form c d a b = let (k, e, s) = a.0.3 in absurd (a.0.2 (b.0.2 y.0 k e s))
put_one es now then x n reply.Cycle (reply.Taken y) form c d a b = let (k, e, s) = b.0.3 in absurd (b.0.2 (a.0.2 y.0 k e s))
put_one es now then x n reply.Cycle reply.Cycle form c d a b = (refl, a.1 ∙ sym b.1)
put_one es now then x n reply.Memory _ form c d a b = absurd (c refl)
put_one es now then x n _ reply.Memory form c d a b = absurd (d refl)
put_one es now then x n (reply.Accepted r) _ form c d a b = absurd b
put_one es now then x n (reply.Taken y) _ form c d a b = absurd b
put_one es now then x n reply.Cycle _ form c d a b = absurd b
put_one es now then x n _ b form c d a e = absurd a

ends_one : (k : Kind) (x ver : ℕ) (edits e f : Recorded) (ids i j : Counters) → EndsFile k x ver edits ids e i → EndsFile k x ver edits ids f j → (e ≡ f) × (i ≡ j)
ends_one Folder x ver edits e f ids i j a b = (a.0 ∙ sym b.0, a.1 ∙ sym b.1)
ends_one File x ver edits e f ids i j a b = (a.0 ∙ sym b.0, a.1 ∙ sym b.1)

cut_one : (es now then : List Entry) (edits e f : Recorded) (ids i j : Counters) (x : ℕ) (n : Node) (a b : WebReply) → a ≢ reply.Memory → b ≢ reply.Memory
    → CutAnswers es edits ids x n a now e i → CutAnswers es edits ids x n b then f j → (a ≡ b) × (now ≡ then) × (e ≡ f) × (i ≡ j)
cut_one es now then edits e f ids i j x n (reply.Accepted r) (reply.Accepted q) c d a b =
    let one = enters_one es now then x None r q a.1 b.1 in
    let ends = ends_one n.kind x n.ver.0 edits e f ids i j a.2 b.2 in (one.0, one.1, ends.0, ends.1)
cut_one es now then edits e f ids i j x n (reply.Accepted r) reply.NotEmpty c d a b = absurd (legal_cut-fault (tree_of es) x cut.NotEmpty a.0 b.0)
cut_one es now then edits e f ids i j x n reply.NotEmpty (reply.Accepted q) c d a b = absurd (legal_cut-fault (tree_of es) x cut.NotEmpty b.0 a.0)
cut_one es now then edits e f ids i j x n reply.NotEmpty reply.NotEmpty c d a b = (refl, a.1 ∙ sym b.1, a.2 ∙ sym b.2, a.3 ∙ sym b.3)
cut_one es now then edits e f ids i j x n reply.Memory _ c d a b = absurd (c refl)
cut_one es now then edits e f ids i j x n _ reply.Memory c d a b = absurd (d refl)
cut_one es now then edits e f ids i j x n (reply.Accepted r) _ c d a b = absurd b
cut_one es now then edits e f ids i j x n reply.NotEmpty _ c d a b = absurd b
cut_one es now then edits e f ids i j x n _ b c d a g = absurd a

other_kind : (k : Kind) → k ≡ File → k ≡ Folder → ⊥
other_kind k file folder = let clash : File ≡ Folder = sym file ∙ folder in cc

bit_one : (es now then : List Entry) (x : ℕ) (n : Node) (on : Bool) (a b : WebReply) → a ≢ reply.Memory → b ≢ reply.Memory
    → SetsBit es x n on a now → SetsBit es x n on b then → (a ≡ b) × (now ≡ then)
bit_one es now then x n on (reply.Accepted r) (reply.Accepted q) c d a b = enters_one es now then x _ r q a.2 b.2
bit_one es now then x n on (reply.Accepted r) reply.KindChanged c d a b = absurd (other_kind n.kind a.0 b.0)
bit_one es now then x n on (reply.Accepted r) reply.Same c d a b = absurd (a.1 b.1)
bit_one es now then x n on reply.KindChanged (reply.Accepted q) c d a b = absurd (other_kind n.kind b.0 a.0)
bit_one es now then x n on reply.KindChanged reply.KindChanged c d a b = (refl, a.1 ∙ sym b.1)
bit_one es now then x n on reply.KindChanged reply.Same c d a b = absurd (other_kind n.kind b.0 a.0)
bit_one es now then x n on reply.Same (reply.Accepted q) c d a b = absurd (b.1 a.1)
bit_one es now then x n on reply.Same reply.KindChanged c d a b = absurd (other_kind n.kind a.0 b.0)
bit_one es now then x n on reply.Same reply.Same c d a b = (refl, a.2 ∙ sym b.2)
bit_one es now then x n on reply.Memory _ c d a b = absurd (c refl)
bit_one es now then x n on _ reply.Memory c d a b = absurd (d refl)
bit_one es now then x n on (reply.Accepted r) _ c d a b = absurd b
bit_one es now then x n on reply.KindChanged _ c d a b = absurd b
bit_one es now then x n on reply.Same _ c d a b = absurd b
bit_one es now then x n on _ b c d a e = absurd a

-- ONE STATE after it
state_one : (t u : WebState) → t.entries ≡ u.entries → t.blocks ≡ u.blocks → t.edits ≡ u.edits → t.ids ≡ u.ids → t ≡ u
state_one t u entries blocks edits ids = λ i. record { entries = entries i; blocks = blocks i; edits = edits i; ids = ids i }

unchanged_one : (s t u : WebState) → IsUnchanged s t → IsUnchanged s u → t ≡ u
unchanged_one s t u a b = state_one t u (a.entries ∙ sym b.entries) (a.blocks ∙ sym b.blocks) (a.edits ∙ sym b.edits) (a.ids ∙ sym b.ids)

writes_one : (s t u : WebState) (x : ℕ) (node : Node) (base : ℕ) (bytes : List ℕ) (r q : ℕ) → Writes s x node base bytes r t → Writes s x node base bytes q u → t.ids ≡ u.ids
    → (reply.Accepted r ≡ reply.Accepted q) × (t ≡ u)
writes_one s t u x node base bytes r q a b ids =
    let one = enters_one s.entries t.entries u.entries x (Some node) r q a.entries b.entries in
    (one.0, state_one t u one.1 (a.blocks ∙ sym b.blocks) (a.edits ∙ sym b.edits) ids)

write_new_one : (s t u : WebState) (place : Place) (bytes : List ℕ) (a b : WebReply) → a ≢ reply.Memory → b ≢ reply.Memory
    → WritesNew s place bytes a t → WritesNew s place bytes b u → (a ≡ b) × (t ≡ u)
write_new_one s t u place bytes (reply.Accepted r) (reply.Accepted q) c d a b = writes_one s t u _ _ _ bytes r q a.0 b.0 (a.1 ∙ sym b.1)
write_new_one s t u place bytes reply.Memory _ c d a b = absurd (c refl)
write_new_one s t u place bytes _ reply.Memory c d a b = absurd (d refl)
write_new_one s t u place bytes (reply.Accepted r) _ c d a b = absurd b
write_new_one s t u place bytes _ b c d a e = absurd a

write_over_one : (s t u : WebState) (x : ℕ) (n : Node) (bytes : List ℕ) (a b : WebReply) → a ≢ reply.Memory → b ≢ reply.Memory
    → WritesOver s x n bytes a t → WritesOver s x n bytes b u → (a ≡ b) × (t ≡ u)
write_over_one s t u x n bytes (reply.Accepted r) (reply.Accepted q) c d a b = writes_one s t u _ _ _ bytes r q a.2 b.2 (a.3 ∙ sym b.3)
write_over_one s t u x n bytes (reply.Accepted r) reply.KindChanged c d a b = absurd (other_kind n.kind a.0 b.0)
write_over_one s t u x n bytes (reply.Accepted r) reply.Same c d a b = absurd (a.1 b.1)
write_over_one s t u x n bytes reply.KindChanged (reply.Accepted q) c d a b = absurd (other_kind n.kind b.0 a.0)
write_over_one s t u x n bytes reply.KindChanged reply.KindChanged c d a b = (refl, unchanged_one s t u a.1 b.1)
write_over_one s t u x n bytes reply.KindChanged reply.Same c d a b = absurd (other_kind n.kind b.0 a.0)
write_over_one s t u x n bytes reply.Same (reply.Accepted q) c d a b = absurd (b.1 a.1)
write_over_one s t u x n bytes reply.Same reply.KindChanged c d a b = absurd (other_kind n.kind a.0 b.0)
write_over_one s t u x n bytes reply.Same reply.Same c d a b = (refl, unchanged_one s t u a.2 b.2)
write_over_one s t u x n bytes reply.Memory _ c d a b = absurd (c refl)
write_over_one s t u x n bytes _ reply.Memory c d a b = absurd (d refl)
write_over_one s t u x n bytes (reply.Accepted r) _ c d a b = absurd b
write_over_one s t u x n bytes reply.KindChanged _ c d a b = absurd b
write_over_one s t u x n bytes reply.Same _ c d a b = absurd b
write_over_one s t u x n bytes _ b c d a e = absurd a

answered_one : (a b : WebReply) (es now then : List Entry) (c : WebReply) → (a ≡ c) × (now ≡ es) → (b ≡ c) × (then ≡ es) → (a ≡ b) × (now ≡ then)
answered_one a b es now then c x y = (x.0 ∙ sym y.0, x.1 ∙ sym y.1)

at_one : (s t u : WebState) (e : WebEdit) (place : Place) (a b : WebReply) → WellFormed (tree_of s.entries) → a ≢ reply.Memory → b ≢ reply.Memory
    → AnswersAt s e place a t → AnswersAt s e place b u → (a ≡ b) × (t ≡ u)
at_one s t u (edit.Mkdir path) place a b form c d x y =
    let one = mkdir_one s.entries t.entries u.entries s.ids t.ids u.ids place a b form c d x.0 y.0 in
    (one.0, state_one t u one.1 (x.1 ∙ sym y.1) (x.2 ∙ sym y.2) one.2)
at_one s t u (edit.Write path filling) place a b form c d x y =
    both_holders (tree_of s.entries) place form x y (write_new_one s t u place (filling_bytes filling) a b c d)
    (λ z n. write_over_one s t u z n (filling_bytes filling) a b c d)
at_one s t u (edit.Move from to) place a b form c d x y =
    let one = both_holders (tree_of s.entries) place form x.0 y.0 (answered_one a b s.entries t.entries u.entries reply.NoSuch) (λ z n p q.
    both_paths (tree_of s.entries) to.names form p q (answered_one a b s.entries t.entries u.entries reply.NoParent)
    (λ target. put_one s.entries t.entries u.entries z (record n { place = target }) a b form c d)) in
    (one.0, state_one t u one.1 (x.1 ∙ sym y.1) (x.2 ∙ sym y.2) (x.3 ∙ sym y.3))
at_one s t u (edit.Remove path) place a b form c d x y =
    let one = both_holders (tree_of s.entries) place form x.0 y.0 (λ p q. (p.0 ∙ sym q.0, p.1 ∙ sym q.1, p.2 ∙ sym q.2, p.3 ∙ sym q.3))
    (λ z n. cut_one s.entries t.entries u.entries s.edits t.edits u.edits s.ids t.ids u.ids z n a b c d) in
    (one.0, state_one t u one.1 (x.1 ∙ sym y.1) one.2 one.3)
at_one s t u (edit.Bit path on) place a b form c d x y =
    let one = both_holders (tree_of s.entries) place form x.0 y.0 (answered_one a b s.entries t.entries u.entries reply.NoSuch)
    (λ z n. bit_one s.entries t.entries u.entries z n on a b c d) in
    (one.0, state_one t u one.1 (x.1 ∙ sym y.1) (x.2 ∙ sym y.2) (x.3 ∙ sym y.3))

pub one_web_answer : OneWebAnswer
one_web_answer s t u e a b form c d x y =
    both_paths (tree_of s.entries) (path_of e) form x y (λ p q. (p.0 ∙ sym q.0, unchanged_one s t u p.1 q.1)) (λ place. at_one s t u e place a b form c d)
