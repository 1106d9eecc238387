-- What entries make of a remote's state, one by one.
use Rattle.std.proofs.Common.{◌≡◌, ◌≢◌, ◌+◌, ◌-◌, ◌<◌, ◌≤◌, ◌++◌, ℕ, zero, suc, List, [], ◌∷◌, length, take, drop, slice_get, get_or, Option, None, Some, refl, sym, ◌∙◌, ap, subst, inl, inr, arith}
use Rattle.std.proofs.lemmas.List.{drop_more, length-drop, length-take}
use Rattle.std.specs.FinMap.{get}
use Rattle.nuc_base.specs.Trees.{Nodes, WellFormed}
use Rattle.nuc_base.specs.declared.node.Node.{Node}
use Rattle.nuc_base.proofs.Forms.{cut_keeps, put_keeps}
use Rattle.nuc_base.proofs.Maps.{get_cut_other, get_cut_same, get_put_other, get_put_same, same_or_not}
use Rattle.nuc_journal.specs.Entries.{with_value}
use Rattle.nuc_journal.specs.Journal.{IsLegalValue}
use Rattle.nuc_journal.specs.declared.entry.Entry.{Entry}
use Rattle.nuc_journal.proofs.Lists.{within}
use Rattle.nuc_lookup.proofs.Maps as numbers
use Rattle.nuc_lookup.specs.Rows.{Numbers}
use Rattle.nuc_replica.specs.Remote.{Agree, Follows, GoesOn, HasRevision, HaveRevisions, IsRemote, RemoteState, caught_up, with_entries, with_revision}

-- ENTRY BY ENTRY
drop_none : {X : Type 0} (n : ℕ) → ◌≡◌ {A = List X} (drop n []) []
drop_none zero = refl
drop_none (suc n) = refl

drop_one : {X : Type 0} (x : X) (xs ys : List X) → drop (length (x ∷ xs)) ys ≡ drop (length xs) (drop 1 ys)
drop_one x xs [] = drop_none (length (x ∷ xs)) ∙ sym (drop_none (length xs))
drop_one x xs (y ∷ ys) = let more : length (x ∷ xs) ≡ suc (length xs) = omega arith in ap (λ n. drop n (y ∷ ys)) more

same_state : (m : Nodes) (revisions : Numbers) (c d : ℕ) (es fs : List Entry) → c ≡ d → es ≡ fs
    → ◌≡◌ {A = RemoteState} (record { tree = m; revisions = revisions; cursor = c; ahead = es }) (record { tree = m; revisions = revisions; cursor = d; ahead = fs })
same_state m revisions c d es fs cursor heard = rw (cursor, heard)

pub no_entry : (s : RemoteState) → with_entries s [] ≡ s
no_entry s = same_state s.tree s.revisions (s.cursor + 0) s.cursor s.ahead s.ahead (omega arith) refl

pub entry_by_entry : (s : RemoteState) (e : Entry) (es : List Entry) → with_entries s (e ∷ es) ≡ with_entries (with_entries s (e ∷ [])) es
entry_by_entry s e es = same_state _ _ (s.cursor + length (e ∷ es)) ((s.cursor + 1) + length es) _ _ (omega arith) (drop_one e es s.ahead)

-- an entry more is applied behind the others
pub one_more : (s : RemoteState) (es : List Entry) (e : Entry) → with_entries (with_entries s es) (e ∷ []) ≡ with_entries s (es ++ e ∷ [])
one_more s [] e = ap (λ (t : RemoteState). with_entries t (e ∷ [])) (no_entry s)
one_more s (f ∷ es) e =
    ap (λ (t : RemoteState). with_entries t (e ∷ [])) (entry_by_entry s f es) ∙ one_more (with_entries s (f ∷ [])) es e ∙ sym (entry_by_entry s f (es ++ e ∷ []))

agree_rest : (e : Entry) (heard es : List Entry) → Agree heard (e ∷ es) → Agree (drop 1 heard) es
agree_rest e [] es agree = tt
agree_rest e (a ∷ heard) es agree = agree.1

agree_first : (e : Entry) (heard es : List Entry) → Agree heard (e ∷ es) → Agree heard (e ∷ [])
agree_first e [] es agree = tt
agree_first e (a ∷ []) es agree = (agree.0, tt)
agree_first e (a ∷ b ∷ heard) es agree = (agree.0, tt)

pub follows_first : (s : RemoteState) (e : Entry) (es : List Entry) → Follows s (e ∷ es) → Follows s (e ∷ [])
follows_first s e es follows = record { goes_on = (follows.goes_on.0, tt); agrees = agree_first e s.ahead es follows.agrees }

pub follows_rest : (s : RemoteState) (e : Entry) (es : List Entry) → Follows s (e ∷ es) → Follows (with_entries s (e ∷ [])) es
follows_rest s e es follows = record { goes_on = follows.goes_on.1; agrees = agree_rest e s.ahead es follows.agrees }

-- WHAT STAYS SO
value_form : (m : Nodes) (x : ℕ) (v : Option Node) → WellFormed m → 0 < x → IsLegalValue m x v → WellFormed (with_value m x v)
value_form m x None form above legal = cut_keeps m x form legal
value_form m x (Some n) form above legal = put_keeps m x n form legal.1 above legal.0

value_same : (m : Nodes) (revisions : Numbers) (x rev cursor : ℕ) (v : Option Node) → 0 < rev → rev ≤ cursor
    → HasRevision (get (with_value m x v) x) (get (with_revision revisions x v rev) x) cursor
value_same m revisions x rev cursor None above within = rw (get_cut_same m x, numbers.get_cut_same revisions x) tt
value_same m revisions x rev cursor (Some n) above within = rw (get_put_same m x n, numbers.get_put_same revisions x rev) (above, within)

value_other : (m : Nodes) (revisions : Numbers) (x rev cursor : ℕ) (v : Option Node) (y : ℕ) → y ≢ x → HasRevision (get m y) (get revisions y) cursor
    → HasRevision (get (with_value m x v) y) (get (with_revision revisions x v rev) y) cursor
value_other m revisions x rev cursor None y apart has = rw (get_cut_other m x y apart, numbers.get_cut_other revisions x y apart) has
value_other m revisions x rev cursor (Some n) y apart has = rw (get_put_other m x n y apart, numbers.get_put_other revisions x rev y apart) has

has_later : (node : Option Node) (rev : Option ℕ) (cursor later : ℕ) → cursor ≤ later → HasRevision node rev cursor → HasRevision node rev later
has_later None None cursor later le has = tt
has_later None (Some r) cursor later le has = has
has_later (Some n) None cursor later le has = has
has_later (Some n) (Some r) cursor later le has = (has.0, omega (arith, has.1))

revisions_with : (m : Nodes) (revisions : Numbers) (cursor x : ℕ) (v : Option Node) (rev : ℕ) → rev ≡ cursor + 1 → HaveRevisions m revisions cursor
    → HaveRevisions (with_value m x v) (with_revision revisions x v rev) (cursor + 1)
revisions_with m revisions cursor x v rev next have y = elim (same_or_not y x) [
  | inl same ↦ subst (λ z. HasRevision (get (with_value m x v) z) (get (with_revision revisions x v rev) z) (cursor + 1)) (sym same)
      (value_same m revisions x rev (cursor + 1) v (omega arith) (omega arith))
  | inr apart ↦ value_other m revisions x rev (cursor + 1) v y apart (has_later _ _ cursor (cursor + 1) (omega arith) (have y))
]

ahead_with : (cursor : ℕ) (m : Nodes) (heard : List Entry) (e : Entry) → Agree heard (e ∷ []) → GoesOn cursor m heard → GoesOn (cursor + 1) (with_value m e.id.0 e.value) (drop 1 heard)
ahead_with cursor m [] e agree on = tt
ahead_with cursor m (a ∷ heard) e agree on = subst (λ (f : Entry). GoesOn (cursor + 1) (with_value m f.id.0 f.value) heard) agree.0 on.1

pub remote_with : (s : RemoteState) (e : Entry) → IsRemote s → Follows s (e ∷ []) → IsRemote (with_entries s (e ∷ []))
remote_with s e remote follows =
    let next = follows.goes_on.0 in
    record {
      form = value_form s.tree e.id.0 e.value remote.form next.id next.legal;
      revisions = revisions_with s.tree s.revisions s.cursor e.id.0 e.value e.rev next.rev remote.revisions;
      ahead = ahead_with s.cursor s.tree s.ahead e follows.agrees remote.ahead;
    }

-- WHAT IS AHEAD
agree_none : (es : List Entry) → Agree es []
agree_none [] = tt
agree_none (e ∷ es) = tt

first_follows : (cursor : ℕ) (m : Nodes) (es : List Entry) (e : Entry) → ◌≡◌ {A = Option Entry} (Some e) (slice_get es 0) → GoesOn cursor m es → GoesOn cursor m (e ∷ []) × Agree es (e ∷ [])
first_follows cursor m [] e first on = cc
first_follows cursor m (f ∷ es) e first on =
    let same : e ≡ f = cc in
    (subst (λ (g : Entry). GoesOn cursor m (g ∷ [])) (sym same) (on.0, tt), (sym same, agree_none es))

-- the first entry that is ahead may be applied
pub ahead_follows : (s : RemoteState) (e : Entry) → ◌≡◌ {A = Option Entry} (Some e) (slice_get s.ahead 0) → IsRemote s → Follows s (e ∷ [])
ahead_follows s e first remote = let both = first_follows s.cursor s.tree s.ahead e first remote.ahead in record { goes_on = both.0; agrees = both.1 }

pub take_first : (es : List Entry) (e : Entry) → ◌≡◌ {A = Option Entry} (Some e) (slice_get es 0) → take 1 es ≡ e ∷ []
take_first [] e first = cc
take_first (f ∷ es) e first = let same : e ≡ f = cc in ap (λ g. g ∷ []) (sym same)

pub drop_item : (es : List Entry) (i : ℕ) (e : Entry) → i < length es → e ≡ get_or es i e → drop i es ≡ e ∷ drop (i + 1) es
drop_item es i e within is = drop_more es i e within ∙ ap (λ f. f ∷ drop (i + 1) es) (sym is)

-- CATCHING UP
one_caught_up : (m : Nodes) (revisions : Numbers) (cursor : ℕ) (known : List Entry) (rev : ℕ) → cursor < rev → rev ≤ cursor + length known
    → caught_up rev (with_entries (record { tree = m; revisions = revisions; cursor = cursor; ahead = known }) (take 1 known))
    ≡ caught_up rev (record { tree = m; revisions = revisions; cursor = cursor; ahead = known })
one_caught_up m revisions cursor [] rev lt le = absurd (omega arith)
one_caught_up m revisions cursor (e ∷ es) rev lt le =
    let less : rev - cursor ≡ suc (rev - (cursor + 1)) = omega arith in
    let s : RemoteState = record { tree = m; revisions = revisions; cursor = cursor; ahead = e ∷ es } in
    sym (ap (λ n. with_entries s (take n (e ∷ es))) less ∙ entry_by_entry s e (take (rev - (cursor + 1)) es))

-- catching up goes on after the first entry
pub caught_up_on : (s : RemoteState) (rev : ℕ) → s.cursor < rev → rev ≤ s.cursor + length s.ahead → caught_up rev (with_entries s (take 1 s.ahead)) ≡ caught_up rev s
caught_up_on s rev lt le = one_caught_up s.tree s.revisions s.cursor s.ahead rev lt le

pub within_on : (s : RemoteState) (rev : ℕ) → s.cursor < rev → rev ≤ s.cursor + length s.ahead
    → rev ≤ (with_entries s (take 1 s.ahead)).cursor + length (with_entries s (take 1 s.ahead)).ahead
within_on s rev lt le =
    let size = length-take 1 s.ahead in
    let rest = length-drop (length (take 1 s.ahead)) s.ahead in
    omega (arith, size, rest)

-- the entry at a place is so many revisions beyond the cursor
pub rev_ahead : (cursor : ℕ) (m : Nodes) (es : List Entry) (k : ℕ) (e : Entry) → GoesOn cursor m es → slice_get es k ≡ Some e → e.rev ≡ cursor + (k + 1)
rev_ahead cursor m [] k e on at = cc
rev_ahead cursor m (f ∷ es) zero e on at = let same : f ≡ e = cc in ap (λ (g : Entry). g.rev) (sym same) ∙ on.0.rev
rev_ahead cursor m (f ∷ es) (suc k) e on at = rev_ahead (cursor + 1) (with_value m f.id.0 f.value) es k e on.1 at ∙ omega arith

pub last_known : (s : RemoteState) (e : Entry) (es : List Entry) → ◌≡◌ {A = Option Entry} (Some e) (slice_get es (length es - 1)) → es ≡ s.ahead → IsRemote s
    → e.rev ≡ s.cursor + length s.ahead
last_known s e es last same remote =
    let at : slice_get s.ahead (length s.ahead - 1) ≡ Some e = sym (last ∙ ap (λ (fs : List Entry). slice_get fs (length fs - 1)) same) in
    let lt = within s.ahead (length s.ahead - 1) e at in
    rev_ahead s.cursor s.tree s.ahead (length s.ahead - 1) e remote.ahead at ∙ omega arith
