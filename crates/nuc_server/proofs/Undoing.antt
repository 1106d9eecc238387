-- How the entries behind the settled ones are taken back, one after the other.
use Rattle.std.proofs.Common.{◌≡◌, ◌<◌, ◌≤◌, ◌+◌, ◌-◌, ℕ, zero, suc, Bool, false, true, List, [], ◌∷◌, ◌++◌, length, take, slice_get, Option, None, Some, refl, sym, ◌∙◌, ap, subst, inl, inr, arith, length-append}
use Rattle.std.proofs.lemmas.List.{length-take-le, take-append-le}
use Rattle.std.proofs.Math.Seq.{take-append_seam, take-length}
use Rattle.std.specs.FinMap as tree
use Rattle.nuc_base.specs.Trees.{Nodes, WellFormed}
use Rattle.nuc_base.specs.declared.node.Node.{Node}
use Rattle.nuc_base.proofs.Back.{cut_after_put, legal_cut_back, legal_put_after_cut, legal_put_back, put_after_cut, put_over_put}
use Rattle.nuc_journal.specs.Entries.{tree_of, with_value}
use Rattle.nuc_journal.specs.Journal.{IsJournal, IsLegalValue, IsNextEntry}
use Rattle.nuc_journal.specs.State.{JournalState}
use Rattle.nuc_journal.specs.declared.entry.Entry.{Entry}
use Rattle.nuc_journal.proofs.Ends.{tree_push}
use Rattle.nuc_journal.proofs.Journals.{form_at, journal_front}
use Rattle.nuc_journal.proofs.Lists.{front_at, push_at, push_before, push_cases, take_at, take_front}
use Rattle.nuc_tree.specs.State.{TreeState}
use Rattle.nuc_server.specs.State.{IsServer}
use Rattle.nuc_server.specs.Undo.{AreUndone, IsUndoable, TakesBack, undone}
use Rattle.nuc_server.specs.declared.undo.Undo.{Undo}
use Rattle.nuc_server.specs.declared.undo.Undo.TheVariants as undo

-- ONE CHANGE
-- an undo may be done behind its change, and leads to the tree before
pub record LeadsBack (m now : Nodes) (u : Undo) : Type 0 where
  pub able : IsUndoable now u
  pub same : undone now u ≡ m

pub leads_back : (m : Nodes) (x : ℕ) (value : Option Node) (u : Undo) → WellFormed m → 0 < x → IsLegalValue m x value → TakesBack m x value u
    → LeadsBack m (with_value m x value) u
leads_back m x (Some n) (undo.Remove id) form above legal (is, absent) = record {
  able = subst (λ y. IsUndoable (tree.insert m x n) (undo.Remove (record { 0 = y }))) (sym is) (legal_cut_back m x n form (λ s. absurd (omega arith)) legal.1 absent);
  same = ap (λ y. tree.remove (tree.insert m x n) y) is ∙ cut_after_put m x n absent;
}
leads_back m x (Some n) (undo.Replace id old) form above legal (is, at) = record {
  able = subst (λ y. IsUndoable (tree.insert m x n) (undo.Replace (record { 0 = y }) old)) (sym is) (above, form.fits x old at, legal_put_back m x n old form legal.1 at);
  same = ap (λ y. tree.insert (tree.insert m x n) y old) is ∙ put_over_put m x n old at;
}
leads_back m x None (undo.Restore id old) form above legal (is, at) = record {
  able = subst (λ y. IsUndoable (tree.remove m x) (undo.Restore (record { 0 = y }) old)) (sym is) (above, form.fits x old at, legal_put_after_cut m x old form at);
  same = ap (λ y. tree.insert (tree.remove m x) y old) is ∙ put_after_cut m x old at;
}
leads_back m x (Some n) (undo.Restore id old) form above legal takes = absurd takes
leads_back m x None (undo.Remove id) form above legal takes = absurd takes
leads_back m x None (undo.Replace id old) form above legal takes = absurd takes

-- ONE ENTRY MORE
pub undone_push : (es : List Entry) (n : ℕ) (us : List Undo) (e : Entry) (u : Undo) → AreUndone es n us → TakesBack (tree_of es) e.id.0 e.value u
    → AreUndone (es ++ e ∷ []) n (us ++ u ∷ [])
undone_push es n us e u undone takes = record {
  many = let a = length-append us (u ∷ []) in let b = length-append es (e ∷ []) in let c = undone.many in omega arith;
  each = λ k f v here there. elim (push_cases us u k v there) [
    | inl (lt, old) ↦
        let many = undone.many in
        let before : n + k < length es = omega arith in
        let entry : slice_get es (n + k) ≡ Some f = elim (push_cases es e (n + k) f here) [ inl (_, at) ↦ at | inr (end, _) ↦ absurd (omega arith) ] in
        subst (λ fs. TakesBack (tree_of fs) f.id.0 f.value v) (sym (take-append-le (n + k) es (e ∷ []) (omega arith))) (undone.each k f v entry old)
    | inr (end, same) ↦
        let many = undone.many in
        let last : n + k ≡ length es = omega arith in
        let one : f ≡ e = elim (push_cases es e (n + k) f here) [ inl (lt, _) ↦ absurd (omega arith) | inr (_, is) ↦ sym is ] in
        subst (λ fs. TakesBack (tree_of fs) f.id.0 f.value v) (sym (ap (λ j. take j (es ++ e ∷ [])) last ∙ take-append_seam es (e ∷ [])))
        (subst (λ f. TakesBack (tree_of es) f.id.0 f.value v) (sym one) (subst (TakesBack (tree_of es) e.id.0 e.value) same takes))
  ];
}

-- the room is as the caller says; the rest follows
pub server_push : (j k : JournalState) (t s : TreeState) (us vs : List Undo) (room more rooms fewer : ℕ) (ready : Bool) (e : Entry) (u : Undo)
    → IsServer j t us room rooms ready → k.now ≡ j.now ++ e ∷ [] → k.settled ≡ j.settled → IsJournal k.now
    → s.nodes ≡ with_value (tree_of j.now) e.id.0 e.value → TakesBack (tree_of j.now) e.id.0 e.value u → vs ≡ us ++ u ∷ [] → length us + 1 ≤ s.spare
    → IsServer k s vs more fewer false
server_push j k t s us vs room more rooms fewer ready e u was now settled journal nodes takes undos spare =
    let n : ℕ = length j.now - length us in
    let many = was.undone.many in
    let longer : length k.now ≡ length j.now + 1 = ap length now ∙ length-append j.now (e ∷ []) in
    let deeper : length vs ≡ length us + 1 = ap length undos ∙ length-append us (u ∷ []) in
    let same : length k.now - length vs ≡ n = omega arith in
    record {
      journal = journal;
      tree = nodes ∙ sym (ap tree_of now ∙ tree_push j.now e);
      settled = settled ∙ was.settled ∙ sym (take-append-le n j.now (e ∷ []) (omega arith)) ∙ ap (take n) (sym now) ∙ ap (λ i. take i k.now) (sym same);
      undone = subst (λ i. AreUndone k.now i vs) (sym same) (subst (λ es. AreUndone es n vs) (sym now) (subst (AreUndone (j.now ++ e ∷ []) n) (sym undos)
          (undone_push j.now n us e u was.undone takes)));
      room = omega arith;
      is_ready = λ clash. absurd (let c : false ≡ true = clash in cc);
    }

-- two copies of one value
pub placed_as : (m base now : Nodes) (x : ℕ) (value entered placed : Option Node) → m ≡ base → entered ≡ value → placed ≡ value → now ≡ with_value m x placed
    → now ≡ with_value base x entered
placed_as m base now x value entered placed same a b is = is ∙ ap (with_value m x) (b ∙ sym a) ∙ ap (λ m. with_value m x entered) same

pub takes_as : (m base : Nodes) (x : ℕ) (value entered placed : Option Node) (u : Undo) → m ≡ base → entered ≡ value → placed ≡ value → TakesBack m x placed u
    → TakesBack base x entered u
takes_as m base x value entered placed u same a b takes = subst (λ m. TakesBack m x entered u) same (subst (λ v. TakesBack m x v u) (b ∙ sym a) takes)

-- ONE ENTRY FEWER
pub record Undoes (es : List Entry) (n : ℕ) (us : List Undo) (u : Undo) : Type 0 where
  pub entry : Entry
  pub last : take (n + length us) es ++ entry ∷ [] ≡ es
  pub takes : TakesBack (tree_of (take (n + length us) es)) entry.id.0 entry.value u
  pub rest : AreUndone (take (n + length us) es) n us

some_at : (es : List Entry) (k : ℕ) → k < length es → (e : Entry) × (slice_get es k ≡ Some e)
some_at [] k lt = absurd (omega arith)
some_at (e ∷ es) zero lt = (e, refl)
some_at (e ∷ es) (suc k) lt = some_at es k (omega arith)

pub undone_pop : (es : List Entry) (n : ℕ) (us : List Undo) (u : Undo) → AreUndone es n (us ++ u ∷ []) → Undoes es n us u
undone_pop es n us u undone =
    let k : ℕ = n + length us in
    let many = undone.many in
    let deeper : length (us ++ u ∷ []) ≡ length us + 1 = length-append us (u ∷ []) in
    let size : length es ≡ suc k = omega arith in
    let found = some_at es k (omega arith) in
    record {
      entry = found.0;
      last = sym (take_at es k found.0 found.1) ∙ ap (λ i. take i es) (sym size) ∙ take-length es;
      takes = undone.each (length us) found.0 u found.1 (push_at us u);
      rest = record {
        many = sym (length-take-le k es (omega arith));
        each = λ i f v here there.
            let (old, same) = front_at es k (n + i) f here in
            subst (λ fs. TakesBack (tree_of fs) f.id.0 f.value v) (sym same) (undone.each i f v old (push_before us u i v there));
      };
    }

-- the last entry of a journal could come
journal_last : (es : List Entry) (e : Entry) → IsJournal (es ++ e ∷ []) → IsNextEntry es e
journal_last es e journal = subst (λ fs. IsNextEntry fs e) (take-append_seam es (e ∷ [])) (journal (length es) e (push_at es e))

no_undo : (i : ℕ) (u : Undo) → ◌≡◌ {A = Option Undo} (slice_get [] i) (Some u) → ⊥
no_undo i u there = cc

-- one step back, in a journal of which all but the first n entries are taken back
pub record StepBack (es : List Entry) (n : ℕ) (us : List Undo) (m : Nodes) (u : Undo) : Type 0 where
  pub able : IsUndoable m u
  pub next : undone m u ≡ tree_of (take (n + length us) es)
  pub rest : AreUndone (take (n + length us) es) n us

step_in : (es : List Entry) (n : ℕ) (us : List Undo) (u : Undo) → IsJournal es → AreUndone es n (us ++ u ∷ []) → StepBack es n us (tree_of es) u
step_in es n us u journal mine =
    let k : ℕ = n + length us in
    let pop = undone_pop es n us u mine in
    let e = pop.entry in
    let front = take k es in
    let next = journal_last front e (subst IsJournal (sym pop.last) journal) in
    let leads = leads_back (tree_of front) e.id.0 e.value u (form_at es k journal) next.id next.legal pop.takes in
    let tree : with_value (tree_of front) e.id.0 e.value ≡ tree_of es = sym (tree_push front e) ∙ ap tree_of pop.last in
    record {
      able = subst (λ m. IsUndoable m u) tree leads.able;
      next = ap (λ m. undone m u) (sym tree) ∙ leads.same;
      rest = pop.rest;
    }

pub step_back : (es : List Entry) (n : ℕ) (olds us : List Undo) (u : Undo) (m : Nodes) → IsJournal es → m ≡ tree_of (take (n + length olds) es)
    → AreUndone (take (n + length olds) es) n olds → olds ≡ us ++ u ∷ [] → StepBack es n us m u
step_back es n olds us u m journal tree mine is =
    let far : ℕ = n + length olds in
    let front = take far es in
    let step = step_in front n us u (journal_front es far journal) (subst (AreUndone front n) is mine) in
    let less : n + length us ≤ far = (let size = ap length is ∙ length-append us (u ∷ []) in omega arith) in
    let same : take (n + length us) front ≡ take (n + length us) es = take_front (n + length us) far es less in
    record {
      able = subst (λ m. IsUndoable m u) (sym tree) step.able;
      next = ap (λ m. undone m u) tree ∙ step.next ∙ ap tree_of same;
      rest = subst (λ fs. AreUndone fs n us) same step.rest;
    }

-- all taken back
pub server_back : (j k : JournalState) (t s : TreeState) (us vs : List Undo) (room more rooms fewer : ℕ) (ready : Bool)
    → IsServer j t us room rooms ready → k.now ≡ j.settled → k.settled ≡ j.settled → IsJournal k.now
    → s.nodes ≡ tree_of (take (length j.now - length us + 0) j.now) → vs ≡ [] → IsServer k s vs more fewer false
server_back j k t s us vs room more rooms fewer ready was now settled journal nodes none =
    let n : ℕ = length j.now - length us in
    let end : length vs ≡ 0 = ap length none in
    let all : length k.now - length vs ≡ length k.now = omega arith in
    record {
      journal = journal;
      tree = nodes ∙ ap (λ i. tree_of (take i j.now)) (let same : n + 0 ≡ n = omega arith in same) ∙ ap tree_of (sym was.settled) ∙ ap tree_of (sym now);
      settled = settled ∙ sym now ∙ sym (take-length k.now) ∙ ap (λ i. take i k.now) (sym all);
      undone = subst (λ us. AreUndone k.now (length k.now - length us) us) (sym none) (record {
        many = (let same : length k.now - 0 ≡ length k.now = omega arith in omega arith);
        each = λ i e u here there. absurd (no_undo i u there);
      });
      room = omega arith;
      is_ready = λ clash. absurd (let c : false ≡ true = clash in cc);
    }
