-- What is known of every journal.
use Rattle.std.proofs.Common.{◌≡◌, ◌+◌, ◌<◌, ℕ, zero, suc, List, [], ◌∷◌, ◌++◌, length, take, slice_get, Option, Some, None, refl, sym, ◌∙◌, ap, subst, inl, inr, arith}
use Rattle.std.proofs.lemmas.List.{take-append-le, length-take-le}
use Rattle.std.proofs.Math.Seq.{take-append_seam, take-length}
use Rattle.nuc_base.specs.Trees.{Nodes, WellFormed}
use Rattle.nuc_base.specs.declared.node.Node.{Node}
use Rattle.nuc_base.proofs.Forms.{empty_form, put_keeps, cut_keeps}
use Rattle.nuc_journal.specs.Entries.{with_value, tree_of}
use Rattle.nuc_journal.specs.Journal.{IsLegalValue, IsNextEntry, IsJournal}
use Rattle.nuc_journal.specs.declared.entry.Entry.{Entry}
use Rattle.nuc_journal.proofs.Ends.{tree_push}
use Rattle.nuc_journal.proofs.Lists.{push_cases, within, take_at, take_past, front_at}

pub journal_none : IsJournal []
journal_none k e at = cc

-- a journal may get what may come next
pub journal_push : (es : List Entry) (e : Entry) → IsJournal es → IsNextEntry es e → IsJournal (es ++ e ∷ [])
journal_push es e journal next k f at = elim (push_cases es e k f at) [
  | inl (lt, old) ↦ subst (λ fs. IsNextEntry fs f) (sym (take-append-le k es (e ∷ []) (omega arith))) (journal k f old)
  | inr (end, same) ↦ subst (λ fs. IsNextEntry fs f) (sym (ap (λ n. take n (es ++ e ∷ [])) end ∙ take-append_seam es (e ∷ []))) (subst (IsNextEntry es) same next)
]

-- a front of a journal is one
pub journal_front : (es : List Entry) (n : ℕ) → IsJournal es → IsJournal (take n es)
journal_front es n journal k e at =
    let (old, same) = front_at es n k e at in
    subst (λ fs. IsNextEntry fs e) (sym same) (journal k e old)

-- an entry's revision is its place, counted from 1
pub rev_at : (es : List Entry) (k : ℕ) (e : Entry) → IsJournal es → slice_get es k ≡ Some e → e.rev ≡ k + 1
rev_at es k e journal at =
    let lt = within es k e at in
    (journal k e at).rev ∙ ap (λ n. n + 1) (length-take-le k es (omega arith))

pub with_value_keeps : (m : Nodes) (x : ℕ) (v : Option Node) → WellFormed m → 0 < x → IsLegalValue m x v → WellFormed (with_value m x v)
with_value_keeps m x None form above legal = cut_keeps m x form legal
with_value_keeps m x (Some n) form above legal = put_keeps m x n form legal.1 above legal.0

-- the tree at each revision is well formed; so nothing stands at 0
pub form_at : (es : List Entry) (k : ℕ) → IsJournal es → WellFormed (tree_of (take k es))
form_at es zero journal = empty_form
form_at es (suc k) journal = elim (slice_get es k) as (λ o. slice_get es k ≡ o → WellFormed (tree_of (take (suc k) es))) [
  | None ↦ λ at. subst (λ fs. WellFormed (tree_of fs)) (sym (take_past es k at)) (form_at es k journal)
  | Some e ↦ λ at.
      let next = journal k e at in
      subst WellFormed (sym (ap tree_of (take_at es k e at) ∙ tree_push (take k es) e))
      (with_value_keeps (tree_of (take k es)) e.id.0 e.value (form_at es k journal) next.id next.legal)
] refl

pub form_of : (es : List Entry) → IsJournal es → WellFormed (tree_of es)
form_of es journal = subst (λ fs. WellFormed (tree_of fs)) (take-length es) (form_at es (length es) journal)
