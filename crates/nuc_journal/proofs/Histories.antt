-- What the entries of one identity come to.
use Rattle.std.proofs.Common.{◌≡◌, ◌-◌, ◌<◌, ◌≤◌, ℕ, zero, suc, List, [], ◌∷◌, ◌++◌, length, take, drop, slice_get, Option, Some, None, IfSome, MatchOption, refl, sym, ◌∙◌, ap, subst, inl, inr, arith}
use Rattle.std.proofs.Math.Seq.{take-length}
use Rattle.std.specs.FinMap as tree
use Rattle.nuc_base.specs.declared.node.Kind.{Kind}
use Rattle.nuc_base.specs.declared.node.Node.{Node}
use Rattle.nuc_base.proofs.Maps.{same_or_not}
use Rattle.nuc_journal.specs.Entries.{tree_of, live_revision, revision_of, kind_with, kind_of, value_of}
use Rattle.nuc_journal.specs.Journal.{HasOldKind, IsJournal}
use Rattle.nuc_journal.specs.Laws.{GaveNode, KindsStay, CurrentRevisionsGave, PagesLead}
use Rattle.nuc_journal.specs.declared.entry.Entry.{Entry}
use Rattle.nuc_journal.proofs.Ends.{tree_after-append, last_stands, revision_push-same, revision_push-other, kind_push-same, kind_push-other, value_push-same, value_push-other}
use Rattle.nuc_journal.proofs.Journals.{rev_at}
use Rattle.nuc_journal.proofs.Lists.{within, take_at, take_past, front_more}

-- a value that has the old kind keeps it
kind_kept : (es : List Entry) (x : ℕ) (v : Option Node) (kind : Kind) → HasOldKind es x v → kind_of es x ≡ Some kind → kind_with v (kind_of es x) ≡ Some kind
kind_kept es x None kind old is = is
kind_kept es x (Some n) kind old is = let same : kind ≡ n.kind = subst (λ o. IfSome o (λ k. k ≡ n.kind)) is old in ap Some (sym same)

module _ (es : List Entry) (journal : IsJournal es) where
  module _ (i : ℕ) (e : Entry) (n : Node) (at : slice_get es i ≡ Some e) (value : e.value ≡ Some n) where
    -- the kind after the entry that gave it
    kind_given : (k : ℕ) (f : Entry) → slice_get es k ≡ Some f → i ≡ k → kind_of (take k es ++ f ∷ []) e.id.0 ≡ Some n.kind
    kind_given k f here same =
        let one : f ≡ e = (let there : slice_get es k ≡ Some e = subst (λ j. slice_get es j ≡ Some e) same at in cc) in
        ap (λ g. kind_of (take k es ++ g ∷ []) e.id.0) one ∙ kind_push-same (take k es) e ∙ ap (λ v. kind_with v (kind_of (take k es) e.id.0)) value

    -- and after each later one
    kind_later : (k : ℕ) (f : Entry) → slice_get es k ≡ Some f → kind_of (take k es) e.id.0 ≡ Some n.kind → kind_of (take k es ++ f ∷ []) e.id.0 ≡ Some n.kind
    kind_later k f here is = elim (same_or_not f.id.0 e.id.0) [
      | inl same ↦ subst (λ x. kind_of (take k es ++ f ∷ []) x ≡ Some n.kind) same
          (kind_push-same (take k es) f ∙ kind_kept (take k es) f.id.0 f.value n.kind (journal k f here).kind (ap (kind_of (take k es)) same ∙ is))
      | inr apart ↦ kind_push-other (take k es) f e.id.0 apart ∙ is
    ]

    pub kind_from : (k : ℕ) → i < k → kind_of (take k es) e.id.0 ≡ Some n.kind
    kind_from zero lt = absurd (omega arith)
    kind_from (suc k) lt = elim (slice_get es k) as (λ o. slice_get es k ≡ o → kind_of (take (suc k) es) e.id.0 ≡ Some n.kind) [
      | None ↦ λ past. elim (same_or_not i k) [
        | inl same ↦ absurd (let there : slice_get es k ≡ Some e = subst (λ j. slice_get es j ≡ Some e) same at in cc)
        | inr apart ↦ ap (λ fs. kind_of fs e.id.0) (take_past es k past) ∙ kind_from k (omega arith)
      ]
      | Some f ↦ λ here. ap (λ fs. kind_of fs e.id.0) (take_at es k f here) ∙ elim (same_or_not i k) [
        | inl same ↦ kind_given k f here same
        | inr apart ↦ kind_later k f here (kind_from k (omega arith))
      ]
    ] refl

-- all nodes that an identity has had are of one kind
pub one_kind : KindsStay
one_kind es i k e f n h journal at here same value other =
    let first : kind_of (take (length es) es) e.id.0 ≡ Some n.kind = kind_from es journal i e n at value (length es) (within es i e at) in
    let second : kind_of (take (length es) es) f.id.0 ≡ Some h.kind = kind_from es journal k f h here other (length es) (within es k f here) in
    let both : kind_of (take (length es) es) e.id.0 ≡ Some h.kind = ap (kind_of (take (length es) es)) same ∙ second in
    cc

-- value, revision and kind of x fit one another
Fit : List Entry → ℕ → Option Node → ℕ → Option Kind → Type 0
Fit es x value rev kind = MatchOption value (rev ≡ 0) (λ n. GaveNode es rev x n × (kind ≡ Some n.kind))

fit_along : (es : List Entry) (x : ℕ) (v w : Option Node) (r s : ℕ) (k l : Option Kind) → w ≡ v → s ≡ r → l ≡ k → Fit es x v r k → Fit es x w s l
fit_along es x v w r s k l a b c h =
    subst (λ u. Fit es x u s l) (sym a) (subst (λ u. Fit es x v u l) (sym b) (subst (λ u. Fit es x v r u) (sym c) h))

module _ (es : List Entry) (journal : IsJournal es) where
  fit_given : (k : ℕ) (e : Entry) (before : Option Kind) → slice_get es k ≡ Some e → (v : Option Node) → e.value ≡ v
      → Fit es e.id.0 v (live_revision v e.rev) (kind_with v before)
  unfolding Fit
  fit_given k e before at None value = refl
  fit_given k e before at (Some n) value =
      let counted = rev_at es k e journal at in
      let place : e.rev - 1 ≡ k = omega (arith, counted) in
      ((e, omega (arith, counted), ap (slice_get es) place ∙ at, refl, value), refl)

  fit_at : (k x : ℕ) → Fit es x (value_of (take k es) x) (revision_of (take k es) x) (kind_of (take k es) x)
  unfolding Fit
  fit_at zero x = refl
  fit_at (suc k) x = elim (slice_get es k) as (λ o. slice_get es k ≡ o → Fit es x (value_of (take (suc k) es) x) (revision_of (take (suc k) es) x) (kind_of (take (suc k) es) x)) [
    | None ↦ λ past. subst (λ fs. Fit es x (value_of fs x) (revision_of fs x) (kind_of fs x)) (sym (take_past es k past)) (fit_at k x)
    | Some e ↦ λ at. subst (λ fs. Fit es x (value_of fs x) (revision_of fs x) (kind_of fs x)) (sym (take_at es k e at)) (elim (same_or_not e.id.0 x) [
      | inl same ↦ subst (λ y. Fit es y (value_of (take k es ++ e ∷ []) y) (revision_of (take k es ++ e ∷ []) y) (kind_of (take k es ++ e ∷ []) y)) same
          (fit_along es e.id.0 _ _ _ _ _ _ (value_push-same (take k es) e) (revision_push-same (take k es) e) (kind_push-same (take k es) e) (fit_given k e _ at e.value refl))
      | inr apart ↦ fit_along es x _ _ _ _ _ _ (value_push-other (take k es) e x apart) (revision_push-other (take k es) e x apart) (kind_push-other (take k es) e x apart) (fit_at k x)
    ])
  ] refl

pub current_gave : CurrentRevisionsGave
unfolding Fit
current_gave es x journal =
    let all : Fit es x (value_of es x) (revision_of es x) (kind_of es x) = subst (λ fs. Fit es x (value_of fs x) (revision_of fs x) (kind_of fs x)) (take-length es) (fit_at es journal (length es) x) in
    subst (λ v. Fit es x v (revision_of es x) (kind_of es x)) (sym (last_stands es x)) all

-- no current revision is above the last
pub revision_within : (es : List Entry) (x : ℕ) → IsJournal es → revision_of es x ≤ length es
revision_within es x journal = elim (tree.get (tree_of es) x) as (λ (o : Option Node). MatchOption o (revision_of es x ≡ 0) (λ n. GaveNode es (revision_of es x) x n × (kind_of es x ≡ Some n.kind)) → revision_of es x ≤ length es) [
  | None ↦ λ none. omega (arith, none)
  | Some n ↦ λ ((e, above, at, same, value), kind). let lt = within es _ e at in omega (arith, above, lt)
] (current_gave es x journal)

-- a page leads on
pub page_leads : PagesLead
page_leads es after n reached = sym (ap tree_of (front_more after n es reached) ∙ tree_after-append tree.empty (take after es) (take n (drop after es)))
