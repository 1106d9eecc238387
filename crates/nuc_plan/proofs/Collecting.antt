-- What is due, gathered on the walk.
use Rattle.std.proofs.Common.{◌≡◌, ◌≢◌, ◌⊎◌, ◌<◌, ◌≤◌, ◌+◌, ℕ, zero, suc, Bool, List, [], ◌∷◌, ◌++◌, length, Option, None, Some, All, AllPairs, MatchOption, refl, sym, ap, subst, ◌∙◌, inl, inr, arith}
use Rattle.std.specs.Prelude.{Contains, slice_index_or}
use Rattle.std.proofs.lemmas.Bool.{cases_lt}
use Rattle.std.proofs.lemmas.List.Elements.{All-contains, All-nil, All-push, All-weaker, Contains-append_left, Contains-push}
use Rattle.std.proofs.lemmas.List.Quantifiers.{all_pairs_push}
use Rattle.nuc_base.specs.Trees.{Nodes}
use Rattle.nuc_base.proofs.Maps.{same_or_not}
use Rattle.nuc_class.specs.Due.{IsDue, NothingDue}
use Rattle.nuc_class.specs.declared.op.Effect.TheVariants.{Nothing}
use Rattle.nuc_class.specs.declared.op.Op.{Op}
use Rattle.nuc_plan.specs.Plans.{IsAllDue, IsFirstRecordStep, IsRecordStep, NoRecordStep}
use Rattle.nuc_plan.specs.Walk.{AllPassed, IsDueBelow, IsNext}
use Rattle.nuc_plan.proofs.DueFacts.{due_anywhere, due_here, due_id, one_due}

module _ (same : ℕ → ℕ → Bool) (r l s : Nodes) where
  pub none_yet : (due : List Op) → due ≡ [] → IsDueBelow same r l s 0 due
  none_yet due e = subst (λ ops. IsDueBelow same r l s 0 ops) (sym e) (record {
    rising = λ i j d less below. absurd (omega (arith, below));
    each = All-nil _;
    within = All-nil _;
    outside = All-nil _;
    all = λ x op below due. absurd (omega (arith, below));
  })

  -- what is due, and that nothing is, by the answer
  pub due_found : (x : ℕ) (found : Option Op) (op : Op) → found ≡ Some op → MatchOption found (NothingDue same r l s x) (IsDue same r l s x) → IsDue same r l s x op
  due_found x found op e told = subst (λ o. MatchOption o (NothingDue same r l s x) (IsDue same r l s x)) e told

  pub none_found : (x : ℕ) (found : Option Op) → found ≡ None → MatchOption found (NothingDue same r l s x) (IsDue same r l s x) → NothingDue same r l s x
  none_found x found e told = subst (λ o. MatchOption o (NothingDue same r l s x) (IsDue same r l s x)) e told

  -- up to the next identity what is due stays the same
  before_next : (below x y : ℕ) (op : Op) → IsNext r l s below x → y < suc x → IsDue same r l s y op → (y < below) ⊎ (y ≡ x)
  before_next below x y op next within due = elim (cases_lt y below) [
    | inl less ↦ inl less
    | inr from ↦ let le = next.least y (due_anywhere same r l s y op due) from in inr (omega (arith, le, within))
  ]

  -- nothing is due at the next identity
  pub none_more : (below x : ℕ) (due : List Op) → IsNext r l s below x → NothingDue same r l s x → IsDueBelow same r l s below due
      → IsDueBelow same r l s (suc x) due
  none_more below x due next none before = record {
    rising = before.rising;
    each = before.each;
    within = All-weaker (λ op. op.id.0 < below) (λ op. op.id.0 < suc x) (λ op less. let from = next.from in omega (arith, less, from)) due before.within;
    outside = before.outside;
    all = λ y op within is. elim (before_next below x y op next within is) [
      | inl less ↦ before.all y op less is
      | inr here ↦ absurd (none op (subst (λ z. IsDue same r l s z op) here is))
    ];
  }

  -- an operation is due there, and is carried out somewhere
  pub one_more : (below x : ℕ) (due after : List Op) (op : Op) → after ≡ due ++ op ∷ [] → IsNext r l s below x → IsDue same r l s x op
      → op.effect ≢ Nothing → IsDueBelow same r l s below due → IsDueBelow same r l s (suc x) after
  one_more below x due after op grown next is outside before =
      let id : op.id.0 ≡ x = due_id same r l s x op is in
      let from = next.from in
      subst (λ ops. IsDueBelow same r l s (suc x) ops) (sym grown) (record {
        rising = all_pairs_push (λ a b. a.id.0 < b.id.0) due op before.rising (λ k d less. let low = before.within k d less in omega (arith, low, from, id));
        each = All-push (λ o. IsDue same r l s o.id.0 o) due op before.each (due_here same r l s x op is);
        within = All-push (λ o. o.id.0 < suc x) due op
            (All-weaker (λ o. o.id.0 < below) (λ o. o.id.0 < suc x) (λ o less. omega (arith, less, from)) due before.within) (omega (arith, id));
        outside = All-push (λ o. o.effect ≢ Nothing) due op before.outside outside;
        all = λ y other within its. elim (before_next below x y other next within its) [
          | inl less ↦ Contains-append_left due (op ∷ []) other (before.all y other less its)
          | inr here ↦
              let one : op ≡ other = one_due same r l s x op other is (subst (λ z. IsDue same r l s z other) here its) in
              subst (λ o. Contains (due ++ op ∷ []) o) one (Contains-push due op)
        ];
      })

  -- the first that is carried out nowhere
  pub first_record_step : (below x : ℕ) (due : List Op) (op : Op) → IsNext r l s below x → IsDue same r l s x op → op.effect ≡ Nothing
      → IsDueBelow same r l s below due → IsFirstRecordStep same r l s op
  first_record_step below x due op next is nowhere before =
      let id : op.id.0 ≡ x = due_id same r l s x op is in
      record {
        step = record { due = due_here same r l s x op is; effect = nowhere };
        least = λ y other step. elim (cases_lt y below) [
          | inl less ↦ absurd (All-contains (λ o. o.effect ≢ Nothing) due other before.outside (before.all y other less step.due) step.effect)
          | inr from ↦ let le = next.least y (due_anywhere same r l s y other step.due) from in omega (arith, le, id)
        ];
      }

  pub all_due : (below : ℕ) (due : List Op) → AllPassed r l s below → IsDueBelow same r l s below due → IsAllDue same r l s due
  all_due below due passed before = record {
    rising = before.rising;
    each = before.each;
    all = λ x op is. before.all x op (passed x (due_anywhere same r l s x op is)) is;
  }

  pub no_record_step : (below : ℕ) (due : List Op) → AllPassed r l s below → IsDueBelow same r l s below due → NoRecordStep same r l s
  no_record_step below due passed before x op step =
      All-contains (λ o. o.effect ≢ Nothing) due op before.outside
      (before.all x op (passed x (due_anywhere same r l s x op step.due)) step.due) step.effect
