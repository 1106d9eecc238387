-- The cases of a plan exclude each other, and each has one plan.
use Rattle.std.proofs.Common.{◌≡◌, ◌≢◌, ◌⊎◌, ◌<◌, ◌≤◌, ◌↔◌, ℕ, Bool, List, [], ◌∷◌, length, All, refl, sym, ap, subst, ◌∙◌, inl, inr, arith}
use Rattle.std.specs.Prelude.{Contains}
use Rattle.std.proofs.lemmas.List.Elements.{All-head, All-nil, All-weaker}
use Rattle.std.specs.FinMap.{get}
use Rattle.nuc_base.specs.Trees.{Nodes, OneKind, WellFormed}
use Rattle.nuc_base.proofs.Maps.{same_nodes}
use Rattle.nuc_class.specs.Due.{IsDue, NothingDue}
use Rattle.nuc_class.specs.declared.op.Effect.TheVariants.{Nothing}
use Rattle.nuc_class.specs.declared.op.Op.{Op}
use Rattle.nuc_class.specs.declared.wishes.Wish.TheVariants as wish
use Rattle.nuc_class.proofs.Rows.{one_wish}
use Rattle.nuc_conflict.specs.Mends.{IsMend}
use Rattle.nuc_conflict.specs.Remedies.IsRemedy.{down, split, up}
use Rattle.nuc_conflict.proofs.OneMend.{one_mend}
use Rattle.nuc_plan.specs.Laws.{BatchesInEveryOrder, EachIsDue, EmptyWhereEqual, IsDueOutside, OnePlan, SomeOperation}
use Rattle.nuc_plan.specs.Plans.{IsAllDue, IsBatchOfDue, IsFirstRecordStep, IsMendOfStuck, IsPlan, NothingWished, SomethingWished, operations}
use Rattle.nuc_plan.specs.declared.plans.Plan.{Plan}
use Rattle.nuc_plan.specs.declared.plans.Plan.TheVariants as plan
use Rattle.nuc_plan.proofs.DueFacts.{due_can, not_due, one_due}
use Rattle.nuc_plan.proofs.OneList.{one_all_due}
use Rattle.nuc_safety.specs.FirstFit.{FirstFit}
use Rattle.nuc_safety.specs.Batch.{IsPossible}
use Rattle.nuc_safety.proofs.Batches.{first_fit_batch, in_every_order}
use Rattle.nuc_safety.proofs.Taking.{each_taken, is_few, one_batch, some_taken}

module _ (same : ℕ → ℕ → Bool) (r l s : Nodes) where
  -- the first of the list is due
  pub some_due : (due : List Op) → IsAllDue same r l s due → due ≢ [] → (op : Op) × IsDue same r l s op.id.0 op
  some_due [] all some = absurd (some refl)
  some_due (op ∷ due) all some = (op, All-head (λ o. IsDue same r l s o.id.0 o) op due all.each)

  -- all of it is possible
  pub all_possible : (due : List Op) → IsAllDue same r l s due → WellFormed r → WellFormed l → WellFormed s → OneKind r l → All (IsPossible r l s) due
  all_possible due all remote local synced kinds = All-weaker (λ o. IsDue same r l s o.id.0 o) (IsPossible r l s)
      (λ o is. due_can same r l s o.id.0 o remote local synced kinds is) due all.each

  -- nothing is due where the list is empty
  pub nothing_due : (due : List Op) → IsAllDue same r l s due → due ≡ [] → (x : ℕ) → NothingDue same r l s x
  nothing_due due all none x op is =
      let (k, below, at) = subst (λ list. Contains list op) none (all.all x op is) in
      absurd (omega (arith, below))

  -- a record step of the least identity is one
  one_booked : (a b : Op) → IsFirstRecordStep same r l s a → IsFirstRecordStep same r l s b → a ≡ b
  one_booked a b first second =
      let le = first.least b.id.0 b second.step in
      let ge = second.least a.id.0 a first.step in
      let id : b.id.0 ≡ a.id.0 = omega (arith, le, ge) in
      one_due same r l s a.id.0 a b (first.step).due (subst (λ x. IsDue same r l s x b) id (second.step).due)

  one_first_fit : (a b : List Op) → IsBatchOfDue same r l s a → IsBatchOfDue same r l s b → a ≡ b
  one_first_fit a b first second =
      let due : second.due ≡ first.due = one_all_due same r l s second.due first.due second.all first.all in
      one_batch r l s [] first.due a b first.taken (subst (λ ops. FirstFit r l s ops b) due second.taken)

  idle_or_booked : (a : Op) → NothingWished same r l s → ¬ (IsFirstRecordStep same r l s a)
  idle_or_booked a idle first = not_due same r l s a.id.0 a (idle a.id.0) (first.step).due

  idle_or_batch : (a : List Op) → NothingWished same r l s → ¬ (IsBatchOfDue same r l s a)
  idle_or_batch a idle batch = let one = some_due batch.due batch.all batch.some in not_due same r l s (one.0).id.0 one.0 (idle (one.0).id.0) one.1

  idle_or_wished : NothingWished same r l s → ¬ (SomethingWished same r l s)
  idle_or_wished idle some = some.some (one_wish same r l s some.x some.w wish.Nothing some.wished (idle some.x))

  booked_or_batch : (a : Op) (b : List Op) → IsFirstRecordStep same r l s a → ¬ (IsBatchOfDue same r l s b)
  booked_or_batch a b first batch = batch.outside a.id.0 a first.step

  booked_or_stuck : (a : Op) → IsFirstRecordStep same r l s a → ¬ ((x : ℕ) → NothingDue same r l s x)
  booked_or_stuck a first stuck = stuck a.id.0 a (first.step).due

  batch_or_stuck : (a : List Op) → IsBatchOfDue same r l s a → ¬ ((x : ℕ) → NothingDue same r l s x)
  batch_or_stuck a batch stuck = let one = some_due batch.due batch.all batch.some in stuck (one.0).id.0 one.0 one.1

  -- equal trees wish nothing
  idle_where_equal : r ≡ l → l ≡ s → NothingWished same r l s
  idle_where_equal first second x = (ap (λ (m : Nodes). get m x) first, ap (λ (m : Nodes). get m x) second)

  -- a mend serves a wish
  pub mend_wished : (next : ℕ) (op : Op) → IsMend same r l s next op → SomethingWished same r l s
  mend_wished next op mend = elim mend.chosen [
    | split x least is ↦ record { x = x.0; w = wish.Split; wished = least.wished; some = λ e. cc }
    | down whole rule ↦ record { x = rule.x; w = wish.Down; wished = (rule.topmost).wished; some = λ e. cc }
    | up whole clear rule ↦ record { x = rule.x; w = wish.Up; wished = (rule.topmost).wished; some = λ e. cc }
  ]

pub one_plan : OnePlan
one_plan same r l s next plan.Empty plan.Empty remote local synced a b = refl
one_plan same r l s next plan.Empty (plan.Booked p) remote local synced a b = absurd (idle_or_booked same r l s p a b)
one_plan same r l s next plan.Empty (plan.Batch ps) remote local synced a b = absurd (idle_or_batch same r l s ps a b)
one_plan same r l s next plan.Empty (plan.Mend p) remote local synced a b = absurd (idle_or_wished same r l s a b.wished)
one_plan same r l s next (plan.Booked o) plan.Empty remote local synced a b = absurd (idle_or_booked same r l s o b a)
one_plan same r l s next (plan.Booked o) (plan.Booked p) remote local synced a b = ap plan.Booked (one_booked same r l s o p a b)
one_plan same r l s next (plan.Booked o) (plan.Batch ps) remote local synced a b = absurd (booked_or_batch same r l s o ps a b)
one_plan same r l s next (plan.Booked o) (plan.Mend p) remote local synced a b = absurd (booked_or_stuck same r l s o a b.stuck)
one_plan same r l s next (plan.Batch os) plan.Empty remote local synced a b = absurd (idle_or_batch same r l s os b a)
one_plan same r l s next (plan.Batch os) (plan.Booked p) remote local synced a b = absurd (booked_or_batch same r l s p os b a)
one_plan same r l s next (plan.Batch os) (plan.Batch ps) remote local synced a b = ap plan.Batch (one_first_fit same r l s os ps a b)
one_plan same r l s next (plan.Batch os) (plan.Mend p) remote local synced a b = absurd (batch_or_stuck same r l s os a b.stuck)
one_plan same r l s next (plan.Mend o) plan.Empty remote local synced a b = absurd (idle_or_wished same r l s b a.wished)
one_plan same r l s next (plan.Mend o) (plan.Booked p) remote local synced a b = absurd (booked_or_stuck same r l s p b a.stuck)
one_plan same r l s next (plan.Mend o) (plan.Batch ps) remote local synced a b = absurd (batch_or_stuck same r l s ps b a.stuck)
one_plan same r l s next (plan.Mend o) (plan.Mend p) remote local synced a b = ap plan.Mend (one_mend same r l s next o p remote local synced a.mend b.mend)

equal_where_empty : (same : ℕ → ℕ → Bool) (r l s : Nodes) (next : ℕ) (p : Plan) → IsPlan same r l s next p → p ≡ plan.Empty → (r ≡ l) × (l ≡ s)
equal_where_empty same r l s next plan.Empty idle e = (same_nodes r l (λ x. (idle x).0), same_nodes l s (λ x. (idle x).1))
equal_where_empty same r l s next (plan.Booked o) is e = absurd (cc)
equal_where_empty same r l s next (plan.Batch os) is e = absurd (cc)
equal_where_empty same r l s next (plan.Mend o) is e = absurd (cc)

empty_if_equal : (same : ℕ → ℕ → Bool) (r l s : Nodes) (next : ℕ) (p : Plan) → IsPlan same r l s next p → (r ≡ l) × (l ≡ s) → p ≡ plan.Empty
empty_if_equal same r l s next plan.Empty is e = refl
empty_if_equal same r l s next (plan.Booked o) is (e, f) = absurd (idle_or_booked same r l s o (idle_where_equal same r l s e f) is)
empty_if_equal same r l s next (plan.Batch os) is (e, f) = absurd (idle_or_batch same r l s os (idle_where_equal same r l s e f) is)
empty_if_equal same r l s next (plan.Mend o) is (e, f) = absurd (idle_or_wished same r l s (idle_where_equal same r l s e f) is.wished)

pub empty_where_equal : EmptyWhereEqual
empty_where_equal same r l s next p is = (equal_where_empty same r l s next p is, empty_if_equal same r l s next p is)

pub some_operation : SomeOperation
some_operation same r l s next plan.Empty is none = refl
some_operation same r l s next (plan.Booked o) is none = absurd (cc)
some_operation same r l s next (plan.Mend o) is none = absurd (cc)
some_operation same r l s next (plan.Batch os) is none = absurd (is.some (some_taken r l s is.due os is.taken none))

module _ (same : ℕ → ℕ → Bool) (r l s : Nodes) (ops : List Op) (batch : IsBatchOfDue same r l s ops) where
  outside_of : (ds : List Op) → All (λ o. IsDue same r l s o.id.0 o) ds → All (IsDueOutside same r l s) ds
  outside_of ds all = All-weaker (λ o. IsDue same r l s o.id.0 o) (IsDueOutside same r l s)
      (λ o due. record { due = due; outside = λ e. batch.outside o.id.0 o (record { due = due; effect = e }) }) ds all

  pub batch_due : All (IsDueOutside same r l s) ops
  batch_due = each_taken r l s (IsDueOutside same r l s) [] batch.due ops (All-nil _) (outside_of batch.due (batch.all).each) batch.taken

pub each_is_due : EachIsDue
each_is_due same r l s next ops batch = (batch_due same r l s ops batch, is_few r l s batch.due ops batch.taken)

pub batches_in_every_order : BatchesInEveryOrder
batches_in_every_order same r l s next ops remote local synced kinds batch =
    let is = first_fit_batch r l s batch.due ops (all_possible same r l s batch.due batch.all remote local synced kinds) batch.taken in
    (is, in_every_order r l s ops remote local synced is)
