-- What follows of a plan. The trees are well formed and agree on kinds, and every identity in them is below `next`.
use Rattle.std.specs.Prelude.{◌≡◌, ◌≢◌, ◌<◌, ◌≤◌, ◌↔◌, ℕ, Bool, List, [], All, length}
use Rattle.std.specs.FinMap.{get}
use Rattle.nuc_base.specs.Trees.{Nodes, OneKind, WellFormed}
use Rattle.nuc_base.specs.declared.change.Change.TheVariants.{Keep, Put}
use Rattle.nuc_base.specs.declared.node.Node.{Node}
use Rattle.nuc_class.specs.Due.{FitsOp, IsDue}
use Rattle.nuc_class.specs.declared.op.Effect.TheVariants.{Nothing}
use Rattle.nuc_class.specs.declared.op.Op.{Op}
use Rattle.nuc_class.specs.declared.op.Verb.TheVariants as verb
use Rattle.nuc_conflict.specs.Facts.{MendFacts}
use Rattle.nuc_conflict.specs.FitTogether.{FitBelow}
use Rattle.nuc_plan.specs.Plans.{IsPlan, operations}
use Rattle.nuc_plan.specs.declared.plans.Plan.{Plan}
use Rattle.nuc_plan.specs.declared.plans.Plan.TheVariants as plan
use Rattle.nuc_safety.specs.Batch.{InEveryOrder, IsBatch, IsPossible}
use Rattle.nuc_safety.specs.FirstFit.{most_in_batch}

-- three trees have one plan
abbrev pub OnePlan : Type 0
OnePlan = (same : ℕ → ℕ → Bool) (r l s : Nodes) (next : ℕ) (a b : Plan) → WellFormed r → WellFormed l → WellFormed s
    → IsPlan same r l s next a → IsPlan same r l s next b → a ≡ b

-- it is empty exactly where they are equal
abbrev pub EmptyWhereEqual : Type 0
EmptyWhereEqual = (same : ℕ → ℕ → Bool) (r l s : Nodes) (next : ℕ) (p : Plan) → IsPlan same r l s next p → (p ≡ plan.Empty) ↔ ((r ≡ l) × (l ≡ s))

-- any other has an operation
abbrev pub SomeOperation : Type 0
SomeOperation = (same : ℕ → ℕ → Bool) (r l s : Nodes) (next : ℕ) (p : Plan) → IsPlan same r l s next p → operations p ≡ [] → p ≡ plan.Empty

-- a record step can be carried out, and doesn't write Remote
pub record StaysHere (r l s : Nodes) (op : Op) : Type 0 where
  pub possible : IsPossible r l s op
  pub remote : op.remote ≡ Keep

abbrev pub RecordStepsStayHere : Type 0
RecordStepsStayHere = (same : ℕ → ℕ → Bool) (r l s : Nodes) (next : ℕ) (op : Op) → WellFormed r → WellFormed l → WellFormed s → OneKind r l
    → IsPlan same r l s next (plan.Booked op) → StaysHere r l s op

-- an operation of a batch is the one that is due at its identity, and is carried out in the folder or at the server
pub record IsDueOutside (same : ℕ → ℕ → Bool) (r l s : Nodes) (op : Op) : Type 0 where
  pub due : IsDue same r l s op.id.0 op
  pub outside : op.effect ≢ Nothing

abbrev pub EachIsDue : Type 0
EachIsDue = (same : ℕ → ℕ → Bool) (r l s : Nodes) (next : ℕ) (ops : List Op) → IsPlan same r l s next (plan.Batch ops)
    → All (IsDueOutside same r l s) ops × (length ops ≤ most_in_batch)

-- a batch can be carried out in every order
abbrev pub BatchesInEveryOrder : Type 0
BatchesInEveryOrder = (same : ℕ → ℕ → Bool) (r l s : Nodes) (next : ℕ) (ops : List Op) → WellFormed r → WellFormed l → WellFormed s → OneKind r l
    → IsPlan same r l s next (plan.Batch ops) → IsBatch r l s ops × InEveryOrder r l s ops

-- a split gives a node to a second identity, which is neither the root nor its own
pub record SplitsOff (op : Op) : Type 0 where
  pub other : 0 < op.other.0
  pub apart : op.id.0 ≢ op.other.0
  pub node : Node
  pub put : op.local ≡ Put node

-- an operation that one may carry out: its identity isn't the root, what it puts fits its kind, its old values are those of
-- the trees, and it is neither numbered nor based on a revision yet
pub record IsSound (l s : Nodes) (op : Op) : Type 0 where
  pub id : 0 < op.id.0
  pub fits : FitsOp op
  pub split : op.verb ≡ verb.Split → SplitsOff op
  pub old_local : op.old_local ≡ get l op.id.0
  pub old_synced : op.old_synced ≡ get s op.id.0
  pub number : op.number ≡ 0
  pub base : op.base ≡ 0

abbrev pub PlansAreSound : Type 0
PlansAreSound = (same : ℕ → ℕ → Bool) (r l s : Nodes) (next : ℕ) (p : Plan) → FitBelow r l s next → IsPlan same r l s next p → All (IsSound l s) (operations p)
