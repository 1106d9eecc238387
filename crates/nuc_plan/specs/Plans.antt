-- What a plan is.
use Rattle.std.specs.Prelude.{◌≡◌, ◌≢◌, ◌<◌, ◌≤◌, ℕ, Bool, List, [], ◌∷◌, All, AllPairs, Contains}
use Rattle.nuc_base.specs.Trees.{Nodes}
use Rattle.nuc_class.specs.Due.{IsDue, NothingDue}
use Rattle.nuc_class.specs.Wishes.{IsWish}
use Rattle.nuc_class.specs.declared.op.Effect.TheVariants.{Nothing}
use Rattle.nuc_class.specs.declared.op.Op.{Op}
use Rattle.nuc_class.specs.declared.wishes.Wish.{Wish}
use Rattle.nuc_class.specs.declared.wishes.Wish.TheVariants as wish
use Rattle.nuc_conflict.specs.Mends.{IsMend}
use Rattle.nuc_plan.specs.declared.plans.Plan.{Plan}
use Rattle.nuc_plan.specs.declared.plans.Plan.TheVariants as plan
use Rattle.nuc_safety.specs.FirstFit.{FirstFit}

-- no identity has a wish
abbrev pub NothingWished : (ℕ → ℕ → Bool) → Nodes → Nodes → Nodes → Type 0
NothingWished same r l s = (x : ℕ) → IsWish same r l s x wish.Nothing

-- some identity has a wish
pub record SomethingWished (same : ℕ → ℕ → Bool) (r l s : Nodes) : Type 0 where
  pub x : ℕ
  pub w : Wish
  pub wished : IsWish same r l s x w
  pub some : w ≢ wish.Nothing

-- a record step of x: it is due there, and is carried out nowhere
pub record IsRecordStep (same : ℕ → ℕ → Bool) (r l s : Nodes) (x : ℕ) (op : Op) : Type 0 where
  pub due : IsDue same r l s x op
  pub effect : op.effect ≡ Nothing

abbrev pub NoRecordStep : (ℕ → ℕ → Bool) → Nodes → Nodes → Nodes → Type 0
NoRecordStep same r l s = (x : ℕ) (op : Op) → ¬ (IsRecordStep same r l s x op)

-- the record step of the least identity that has one
pub record IsFirstRecordStep (same : ℕ → ℕ → Bool) (r l s : Nodes) (op : Op) : Type 0 where
  pub step : IsRecordStep same r l s op.id.0 op
  pub least : (x : ℕ) (other : Op) → IsRecordStep same r l s x other → op.id.0 ≤ x

-- the list has the operations that are due, of all identities, in rising order
pub record IsAllDue (same : ℕ → ℕ → Bool) (r l s : Nodes) (due : List Op) : Type 0 where
  pub rising : AllPairs (λ a b. a.id.0 < b.id.0) due
  pub each : All (λ op. IsDue same r l s op.id.0 op) due
  pub all : (x : ℕ) (op : Op) → IsDue same r l s x op → Contains due op

-- the first fit of all that is due, where something is due and none of it is a record step
pub record IsBatchOfDue (same : ℕ → ℕ → Bool) (r l s : Nodes) (ops : List Op) : Type 0 where
  pub due : List Op
  pub all : IsAllDue same r l s due
  pub some : due ≢ []
  pub outside : NoRecordStep same r l s
  pub taken : FirstFit r l s due ops

-- the mend, where something is wished and nothing is due
pub record IsMendOfStuck (same : ℕ → ℕ → Bool) (r l s : Nodes) (next : ℕ) (op : Op) : Type 0 where
  pub wished : SomethingWished same r l s
  pub stuck : (x : ℕ) → NothingDue same r l s x
  pub mend : IsMend same r l s next op

-- a plan of Remote, Local and Synced; the identity `next` is the next that nobody has
abbrev pub IsPlan : (ℕ → ℕ → Bool) → Nodes → Nodes → Nodes → ℕ → Plan → Type 0
IsPlan same r l s next plan.Empty = NothingWished same r l s
IsPlan same r l s next (plan.Booked op) = IsFirstRecordStep same r l s op
IsPlan same r l s next (plan.Batch ops) = IsBatchOfDue same r l s ops
IsPlan same r l s next (plan.Mend op) = IsMendOfStuck same r l s next op

-- its operations
abbrev pub operations : Plan → List Op
operations plan.Empty = []
operations (plan.Booked op) = op ∷ []
operations (plan.Batch ops) = ops
operations (plan.Mend op) = op ∷ []
