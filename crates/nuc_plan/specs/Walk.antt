-- The walk over the identities of three trees, in rising order, and what it finds on its way.
use Rattle.std.specs.Prelude.{◌≡◌, ◌≢◌, ◌<◌, ◌≤◌, ◌+◌, ◌⊎◌, ◌==◌, suc, ℕ, Bool, List, All, AllPairs, Contains, Option, None, Some, nat_lt, slice_get, if◌then◌else◌}
use Rattle.std.specs.FinMap.{keys, len}
use Rattle.nuc_base.specs.Trees.{Nodes, IsThere}
use Rattle.nuc_class.specs.Due.{IsDue}
use Rattle.nuc_class.specs.declared.op.Effect.TheVariants.{Nothing}
use Rattle.nuc_class.specs.declared.op.Op.{Op}
use Rattle.nuc_plan.specs.Plans.{IsAllDue, IsFirstRecordStep, NoRecordStep}
use Rattle.nuc_plan.specs.declared.all_due.Found.{Found}
use Rattle.nuc_plan.specs.declared.all_due.Found.TheVariants as found
use Rattle.nuc_plan.specs.declared.walk.Walk.{Walk}

-- the lesser of two numbers, of which each may be missing
abbrev pub lesser : Option ℕ → Option ℕ → Option ℕ
lesser None b = b
lesser (Some x) None = Some x
lesser (Some x) (Some y) = if nat_lt y x then Some y else Some x

-- the position behind this one where x stands at it, else this one
abbrev pub behind : Option ℕ → ℕ → ℕ → ℕ
behind None x at = at
behind (Some y) x at = if y == x then at + 1 else at

-- x stands in one of the trees
abbrev pub IsAnywhere : Nodes → Nodes → Nodes → ℕ → Type 0
IsAnywhere r l s x = IsThere r x ⊎ (IsThere l x ⊎ IsThere s x)

-- a position of a tree has the identities below this number before it, and all others from it on
pub record Divides (m : Nodes) (below at : ℕ) : Type 0 where
  pub within : at ≤ len m
  pub passed : (i x : ℕ) → slice_get (keys m) i ≡ Some x → i < at → x < below
  pub ahead : (i x : ℕ) → slice_get (keys m) i ≡ Some x → at ≤ i → below ≤ x

-- the walk has passed the identities below this number, and no others
pub record HasPassed (r l s : Nodes) (below : ℕ) (walk : Walk) : Type 0 where
  pub remote : Divides r below walk.remote
  pub local : Divides l below walk.local
  pub synced : Divides s below walk.synced

-- x is the least identity from this number on
pub record IsNext (r l s : Nodes) (below x : ℕ) : Type 0 where
  pub anywhere : IsAnywhere r l s x
  pub from : below ≤ x
  pub least : (y : ℕ) → IsAnywhere r l s y → below ≤ y → x ≤ y

-- there are no identities from this number on
abbrev pub AllPassed : Nodes → Nodes → Nodes → ℕ → Type 0
AllPassed r l s below = (x : ℕ) → IsAnywhere r l s x → x < below

-- how many positions the walk has passed
abbrev pub positions : Walk → ℕ
positions walk = walk.remote + walk.local + walk.synced

-- x was the next, and now the walk has passed it
pub record GoesPast (r l s : Nodes) (below x : ℕ) (before after : Walk) : Type 0 where
  pub next : IsNext r l s below x
  pub passed : HasPassed r l s (suc x) after
  pub further : positions before < positions after

-- the list has what is due at the identities below this number, in rising order, and none of it is a record step
pub record IsDueBelow (same : ℕ → ℕ → Bool) (r l s : Nodes) (below : ℕ) (due : List Op) : Type 0 where
  pub rising : AllPairs (λ a b. a.id.0 < b.id.0) due
  pub each : All (λ op. IsDue same r l s op.id.0 op) due
  pub within : All (λ op. op.id.0 < below) due
  pub outside : All (λ op. op.effect ≢ Nothing) due
  pub all : (x : ℕ) (op : Op) → x < below → IsDue same r l s x op → Contains due op

-- the record step of the least identity that has one, or where none has one, all that is due
abbrev pub IsFound : (ℕ → ℕ → Bool) → Nodes → Nodes → Nodes → Found → Type 0
IsFound same r l s (found.RecordStep op) = IsFirstRecordStep same r l s op
IsFound same r l s (found.Due due) = IsAllDue same r l s due.items × NoRecordStep same r l s
