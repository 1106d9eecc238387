-- Operations that can be carried out in every order.
use Rattle.std.specs.Prelude.{◌≡◌, ◌≢◌, ◌<◌, ℕ, List, map, AllPairs, IsPermutation}
use Rattle.nuc_base.specs.Ready.{AllReady, LegalInTurn, OneOf, all_changed}
use Rattle.nuc_base.specs.Trees.{Nodes, WellFormed}
use Rattle.nuc_base.specs.declared.change.Change.{Change}
use Rattle.nuc_class.specs.Due.{FitsOp, IsLegalOp}
use Rattle.nuc_class.specs.declared.op.Op.{Op}

-- what operations do, each at its identity, in Remote, in Local and in Synced
abbrev pub in_remote : List Op → List (ℕ × Change)
in_remote ops = map (λ op. (op.id.0, op.remote)) ops

abbrev pub in_local : List Op → List (ℕ × Change)
in_local ops = map (λ op. (op.id.0, op.local)) ops

abbrev pub in_synced : List Op → List (ℕ × Change)
in_synced ops = map (λ op. (op.id.0, op.synced)) ops

-- the operation can be carried out as the trees are
pub record IsPossible (r l s : Nodes) (op : Op) : Type 0 where
  pub id : 0 < op.id.0
  pub fits : FitsOp op
  pub legal : IsLegalOp r l s op

-- they have different identities, and in each tree their changes are ready: each is legal, and any two are apart
pub record IsBatch (r l s : Nodes) (ops : List Op) : Type 0 where
  pub ids : AllPairs (λ a b. a.id.0 ≢ b.id.0) ops
  pub remote : AllReady r (OneOf (in_remote ops))
  pub local : AllReady l (OneOf (in_local ops))
  pub synced : AllReady s (OneOf (in_synced ops))

-- the changes are legal one after another, and make a well formed tree, which is the one that the others make
pub record EndsAs (m : Nodes) (changes others : List (ℕ × Change)) : Type 0 where
  pub legal : LegalInTurn m changes
  pub form : WellFormed (all_changed m changes)
  pub end : all_changed m changes ≡ all_changed m others

-- so in each of the three trees
pub record DoesAs (r l s : Nodes) (ops others : List Op) : Type 0 where
  pub remote : EndsAs r (in_remote ops) (in_remote others)
  pub local : EndsAs l (in_local ops) (in_local others)
  pub synced : EndsAs s (in_synced ops) (in_synced others)

-- the operations can be carried out in every order, and all orders make the same three trees
abbrev pub InEveryOrder : Nodes → Nodes → Nodes → List Op → Type 0
InEveryOrder r l s ops = (order : List Op) → IsPermutation ops order → DoesAs r l s order ops
