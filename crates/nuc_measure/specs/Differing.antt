-- At how many identities three trees differ.
use Rattle.std.specs.Prelude.{◌||◌, not, ℕ, Bool, Option, if◌then◌else◌}
use Rattle.std.specs.FinMap.{get}
use Rattle.nuc_base.specs.Trees.{Nodes}
use Rattle.nuc_base.specs.declared.node.Node.{Node}
use Rattle.nuc_class.specs.Equal.{value_eq}
use Rattle.nuc_measure.specs.Totals.{IsTotal}

-- the three values aren't all equal
abbrev pub differs : Option Node → Option Node → Option Node → Bool
differs r l s = not (value_eq r l) || not (value_eq l s)

-- 1 for an identity that differs, else 0
abbrev pub difference : Nodes → Nodes → Nodes → ℕ → ℕ
difference r l s x = if differs (get r x) (get l x) (get s x) then 1 else 0

-- how many identities differ, each counted once
abbrev pub IsDiffering : Nodes → Nodes → Nodes → ℕ → Type 0
IsDiffering r l s k = IsTotal r l s (difference r l s) k
