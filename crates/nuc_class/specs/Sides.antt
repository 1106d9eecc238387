-- Both sides at once, for the walk that is the same on both.
use Rattle.std.specs.Prelude.{ℕ}
use Rattle.std.specs.FinMap.{get}
use Rattle.nuc_base.specs.Trees.{Nodes}
use Rattle.nuc_class.specs.Going.{Going, Leaves, Stays}
use Rattle.nuc_class.specs.declared.going.Side.{Side}
use Rattle.nuc_class.specs.declared.going.Side.TheVariants.{Local, Remote}

-- a child doesn't go with its folder on this side: by the tree of the other side, that of its own and Synced
abbrev pub Spared : Side → Nodes → Nodes → Nodes → ℕ → Type 0
Spared Local r l s y = Leaves (get r y) (get s y)
Spared Remote l r s y = Stays (get r y) (get l y) (get s y)

-- x goes on this side
abbrev pub GoingOn : Side → Nodes → Nodes → Nodes → ℕ → Type 0
GoingOn side other own s x = Going other own s (Spared side other own s) x
