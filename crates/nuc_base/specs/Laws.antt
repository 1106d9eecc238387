-- The laws of changes of one tree.
use Rattle.std.specs.Prelude.{◌≡◌, ◌≢◌, ◌<◌, ℕ, List, IsPermutation}
use Rattle.nuc_base.specs.Changes.{changed, IsLegal, FitsChange, Apart}
use Rattle.nuc_base.specs.Ready.{AllReady, OneOf, NoneTwice, all_changed, LegalInTurn}
use Rattle.nuc_base.specs.Trees.{Nodes, WellFormed}
use Rattle.nuc_base.specs.declared.change.Change.{Change}

-- a legal change keeps a tree well formed
abbrev pub LegalKeepsForm : Type 0
LegalKeepsForm = (m : Nodes) (x : ℕ) (c : Change) → WellFormed m → 0 < x → FitsChange c → IsLegal m x c → WellFormed (changed m x c)

-- of two legal changes that are apart each is legal after the other, and both orders give one tree
abbrev pub EitherOrder : Type 0
EitherOrder = (m : Nodes) (x y : ℕ) (c d : Change) → WellFormed m → 0 < x → 0 < y → x ≢ y → IsLegal m x c → IsLegal m y d → Apart m x c y d
    → IsLegal (changed m x c) y d × IsLegal (changed m y d) x c × (changed (changed m x c) y d ≡ changed (changed m y d) x c)

-- legal changes any two of which are apart are legal one after another in every order, and all orders give one tree
abbrev pub EveryOrder : Type 0
EveryOrder = (m : Nodes) (cs ds : List (ℕ × Change)) → WellFormed m → NoneTwice cs → AllReady m (OneOf cs) → IsPermutation cs ds
    → LegalInTurn m ds × WellFormed (all_changed m ds) × (all_changed m ds ≡ all_changed m cs)
