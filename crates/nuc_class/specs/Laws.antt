-- What follows from the table of wishes and from the operations.
use Rattle.std.specs.Prelude.{◌≡◌, ◌≢◌, ◌⊎◌, ◌↔◌, ℕ, Bool, false, IsTrue, Option, Some}
use Rattle.std.specs.FinMap.{get}
use Rattle.nuc_base.specs.Trees.{Nodes, OneKind, WellFormed}
use Rattle.nuc_base.specs.declared.node.Kind.TheVariants.{File}
use Rattle.nuc_base.specs.declared.node.Node.{Node}
use Rattle.nuc_class.specs.Due.{FitsOp}
use Rattle.nuc_class.specs.Effects.{adopts}
use Rattle.nuc_class.specs.Merge.{target}
use Rattle.nuc_class.specs.Op.{operation}
use Rattle.nuc_class.specs.Split.{is_new, needs_split}
use Rattle.nuc_class.specs.Wishes.{AllEqual, IsWish}
use Rattle.nuc_class.specs.declared.op.Op.{Op}
use Rattle.nuc_class.specs.declared.wishes.Wish.{Wish}
use Rattle.nuc_class.specs.declared.wishes.Wish.TheVariants as wish

-- no identity has two wishes
abbrev pub OneWish : Type 0
OneWish = (same : ℕ → ℕ → Bool) (r l s : Nodes) (x : ℕ) (v w : Wish) → IsWish same r l s x v → IsWish same r l s x w → v ≡ w

-- in well formed trees each has one
abbrev pub SomeWish : Type 0
SomeWish = (same : ℕ → ℕ → Bool) (r l s : Nodes) (x : ℕ) → WellFormed r → WellFormed l → (w : Wish) × IsWish same r l s x w

-- it is `Nothing` exactly where the three values are equal
abbrev pub NothingWhereEqual : Type 0
NothingWhereEqual = (same : ℕ → ℕ → Bool) (r l s : Nodes) (x : ℕ) (w : Wish) → IsWish same r l s x w
    → ((w ≡ wish.Nothing) ↔ AllEqual (get r x) (get l x) (get s x))

-- each other wish but a split has an operation
abbrev pub WishHasOperation : Type 0
WishHasOperation = (same : ℕ → ℕ → Bool) (r l s : Nodes) (x : ℕ) (w : Wish) → IsWish same r l s x w → w ≢ wish.Split → w ≢ wish.Nothing
    → (op : Op) × (operation same w x (get r x) (get l x) (get s x) ≡ Some op)

-- the nodes that an operation puts fit their kinds
abbrev pub OperationsFit : Type 0
OperationsFit = (same : ℕ → ℕ → Bool) (r l s : Nodes) (x : ℕ) (w : Wish) (op : Op) → WellFormed r → WellFormed l → OneKind r l
    → operation same w x (get r x) (get l x) (get s x) ≡ Some op → FitsOp op

-- where a Down gives a file of Local another version, the old one was Synced's, or is adopted
abbrev pub DownKeepsEdits : Type 0
DownKeepsEdits = (same : ℕ → ℕ → Bool) (r l : Node) (s : Option Node) → r.kind ≡ File → needs_split same (Some r) (Some l) s ≡ false
    → let t : Node = target r (Some l) s in (t.ver ≡ l.ver) ⊎ (is_new s l.ver.0 ≡ false) ⊎ IsTrue (adopts same l t)
