-- Which of the identities that wish something is served first.
use Rattle.std.specs.Prelude.{◌≤◌, ℕ, Bool}
use Rattle.nuc_base.specs.Trees.{Nodes, Precedes}
use Rattle.nuc_class.specs.Wishes.{IsWish}
use Rattle.nuc_class.specs.declared.wishes.Wish.{Wish}
use Rattle.nuc_class.specs.declared.wishes.Wish.TheVariants as wish

-- nobody needs a split
abbrev pub NoSplit : (ℕ → ℕ → Bool) → Nodes → Nodes → Nodes → Type 0
NoSplit same r l s = (x : ℕ) → ¬ (IsWish same r l s x wish.Split)

-- x needs a split, and has the least number of all that need one
pub record IsLeastSplit (same : ℕ → ℕ → Bool) (r l s : Nodes) (x : ℕ) : Type 0 where
  pub wished : IsWish same r l s x wish.Split
  pub least : (y : ℕ) → IsWish same r l s y wish.Split → x ≤ y

-- x wishes this; and of all that do, it stands least deep in m, and has the least number of those that stand so deep
pub record IsTopmost (same : ℕ → ℕ → Bool) (r l s m : Nodes) (w : Wish) (x : ℕ) : Type 0 where
  pub wished : IsWish same r l s x w
  pub first : (y : ℕ) → IsWish same r l s y w → Precedes m x y
