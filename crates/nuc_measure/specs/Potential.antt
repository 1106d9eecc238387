-- How far three trees are from being equal: a number that each operation of a plan lowers.
use Rattle.std.specs.Prelude.{◌≡◌, ◌<◌, ◌+◌, ℕ, Bool, true, false, IsTrue, if◌then◌else◌}
use Rattle.std.specs.FinMap.{get}
use Rattle.nuc_base.specs.Trees.{Nodes}
use Rattle.nuc_measure.specs.Cost.{cost}
use Rattle.nuc_measure.specs.Differing.{differs}
use Rattle.nuc_measure.specs.Marks.{is_marked}
use Rattle.nuc_measure.specs.Totals.{total, AreBelow, IsTotal}

-- 1 for a mark that x has in its own tree, beside the other two
abbrev pub mark : Nodes → Nodes → Nodes → Bool → ℕ → ℕ
mark own a b orphans x = if is_marked a b orphans x (get own x) then 1 else 0

-- the marks of x in Remote, Local and Synced; an orphan counts where it may come to the other side, so not in Synced
abbrev pub marks : Nodes → Nodes → Nodes → ℕ → ℕ
marks r l s x = mark r l s true x + mark l r s true x + mark s r l false x

-- what x counts. `fly` tells which identities have an operation in flight: one that is equal already, since the entry of its
-- commit came early, still counts 1
abbrev pub points : (ℕ → ℕ → Bool) → (ℕ → Bool) → Nodes → Nodes → Nodes → ℕ → ℕ
points same fly r l s x =
    if differs (get r x) (get l x) (get s x) then cost same (get r x) (get l x) (get s x) + marks r l s x
    else if fly x then 1
    else 0

-- nothing is in flight
abbrev pub no_flight : ℕ → Bool
no_flight x = false

-- the potential: the sum of all costs and marks
abbrev pub IsPotential : (ℕ → ℕ → Bool) → Nodes → Nodes → Nodes → ℕ → Type 0
IsPotential same r l s k = IsTotal r l s (points same no_flight r l s) k

-- and what is carried on while operations are in flight: the sum over all identities and flights
abbrev pub IsCarried : (ℕ → ℕ → Bool) → (ℕ → Bool) → Nodes → Nodes → Nodes → ℕ → Type 0
IsCarried same fly r l s k = (n : ℕ) → AreBelow r l s n → ((x : ℕ) → IsTrue (fly x) → x < n) → total n (points same fly r l s) ≡ k
