-- What is to go because the other side has deleted it: a file that is as it was, or a folder of which nothing has to stay.
use Rattle.std.specs.Prelude.{◌≡◌, ◌≢◌, ℕ, Option, None, Some}
use Rattle.std.specs.FinMap.{get}
use Rattle.nuc_base.specs.declared.node.Node.{Node}
use Rattle.nuc_base.specs.Trees.{Nodes}

-- by its values on the other side, on its own side and in Synced: the other side has deleted it, and its own side has
-- kept it as it was
abbrev pub IsKept : Option Node → Option Node → Option Node → Type 0
IsKept None (Some own) (Some s) = own ≡ s
IsKept None (Some own) None = ⊥
IsKept None None s = ⊥
IsKept (Some other) own s = ⊥

-- x is kept, and each of its children is spared or goes too. It is the least such fact: nothing goes on a ground that
-- leads back to itself
pub data Going (other own s : Nodes) (Spared : ℕ → Type 0) : ℕ → Type 0 where
  going : (x : ℕ) → IsKept (get other x) (get own x) (get s x)
      → ((y : ℕ) (n : Node) → get own y ≡ Some n → n.place.parent.0 ≡ x → ¬ (Spared y) → Going other own s Spared y)
      → Going other own s Spared x

-- Remote has it, at a place where Synced hasn't: so Local's will leave its folder
abbrev pub Leaves : Option Node → Option Node → Type 0
Leaves None s = ⊥
Leaves (Some r) None = Unit {0}
Leaves (Some r) (Some s) = r.place ≢ s.place

-- all three have it, and Remote's place is Synced's: so it will stay where Local has it
abbrev pub Stays : Option Node → Option Node → Option Node → Type 0
Stays (Some r) (Some l) (Some s) = r.place ≡ s.place
Stays (Some r) (Some l) None = ⊥
Stays (Some r) None s = ⊥
Stays None l s = ⊥

-- Remote has deleted x, so it goes in Local
abbrev pub GoingLocal : Nodes → Nodes → Nodes → ℕ → Type 0
GoingLocal r l s x = Going r l s (λ y. Leaves (get r y) (get s y)) x

-- Local has deleted x, so it goes in Remote
abbrev pub GoingRemote : Nodes → Nodes → Nodes → ℕ → Type 0
GoingRemote r l s x = Going l r s (λ y. Stays (get r y) (get l y) (get s y)) x
