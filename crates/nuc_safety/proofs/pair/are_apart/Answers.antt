use Rattle.std.proofs.Common.{rules, ◌≡◌, MatchBool, ℕ, Bool, true, false}
use Rattle.nuc_base.specs.Changes.{Apart, OtherPlaces, Spares}
use Rattle.nuc_base.specs.Trees.{Nodes}
use Rattle.nuc_base.specs.declared.change.Change.{Change}
use Rattle.nuc_safety.proofs.pair.are_apart.Goals as goal

-- the last of three tests decides
last_decides : (m : Nodes) (x y : ℕ) (c d : Change) (told : Bool) → OtherPlaces c d → Spares m x c d → MatchBool told (Spares m y d c) (¬ (Spares m y d c))
    → MatchBool told (Apart m x c y d) (¬ (Apart m x c y d))
last_decides m x y c d true places first second = record { places = places; first = first; second = second }
last_decides m x y c d false places first second = λ apart. second apart.second

-- the second of three tests failed
first_fails : (m : Nodes) (x y : ℕ) (c d : Change) (told : Bool) → told ≡ false → MatchBool told (Spares m x c d) (¬ (Spares m x c d))
    → MatchBool told (Apart m x c y d) (¬ (Apart m x c y d))
first_fails m x y c d true is first = absurd (cc)
first_fails m x y c d false is first = λ apart. first apart.first

pub returns-then-spares : goal.returns-then-spares
returns-then-spares g c = last_decides _ _ _ _ _ _ (search rules) (search rules) c.spares-then-spares.ensures

pub returns-else-spares : goal.returns-else-spares
returns-else-spares g c = first_fails _ _ _ _ _ _ c.if-spares.false c.spares.ensures
