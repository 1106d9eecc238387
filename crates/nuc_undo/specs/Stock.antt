-- The slots of a stock.
use Rattle.std.specs.Prelude.{◌≡◌, ◌<◌, ◌⊎◌, ℕ, zero, suc, List, [], ◌∷◌, map, Option, None, Some, refl}
use Rattle.std.specs.Coded.{Coded, code_by, coded×, coded_ℕ, coded_list}
use Rattle.std.specs.FinMap as map
use Rattle.nuc_base.specs.Codes.{nodes_code}
use Rattle.nuc_base.specs.declared.node.Node.{Node}
use Rattle.nuc_undo.specs.Laid.{Laid, with_node}
use Rattle.nuc_undo.specs.declared.stock.Slot.{Slot}

-- what a caller sees of a stock: what is laid by, and the numbers that have a slot, full or empty
pub record StockState : Type 0 where
  pub laid : Laid
  pub numbers : List ℕ

abbrev pub stock_code : Coded StockState
stock_code = code_by (Laid × List ℕ) (coded× nodes_code (coded_list coded_ℕ)) (λ s. (s.laid, s.numbers)) (λ t. record { laid = t.0; numbers = t.1 }) (λ _. refl)

-- what lies in these slots
abbrev pub laid_of : List Slot → Laid
laid_of [] = map.empty
laid_of (s ∷ slots) = with_node (laid_of slots) s.number s.node

abbrev pub numbers_of : List Slot → List ℕ
numbers_of slots = map (λ s. s.number) slots

-- x is one of the numbers
abbrev pub Has : List ℕ → ℕ → Type 0
Has [] x = ⊥
Has (n ∷ numbers) x = (n ≡ x) ⊎ Has numbers x

-- each number of the first list is in the second
abbrev pub HasAll : List ℕ → List ℕ → Type 0
HasAll before after = (x : ℕ) → Has before x → Has after x

-- what came from a number, if from any, is there, nothing else lies under that, and it has a slot
abbrev pub IsAway : StockState → Option ℕ → Option Node → Type 0
IsAway s None put = Unit {0}
IsAway s (Some x) None = ⊥
IsAway s (Some x) (Some n) = (map.get s.laid x ≡ None) × Has s.numbers x

-- x is below the number of each slot
abbrev pub IsBelow : ℕ → List Slot → Type 0
IsBelow x [] = Unit {0}
IsBelow x (s ∷ slots) = (x < s.number) × IsBelow x slots

-- each slot's number is below those after it
abbrev pub IsRising : List Slot → Type 0
IsRising [] = Unit {0}
IsRising (s ∷ slots) = IsBelow s.number slots × IsRising slots

-- x has the slot at this position, behind smaller numbers
abbrev pub IsFound : ℕ → List Slot → ℕ → Type 0
IsFound x [] i = ⊥
IsFound x (s ∷ slots) zero = s.number ≡ x
IsFound x (s ∷ slots) (suc i) = (s.number < x) × IsFound x slots i

-- a slot of x would go to this position, behind smaller numbers and before greater ones
abbrev pub IsGap : ℕ → List Slot → ℕ → Type 0
IsGap x [] i = i ≡ 0
IsGap x (s ∷ slots) zero = x < s.number
IsGap x (s ∷ slots) (suc i) = (s.number < x) × IsGap x slots i
