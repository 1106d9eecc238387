-- The listing that a client holds.
use Rattle.std.specs.Prelude.{ℕ, List, Option, None, Some, option_map, refl}
use Rattle.std.specs.Coded.{Coded, code_by, coded×, coded_ℕ, coded_list, coded_option}
use Rattle.nuc_folder.specs.Codes.{item_code}
use Rattle.nuc_folder.specs.declared.item.Item.{Item}
use Rattle.nuc_step.specs.declared.held.Held.{Held}

-- a listing, and how often Local had changed when it was made
pub record HeldData : Type 0 where
  pub changes : ℕ
  pub items : List Item

-- what is held now, if anything is, and what was at the last settling
pub record HeldState : Type 0 where
  pub now : Option HeldData
  pub settled : Option HeldData

abbrev pub data_code : Coded HeldData
data_code = code_by (ℕ × List Item) (coded× coded_ℕ (coded_list item_code)) (λ h. (h.changes, h.items)) (λ t. record { changes = t.0; items = t.1 }) (λ _. refl)

abbrev pub held_code : Coded HeldState
held_code = code_by (Option HeldData × Option HeldData) (coded× (coded_option data_code) (coded_option data_code))
    (λ h. (h.now, h.settled)) (λ t. record { now = t.0; settled = t.1 }) (λ _. refl)

abbrev pub data_of : Held → HeldData
data_of h = record { changes = h.changes; items = h.items.items }

-- what is held now: the listing of then, unless one came or went since
abbrev pub now_of : Option Held → Option (Option Held) → Option HeldData
now_of settled None = option_map data_of settled
now_of settled (Some now) = option_map data_of now

abbrev pub held_of : Option Held → Option (Option Held) → HeldState
held_of settled since = record { now = now_of settled since; settled = option_map data_of settled }

-- none is held any more
abbrev pub let_go : HeldState → HeldState
let_go h = record h { now = None }

-- this one is held, in place of any other
abbrev pub holding : ℕ → List Item → HeldState → HeldState
holding changes items h = record h { now = Some (record { changes = changes; items = items }) }

-- what is held now is what was at the last settling
abbrev pub settled_now : HeldState → HeldState
settled_now h = record h { settled = h.now }

abbrev pub gone_back : HeldState → HeldState
gone_back h = record h { now = h.settled }
