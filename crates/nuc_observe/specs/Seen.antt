-- What is remembered of the items that were gone through.
use Rattle.std.specs.Prelude.{◌≡◌, ℕ, Bool, List, None}
use Rattle.std.specs.BTreeMap.{get}
use Rattle.std.specs.BTreeSet.{contains}
use Rattle.std.specs.List.{list_any}
use Rattle.std.specs.Ordering.{is_eq, nat_cmp}
use Rattle.nuc_folder.specs.declared.item.Item.{Item}
use Rattle.nuc_observe.specs.Listing.{listed_kind}
use Rattle.nuc_observe.specs.Order.{place_order}
use Rattle.nuc_observe.specs.declared.item_place.ItemPlace.{ItemPlace}
use Rattle.nuc_observe.specs.declared.seen.Seen.{Seen}

abbrev pub place_of : Item → ItemPlace
place_of item = record { parent = item.parent.0; name = item.name }

-- an item has the place
abbrev pub is_placed : List Item → ItemPlace → Bool
is_placed items p = list_any (λ item. is_eq (place_order p (place_of item))) items

-- the keys with their kinds and the places of these items
pub record HasSeen (seen : Seen) (items : List Item) : Type 0 where
  pub kinds : (key : ℕ) → get nat_cmp seen.kinds key ≡ listed_kind items key
  pub places : (p : ItemPlace) → contains place_order seen.places p ≡ is_placed items p
