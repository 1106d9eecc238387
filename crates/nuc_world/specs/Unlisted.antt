-- Why a folder wasn't listed.
use Rattle.std.specs.Prelude.{◌≡◌, ◌<◌, ℕ, true, false, List, length}
use Rattle.nuc_folder.specs.Listing.{IsListing}
use Rattle.nuc_folder.specs.declared.item.Item.{Item}
use Rattle.nuc_folder.specs.declared.listed.TheConstants.{MOST_ITEMS}
use Rattle.nuc_world.specs.Starts.{called}
use Rattle.nuc_world.specs.State.{MemberState, is_due}
use Rattle.nuc_world.specs.declared.observing.ListFault.{ListFault}
use Rattle.nuc_world.specs.declared.observing.ListFault.TheVariants as fault

-- there are so many items, too many
abbrev pub HasMore : MemberState → ℕ → Type 0
HasMore m n = (items : List Item) × IsListing m.folder.held items × (n ≡ length items) × (MOST_ITEMS < n)

-- the folder failed exactly where that call was to fail, which is counted and changes nothing else; or it holds too much
abbrev pub Unlists : ListFault → MemberState → MemberState → Type 0
Unlists fault.Failed m u = (is_due m.due ≡ true) × (u ≡ called m)
Unlists (fault.TooLong n) m u = (is_due m.due ≡ false) × HasMore m n
Unlists fault.Memory m u = Unit {0}
