use Rattle.std.proofs.Common.{◌≡◌, ◌∷◌, take}
use Rattle.nuc_folder.specs.Listing.{keys_of}
use Rattle.nuc_folder.proofs.removal.keys_from.Given as goal

abbrev pub invariant-loop-item : goal.invariant-loop-item
invariant-loop-item l = l.keys.items ≡ l.fn.key ∷ keys_of (take l.item-index l.items)
