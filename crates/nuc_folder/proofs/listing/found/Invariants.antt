use Rattle.std.proofs.Common.{◌≡◌, All, take}
use Rattle.nuc_base.specs.Trees.{children}
use Rattle.nuc_folder.specs.Listing.{IsIn, keys_of}
use Rattle.nuc_folder.proofs.listing.found.Given as goal

-- the items so far are those of the children so far
abbrev pub invariant-loop-i : goal.invariant-loop-i
invariant-loop-i l = record {
  each : All (IsIn l.shelf.now l.key.0) l.items.items;
  keys : keys_of l.items.items ≡ take l.i (children l.shelf.now.tree l.key.0);
}
