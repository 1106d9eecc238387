use Rattle.std.proofs.Common.{take}
use Rattle.nuc_observe.specs.Listing.{IsGoodListing}
use Rattle.nuc_observe.specs.Seen.{HasSeen}
use Rattle.nuc_observe.proofs.judge.first_bad.Given as goal

abbrev pub invariant-loop-index : goal.invariant-loop-index
invariant-loop-index g l = record {
  seen : HasSeen l.seen (take l.index l.items);
  good : IsGoodListing l.keys.now (g.T.TreeLike.nodes l.local) (take l.index l.items);
}
