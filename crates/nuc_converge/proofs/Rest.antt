-- The laws of a client that is left alone, put together.
use Rattle.nuc_edits.specs.Edits.{same_hash}
use Rattle.nuc_measure.proofs.Carried.{potential_of}
use Rattle.nuc_converge.specs.Laws.{BatchesEndAlike, EachLowersIt, FewArePlanned, FewUnlessCollision, NoneIsRefused}
use Rattle.nuc_converge.proofs.AnyOrder as order
use Rattle.nuc_converge.proofs.Coming.{entries_come}
use Rattle.nuc_converge.proofs.Ending.{dones_stay_alone}
use Rattle.nuc_converge.proofs.Parts.{DonesStayAlone}
use Rattle.nuc_converge.proofs.Planning.{plans_stay_alone}
use Rattle.nuc_converge.proofs.Refusals as refusals
use Rattle.nuc_converge.proofs.Refusals.{PointsAreAlone}
use Rattle.nuc_converge.proofs.Unrefused as unrefused
use Rattle.nuc_converge.proofs.Whole as whole

dones_stay : DonesStayAlone
dones_stay = dones_stay_alone entries_come

pub each_lowers_it : EachLowersIt
each_lowers_it = whole.each_lowers_it plans_stay_alone dones_stay

pub few_are_planned : FewArePlanned
few_are_planned = whole.few_are_planned plans_stay_alone dones_stay

-- at each point of such a part the client is alone, and ready
points_are_alone : PointsAreAlone
points_are_alone c before part w v m reached rested left =
    let (a, is_a) = (potential_of (same_hash w.shared.edits.edits) m.client.remote.tree m.client.local.tree m.client.synced).some in
    let (n, there) = whole.still_there c before w m rested part v left in
    let point = whole.each_point c before w m a reached rested is_a plans_stay_alone dones_stay part v left n there in
    (n, there, point.alone, point.ready, point.edits)

pub none_is_refused : NoneIsRefused
none_is_refused = refusals.none_is_refused entries_come points_are_alone

pub few_unless_collision : FewUnlessCollision
few_unless_collision = unrefused.few_unless_collision plans_stay_alone dones_stay none_is_refused

pub batches_end_alike : BatchesEndAlike
batches_end_alike = order.batches_end_alike entries_come plans_stay_alone dones_stay none_is_refused
