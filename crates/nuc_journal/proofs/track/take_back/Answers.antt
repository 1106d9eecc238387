use Rattle.std.proofs.Common.{subst}
use Rattle.std.specs.Prelude.{nat_eq}
use Rattle.indexmap.specs.IndexMap.{get}
use Rattle.nuc_journal.specs.Tracks.{AreTracks}
use Rattle.nuc_journal.proofs.Kept.{before_ends, fewer_tracks, still_told, last_before, fewer_before}
use Rattle.nuc_journal.proofs.track.take_back.Goals as goal

pub restore-requires : goal.restore-requires
restore-requires c =
    let popped = c.in-Some-Some in
    let before = before_ends _ _ _ _ popped.ensures.items popped.ensures'.items c.requires.before in
    let tracks = subst (AreTracks (get nat_eq c.args.tracks.now)) popped.ensures.items c.requires.tracks in
    let own = last_before c.pop.new.self.items popped.entry c.pop-2.new.self.items popped.prior before in
    still_told c.pop.new.self.items popped.entry (get nat_eq c.args.tracks.now) popped.prior own tracks

pub returns-in-Some-Some-clause-tracks : goal.returns-in-Some-Some-clause-tracks
returns-in-Some-Some-clause-tracks c =
    let popped = c.in-Some-Some in
    let before = before_ends _ _ _ _ popped.ensures.items popped.ensures'.items c.requires.before in
    let tracks = subst (AreTracks (get nat_eq c.args.tracks.now)) popped.ensures.items c.requires.tracks in
    let own = last_before c.pop.new.self.items popped.entry c.pop-2.new.self.items popped.prior before in
    fewer_tracks c.pop.new.self.items popped.entry (get nat_eq c.args.tracks.now) (get nat_eq c.restore.new.tracks) popped.prior own c.restore.ensures.tracks tracks

pub returns-in-Some-Some-clause-before : goal.returns-in-Some-Some-clause-before
returns-in-Some-Some-clause-before c =
    let popped = c.in-Some-Some in
    fewer_before c.pop.new.self.items popped.entry c.pop-2.new.self.items popped.prior
    (before_ends _ _ _ _ popped.ensures.items popped.ensures'.items c.requires.before)
