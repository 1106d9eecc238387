use Rattle.std.proofs.Common.{Option, Some, refl, sym, subst}
use Rattle.nuc_journal.specs.Entries.{live_revision, kind_with, kind_of}
use Rattle.nuc_journal.specs.Tracks.{Tells}
use Rattle.nuc_journal.specs.declared.track.Track.{Track}
use Rattle.nuc_journal.proofs.Ends.{track_push-same}
use Rattle.nuc_journal.proofs.track.next_track.Goals as goal

pub returns-in-Some : goal.returns-in-Some
returns-in-Some c es prior =
    let t : Option Track = Some (record { rev = c.args.entry.now.rev; kind = c.in-Some.node.kind }) in
    track_push-same es c.args.entry.now t
    (subst (λ v. Tells t (live_revision v c.args.entry.now.rev) (kind_with v (kind_of es c.args.entry.now.id.0))) (sym c.in-Some.is) (refl, refl))

pub returns-in-None : goal.returns-in-None
returns-in-None c es prior = track_push-same es c.args.entry.now c.gone.result
    (subst (λ v. Tells c.gone.result (live_revision v c.args.entry.now.rev) (kind_with v (kind_of es c.args.entry.now.id.0))) (sym c.in-None.is)
    (c.gone.ensures _ _ prior))
