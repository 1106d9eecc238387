use Rattle.nuc_flights.specs.Flights.{flight_of}
use Rattle.nuc_step.specs.Stages.{started_of}
use Rattle.nuc_world.specs.Parts.{member_now, shared_now}
use Rattle.nuc_world.proofs.Folders.{same_turn}
use Rattle.nuc_world.proofs.Uploads.{taken_as_commit}
use Rattle.nuc_world.proofs.taking.take.Goals as goal

pub returns-in_ok-commit-in-Commit-clause-ok : goal.returns-in_ok-commit-in-Commit-clause-ok
returns-in_ok-commit-in-Commit-clause-ok g c =
    let old = c.args.member.now in
    taken_as_commit c.args.log.now c.args.by c.args.number c.in-Some.op.now (started_of (flight_of c.args.number old.client.now.flights))
    c.in_ok-commit-in-Commit.commit c.is_upload-is_upload.result c.make_commit.result _ _ _ c.in-Some.ensures c.in-Commit.is c.in_ok-commit-in-Commit.ensures c.is_upload-is_upload.ensures
    (same_turn (shared_now c.make_commit.new.shared) old.client c.make_commit.new.client old.folder c.make_commit.ensures.listing)
    (c.make_commit.ensures.ok (member_now old.client old.folder))
