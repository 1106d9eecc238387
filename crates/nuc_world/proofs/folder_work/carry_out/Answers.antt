use Rattle.std.proofs.Common.{[], subst}
use Rattle.std.specs.Option.{unwrap_or}
use Rattle.std.specs.Prelude.{is_some}
use Rattle.nuc_filework.specs.Calls.{calls_of}
use Rattle.nuc_filework.specs.Runs.{RunsOp}
use Rattle.nuc_world.specs.Parts.{folder_view, shared_now}
use Rattle.nuc_world.specs.Takes.{bytes_for, seen_content, wanted_content}
use Rattle.nuc_world.proofs.Folders.{carried_out}
use Rattle.nuc_world.proofs.Nothing.{nothing_follows, some_and}
use Rattle.nuc_world.proofs.folder_work.carry_out.Goals as goal

pub tell-requires-clause-news : goal.tell-requires-clause-news
tell-requires-clause-news g c = nothing_follows c.args.member.now.client.now.remote

pub returns-clause-ok : goal.returns-clause-ok
returns-clause-ok g c =
    let op = c.in-Some.op.now in
    let s = shared_now c.args.shared.now in
    let runs = subst (λ keys. RunsOp keys (unwrap_or (bytes_for s op) []) (calls_of keys op (seen_content s.edits.edits op) (wanted_content s.edits.edits op) (is_some (bytes_for s op)))
    (folder_view c.args.member.now.folder) c.in_ok-ran.ran (folder_view c.work.new.folder)) c.keys.ensures c.in_ok-ran.ensures.runs in
    let out = carried_out c.args.number op s c.args.member.now.client c.tell.new.client c.args.member.now.folder c.work.new.folder c.in_ok-ran.ran
    c.in_ok-ran.ensures.known runs c.work.ensures.keeps c.in_ok-tell.ensures.ok c.tell.ensures.listing in
    some_and _ _ op c.in-Some.ensures out
