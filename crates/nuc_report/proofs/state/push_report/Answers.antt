use Rattle.std.proofs.Common.{◌++◌, ◌∷◌, [], codes, length, refl}
use Rattle.std.specs.Fmt.{decimal}
use Rattle.nuc_journal.specs.Entries.{tree_of}
use Rattle.nuc_report.specs.Report.{Seen}
use Rattle.nuc_report.proofs.Walk.{pushed_five, tree_pushed}
use Rattle.nuc_report.proofs.state.push_report.Goals as goal

pub returns : goal.returns
returns g c =
    let view = c.args.view.now in
    let clients = c.in_ok-push_members.ensures in
    let seen : Seen =
    record {
      revision = length view.server.now.now;
      server = tree_of view.server.now.now;
      clients = clients.0;
      edits = view.edits.now.now.edits;
      adoptions = view.edits.now.now.adoptions;
    } in
    let head = rw (c.as_str.ensures.value, c.in_ok-head.ensures.ok, c.last-revision.ensures, c.journal.ensures.now) at c.in_ok-push_str.ensures.bytes in
    let server = tree_pushed _ _ _ _ c.tree.ensures.nodes c.in_ok-push_tree.ensures in (
      seen,
      record { revision = refl; server = refl; clients = clients.1; edits = refl; adoptions = refl },
      pushed_five _ (codes "report" ++ 10 ∷ codes "server " ++ (decimal seen.revision ++ 10 ∷ [])) _ _ _ _ _ _ _ _ _
          head server clients.2 c.in_ok-push_edits.ensures c.in_ok-push_adoptions.ensures,
    )
