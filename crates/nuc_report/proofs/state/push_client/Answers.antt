use Rattle.std.proofs.Common.{◌++◌, ◌∷◌, [], codes}
use Rattle.std.specs.Fmt.{decimal}
use Rattle.std.specs.List.{flat_map}
use Rattle.std.specs.String.{string_bytes}
use Rattle.nuc_report.specs.Entry.{item_line}
use Rattle.nuc_report.specs.Line.{line}
use Rattle.nuc_report.specs.Report.{tree_text}
use Rattle.nuc_report.proofs.Walk.{pushed_nine, tree_pushed}
use Rattle.nuc_report.proofs.state.push_client.Goals as goal

pub returns : goal.returns
returns g c =
    let client = c.args.client.now.now in
    let head = rw (c.as_str.ensures.value, c.in_ok-head.ensures.ok, c.cursor-cursor.ensures, c.changes-changes.ensures) at c.in_ok-push_str.ensures.bytes in
    let remote = tree_pushed _ _ _ _ c.remote.ensures.nodes c.in_ok-push_tree.ensures in
    let local = tree_pushed _ _ _ _ c.local.ensures.nodes c.in_ok-push_tree-2.ensures in
    let synced = tree_pushed _ _ _ _ c.synced.ensures.nodes c.in_ok-push_tree-3.ensures in
    pushed_nine (string_bytes c.args.text.now)
    (line (codes "client" ∷ decimal c.args.number ∷ decimal client.remote.cursor ∷ decimal client.changes ∷ []))
    (line (codes "remote" ∷ [])) (tree_text client.remote.tree)
    (line (codes "local" ∷ [])) (tree_text client.local.tree)
    (line (codes "synced" ∷ [])) (tree_text client.synced)
    (line (codes "folder" ∷ [])) (flat_map item_line c.args.items.now)
    _ _ _ _ _ _ _ _ _
    head c.in_ok-push_str-2.ensures.bytes remote c.in_ok-push_str-3.ensures.bytes local
    c.in_ok-push_str-4.ensures.bytes synced c.in_ok-push_str-5.ensures.bytes c.in_ok-push_items.ensures
