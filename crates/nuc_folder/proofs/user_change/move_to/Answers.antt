use Rattle.std.proofs.Common.{subst, MatchBool}
use Rattle.nuc_base.specs.Trees.{Nodes, IsUnder}
use Rattle.nuc_paths.proofs.Following.{leads_folder}
use Rattle.nuc_folder.specs.UserEdits.{Finds, FindsPlace, MoveRefused}
use Rattle.nuc_folder.proofs.UserChanges.{legal_moved, still_refused}
use Rattle.nuc_folder.proofs.user_change.move_to.Goals as goal

pub returns-in-Err-clause-refused : goal.returns-in-Err-clause-refused
returns-in-Err-clause-refused c =
    let from = c.args.from.now.names in
    let to = c.args.to.now.names in
    subst (λ (m : Nodes). MoveRefused m from to c.in-Err.reply) c.tree-tree.ensures.nodes
    (still_refused c.tree-tree.result.now.nodes from to c.in-Err.reply (c.in-Some.id.0, c.in-Some.field-0-1.now, c.in-Some.ensures) c.in-Err.ensures.refused)

pub move_to-requires : goal.move_to-requires
move_to-requires c =
    let m = c.args.shelf.now.now.tree in
    let x = c.in-Some.id.0 in
    let n = c.in-Some.field-0-1.now in
    let place = c.in-Ok.place in
    let found = subst (λ (m : Nodes). Finds m c.args.from.now.names x n) c.tree-tree.ensures.nodes c.in-Some.ensures in
    let vacant = subst (λ (m : Nodes). FindsPlace m c.args.to.now.names place) c.tree-tree.ensures.nodes c.in-Ok.ensures.ok in
    let never = subst (λ b. MatchBool b (IsUnder c.tree-tree.result.now.nodes place.parent.0 x) (¬ (IsUnder c.tree-tree.result.now.nodes place.parent.0 x))) c.if-under.false c.under.ensures in
    let apart = subst (λ (m : Nodes). ¬ (IsUnder m place.parent.0 x)) c.tree-tree.ensures.nodes never in
    (n, found.2, legal_moved m x n place found.2 (leads_folder m 0 c.args.to.now.names place.parent.0 place.name vacant.0) vacant.1 apart)
