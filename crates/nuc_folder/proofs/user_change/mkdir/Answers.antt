use Rattle.std.proofs.Common.{subst}
use Rattle.nuc_base.specs.Trees.{Nodes}
use Rattle.nuc_paths.proofs.Following.{leads_folder}
use Rattle.nuc_shelf.specs.Shelf.{folder_at}
use Rattle.nuc_folder.specs.UserEdits.{FindsPlace}
use Rattle.nuc_folder.proofs.UserChanges.{legal_new}
use Rattle.nuc_folder.proofs.user_change.mkdir.Goals as goal

pub add_folder-requires-clause-legal : goal.add_folder-requires-clause-legal
add_folder-requires-clause-legal c =
    let m = c.args.shelf.now.now.tree in
    let names = c.args.path.now.names in
    let place = c.in_ok-place.place in
    let finds = subst (λ (m : Nodes). FindsPlace m names place) c.tree.ensures.nodes c.in_ok-place.ensures.ok in
    legal_new m c.args.key (folder_at place) c.tree.ensures.shelf.form c.requires.key c.requires.absent (leads_folder m 0 names place.parent.0 place.name finds.0) finds.1
