use Rattle.std.proofs.Common.{ℕ, List, false, subst, sym}
use Rattle.nuc_base.specs.Trees.{IsVacant}
use Rattle.nuc_paths.specs.Paths.{place_in}
use Rattle.nuc_shelf.specs.Shelf.{file_at}
use Rattle.nuc_folder.proofs.UserChanges.{legal_new}
use Rattle.nuc_folder.proofs.user_change.write_new.Goals as goal

pub put_file-requires-clause-legal : goal.put_file-requires-clause-legal
put_file-requires-clause-legal c =
    let m = c.args.shelf.now.now.tree in
    let vacant = subst (λ (name : List ℕ). IsVacant m (place_in c.args.parent.0 name)) (sym c.in_ok-name.ensures) c.requires.vacant in
    legal_new m c.args.key (file_at (place_in c.args.parent.0 c.in_ok-name.name) false) c.requires.form c.requires.key c.requires.absent c.requires.folder vacant
