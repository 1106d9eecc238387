use Rattle.std.proofs.Common.{sym, subst}
use Rattle.nuc_base.specs.Legal.{LegalPut}
use Rattle.nuc_base.specs.declared.node.Place.{Place}
use Rattle.nuc_shelf.specs.Shelf.{file_at, folder_at}
use Rattle.nuc_folder.specs.State.{place_of}
use Rattle.nuc_folder.proofs.Rounds.{legal_new}
use Rattle.nuc_folder.proofs.opening.put_row.Goals as goal

pub add_file-put-requires-clause-legal : goal.add_file-put-requires-clause-legal
add_file-put-requires-clause-legal c =
    let m = c.args.shelf.now.now.tree in
    let key = c.args.row.now.key.0 in
    let bit = c.args.row.now.bit in
    let fit = c.in_ok-check_row.ensures.ok in
    let legal = legal_new m key (file_at (place_of c.args.row.now.place) bit) c.in_ok-check_row.ensures.shelf.form fit.1.0 fit.0 c.requires c.if-is_taken.ensures.value in
    subst (λ (p : Place). LegalPut m key (file_at p bit)) (sym c.in-Ok.ensures) legal

pub add_folder-put-requires-clause-legal : goal.add_folder-put-requires-clause-legal
add_folder-put-requires-clause-legal c =
    let m = c.args.shelf.now.now.tree in
    let key = c.args.row.now.key.0 in
    let fit = c.in_ok-check_row.ensures.ok in
    let legal = legal_new m key (folder_at (place_of c.args.row.now.place)) c.in_ok-check_row.ensures.shelf.form fit.1.0 fit.0 c.requires c.if-is_taken.ensures.value in
    subst (λ (p : Place). LegalPut m key (folder_at p)) (sym c.in-Ok.ensures) legal
