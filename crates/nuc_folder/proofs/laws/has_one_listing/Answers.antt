use Rattle.nuc_folder.proofs.OneListing.{one_listing}
use Rattle.nuc_folder.proofs.laws.has_one_listing.Goals as goal

pub returns : goal.returns
returns c = one_listing
