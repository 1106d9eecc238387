-- Names, sizes and kinds, put together.
use Rattle.nuc_fit.specs.Laws.{FoldersAreFit}
use Rattle.nuc_fit.proofs.KindsAgree.{kinds_agree}
use Rattle.nuc_fit.proofs.Names.{names_are_names}
use Rattle.nuc_fit.proofs.Sizes.{files_are_short}

pub folders_are_fit : FoldersAreFit
folders_are_fit log w c m few keeps reached was = record {
  names = names_are_names log w c m few keeps reached was;
  short = files_are_short log w c m keeps reached was;
  kinds = kinds_agree log w c m keeps reached was;
}
