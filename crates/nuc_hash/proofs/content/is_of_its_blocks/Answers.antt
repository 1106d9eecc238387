use Rattle.std.proofs.Common.{refl}
use Rattle.nuc_hash.specs.Content.{content_of}
use Rattle.nuc_hash.proofs.Sizes.{count-content_of}
use Rattle.nuc_hash.proofs.content.is_of_its_blocks.Goals as goal

pub returns : goal.returns
unfolding content_of
returns c bytes = (count-content_of bytes, refl)
