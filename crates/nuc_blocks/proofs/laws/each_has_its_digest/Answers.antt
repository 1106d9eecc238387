use Rattle.nuc_blocks.proofs.Formed.{found_block}
use Rattle.nuc_blocks.proofs.laws.each_has_its_digest.Goals as goal

pub returns : goal.returns
returns c blocks formed = found_block blocks formed.each
