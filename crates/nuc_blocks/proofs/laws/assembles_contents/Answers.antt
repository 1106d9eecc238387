use Rattle.nuc_blocks.proofs.Contents.{assembles_contents}
use Rattle.nuc_blocks.proofs.laws.assembles_contents.Goals as goal

pub returns : goal.returns
returns c = assembles_contents
