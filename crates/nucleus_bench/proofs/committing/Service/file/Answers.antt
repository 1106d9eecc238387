use Rattle.std.proofs.Common.{◌∙◌, ap}
use Rattle.nuc_hash.specs.Content.{ContentData, content_of}
use Rattle.nucleus_bench.proofs.committing.Service.file.Goals as goal

pub keep_blocks-requires : goal.keep_blocks-requires
unfolding content_of
keep_blocks-requires c = c.blocks-2.ensures ∙ ap (λ (d : ContentData). d.blocks) c.in_ok-content.ensures
