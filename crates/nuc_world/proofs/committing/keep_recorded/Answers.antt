use Rattle.std.proofs.Common.{◌∙◌, ap}
use Rattle.nuc_hash.specs.Content.{ContentData}
use Rattle.nuc_hash.proofs.Sizes.{blocks-content_of}
use Rattle.nuc_world.proofs.committing.keep_recorded.Goals as goal

pub keep_blocks-requires : goal.keep_blocks-requires
keep_blocks-requires c = c.blocks-2.ensures ∙ ap (λ (x : ContentData). x.blocks) c.in_ok-content.ensures ∙ blocks-content_of c.args.bytes.now
