use Rattle.std.proofs.Common.{refl}
use Rattle.nuc_transfer.specs.Transfer.{HasItsContent, IsOriginal}
use Rattle.nuc_transfer.proofs.Oks.{both_ok}
use Rattle.nuc_transfer.proofs.Originals.{content_back, original_back}
use Rattle.nuc_transfer.proofs.transfer.download.Goals as goal

pub returns-clause-original : goal.returns-clause-original
returns-clause-original c =
    both_ok c.assemble.result _ _ (IsOriginal c.args.content.now) c.assemble.ensures.kept c.assemble.ensures.bytes
    (λ bytes none is. original_back c.args.store.now.now c.len-blocks.ensures.formed c.blocks-2.result.now c.args.content.now.blocks c.blocks-2.ensures none bytes is c.args.content.now refl)

pub returns-clause-content : goal.returns-clause-content
returns-clause-content c =
    both_ok c.assemble.result _ _ (HasItsContent c.args.store.now.now c.args.content.now.blocks) c.assemble.ensures.kept c.assemble.ensures.bytes
    (λ bytes none is. content_back c.args.store.now.now c.len-blocks.ensures.formed c.blocks-2.result.now c.args.content.now.blocks c.blocks-2.ensures none bytes is)
