-- Each operation succeeds in a folder that matches Local.
use Rattle.std.proofs.Common.{◌≡◌, Some, subst}
use Rattle.std.specs.FinMap.{get}
use Rattle.nuc_base.proofs.Maps.{not_both}
use Rattle.nuc_follow.specs.Laws.{AlteringSucceeds, CuttingSucceeds, MakingSucceeds, SplittingSucceeds}
use Rattle.nuc_follow.proofs.Altered.{alter_follows}
use Rattle.nuc_follow.proofs.Cutting.{cut_follows}
use Rattle.nuc_follow.proofs.LocalKept.{cut_local, made_local, split_local}
use Rattle.nuc_follow.proofs.Making.{make_follows}
use Rattle.nuc_follow.proofs.Shown.{node_there}
use Rattle.nuc_follow.proofs.Splitting.{split_follows}

pub followed_altering : AlteringSucceeds
followed_altering es bytes own l x old new seen wanted given v s ran w = alter_follows es bytes own l x old new seen wanted given v s ran w

pub followed_cutting : CuttingSucceeds
followed_cutting es bytes own l x old seen wanted given v s ran w steady is at legal agree contents runs room =
    cut_follows es bytes own l x old seen v s ran w steady is at legal (cut_local l x old is.local at legal) agree contents runs room

pub followed_making : MakingSucceeds
followed_making es bytes own l x n seen wanted given v s ran w steady is some absent legal fits below agree contents runs room =
    make_follows es bytes own l x n seen wanted given v s ran w absent legal steady is fits below
    (λ k above none. made_local l x k n is.local some legal fits above (λ y held.
    let stands = node_there es l s is y k held in not_both s.tree k _ none (is.held y k stands.0 held stands.1).node)) agree contents runs room

pub followed_splitting : SplittingSucceeds
followed_splitting es bytes own l x z old place v s ran w steady is some at new legal cut agree runs room =
    split_follows es bytes own l x z old place at new legal cut v s ran w steady is
    (λ k key. split_local l x z k old (record old { place = place }) is.local some (λ same. not_both l.tree z old new (subst (λ y. get l.tree y ≡ Some old) same at)) at key legal
    (is.local.form.fits x old at) cut) agree runs room
