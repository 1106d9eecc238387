use Rattle.std.proofs.Common.{[], take, ap, ◌≡◌}
use Rattle.std.proofs.lemmas.List.{take_all}
use Rattle.nuc_hash.specs.Content.{digest_of, joined}
use Rattle.nuc_hash.proofs.Joined.{joined-take-more}
use Rattle.nuc_hash.proofs.content.of_blocks.Goals as goal

pub loop-digest-init : goal.loop-digest-init
unfolding joined
loop-digest-init c = c.new-hasher.ensures

pub loop-digest-preserved : goal.loop-digest-preserved
loop-digest-preserved c =
    let i = c.loop-digest.digest-index in
    let fed = c.update.ensures (joined (take i c.args.digests.now)) c.loop-digest.invariant in
    rw (joined-take-more c.args.digests.now i (record { 0 = [] }) c.loop-digest-test.true) fed

pub returns : goal.returns
unfolding digest_of
returns c =
    let whole : take c.loop-digest.digest-index c.args.digests.now ≡ c.args.digests.now = take_all _ _ c.loop-digest-test.false in
    let done = c.finalize.ensures (joined c.args.digests.now) (rw whole at c.loop-digest.invariant) in
    ap (λ b. record { 0 = b }) done
