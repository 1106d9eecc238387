use Rattle.std.proofs.Common.{◌≡◌, ◌+◌, length, refl, sym, subst, rules}
use Rattle.nuc_journal.specs.Journal.{IsJournal}
use Rattle.nucleus_bench.specs.Chain.{IsChain}
use Rattle.nucleus_bench.proofs.ChainLemmas.{chain_next, chain_push}
use Rattle.nucleus_bench.proofs.journaling.push.Goals as goal

pub push-requires : goal.push-requires
push-requires c =
    let is_rev : c.in_ok-rev.rev ≡ length c.args.journal.now.now + 1 = search rules in
    chain_next c.args.journal.now.now c.in_ok-rev.rev _ c.requires is_rev refl c.last-last.ensures (refl, refl)

pub returns : goal.returns
returns c =
    let is_rev : c.in_ok-rev.rev ≡ length c.args.journal.now.now + 1 = search rules in
    let entered = c.in_ok-push.ensures.ok in
    subst IsChain (sym entered) (chain_push c.args.journal.now.now c.in_ok-rev.rev _ c.requires is_rev refl c.last-last.ensures
    (subst IsJournal entered c.in_ok-push.ensures.journal))
