use Rattle.std.proofs.Common.{sym, subst, drop}
use Rattle.nuc_replica.specs.Remote.{Follows}
use Rattle.nuc_world.proofs.News.{news_follow}
use Rattle.nuc_world.proofs.Nothing.{nothing_follows}
use Rattle.nuc_world.proofs.committing.judge.Goals as goal

pub tell-requires-clause-news : goal.tell-requires-clause-news
tell-requires-clause-news g c =
    let remote = c.args.client.now.now.remote in
    let follows = news_follow c.args.shared.now.server.now _ _ remote c.requires.at c.in-Accepted.ensures.judged.2 c.in-Accepted.ensures.journal in
    let by_cursor = subst (λ k. Follows remote (drop k c.commit.new.self.now)) (sym c.cursor.ensures) follows in
    let by_journal = subst (λ es. Follows remote (drop c.cursor.result es)) (sym c.journal.ensures.now) by_cursor in
    subst (Follows remote) (sym c.since-news.ensures) by_journal

pub tell-requires-in-Refused-clause-news : goal.tell-requires-in-Refused-clause-news
tell-requires-in-Refused-clause-news g c = nothing_follows c.args.client.now.now.remote
