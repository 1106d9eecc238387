use Rattle.std.proofs.Common.{drop, subst, sym, take}
use Rattle.nuc_replica.specs.Remote.{Follows}
use Rattle.nuc_replica.proofs.Journaled.{next_entries_follow}
use Rattle.nuc_world.proofs.syncing.pull.Goals as goal

pub pull-requires : goal.pull-requires
pull-requires g c =
    let remote = c.args.member.now.client.now.remote in
    let follows = next_entries_follow c.args.shared.now.server.now remote 64 c.journal.ensures.journal c.requires in
    let by_cursor = subst (λ k. Follows remote (take 64 (drop k c.args.shared.now.server.now))) (sym c.cursor.ensures) follows in
    let by_journal = subst (λ es. Follows remote (take 64 (drop c.cursor.result es))) (sym c.journal.ensures.now) by_cursor in
    subst (Follows remote) (sym c.page-page.ensures) by_journal
