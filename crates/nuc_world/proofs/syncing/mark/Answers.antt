use Rattle.nuc_world.proofs.Marked.{counted, is_apart, is_flying, is_quiet}
use Rattle.nuc_world.proofs.syncing.mark.Goals.{else-flying-eq0-via-then-flying-eq0+else-count-eq0, else-flying-eq0-via-else-flying-eq0}
use Rattle.nuc_world.proofs.syncing.mark.Goals as goal

pub returns-then-count-eq0 : goal.returns-then-count-eq0
returns-then-count-eq0 g c =
    let client = c.args.client.now.now in
    let is = counted client _ _ _ c.differing-count.result c.remote.ensures.nodes c.local.ensures.nodes c.synced.ensures.nodes c.differing-count.ensures in
    is_quiet client c.differing-count.result c.flying.result is c.flying.ensures c.if-flying-eq0.true c.if-count-eq0.true

pub returns-else-flying-eq0 : goal.returns-else-flying-eq0
returns-else-flying-eq0 g c =
    let client = c.args.client.now.now in
    let is = counted client _ _ _ c.differing-count.result c.remote.ensures.nodes c.local.ensures.nodes c.synced.ensures.nodes c.differing-count.ensures in (
      elim c.else-flying-eq0.branch [
        | else-flying-eq0-via-then-flying-eq0+else-count-eq0 w ↦ is_apart client c.differing-count.result c.flying.result is c.flying.ensures w.if-count-eq0.false
        | else-flying-eq0-via-else-flying-eq0 w ↦ is_flying client c.differing-count.result c.flying.result is c.flying.ensures w.if-flying-eq0.false
      ],
      is,
    )
