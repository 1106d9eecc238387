use Rattle.std.proofs.Common.{◌∙◌, ap, arith, refl, sym}
use Rattle.std.specs.FinMap.{get}
use Rattle.nuc_step.proofs.Turned.{kept_turned}
use Rattle.nuc_step.proofs.client.Client.take_over.Goals as goal

pub invariant_of-self-2 : goal.invariant_of-self-2
invariant_of-self-2 g c =
    let inside = c.self.inside in
    let l = c.replace.new.self in
    let is = c.in_ok-replace.ensures in
    let flying = c.len-flying.ensures in
    let few = c.in_ok-changes.ensures.fits in
    let room = c.in_ok-room.ensures in
    let roomy = is.spare in
    kept_turned inside.remote inside.local l inside.synced inside.flights inside.counts
    (record { changes = c.in_ok-changes.changes; next_op = inside.counts.next_op }) inside.settled_counts
    (record {
      settled = is.settled;
      laid_then = is.laid_then;
      room = omega (arith, flying, room, roomy);
      spare_then = is.spare_then;
      still = is.still;
      untaken = λ n _. ap (λ laid. get laid n) (is.laid ∙ sym is.laid_then);
    })
    c.trees_are_sound.ensures.local refl (omega (arith, flying, few)) c.self.invariant
