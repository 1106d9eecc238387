use Rattle.std.proofs.Common.{◌≡◌, ◌<◌, ◌+◌, ◌∙◌, ◌∷◌, length, map, reverse, refl, [], ap, sym, subst, arith}
use Rattle.std.proofs.lemmas.List.{length-append}
use Rattle.nuc_base.specs.Kinds.{FitsKind}
use Rattle.nuc_base.specs.Ready.{LegalInTurn, all_changed}
use Rattle.nuc_replica.specs.Renaming.{change_of}
use Rattle.nuc_replica.proofs.InPlace.{all_before, last_first, rewritten_more}
use Rattle.nuc_replica.proofs.renaming.put_all.Goals as goal

pub loop-moved-preserved : goal.loop-moved-preserved
loop-moved-preserved g c =
    let old = c.loop-moved.moves.items in
    let new = c.pop.new.self.items in
    let one = c.in-Some.moved in
    let is = c.in-Some.ensures.items in
    let inv = c.loop-moved.invariant in
    let size : length old ≡ length new + 1 = ap length is ∙ length-append new (one ∷ []) in
    let order = last_first old new one is in
    let legal = subst (LegalInTurn c.loop-moved.tree.now) order inv.legal in
    record {
      some = all_before (λ moved. 0 < moved.id.0) old new one is inv.some;
      fits = all_before (λ moved. FitsKind moved.node) old new one is inv.fits;
      legal = subst (λ k. LegalInTurn k (reverse (map change_of new))) (sym c.put_one.ensures.now) legal.1;
      after = ap (λ k. all_changed k (reverse (map change_of new))) c.put_one.ensures.now ∙ sym (ap (all_changed c.loop-moved.tree.now) order) ∙ inv.after;
      room = omega (arith, size, inv.room, c.put_one.ensures.rewritten.spare);
      rewritten = (
        inv.rewritten.0 + 1,
        omega (arith, size, inv.rewritten.1),
        rewritten_more inv.rewritten.0 1 (inv.rewritten.0 + 1) c.args.tree.now c.loop-moved.tree c.put_one.new.tree refl inv.rewritten.2 c.put_one.ensures.rewritten,
      );
    }
