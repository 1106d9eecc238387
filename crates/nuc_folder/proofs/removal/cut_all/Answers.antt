use Rattle.std.proofs.Common.{◌∷◌, [], length, ap, sym, subst, ◌∙◌, arith, length-append}
use Rattle.nuc_shelf.specs.Shelf.{ShelfState}
use Rattle.nuc_folder.specs.Removals.{ChildrenLater}
use Rattle.nuc_folder.proofs.Removing.{last_empty, later_before, step_now, step_told}
use Rattle.nuc_folder.proofs.removal.cut_all.Goals as goal

pub cut-requires-clause-empty : goal.cut-requires-clause-empty
cut-requires-clause-empty c =
    let m = c.loop-key.shelf.now.tree in
    last_empty m c.pop.new.self.items c.in-Some.key (subst (ChildrenLater m) c.in-Some.ensures.items c.loop-key.invariant.later)

pub loop-key-preserved : goal.loop-key-preserved
loop-key-preserved c =
    let was = c.loop-key.invariant in
    let m = c.loop-key.shelf.now.tree in
    let rest = c.pop.new.self.items in
    let x = c.in-Some.key in
    let is = c.in-Some.ensures.items in
    let long = ap length is ∙ length-append rest (x ∷ []) in
    record {
      now = step_now c.loop-key.shelf.now c.cut.new.shelf.now c.loop-key.keys.items rest x is c.cut.ensures.now ∙ was.now;
      told = step_told c.loop-key.notices.now c.push_reserved.new.self.now c.loop-key.keys.items rest x is c.push_reserved.ensures.now ∙ was.told;
      later = subst (λ (s : ShelfState). ChildrenLater s.tree rest) (sym c.cut.ensures.now) (later_before m rest x (subst (ChildrenLater m) is was.later));
      shelf = c.cut.ensures.shelf;
      room = omega (arith, long, was.room, c.cut.ensures.spare);
      place = omega (arith, long, was.place, c.push_reserved.ensures.room);
      settled = c.cut.ensures.settled ∙ was.settled;
      settled_notices = c.push_reserved.ensures.settled ∙ was.settled_notices;
    }
