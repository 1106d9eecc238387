use Rattle.std.proofs.Common.{◌≡◌, ◌<◌, length, refl, sym, subst, arith, rules}
use Rattle.std.proofs.lemmas.Bool.Decides.{nat_tests}
use Rattle.std.proofs.lemmas.Grind.{common_steps}
use Rattle.nuc_shelf.proofs.Shelves.{empty_is}
use Rattle.nuc_shelf.specs.Shelf.{IsShelf}
use Rattle.nuc_folder.proofs.Rounds.{begins, first_has, holds_all, lost_row}
use Rattle.nuc_folder.proofs.opening.put_all.Goals as goal

pub loop-alloc-init : goal.loop-alloc-init
loop-alloc-init c = record {
  opens = begins c.args.next_key c.args.rows.items c.args.shelf.now.now c.requires;
  settled = refl;
  shelf = subst IsShelf (sym c.requires) empty_is;
}

pub returns-then-len-before-clause-fault : goal.returns-then-len-before-clause-fault
returns-then-len-before-clause-fault c =
    let rows = c.args.rows.items in
    let rest = c.in_ok-waiting.waiting.items in
    let same : length c.in_ok-waiting.waiting.items ≡ length c.loop-alloc.waiting.items = first_of (search rules, grind (arith, common_steps, nat_tests)) in
    let some : 0 < length c.in_ok-waiting.waiting.items = first_of (search rules, grind (arith, common_steps, nat_tests)) in
    lost_row c.args.next_key rows c.put_round.new.shelf.now rest (c.in_ok-waiting.ensures.opens rows c.loop-alloc.invariant.opens) (c.in_ok-waiting.ensures.stuck same) c.index.result.now (first_has rest c.index.result.now some c.index.ensures)

pub returns-clause-ok : goal.returns-clause-ok
returns-clause-ok c =
    let long : length c.loop-alloc.waiting.items ≡ 0 = first_of (search rules, grind (arith, common_steps, nat_tests)) in
    holds_all c.args.next_key c.args.rows.items c.loop-alloc.shelf.now c.loop-alloc.waiting.items c.loop-alloc.invariant.shelf long c.loop-alloc.invariant.opens
