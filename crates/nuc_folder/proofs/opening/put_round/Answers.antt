use Rattle.std.proofs.Common.{◌≡◌, ◌+◌, ◌++◌, ◌∷◌, [], length, ap, sym, subst, ◌∙◌, arith, length-append}
use Rattle.std.proofs.lemmas.Grind.{common_steps}
use Rattle.std.proofs.lemmas.Result.{err_from_is_err_and}
use Rattle.nuc_folder.specs.Shelves.{AreStuck}
use Rattle.nuc_folder.proofs.Rounds.{round_fault, round_put, round_wait, stuck_end}
use Rattle.nuc_folder.proofs.opening.put_round.Goals as goal

pub returns-in_err-put_row-clause-fault : goal.returns-in_err-put_row-clause-fault
returns-in_err-put_row-clause-fault c = λ rows begun.
    let was = c.loop-row.invariant in
    let p = err_from_is_err_and c.from_residual.result c.from_residual.ensures.1 in
    rw (p.1, p.2) (round_fault c.args.next_key rows c.loop-row.shelf.now c.in-Some.row c.loop-row.waiting.items c.pop.new.self.items c.loop-row.rest.items c.in-Some.ensures.items (was.opens rows begun) _ c.in_err-put_row.ensures.fault)

pub loop-row-preserved-in_ok-put_row : goal.loop-row-preserved-in_ok-put_row
loop-row-preserved-in_ok-put_row c =
    let was = c.loop-row.invariant in
    let pop = c.in-Some.ensures.items in
    let long = ap length pop ∙ length-append c.pop.new.self.items (c.in-Some.row ∷ []) in
    record {
      opens = λ rows begun. round_put c.args.next_key rows c.loop-row.shelf.now c.in-Some.row c.loop-row.waiting.items c.pop.new.self.items c.loop-row.rest.items pop (was.opens rows begun) c.put_row.new.shelf.now was.shelf c.in_ok-put_row.ensures.ok;
      shorter = omega (arith, long, was.shorter);
      stuck = λ same. absurd (omega (arith, long, was.shorter, same));
      settled = c.put_row.ensures.settled ∙ was.settled;
      shelf = c.put_row.ensures.shelf;
    }

pub loop-row-preserved-in_ok-put_row-2 : goal.loop-row-preserved-in_ok-put_row-2
loop-row-preserved-in_ok-put_row-2 c =
    let was = c.loop-row.invariant in
    let pop = c.in-Some.ensures.items in
    let long = ap length pop ∙ length-append c.pop.new.self.items (c.in-Some.row ∷ []) in
    record {
      opens = λ rows begun. round_put c.args.next_key rows c.loop-row.shelf.now c.in-Some.row c.loop-row.waiting.items c.pop.new.self.items c.loop-row.rest.items pop (was.opens rows begun) c.put_row.new.shelf.now was.shelf c.in_ok-put_row.ensures.ok;
      shorter = omega (arith, long, was.shorter);
      stuck = λ same. absurd (omega (arith, long, was.shorter, same));
      settled = c.put_row.ensures.settled ∙ was.settled;
      shelf = c.put_row.ensures.shelf;
    }

pub loop-row-preserved : goal.loop-row-preserved
loop-row-preserved c =
    let was = c.loop-row.invariant in
    let pop = c.in-Some.ensures.items in
    let long = ap length pop ∙ length-append c.pop.new.self.items (c.in-Some.row ∷ []) in
    let push : c.push.new.self.items ≡ c.loop-row.rest.items ++ c.in-Some.row ∷ [] = grind (arith, common_steps) in
    let more = ap length push ∙ length-append c.loop-row.rest.items (c.in-Some.row ∷ []) in
    record {
      opens = λ rows begun. round_wait c.args.next_key rows c.loop-row.shelf.now c.in-Some.row c.loop-row.waiting.items c.pop.new.self.items c.loop-row.rest.items pop (was.opens rows begun) c.push.new.self.items push;
      shorter = omega (arith, long, more, was.shorter);
      stuck = λ same. subst (AreStuck c.loop-row.shelf.now.tree) (sym push) (stuck_end c.loop-row.shelf.now.tree c.loop-row.rest.items c.in-Some.row (was.stuck (omega (arith, long, more, same))) c.if-has_parent.ensures);
      settled = was.settled;
      shelf = was.shelf;
    }
