use Rattle.std.proofs.Common.{◌≡◌, ◌∙◌, ◌<◌, ◌++◌, [], ◌∷◌, length, take, sym, ap, subst, arith}
use Rattle.std.specs.FinMap.{insert}
use Rattle.std.proofs.lemmas.List.{take_more}
use Rattle.nuc_base.specs.Legal.{LegalPut}
use Rattle.nuc_observe.specs.Made.{ComeInTurn, IsNext, nodes_in}
use Rattle.nuc_observe.proofs.Standing.{come_push, tree_more}
use Rattle.nuc_observe.proofs.observe_trial.see_that_they_come_in_turn.Goals as goal

pub loop-next-preserved : goal.loop-next-preserved
loop-next-preserved g c =
    let nodes = c.args.nodes.now in
    let i = c.loop-next.next-index in
    let n = c.next-item.result in
    let inv = c.loop-next.invariant in
    let within : i < length nodes = omega arith in
    let put = c.in_ok-put.ensures.ok in
    let here : IsNext c.loop-next.tree.nodes n = record {
      above = c.see_that_it_is_new.ensures.above;
      absent = c.see_that_it_is_new.ensures.absent;
      legal = subst (LegalPut c.loop-next.tree.nodes n.id.0) c.in_ok-copy.ensures put.0;
      fits = c.see_that_it_is_new.ensures.fits;
    } in
    let next : IsNext (nodes_in (take i nodes)) n = subst (λ m. IsNext m n) inv.nodes here in
    record {
      nodes = put.1 ∙ (λ k. insert (inv.nodes k) n.id.0 (c.in_ok-copy.ensures k)) ∙ sym (tree_more nodes i n within c.next-item.is next.absent);
      form = c.put.ensures.tree;
      come = subst ComeInTurn (sym (take_more nodes i n within ∙ ap (λ k. take i nodes ++ k ∷ []) (sym c.next-item.is))) (come_push (take i nodes) n inv.come next);
    }
