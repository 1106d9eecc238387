use Rattle.std.proofs.Common.{◌≡◌, ◌∙◌, ◌<◌, length, take, sym, ap, subst, arith}
use Rattle.std.specs.FinMap.{insert}
use Rattle.nuc_observe.specs.Made.{IsNext, nodes_in}
use Rattle.nuc_observe.proofs.Standing.{tree_more}
use Rattle.nuc_observe.proofs.listed_tree.tree_of.Goals as goal

pub loop-next-preserved : goal.loop-next-preserved
loop-next-preserved g c =
    let nodes = c.args.nodes.now in
    let i = c.loop-next.next-index in
    let n = c.next-item.result in
    let within : i < length nodes = omega arith in
    let next : IsNext (nodes_in (take i nodes)) n = subst (IsNext (nodes_in (take i nodes))) (sym c.next-item.is) (c.requires i n within) in
    record {
      nodes =
          c.in_ok-put_legal.ensures.put
          ∙ (λ k. insert (c.loop-next.invariant.nodes k) n.id.0 (c.in_ok-copy.ensures k))
          ∙ sym (tree_more nodes i n within c.next-item.is next.absent);
      form = c.put_legal.ensures.form;
    }
