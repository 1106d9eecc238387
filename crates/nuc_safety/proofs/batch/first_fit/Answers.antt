use Rattle.std.proofs.Common.{◌≡◌, [], ◌++◌, refl, sym, subst, ◌∙◌}
use Rattle.std.proofs.lemmas.List.{append-nil, map-id}
use Rattle.std.proofs.lemmas.Iterator.Adapters.{YieldsList-from_vec}
use Rattle.std.proofs.lemmas.Iterator.Consumers.{YieldsList-end}
use Rattle.nuc_base.specs.Trees.{Nodes}
use Rattle.nuc_safety.specs.FirstFit.{FirstFit}
use Rattle.nuc_safety.proofs.Batches.{first_fit_batch, in_every_order}
use Rattle.nuc_safety.proofs.Taking.{is_few, is_part, settled, some_taken}
use Rattle.nuc_safety.proofs.batch.first_fit.Goals as goal

pub returns : goal.returns
returns g c =
    let r : Nodes = g.T.TreeLike.nodes c.args.r.now in
    let l : Nodes = g.T.TreeLike.nodes c.args.l.now in
    let s : Nodes = g.T.TreeLike.nodes c.args.s.now in
    let due = c.args.due.items in
    let batch = c.loop-op.taken in
    let gives = c.into_iter-op-iterator.ensures.into_iter_gives in
    let offered = YieldsList-end (YieldsList-from_vec {s = c.into_iter-op-iterator.result} due gives.0 (gives.1 ∙ c.args.due.ok.0)) c.loop-op.yielded c.loop-op.op-iterator c.loop-op.yielded_by c.next.result c.next.new.self c.in-None.is c.next.ensures.steps in
    let whole : c.loop-op.yielded ++ [] ≡ due = append-nil c.loop-op.yielded ∙ sym (map-id c.loop-op.yielded) ∙ offered.0 in
    let fit : FirstFit r l s due batch = subst (λ ops. FirstFit r l s ops batch) whole (c.loop-op.invariant [] batch refl) in
    let is = first_fit_batch r l s due batch c.requires.due fit in
    record {
      first_fit = fit;
      batch = is;
      orders = in_every_order r l s batch c.requires.remote c.requires.local c.requires.synced is;
      settled = settled r l s due batch fit;
      part = is_part r l s due batch fit;
      few = is_few r l s due batch fit;
      some = some_taken r l s due batch fit;
    }
