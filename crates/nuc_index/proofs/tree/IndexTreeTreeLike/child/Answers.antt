use Rattle.std.proofs.Common.{ap, sym, ◌∙◌}
use Rattle.std.specs.Prelude.{slice_get}
use Rattle.nuc_base.specs.Trees.{children}
use Rattle.nuc_index.proofs.Children.{children_are}
use Rattle.nuc_index.proofs.tree.IndexTreeTreeLike.child.Goals as goal

pub child_at-requires-clause-full : goal.child_at-requires-clause-full
child_at-requires-clause-full c k h = c.self.invariant.slots.full k (c.self.invariant.slots.siblings k h)

pub returns : goal.returns
returns c =
    let lists = c.self.invariant.lists in
    c.child_at.ensures
    ∙ ap (λ l. slice_get l c.args.i) (sym (children_are c.args.id.0 _ _ lists.siblings_rise lists.siblings))
    ∙ ap (λ s. slice_get (children s.nodes c.args.id.0) c.args.i) c.self.view_is
