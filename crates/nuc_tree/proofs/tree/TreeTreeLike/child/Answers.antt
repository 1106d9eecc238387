use Rattle.std.proofs.Common.{ap, sym, ◌∙◌}
use Rattle.std.specs.Prelude.{slice_get}
use Rattle.nuc_tree.proofs.Views.{children_are}
use Rattle.nuc_tree.proofs.tree.TreeTreeLike.child.Goals as goal

pub returns : goal.returns
returns c = c.child_at.ensures
    ∙ ap (λ l. slice_get l c.args.i) (sym (children_are _ _ _ c.deref.ensures.value (ap (λ s. s.nodes) c.self.view_is) c.self.invariant c.args.id.0))
