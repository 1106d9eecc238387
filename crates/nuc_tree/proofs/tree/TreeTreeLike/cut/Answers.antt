use Rattle.std.proofs.Common.{ap, sym, subst, ◌∙◌, false, true, Some}
use Rattle.nuc_base.specs.Trees.{WellFormed}
use Rattle.nuc_base.proofs.Forms.{cut_keeps}
use Rattle.nuc_tree.specs.Entries.{nodes_of, IsRising}
use Rattle.nuc_tree.proofs.Rows.{rising_remove}
use Rattle.nuc_tree.proofs.Views.{present, there, absent, parent_of_some, remove_is}
use Rattle.nuc_tree.proofs.tree.TreeTreeLike.cut.Goals as goal

pub returns-in_default-clause-fault : goal.returns-in_default-clause-fault
returns-in_default-clause-fault c = absent _ _ _ c.deref.ensures.value (ap (λ s. s.nodes) c.self.view_is) c.self.invariant _ _ c.in_default.ensures.place

pub returns-then-has_parent-clause-fault : goal.returns-then-has_parent-clause-fault
returns-then-has_parent-clause-fault c = (
  there _ _ _ c.deref.ensures.value (ap (λ s. s.nodes) c.self.view_is) c.self.invariant _ _ c.in-Ok.ensures.place,
  parent_of_some _ _ _ c.deref-2.ensures.value (ap (λ s. s.nodes) c.self.view_is) c.self.invariant true _ c.if-has_parent.ensures,
)

pub invariant_of-self : goal.invariant_of-self
invariant_of-self c = subst IsRising (sym c.remove-node.ensures.items) (rising_remove _ _ c.self.invariant)

pub returns-clause-ok : goal.returns-clause-ok
returns-clause-ok c = (
  record {
    there = there _ _ _ c.deref.ensures.value (ap (λ s. s.nodes) c.self.view_is) c.self.invariant _ _ c.in-Ok.ensures.place;
    empty = parent_of_some _ _ _ c.deref-2.ensures.value (ap (λ s. s.nodes) c.self.view_is) c.self.invariant false _ c.if-has_parent.ensures;
  },
  ap nodes_of c.remove-node.ensures.items ∙ remove_is _ _ _ c.deref.ensures.value (ap (λ s. s.nodes) c.self.view_is) c.self.invariant _ _ c.in-Ok.ensures.place,
)

pub returns-clause-node : goal.returns-clause-node
returns-clause-node c = present _ _ _ c.deref.ensures.value (ap (λ s. s.nodes) c.self.view_is) c.self.invariant _ _ c.remove-node.result c.in-Ok.ensures.place
    ∙ ap (λ e. Some e.node) (sym c.remove-node.ensures.value)

pub returns-clause-tree : goal.returns-clause-tree
returns-clause-tree c form =
    let done = returns-clause-ok c in
    subst WellFormed (sym done.1) (cut_keeps _ _ form done.0)
