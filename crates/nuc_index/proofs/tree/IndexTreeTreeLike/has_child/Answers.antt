use Rattle.std.proofs.Common.{ap, sym, subst, MatchBool}
use Rattle.nuc_base.specs.Trees.{HasChild, NoChild}
use Rattle.nuc_index.proofs.Children.{first_row_tells}
use Rattle.nuc_index.proofs.tree.IndexTreeTreeLike.has_child.Goals as goal

pub child_at-requires-clause-full : goal.child_at-requires-clause-full
child_at-requires-clause-full c k h = c.self.invariant.slots.full k (c.self.invariant.slots.siblings k h)

pub returns : goal.returns
returns c =
    let lists = c.self.invariant.lists in
    let first = first_row_tells _ _ c.args.id.0 c.child_at.result _ (ap (λ s. s.nodes) c.self.view_is) lists.siblings_rise lists.siblings c.child_at.ensures in
    subst (λ b. MatchBool b (HasChild c.args.self.now.nodes c.args.id.0) (NoChild c.args.self.now.nodes c.args.id.0)) (sym c.is_some.ensures) first
