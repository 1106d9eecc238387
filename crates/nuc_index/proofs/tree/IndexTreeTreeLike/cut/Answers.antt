use Rattle.std.proofs.Common.{◌∙◌, ap, sym, subst, MatchBool}
use Rattle.std.specs.FinMap as map
use Rattle.nuc_base.specs.Trees.{WellFormed, HasChild, NoChild}
use Rattle.nuc_base.proofs.Forms.{cut_keeps}
use Rattle.nuc_index.proofs.Children.{first_row_tells}
use Rattle.nuc_index.proofs.Entries.{absent, someone}
use Rattle.nuc_index.proofs.tree.IndexTreeTreeLike.cut.Goals as goal

pub returns-in_default-clause-fault : goal.returns-in_default-clause-fault
returns-in_default-clause-fault c = ap (λ s. map.get s.nodes c.args.id.0) (sym c.self.view_is) ∙ absent _ c.self.invariant.rise c.args.id.0 c.in_default.field-0
    c.in_default.ensures.place

pub child_at-requires-clause-full : goal.child_at-requires-clause-full
child_at-requires-clause-full c k h = c.self.invariant.slots.full k (c.self.invariant.slots.siblings k h)

pub returns-then-is_some-clause-fault : goal.returns-then-is_some-clause-fault
returns-then-is_some-clause-fault c =
    let x = c.args.id.0 in
    let ns = c.args.self.now.nodes in
    let lists = c.self.invariant.lists in
    let view = ap (λ s. s.nodes) c.self.view_is in
    let first = first_row_tells _ _ x c.child_at.result _ view lists.siblings_rise lists.siblings c.child_at.ensures in (
      someone _ c.self.invariant.rise x c.in-Ok.at c.in-Ok.ensures.place _ view,
      subst (λ b. MatchBool b (HasChild ns x) (NoChild ns x))
          (sym c.is_some.ensures ∙ c.if-is_some.true) first,
    )

pub returns-clause-ok : goal.returns-clause-ok
returns-clause-ok c =
    let x = c.args.id.0 in
    let ns = c.args.self.now.nodes in
    let lists = c.self.invariant.lists in
    let view = ap (λ s. s.nodes) c.self.view_is in
    let first = first_row_tells _ _ x c.child_at.result _ view lists.siblings_rise lists.siblings c.child_at.ensures in (
      record {
        there = someone _ c.self.invariant.rise x c.in-Ok.at c.in-Ok.ensures.place _ view;
        empty = subst (λ b. MatchBool b (HasChild ns x) (NoChild ns x)) (sym c.is_some.ensures ∙ c.if-is_some.false) first;
      },
      c.take_out.ensures.nodes ∙ ap (λ m. map.remove m x) view,
    )

pub returns-clause-tree : goal.returns-clause-tree
returns-clause-tree c form =
    let done = returns-clause-ok c in
    subst WellFormed (sym done.1) (cut_keeps _ _ form done.0)
