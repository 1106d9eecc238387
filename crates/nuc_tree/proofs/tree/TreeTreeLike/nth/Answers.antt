use Rattle.std.proofs.Common.{ap, sym, ◌∙◌}
use Rattle.std.specs.Prelude.{option_map}
use Rattle.nuc_tree.proofs.Views.{nth_is, get_within, get_past}
use Rattle.nuc_tree.proofs.tree.TreeTreeLike.nth.Goals as goal

pub returns-in-Some : goal.returns-in-Some
returns-in-Some c =
    let found = c.in-Some.ensures.lookup.3 in
    ap (option_map (λ e. e.id.0)) (sym (get_within _ _ _ found.0 found.1))
    ∙ sym (nth_is _ _ _ c.deref.ensures.value (ap (λ s. s.nodes) c.self.view_is) c.self.invariant c.args.i)

pub returns-in-None : goal.returns-in-None
returns-in-None c =
    ap (option_map (λ e. e.id.0)) (sym (get_past _ _ c.in-None.ensures.lookup.3))
    ∙ sym (nth_is _ _ _ c.deref.ensures.value (ap (λ s. s.nodes) c.self.view_is) c.self.invariant c.args.i)
