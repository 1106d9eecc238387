use Rattle.std.proofs.Common.{set, Some, ◌≡◌, ◌+◌, ap, sym, subst, ◌∙◌, arith, vec_len}
use Rattle.std.specs.List.{insert}
use Rattle.std.proofs.lemmas.Grind.{common_steps}
use Rattle.nuc_base.specs.Trees.{WellFormed}
use Rattle.nuc_base.proofs.Forms.{put_keeps}
use Rattle.nuc_tree.specs.Entries.{nodes_of, IsRising}
use Rattle.nuc_tree.proofs.Rows.{entry_of}
use Rattle.nuc_tree.proofs.Views.{absent, present, set_is, set_rises, insert_is, insert_rises}
use Rattle.nuc_tree.proofs.tree.TreeTreeLike.put.Goals as goal

pub invariant_of-self : goal.invariant_of-self
invariant_of-self c = subst (λ e. IsRising (set c.self.inside.entries.items c.in-Ok.at e)) (sym c.replace-node.ensures.after) (set_rises _ _ _ c.deref.ensures.value (ap (λ s. s.nodes) c.self.view_is) c.self.invariant _ _ _ c.in-Ok.ensures.place)

pub returns-in-Ok-clause-ok : goal.returns-in-Ok-clause-ok
returns-in-Ok-clause-ok c = (
  c.in_ok-check_put.ensures.ok,
  ap (λ e. nodes_of (set c.self.inside.entries.items c.in-Ok.at e)) c.replace-node.ensures.after ∙ set_is _ _ _ c.deref.ensures.value (ap (λ s. s.nodes) c.self.view_is) c.self.invariant _ _ _ c.in-Ok.ensures.place,
)

pub returns-in-Ok-clause-tree : goal.returns-in-Ok-clause-tree
returns-in-Ok-clause-tree c =
    let done = returns-in-Ok-clause-ok c in
    subst WellFormed (sym done.1) (put_keeps _ _ _ c.requires.tree done.0 c.requires.id c.requires.fits)

pub returns-in-Ok-clause-before : goal.returns-in-Ok-clause-before
returns-in-Ok-clause-before c =
    ap (λ e. Some e.node) (c.replace-node.ensures.value ∙ c.index_mut.ensures.value)
    ∙ sym (present _ _ _ c.deref.ensures.value (ap (λ s. s.nodes) c.self.view_is) c.self.invariant _ _ c.index_mut.result.now c.in-Ok.ensures.place)

pub returns-in_ok-map_err-in-Err-clause-before : goal.returns-in_ok-map_err-in-Err-clause-before
returns-in_ok-map_err-in-Err-clause-before c = sym (absent _ _ _ c.deref.ensures.value (ap (λ s. s.nodes) c.self.view_is) c.self.invariant _ _ c.in-Err.ensures.place)

pub invariant_of-self-in-Err : goal.invariant_of-self-in-Err
invariant_of-self-in-Err c =
    let items : c.insert.new.self.items ≡ insert c.self.inside.entries.items c.in-Err.at (entry_of c.args.id.0 c.args.node) = grind (arith, common_steps) in
    subst IsRising (sym items) (insert_rises _ _ _ c.deref.ensures.value (ap (λ s. s.nodes) c.self.view_is) c.self.invariant _ _ _ c.in-Err.ensures.place)

pub returns-in_ok-map_err-in-Err-clause-ok : goal.returns-in_ok-map_err-in-Err-clause-ok
returns-in_ok-map_err-in-Err-clause-ok c =
    let items : c.insert.new.self.items ≡ insert c.self.inside.entries.items c.in-Err.at (entry_of c.args.id.0 c.args.node) = grind (arith, common_steps) in (
      c.in_ok-check_put.ensures.ok,
      ap nodes_of items ∙ insert_is _ _ _ c.deref.ensures.value (ap (λ s. s.nodes) c.self.view_is) c.self.invariant _ _ _ c.in-Err.ensures.place,
    )

pub returns-in_ok-map_err-in-Err-clause-tree : goal.returns-in_ok-map_err-in-Err-clause-tree
returns-in_ok-map_err-in-Err-clause-tree c =
    let done = returns-in_ok-map_err-in-Err-clause-ok c in
    subst WellFormed (sym done.1) (put_keeps _ _ _ c.requires.tree done.0 c.requires.id c.requires.fits)

pub returns-in_ok-map_err-in-Err-clause-spare : goal.returns-in_ok-map_err-in-Err-clause-spare
returns-in_ok-map_err-in-Err-clause-spare c =
    let none = absent _ _ _ c.deref.ensures.value (ap (λ s. s.nodes) c.self.view_is) c.self.invariant _ _ c.in-Err.ensures.place in
    let len : vec_len c.insert.new.self ≡ vec_len c.self.inside.entries + 1 = grind (arith, common_steps) in
    let spare = ap (λ s. s.spare) c.self.view_is in
    rw none (omega (arith, c.insert.ensures.capacity))
