use Rattle.std.proofs.Common.{◌≡◌, Some, refl, ap, sym, subst, ◌∙◌}
use Rattle.std.specs.FinMap.{get, insert}
use Rattle.nuc_base.specs.Trees.{WellFormed}
use Rattle.nuc_base.specs.declared.node.Node.{Node}
use Rattle.nuc_base.proofs.Maps.{one_node}
use Rattle.nuc_shelf.specs.Shelf.{ShelfState, placed}
use Rattle.nuc_shelf.proofs.Shelves.{put_node, shelf_at}
use Rattle.nuc_shelf.proofs.shelf.Shelf.move_to.Goals as goal

pub invariant_of-self-2 : goal.invariant_of-self-2
invariant_of-self-2 c =
    let s : ShelfState = record { tree = c.self.inside.tree.now; bytes = c.self.inside.files.now } in
    let x = c.args.key in
    let k = c.in-Some.node.now in
    let at : get s.tree x ≡ Some k = sym (c.in-Some.ensures ∙ ap (λ m. get m x) c.tree.ensures.nodes) in
    let n : Node = placed c.args.place k in
    let put = c.in_ok-put.ensures.ok ∙ ap (insert s.tree x) c.moved_to-node.ensures in
    let is =
    put_node s x n c.self.invariant.0 (subst WellFormed put c.put.ensures.form) (c.self.invariant.0.versions x k at)
    (λ h e. ap (λ (j : Node). j.kind) (one_node s.tree x h k e at)) (λ file. (k, at, file))
    in
    (shelf_at _ _ _ _ put refl is, shelf_at _ _ _ _ c.put.ensures.settled refl c.self.invariant.1)

pub returns-clause-shelf : goal.returns-clause-shelf
returns-clause-shelf c = (invariant_of-self-2 c).0
