use Rattle.std.proofs.Common.{◌≡◌, ◌∙◌, ◌≤◌, ◌+◌, ap, sym, subst, rules}
use Rattle.std.specs.FinMap as map
use Rattle.nuc_base.specs.Room.{room_for}
use Rattle.nuc_base.specs.Trees.{WellFormed}
use Rattle.nuc_base.proofs.Forms.{put_keeps}
use Rattle.nuc_index.specs.Indexes.{room, tree_of}
use Rattle.nuc_index.proofs.Entries.{absent}
use Rattle.nuc_index.proofs.tree.IndexTreeTreeLike.put.Goals as goal

pub returns-in-Ok-clause-tree : goal.returns-in-Ok-clause-tree
returns-in-Ok-clause-tree c =
    let done = c.exchange-before.ensures.nodes ∙ ap (λ s. map.insert s.nodes c.args.id.0 c.args.node) c.self.view_is in
    subst WellFormed (sym done) (put_keeps _ _ _ c.requires.tree c.in_ok-check_put.ensures.ok c.requires.id c.requires.fits)

pub returns-in_ok-map_err-in-Err-clause-before : goal.returns-in_ok-map_err-in-Err-clause-before
returns-in_ok-map_err-in-Err-clause-before c =
    sym (ap (λ s. map.get s.nodes c.args.id.0) (sym c.self.view_is) ∙ absent _ c.self.invariant.rise c.args.id.0 c.in-Err.at c.in-Err.ensures.place)

pub returns-in_ok-map_err-in-Err-clause-tree : goal.returns-in_ok-map_err-in-Err-clause-tree
returns-in_ok-map_err-in-Err-clause-tree c =
    let added : tree_of c.add.new.entries c.add.new.indexes ≡ map.insert (tree_of c.self.inside.entries c.self.inside.indexes) c.args.id.0 c.args.node = search rules in
    let done = added ∙ ap (λ s. map.insert s.nodes c.args.id.0 c.args.node) c.self.view_is in
    subst WellFormed (sym done) (put_keeps _ _ _ c.requires.tree c.in_ok-check_put.ensures.ok c.requires.id c.requires.fits)

pub returns-in_ok-map_err-in-Err-clause-spare : goal.returns-in_ok-map_err-in-Err-clause-spare
returns-in_ok-map_err-in-Err-clause-spare c =
    let none = returns-in_ok-map_err-in-Err-clause-before c in
    let one : room c.self.inside.entries c.self.inside.indexes ≤ room c.add.new.entries c.add.new.indexes + 1 = search rules in
    let spare = ap (λ s. s.spare) c.self.view_is in
    subst (λ o. c.args.self.now.spare ≤ room c.add.new.entries c.add.new.indexes + room_for o) none (subst (λ n. n ≤ room c.add.new.entries c.add.new.indexes + 1) spare one)
