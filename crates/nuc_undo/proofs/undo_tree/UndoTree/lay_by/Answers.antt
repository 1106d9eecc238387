use Rattle.std.proofs.Common.{◌≡◌, OnOk, reverse, ap, sym, subst, ◌∙◌}
use Rattle.std.specs.FinMap.{get, insert}
use Rattle.nuc_undo.specs.Laid.{Laid}
use Rattle.nuc_undo.specs.Undo.{laid_first}
use Rattle.nuc_undo.proofs.Stocks.{fits_or_not, laid_then, lays_by_or_not}
use Rattle.nuc_undo.proofs.undo_tree.UndoTree.lay_by.Goals as goal

pub invariant_of-self : goal.invariant_of-self
invariant_of-self g c =
    let was = c.self.invariant in
    let is = c.self.view_is in
    let done = c.lay_by.ensures in
    record {
      form = was.form;
      undos = was.undos;
      owed = was.owed;
      room = was.room;
      away = lays_by_or_not c.lay_by.result _ _ c.self.inside.stock c.lay_by.new.self c.args.number c.args.node was.away
          (ap (λ s. get s.laid c.args.number) is ∙ c.requires.free ∙ sym (ap (λ s. get s.laid_then c.args.number) is)) done.ok done.err done.numbers;
      fits = fits_or_not c.lay_by.result c.self.inside.stock.laid c.lay_by.new.self.laid c.args.number c.args.node was.fits c.requires.fits done.ok done.err;
    }

pub returns-clause-laid_then : goal.returns-clause-laid_then
returns-clause-laid_then g c =
    let is = c.self.view_is in
    let done = c.lay_by.ensures in
    let now = g.T.TreeLike.nodes c.self.inside.tree in
    subst (λ (l : Laid). OnOk c.lay_by.result (laid_first now (reverse c.self.inside.steps.items) c.lay_by.new.self.laid ≡ insert l c.args.number c.args.node)) (ap (λ s. s.laid_then) is)
    (laid_then c.lay_by.result _ _ c.self.inside.stock c.lay_by.new.self c.args.number c.args.node c.self.invariant.away
    (ap (λ s. get s.laid c.args.number) is ∙ c.requires.free ∙ sym (ap (λ s. get s.laid_then c.args.number) is)) done.ok done.numbers)
