use Rattle.std.proofs.Common.{◌≡◌, ◌-◌, [], ◌∷◌, ◌++◌, length, sym, ◌∙◌, ap, subst, arith, length-append}
use Rattle.nuc_base.specs.Trees.{WellFormed}
use Rattle.nuc_journal.proofs.Journals.{form_at}
use Rattle.nuc_server.proofs.Undoing.{step_back}
use Rattle.nuc_server.proofs.server.LoopServer.back.Goals as goal

pub take_back-requires-clause-form : goal.take_back-requires-clause-form
take_back-requires-clause-form c = subst WellFormed (sym c.loop-undo.invariant.tree) (form_at _ _ c.self.invariant.journal)

pub take_back-requires-clause-undoable : goal.take_back-requires-clause-undoable
take_back-requires-clause-undoable c =
    (step_back c.self.inside.journal.now (length c.self.inside.journal.now - length c.self.inside.undos.items) c.loop-undo.self-inside.undos.items c.pop.new.self.items c.in-Some.undo
    c.loop-undo.self-inside.tree.nodes c.self.invariant.journal c.loop-undo.invariant.tree c.loop-undo.invariant.undone c.in-Some.ensures.items).able

pub loop-undo-preserved : goal.loop-undo-preserved
loop-undo-preserved c =
    let items : c.loop-undo.self-inside.undos.items ≡ c.pop.new.self.items ++ c.in-Some.undo ∷ [] = c.in-Some.ensures.items in
    let size = ap length items ∙ length-append c.pop.new.self.items (c.in-Some.undo ∷ []) in
    let before = c.loop-undo.invariant.room in
    let spent = c.take_back.ensures.spare in
    let step = step_back c.self.inside.journal.now (length c.self.inside.journal.now - length c.self.inside.undos.items) c.loop-undo.self-inside.undos.items c.pop.new.self.items c.in-Some.undo
    c.loop-undo.self-inside.tree.nodes c.self.invariant.journal c.loop-undo.invariant.tree c.loop-undo.invariant.undone items in
    record {
      journal = c.loop-undo.invariant.journal;
      ready = c.loop-undo.invariant.ready;
      tree = c.take_back.ensures.nodes ∙ step.next;
      undone = step.rest;
      room = omega arith;
    }
