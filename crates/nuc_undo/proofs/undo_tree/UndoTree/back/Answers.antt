use Rattle.std.proofs.Common.{ap, sym, ◌∙◌, arith, length}
use Rattle.nuc_undo.specs.State.{earliest}
use Rattle.nuc_undo.proofs.undo_tree.UndoTree.back.Goals as goal

pub returns-clause-back : goal.returns-clause-back
returns-clause-back g c =
    let (settled, same) = c.loop-test.ensures.last in
    let none = ap length settled.past in
    let more = c.loop.invariant.spare in
    let spare = ap (λ s. s.spare) same in
    record {
      now = ap (λ s. s.now) same ∙ sym (ap (earliest c.loop.self.now) settled.past) ∙ c.loop.invariant.settled;
      past = ap (λ s. s.past) same ∙ settled.past;
      spare = omega arith;
      laid = ap (λ s. s.laid) same ∙ sym settled.laid ∙ c.loop.invariant.laid_then;
      laid_then = ap (λ s. s.laid_then) same ∙ c.loop.invariant.laid_then;
    }
