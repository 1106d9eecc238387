use Rattle.std.specs.Prelude.{All}
use Rattle.std.proofs.Common.{take}
use Rattle.nuc_undo.specs.Steps.{KeepsTree}
use Rattle.nuc_step.specs.Launch.{LaidOver}
use Rattle.nuc_step.specs.Sound.{IsLaid}
use Rattle.nuc_step.proofs.launch.lay_synced.Given as goal

abbrev pub invariant-loop-op : goal.invariant-loop-op
invariant-loop-op g l = record {
  laid : All (λ op. IsLaid l.synced.laid op.number op.synced) (take l.op-index l.ops);
  over : LaidOver l.ops l.initial.synced.laid l.initial.synced.laid_then l.synced.laid l.synced.laid_then;
  keeps : KeepsTree l.initial.synced l.synced;
}
