use Rattle.std.specs.Prelude.{All}
use Rattle.std.proofs.Common.{take}
use Rattle.nuc_replica.specs.Local.{KeepsLocal}
use Rattle.nuc_step.specs.Launch.{LaidOver}
use Rattle.nuc_step.specs.Sound.{IsLaid}
use Rattle.nuc_step.proofs.launch.lay_local.Given as goal

abbrev pub invariant-loop-op : goal.invariant-loop-op
invariant-loop-op g l = record {
  laid : All (λ op. IsLaid l.local.laid op.number op.local) (take l.op-index l.ops);
  over : LaidOver l.ops l.initial.local.laid l.initial.local.laid_then l.local.laid l.local.laid_then;
  keeps : KeepsLocal l.initial.local l.local;
}
