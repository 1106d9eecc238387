use Rattle.std.proofs.Common.{◌≡◌, ◌+◌, ℕ, drop}
use Rattle.nuc_filework.specs.Runs.{FolderView, Runs}
use Rattle.nuc_folder.specs.declared.outcome.Outcome.{Outcome}
use Rattle.nuc_folder.specs.declared.outcome.Outcome.TheVariants.{Ok}
use Rattle.nuc_filework.proofs.run.run.Given as goal

abbrev pub invariant-loop-call : goal.invariant-loop-call
invariant-loop-call g l = record {
  made : l.made ≡ l.call-index;
  runs : (final : Outcome) (more : ℕ) (w : FolderView)
      → Runs l.bytes l.last (drop l.call-index l.calls) (record { told = g.F.Folder.told l.folder; next = g.F.Folder.next l.folder; faults = g.F.Folder.faults l.folder; beside = g.F.Folder.beside l.folder }) final more w
      → Runs l.bytes Ok l.calls (record { told = g.F.Folder.told l.fn.folder; next = g.F.Folder.next l.fn.folder; faults = g.F.Folder.faults l.fn.folder; beside = g.F.Folder.beside l.fn.folder }) final (l.made + more) w;
}
