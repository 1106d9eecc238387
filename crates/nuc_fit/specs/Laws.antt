-- The folders of a world have nothing that a scan must refuse, if its log is no longer than a world lets it be.
use Rattle.std.specs.Prelude.{◌≡◌, ◌≤◌, ℕ, List, Some}
use Rattle.nuc_log.specs.declared.log.LogEntry.{LogEntry}
use Rattle.nuc_quiet.specs.Fit.{FolderIsFit}
use Rattle.nuc_world.specs.Runs.{Reaches}
use Rattle.nuc_world.specs.State.{MemberState, WorldState, member_of}
use Rattle.nuc_world.specs.Units.{units_of}
use Rattle.nuc_world.specs.declared.stop.TheConstants.{MOST_UNITS}
use Rattle.nuc_fit.specs.Bounds.{KeepsToBounds}

abbrev pub FoldersAreFit : Type 0
FoldersAreFit = (log : List LogEntry) (w : WorldState) (c : ℕ) (m : MemberState) → units_of log ≤ MOST_UNITS → KeepsToBounds log → Reaches log w
    → member_of c w.members ≡ Some m → FolderIsFit m
