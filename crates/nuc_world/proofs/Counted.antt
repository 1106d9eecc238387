-- How long a log is with one more entry.
use Rattle.std.proofs.Common.{◌≡◌, ◌+◌, ◌++◌, ◌∷◌, List, [], arith}
use Rattle.std.proofs.lemmas.List.Sums.{sum_by-append}
use Rattle.nuc_log.specs.declared.log.LogEntry.{LogEntry}
use Rattle.nuc_world.specs.Units.{units, units_of}

pub units_more : (log : List LogEntry) (entry : LogEntry) → units_of (log ++ entry ∷ []) ≡ units_of log + units entry
units_more log entry = let both = sum_by-append units log (entry ∷ []) in omega (arith, both)
