-- A server with what lies beside it.
use Rattle.std.specs.Prelude.{◌<◌}
use Rattle.nuc_edits.specs.Edits.{IsNext}
use Rattle.nucleus_bench.specs.declared.committing.Service.{Service}

-- the counters are above all that was given
pub record IsReady (s : Service) : Type 0 where
  pub identity : 0 < s.ids.next_id
  pub version : IsNext s.ids.next_ver s.edits.now.edits
