-- A source and a sink in memory.
use Rattle.std.specs.Prelude.{ℕ, List, Bool}
use Rattle.nuc_io.specs.Calls.{CallsData}

-- the bytes that are left, whether the end was answered, and the calls
pub record SourceData : Type 0 where
  pub left : List ℕ
  pub ended : Bool
  pub calls : CallsData

-- the bytes that were written, and the calls
pub record SinkData : Type 0 where
  pub held : List ℕ
  pub calls : CallsData
