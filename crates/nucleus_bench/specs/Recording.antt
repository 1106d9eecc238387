-- Edits that put something under every version.
use Rattle.std.specs.Prelude.{◌<◌, ℕ, List}
use Rattle.nuc_edits.specs.Edits.{IsNext, WasPut}
use Rattle.nuc_edits.specs.declared.edit.Edit.{Edit}

-- each version before the next was put
abbrev pub AllPut : ℕ → List Edit → Type 0
AllPut next edits = (v : ℕ) → 0 < v → v < next → WasPut edits v

pub record IsFull (next : ℕ) (edits : List Edit) : Type 0 where
  pub version : IsNext next edits
  pub put : AllPut next edits
