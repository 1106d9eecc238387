-- No content is lost: what was recorded stands somewhere, or something recorded took its place.
use Rattle.std.specs.Prelude.{◌≡◌, ℕ, All, Any, List}
use Rattle.nuc_edits.specs.Edits.{Recorded}
use Rattle.nuc_edits.specs.declared.edit.EditKind.{EditKind}
use Rattle.nuc_edits.specs.declared.edit.EditKind.TheVariants.{Put, Deleted}
use Rattle.nuc_journal.specs.Entries.{tree_of}
use Rattle.nuc_log.specs.declared.log.LogEntry.{LogEntry}
use Rattle.nuc_server.specs.Versions.{HasVersion}
use Rattle.nuc_world.specs.Runs.{Reaches}
use Rattle.nuc_world.specs.State.{WorldState}

-- an edit is based on the version: it replaced or deleted it
abbrev pub IsBased : Recorded → ℕ → Type 0
IsBased r v = Any (λ e. e.base.0 ≡ v) r.edits

-- the version was adopted into one of equal hash
abbrev pub IsAdopted : Recorded → ℕ → Type 0
IsAdopted r v = Any (λ a. a.old.0 ≡ v) r.adoptions

-- a version stands at the server or in a client's Local, or an edit is based on it, or it was adopted
pub data IsAccounted (w : WorldState) (v : ℕ) : Type 0 where
  at_server : HasVersion (tree_of w.shared.entries) v → IsAccounted w v
  in_local : Any (λ m. HasVersion m.client.local.tree v) w.members → IsAccounted w v
  based : IsBased w.shared.edits v → IsAccounted w v
  adopted : IsAdopted w.shared.edits v → IsAccounted w v

-- so does each version that an edit put; a deletion put none
abbrev pub IsKeptAs : WorldState → EditKind → ℕ → Type 0
IsKeptAs w (Put content) v = IsAccounted w v
IsKeptAs w Deleted v = Unit {0}

abbrev pub AllAccounted : WorldState → Type 0
AllAccounted w = All (λ e. IsKeptAs w e.what e.ver.0) w.shared.edits.edits

-- whatever led there
abbrev pub NothingIsLost : Type 0
NothingIsLost = (log : List LogEntry) (w : WorldState) → Reaches log w → AllAccounted w
