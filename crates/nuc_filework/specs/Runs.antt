-- What comes of calls on a folder that are made one after the other.
use Rattle.std.specs.Prelude.{◌≡◌, ◌⊎◌, ◌<◌, ℕ, suc, true, false, List, [], ◌∷◌, Option, None, Some}
use Rattle.nuc_filework.specs.declared.call.Call.{Call}
use Rattle.nuc_filework.specs.declared.call.Call.TheVariants.{MakeDir, WriteNew, Replace, SetBit, MoveTo, Remove}
use Rattle.nuc_folder.specs.Answers.{Changes, MakeDirAnswers, Makes, MoveAnswers, RemoveAnswers, ReplaceAnswers, SetBitAnswers, Told, WriteNewAnswers}
use Rattle.nuc_folder.specs.Beside.{Beside, InMemory}
use Rattle.nuc_folder.specs.Outcome.{is_success}
use Rattle.nuc_folder.specs.State.{FolderState, IsTold, place_of}
use Rattle.nuc_folder.specs.declared.outcome.Outcome.{Outcome}
use Rattle.nuc_folder.specs.declared.outcome.Outcome.TheVariants as outcome
use Rattle.nuc_folder.specs.declared.ran.RanOp.{RanOp}
use Rattle.nuc_io.specs.Causes.{HasCause}
use Rattle.nuc_observe.specs.Keys.{IsUnheld, KeyMap}

-- what is known of a folder between two calls: what it holds, where it tells it, what every key is below, its faults, and what
-- only a folder in memory has
pub record FolderView : Type 0 where
  pub told : Option FolderState
  pub next : ℕ
  pub faults : ℕ
  pub beside : Option Beside

-- the folder's answer to a call, by what it held and holds; a call that writes writes these bytes
abbrev pub CallAnswers : List ℕ → Call → FolderState → Outcome → FolderState → Type 0
CallAnswers bytes (MakeDir place) old answer new = MakeDirAnswers (place_of place) old answer new
CallAnswers bytes (WriteNew place bit) old answer new = WriteNewAnswers (place_of place) bytes bit old answer new
CallAnswers bytes (Replace key expected) old answer new = ReplaceAnswers key.0 expected bytes old answer new
CallAnswers bytes (SetBit key expected bit) old answer new = SetBitAnswers key.0 expected bit old answer new
CallAnswers bytes (MoveTo key expected place) old answer new = MoveAnswers key.0 (place_of expected) (place_of place) old answer new
CallAnswers bytes (Remove key expected) old answer new = RemoveAnswers key.0 expected old answer new

-- what makes succeeds with Made alone, all else with Ok alone
abbrev pub Succeeds : Call → Outcome → ℕ → ℕ → Type 0
Succeeds (MakeDir place) answer before after = Makes answer before after
Succeeds (WriteNew place bit) answer before after = Makes answer before after
Succeeds (Replace key expected) answer before after = Changes answer before after
Succeeds (SetBit key expected bit) answer before after = Changes answer before after
Succeeds (MoveTo key expected place) answer before after = Changes answer before after
Succeeds (Remove key expected) answer before after = Changes answer before after

-- one call, and its answer
pub record Called (bytes : List ℕ) (call : Call) (before : FolderView) (answer : Outcome) (after : FolderView) : Type 0 where
  pub told : Told (λ old new. CallAnswers bytes call old answer new) before.told after.told
  pub keys : Succeeds call answer before.next after.next
  pub form : IsTold after.next after.told
  pub cause : HasCause before.faults after.faults (answer ≡ outcome.Failed)
  pub memory : InMemory answer before.beside before.next after.beside after.next

-- the calls are made in order, as long as each succeeds: the answer is that of the first that doesn't, else that of the
-- last, and `last` where there is none; so many succeeded
pub data Runs (bytes : List ℕ) : Outcome → List Call → FolderView → Outcome → ℕ → FolderView → Type 0 where
  over : (last : Outcome) (v : FolderView) → Runs bytes last [] v last 0 v
  stops : (last : Outcome) (call : Call) (calls : List Call) (v : FolderView) (answer : Outcome) (w : FolderView)
      → Called bytes call v answer w → is_success answer ≡ false → Runs bytes last (call ∷ calls) v answer 0 w
  goes_on : (last : Outcome) (call : Call) (calls : List Call) (v : FolderView) (answer : Outcome) (u : FolderView) (final : Outcome) (made : ℕ) (w : FolderView)
      → Called bytes call v answer u → is_success answer ≡ true → Runs bytes answer calls u final made w → Runs bytes last (call ∷ calls) v final (suc made) w

-- somebody has the key k
abbrev pub IsHeld : KeyMap → ℕ → Type 0
IsHeld m k = ¬ (IsUnheld m k)

-- what was made must have a key of its own: else somebody changed the folder
abbrev pub Accepts : KeyMap → Outcome → Outcome → Type 0
Accepts m (outcome.Made key) (outcome.Made other) = (other ≡ key) × (0 < key.0) × IsUnheld m key.0
Accepts m (outcome.Made key) outcome.Changed = (key.0 ≡ 0) ⊎ IsHeld m key.0
Accepts m (outcome.Made key) outcome.Ok = ⊥
Accepts m (outcome.Made key) outcome.Taken = ⊥
Accepts m (outcome.Made key) outcome.NotEmpty = ⊥
Accepts m (outcome.Made key) outcome.Failed = ⊥
Accepts m (outcome.Made key) outcome.Memory = ⊥
Accepts m outcome.Ok answer = answer ≡ outcome.Ok
Accepts m outcome.Changed answer = answer ≡ outcome.Changed
Accepts m outcome.Taken answer = answer ≡ outcome.Taken
Accepts m outcome.NotEmpty answer = answer ≡ outcome.NotEmpty
Accepts m outcome.Failed answer = answer ≡ outcome.Failed
Accepts m outcome.Memory answer = answer ≡ outcome.Memory

-- no call is made
abbrev pub IsNotRun : FolderView → Outcome → RanOp → FolderView → Type 0
IsNotRun v answer ran w = (ran ≡ record { outcome = answer; made = 0 }) × (w ≡ v)

-- the calls are made with keys of which m says whose they are
pub record IsRun (m : KeyMap) (bytes : List ℕ) (calls : List Call) (v : FolderView) (ran : RanOp) (w : FolderView) : Type 0 where
  pub last : Outcome
  pub runs : Runs bytes outcome.Ok calls v last ran.made w
  pub answer : Accepts m last ran.outcome

-- what comes of an operation with these calls: none is made where they lack something, nor where memory does
abbrev pub RunsOp : KeyMap → List ℕ → Option (List Call) → FolderView → RanOp → FolderView → Type 0
RunsOp m bytes None v ran w = IsNotRun v outcome.Changed ran w ⊎ IsNotRun v outcome.Memory ran w
RunsOp m bytes (Some []) v ran w = IsNotRun v outcome.Ok ran w
RunsOp m bytes (Some (call ∷ calls)) v ran w = IsRun m bytes (call ∷ calls) v ran w ⊎ IsNotRun v outcome.Memory ran w
