-- A folder in memory: what it is now and was when it was last settled, and which of its calls fail.
use Rattle.std.specs.Prelude.{◌≡◌, ◌<◌, ◌+◌, ℕ, Bool, List, [], MatchBool}
use Rattle.std.specs.FinMap as map
use Rattle.nuc_io.specs.Calls.{CallsData, after_call, is_to_fail}
use Rattle.nuc_shelf.specs.Shelf.{IsShelf, empty_shelf}
use Rattle.nuc_folder.specs.State.{FolderState, KeysBelow}
use Rattle.nuc_folder.specs.declared.listed.Listed.{Listed}
use Rattle.nuc_folder.specs.declared.listed.Listed.TheVariants as listed
use Rattle.nuc_folder.specs.declared.noticed.Noticed.{Noticed}
use Rattle.nuc_folder.specs.declared.outcome.Outcome.{Outcome}
use Rattle.nuc_folder.specs.declared.outcome.Outcome.TheVariants as outcome

-- what is held, the key that the next new file or folder gets, and the changes by the user that nobody was told yet, the
-- oldest first
pub record MemState : Type 0 where
  pub held : FolderState
  pub next : ℕ
  pub pending : List Noticed

-- what it is now, what it was when it was last settled, and its calls
pub record MemStates : Type 0 where
  pub now : MemState
  pub settled : MemState
  pub calls : CallsData

-- with nothing in it
abbrev pub empty_state : MemState
empty_state = record { held = empty_shelf; next = 1; pending = [] }

-- it is well formed, and its keys are below the next
pub record IsKeyed (s : MemState) : Type 0 where
  pub shelf : IsShelf s.held
  pub below : KeysBelow s.next s.held
  pub some : 0 < s.next

-- a call came: it is counted, and fails exactly where it is to fail. What was settled stays
pub record Came (old : MemStates) (Failed : Type 0) (new : MemStates) : Type 0 where
  pub calls : new.calls ≡ after_call old.calls (is_to_fail old.calls)
  pub failed : MatchBool (is_to_fail old.calls) Failed (¬ Failed)
  pub settled : new.settled ≡ old.settled

-- what is made gets the next key, and only then is there another next one
abbrev pub GivesKey : Outcome → ℕ → ℕ → Type 0
GivesKey (outcome.Made key) n after = (key.0 ≡ n) × (after ≡ n + 1)
GivesKey outcome.Ok n after = after ≡ n
GivesKey outcome.NotEmpty n after = after ≡ n
GivesKey outcome.Changed n after = after ≡ n
GivesKey outcome.Taken n after = after ≡ n
GivesKey outcome.Failed n after = after ≡ n
GivesKey outcome.Memory n after = after ≡ n

-- the notices of a folder, now and when it was last settled, and for how many more there is room
pub record NoticesState : Type 0 where
  pub now : List Noticed
  pub settled : List Noticed
  pub room : ℕ

-- what is pending after a listing: nothing where one was made
abbrev pub pending_after : Listed → List Noticed → List Noticed
pending_after (listed.Items items) pending = []
pending_after (listed.TooLong n) pending = pending
pending_after listed.Failed pending = pending
pending_after listed.Memory pending = pending
