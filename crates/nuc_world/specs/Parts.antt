-- What the parts of a world in code stand for.
use Rattle.std.specs.Prelude.{◌≡◌, Some}
use Rattle.nuc_filework.specs.Runs.{FolderView}
use Rattle.nuc_folder.specs.Memory.{MemStates}
use Rattle.nuc_io.specs.Calls.{CallsData, calls_back}
use Rattle.nuc_server.specs.WebEdits.{WebState}
use Rattle.nuc_step.specs.Client.{ClientStates}
use Rattle.nuc_world.specs.State.{Due, MemberState, Turn}
use Rattle.nuc_world.specs.declared.shared.Shared.{Shared}

abbrev pub shared_now : Shared → WebState
shared_now s = record { entries = s.server.now; blocks = s.store.now; edits = s.edits.now; ids = s.ids }

-- what taking back leads to
abbrev pub shared_then : Shared → WebState
shared_then s = record { entries = s.server.settled; blocks = s.store.settled; edits = s.edits.settled; ids = s.settled_ids }

abbrev pub due_of : CallsData → Due
due_of calls = record { made = calls.made; failing = calls.failing }

abbrev pub member_now : ClientStates → MemStates → MemberState
member_now client folder = record { client = client.now; listing = client.listing.now; folder = folder.now; due = due_of folder.calls }

abbrev pub member_then : ClientStates → MemStates → MemberState
member_then client folder = record { client = client.settled; listing = client.listing.settled; folder = folder.settled; due = due_of (calls_back folder.calls) }

-- a folder in memory, as the calls of an operation see it
abbrev pub folder_view : MemStates → FolderView
folder_view f = record {
  told = Some f.now.held;
  next = f.now.next;
  faults = f.calls.faults;
  beside = Some (record { calls = f.calls; settled = f.settled; pending = f.now.pending });
}

-- the calls of an operation leave what is pending, and what going back leads to
pub record FolderKeeps (a b : MemStates) : Type 0 where
  pub settled : b.settled ≡ a.settled
  pub pending : b.now.pending ≡ a.now.pending
  pub calls_settled : b.calls.settled ≡ a.calls.settled
  pub failing : b.calls.failing ≡ a.calls.failing

-- a turn of these parts
abbrev pub turn_at : WebState → MemberState → Turn
turn_at s m = record { shared = s; member = m }

abbrev pub turn_with : WebState → ClientStates → MemStates → Turn
turn_with s client folder = record { shared = s; member = member_now client folder }

abbrev pub turn_of : Shared → ClientStates → MemStates → Turn
turn_of shared client folder = turn_with (shared_now shared) client folder

-- what taking both back leads to
abbrev pub turn_then : Shared → ClientStates → MemStates → Turn
turn_then shared client folder = record { shared = shared_then shared; member = member_then client folder }
