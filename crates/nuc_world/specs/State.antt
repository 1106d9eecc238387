-- What a world is: what all its clients share, and each client with its folder.
use Rattle.std.specs.Prelude.{ℕ, zero, suc, ◌+◌, ◌++◌, Bool, List, [], ◌∷◌, Option, None, replicate, set, slice_get}
use Rattle.std.specs.FinMap as map
use Rattle.nuc_folder.specs.Memory.{MemState, empty_state}
use Rattle.nuc_io.specs.Calls.{CallsData, is_to_fail, one_more}
use Rattle.nuc_server.specs.WebEdits.{WebState}
use Rattle.nuc_step.specs.Client.{ClientState}
use Rattle.nuc_step.specs.Held.{HeldData}

-- how often a folder was called, and the numbers of the calls that fail
pub record Due : Type 0 where
  pub made : ℕ
  pub failing : List ℕ

-- a client, the listing that it holds, and its folder with its calls
pub record MemberState : Type 0 where
  pub client : ClientState
  pub listing : Option HeldData
  pub folder : MemState
  pub due : Due

-- what all share is what a web edit reads and writes: the journal, the blocks, what is recorded, and the counters
pub record WorldState : Type 0 where
  pub shared : WebState
  pub members : List MemberState

-- CALLS OF A FOLDER
-- with these counts beside them
abbrev pub with_counts : ℕ → ℕ → Due → CallsData
with_counts settled faults d = record { made = d.made; settled = settled; failing = d.failing; faults = faults }

-- the next call is to fail
abbrev pub is_due : Due → Bool
is_due d = is_to_fail (with_counts 0 0 d)

-- one call came
abbrev pub after_one : Due → Due
after_one d = record d { made = one_more d.made }

-- the k-th call from now on is to fail
abbrev pub with_failure : ℕ → Due → Due
with_failure k d = record d { failing = d.failing ++ (d.made + k) ∷ [] }

-- what a step of one client reads and writes
pub record Turn : Type 0 where
  pub shared : WebState
  pub member : MemberState

-- the member of a client, whose numbers count from 1
abbrev pub member_of : ℕ → List MemberState → Option MemberState
member_of zero members = None
member_of (suc i) members = slice_get members i

-- the members with another one in the client's place
abbrev pub with_member : ℕ → MemberState → List MemberState → List MemberState
with_member zero m members = members
with_member (suc i) m members = set members i m

-- WITHOUT ANYTHING IN IT
abbrev pub fresh_client : ClientState
fresh_client = record {
  remote = record { tree = map.empty; revisions = map.empty; cursor = 0; ahead = [] };
  local = record { tree = map.empty; keys = map.empty };
  synced = map.empty;
  flights = [];
  changes = 0;
  next_op = 1;
}

abbrev pub fresh_member : MemberState
fresh_member = record { client = fresh_client; listing = None; folder = empty_state; due = record { made = 0; failing = [] } }

abbrev pub fresh_shared : WebState
fresh_shared = record {
  entries = [];
  blocks = [];
  edits = record { edits = []; adoptions = [] };
  ids = record { next_id = 1; next_ver = 1 };
}

-- so many clients
abbrev pub fresh : ℕ → WorldState
fresh clients = record { shared = fresh_shared; members = replicate clients fresh_member }
