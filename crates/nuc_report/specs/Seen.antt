-- What there is to be seen of a world, and which report shows it.
use Rattle.std.specs.Prelude.{◌≡◌, ℕ, suc, List, [], ◌∷◌, length, map}
use Rattle.nuc_edits.specs.Edits.{Recorded}
use Rattle.nuc_folder.specs.Listing.{IsListing}
use Rattle.nuc_folder.specs.State.{FolderState}
use Rattle.nuc_folder.specs.declared.item.Item.{Item}
use Rattle.nuc_journal.specs.Entries.{tree_of}
use Rattle.nuc_journal.specs.declared.entry.Entry.{Entry}
use Rattle.nuc_log.specs.declared.view.Member.{Member}
use Rattle.nuc_log.specs.declared.view.View.{View}
use Rattle.nuc_report.specs.Report.{ClientSeen, Seen}
use Rattle.nuc_step.specs.Client.{ClientState}

-- what is shown of a client: itself and its folder
pub record Shown : Type 0 where
  pub client : ClientState
  pub folder : FolderState

-- what is shown of a world: the server's journal, the edits and adoptions, and the clients
pub record WorldShown : Type 0 where
  pub entries : List Entry
  pub recorded : Recorded
  pub members : List Shown

abbrev pub shown_of : {T : Type 0} → Member T → Shown
shown_of member = record { client = member.client.now; folder = member.folder.now.held }

-- what a view lends
abbrev pub shown_by : {T : Type 0} → View T → WorldShown
shown_by view = record {
  entries = view.server.now.now;
  recorded = view.edits.now.now;
  members = map shown_of view.members.now;
}

-- a client under its number, with the listing of its folder
abbrev pub client_seen : ℕ → ClientState → List Item → ClientSeen
client_seen number client items = record {
  number = number;
  cursor = client.remote.cursor;
  changes = client.changes;
  remote = client.remote.tree;
  local = client.local.tree;
  synced = client.synced;
  folder = items;
}

-- the folder's items are its one listing, and all else is the client's
pub record IsClientSeen (number : ℕ) (shown : Shown) (seen : ClientSeen) : Type 0 where
  pub listing : IsListing shown.folder seen.folder
  pub client : seen ≡ client_seen number shown.client seen.folder

-- each client is seen, under the numbers from this one on
abbrev pub AreSeen : ℕ → List Shown → List ClientSeen → Type 0
AreSeen number [] [] = Unit {0}
AreSeen number [] (seen ∷ more) = ⊥
AreSeen number (shown ∷ others) [] = ⊥
AreSeen number (shown ∷ others) (seen ∷ more) = IsClientSeen number shown seen × AreSeen (suc number) others more

-- the parts of the report of a world; clients are numbered from 1
pub record IsSeen (shown : WorldShown) (seen : Seen) : Type 0 where
  pub revision : seen.revision ≡ length shown.entries
  pub server : seen.server ≡ tree_of shown.entries
  pub clients : AreSeen 1 shown.members seen.clients
  pub edits : seen.edits ≡ shown.recorded.edits
  pub adoptions : seen.adoptions ≡ shown.recorded.adoptions
