-- The codes of a world and its parts, for the type whose value it is.
use Rattle.std.specs.Prelude.{ℕ, List, Option, refl}
use Rattle.std.specs.Coded.{Coded, code_by, coded×, coded_ℕ, coded_list, coded_option}
use Rattle.nuc_base.specs.contracts.node.Counters as counters
use Rattle.nuc_base.specs.declared.node.Counters.{Counters}
use Rattle.nuc_blocks.specs.Blocks.{Blocks}
use Rattle.nuc_edits.specs.Edits.{Recorded}
use Rattle.nuc_edits.specs.contracts.edit.Adoption as adoption
use Rattle.nuc_edits.specs.contracts.edit.Edit as edit
use Rattle.nuc_edits.specs.declared.edit.Adoption.{Adoption}
use Rattle.nuc_edits.specs.declared.edit.Edit.{Edit}
use Rattle.nuc_folder.specs.Codes.{mem_code}
use Rattle.nuc_folder.specs.Memory.{MemState}
use Rattle.nuc_journal.specs.State.{entry_code}
use Rattle.nuc_journal.specs.declared.entry.Entry.{Entry}
use Rattle.nuc_log.specs.Codes.{log_entry_code}
use Rattle.nuc_log.specs.declared.log.LogEntry.{LogEntry}
use Rattle.nuc_server.specs.WebEdits.{WebState}
use Rattle.nuc_step.specs.Client.{ClientState, client_code}
use Rattle.nuc_step.specs.Held.{HeldData, data_code}
use Rattle.nuc_world.specs.State.{Due, MemberState, WorldState}
use Rattle.nuc_world.specs.World.{WorldData}

abbrev pub blocks_code : Coded Blocks
blocks_code = coded_list (coded× (coded_list coded_ℕ) (coded_list coded_ℕ))

abbrev pub recorded_code : Coded Recorded
recorded_code = code_by (List Edit × List Adoption) (coded× (coded_list edit.the_row.coded) (coded_list adoption.the_row.coded))
    (λ r. (r.edits, r.adoptions)) (λ t. record { edits = t.0; adoptions = t.1 }) (λ _. refl)

abbrev pub shared_code : Coded WebState
shared_code = code_by (List Entry × (Blocks × (Recorded × Counters)))
    (coded× (coded_list entry_code) (coded× blocks_code (coded× recorded_code counters.the_row.coded)))
    (λ s. (s.entries, (s.blocks, (s.edits, s.ids))))
    (λ t. record { entries = t.0; blocks = t.1.0; edits = t.1.1.0; ids = t.1.1.1 })
    (λ _. refl)

abbrev pub due_code : Coded Due
due_code = code_by (ℕ × List ℕ) (coded× coded_ℕ (coded_list coded_ℕ)) (λ d. (d.made, d.failing)) (λ t. record { made = t.0; failing = t.1 }) (λ _. refl)

abbrev pub member_code : Coded MemberState
member_code = code_by (ClientState × (Option HeldData × (MemState × Due)))
    (coded× client_code (coded× (coded_option data_code) (coded× mem_code due_code)))
    (λ m. (m.client, (m.listing, (m.folder, m.due))))
    (λ t. record { client = t.0; listing = t.1.0; folder = t.1.1.0; due = t.1.1.1 })
    (λ _. refl)

abbrev pub world_state_code : Coded WorldState
world_state_code = code_by (WebState × List MemberState) (coded× shared_code (coded_list member_code))
    (λ w. (w.shared, w.members)) (λ t. record { shared = t.0; members = t.1 }) (λ _. refl)

abbrev pub world_code : Coded WorldData
world_code = code_by (WorldState × List LogEntry) (coded× world_state_code (coded_list log_entry_code))
    (λ w. (w.now, w.log)) (λ t. record { now = t.0; log = t.1 }) (λ _. refl)
