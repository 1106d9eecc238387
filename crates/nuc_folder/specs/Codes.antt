-- The codes of notices and of folders in memory, for the types whose values they are.
use Rattle.std.specs.Prelude.{◌≡◌, ◌⊎◌, ℕ, Bool, List, Option, refl}
use Rattle.std.proofs.Common.{inl, inr}
use Rattle.std.specs.Coded.{Coded, code_by, coded×, coded⊎, coded_ℕ, coded_bool, coded_list, coded_option}
use Rattle.nuc_hash.specs.Content.{ContentData}
use Rattle.nuc_hash.specs.declared.digest.Digest.{Digest}
use Rattle.nuc_io.specs.Calls.{CallsData}
use Rattle.nuc_shelf.specs.Codes as shelf
use Rattle.nuc_folder.specs.Memory.{MemState, MemStates, NoticesState}
use Rattle.nuc_folder.specs.State.{FolderState}
use Rattle.nuc_folder.specs.declared.item.Item.{Item}
use Rattle.nuc_folder.specs.declared.noticed.Noticed.{Noticed}
use Rattle.nuc_folder.specs.declared.noticed.Noticed.TheVariants as noticed

abbrev pub digest_code : Coded Digest
digest_code = code_by (List ℕ) (coded_list coded_ℕ) (λ d. d.0) (λ bytes. record { 0 = bytes }) (λ _. refl)

abbrev pub content_code : Coded ContentData
content_code = code_by (Digest × (ℕ × List Digest)) (coded× digest_code (coded× coded_ℕ (coded_list digest_code)))
    (λ c. (c.hash, (c.size, c.blocks))) (λ t. record { hash = t.0; size = t.1.0; blocks = t.1.1 }) (λ _. refl)

abbrev pub item_code : Coded Item
item_code = code_by ((ℕ × ℕ) × (Option ContentData × (List ℕ × Bool)))
    (coded× (coded× coded_ℕ coded_ℕ) (coded× (coded_option content_code) (coded× (coded_list coded_ℕ) coded_bool)))
    (λ i. ((i.key.0, i.parent.0), (i.content, (i.name, i.bit))))
    (λ t. record { key = record { 0 = t.0.0 }; parent = record { 0 = t.0.1 }; content = t.1.0; name = t.1.1.0; bit = t.1.1.1 })
    (λ _. refl)

-- a notice, as what it tells
abbrev pub Parts : Type 0
Parts = Item ⊎ ((ℕ × ContentData) ⊎ ((ℕ × (ℕ × List ℕ)) ⊎ (ℕ ⊎ (ℕ × Bool))))

abbrev pub parts_of : Noticed → Parts
parts_of (noticed.Made item) = inl item
parts_of (noticed.Written key content) = inr (inl (key.0, content))
parts_of (noticed.Moved key place) = inr (inr (inl (key.0, (place.parent.0, place.name))))
parts_of (noticed.Removed key) = inr (inr (inr (inl key.0)))
parts_of (noticed.Bit key bit) = inr (inr (inr (inr (key.0, bit))))

abbrev pub of_parts : Parts → Noticed
of_parts (inl item) = noticed.Made item
of_parts (inr (inl (key, content))) = noticed.Written (record { 0 = key }) content
of_parts (inr (inr (inl (key, place)))) = noticed.Moved (record { 0 = key }) (record { parent = record { 0 = place.0 }; name = place.1 })
of_parts (inr (inr (inr (inl key)))) = noticed.Removed (record { 0 = key })
of_parts (inr (inr (inr (inr (key, bit))))) = noticed.Bit (record { 0 = key }) bit

pub parts_again : (n : Noticed) → of_parts (parts_of n) ≡ n
parts_again (noticed.Made item) = refl
parts_again (noticed.Written key content) = refl
parts_again (noticed.Moved key place) = refl
parts_again (noticed.Removed key) = refl
parts_again (noticed.Bit key bit) = refl

abbrev pub noticed_code : Coded Noticed
noticed_code = code_by Parts
    (coded⊎ item_code (coded⊎ (coded× coded_ℕ content_code) (coded⊎ (coded× coded_ℕ (coded× coded_ℕ (coded_list coded_ℕ))) (coded⊎ coded_ℕ (coded× coded_ℕ coded_bool)))))
    parts_of of_parts parts_again

abbrev pub notices_code : Coded NoticesState
notices_code = code_by (List Noticed × (List Noticed × ℕ)) (coded× (coded_list noticed_code) (coded× (coded_list noticed_code) coded_ℕ))
    (λ s. (s.now, (s.settled, s.room))) (λ t. record { now = t.0; settled = t.1.0; room = t.1.1 }) (λ _. refl)

abbrev pub calls_code : Coded CallsData
calls_code = code_by (ℕ × (ℕ × (List ℕ × ℕ))) (coded× coded_ℕ (coded× coded_ℕ (coded× (coded_list coded_ℕ) coded_ℕ)))
    (λ c. (c.made, (c.settled, (c.failing, c.faults)))) (λ t. record { made = t.0; settled = t.1.0; failing = t.1.1.0; faults = t.1.1.1 }) (λ _. refl)

abbrev pub mem_code : Coded MemState
mem_code = code_by (FolderState × (ℕ × List Noticed)) (coded× shelf.state_code (coded× coded_ℕ (coded_list noticed_code)))
    (λ s. (s.held, (s.next, s.pending))) (λ t. record { held = t.0; next = t.1.0; pending = t.1.1 }) (λ _. refl)

abbrev pub states_code : Coded MemStates
states_code = code_by (MemState × (MemState × CallsData)) (coded× mem_code (coded× mem_code calls_code))
    (λ s. (s.now, (s.settled, s.calls))) (λ t. record { now = t.0; settled = t.1.0; calls = t.1.1 }) (λ _. refl)
