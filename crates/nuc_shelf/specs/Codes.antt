-- The codes of states, for the types whose values they are.
use Rattle.std.specs.Prelude.{ℕ, List, refl}
use Rattle.std.specs.Coded.{Coded, code_by, coded×, coded_ℕ, coded_list}
use Rattle.std.specs.FinMap as map
use Rattle.nuc_base.specs.Codes.{nodes_code}
use Rattle.nuc_base.specs.Trees.{Nodes}
use Rattle.nuc_shelf.specs.Files.{FilesState}
use Rattle.nuc_shelf.specs.Shelf.{Bytes, ShelfState, ShelfStates}

abbrev pub bytes_code : Coded Bytes
bytes_code = map.code coded_ℕ (coded_list coded_ℕ)

abbrev pub state_code : Coded ShelfState
state_code = code_by (Nodes × Bytes) (coded× nodes_code bytes_code) (λ s. (s.tree, s.bytes)) (λ t. record { tree = t.0; bytes = t.1 }) (λ _. refl)

abbrev pub states_code : Coded ShelfStates
states_code = code_by (ShelfState × (ShelfState × ℕ)) (coded× state_code (coded× state_code coded_ℕ))
    (λ s. (s.now, (s.settled, s.spare))) (λ t. record { now = t.0; settled = t.1.0; spare = t.1.1 }) (λ _. refl)

abbrev pub files_code : Coded FilesState
files_code = code_by (Bytes × (Bytes × (ℕ × ℕ))) (coded× bytes_code (coded× bytes_code (coded× coded_ℕ coded_ℕ)))
    (λ s. (s.now, (s.settled, (s.room, s.changes)))) (λ t. record { now = t.0; settled = t.1.0; room = t.1.1.0; changes = t.1.1.1 }) (λ _. refl)
