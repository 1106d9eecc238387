-- What a caller sees of a journal.
use Rattle.std.specs.Prelude.{ℕ, List, Option, refl}
use Rattle.std.specs.Coded.{Coded, code_by, coded×, coded_ℕ, coded_list, coded_option}
use Rattle.nuc_base.specs.Codes.{node_code}
use Rattle.nuc_base.specs.declared.node.Node.{Node}
use Rattle.nuc_journal.specs.declared.entry.Entry.{Entry}

-- its entries, those among them that are settled, and how many more it can take without memory
pub record JournalState : Type 0 where
  pub now : List Entry
  pub settled : List Entry
  pub spare : ℕ

abbrev pub entry_code : Coded Entry
entry_code = code_by ((ℕ × ℕ) × (Option Node × ℕ)) (coded× (coded× coded_ℕ coded_ℕ) (coded× (coded_option node_code) coded_ℕ))
    (λ e. ((e.rev, e.id.0), (e.value, e.by)))
    (λ t. record { rev = t.0.0; id = record { 0 = t.0.1 }; value = t.1.0; by = t.1.1 })
    (λ _. refl)

abbrev pub state_code : Coded JournalState
state_code = code_by (List Entry × (List Entry × ℕ)) (coded× (coded_list entry_code) (coded× (coded_list entry_code) coded_ℕ))
    (λ s. (s.now, (s.settled, s.spare)))
    (λ t. record { now = t.0; settled = t.1.0; spare = t.1.1 })
    (λ _. refl)
