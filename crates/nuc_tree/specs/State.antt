use Rattle.std.specs.Prelude.{ℕ, refl}
use Rattle.std.specs.Coded.{Coded, code_by, coded×, coded_ℕ}
use Rattle.nuc_base.specs.Codes.{nodes_code}
use Rattle.nuc_base.specs.Trees.{Nodes}

-- what a caller sees of a tree: its nodes, and how many more it can take without memory
pub record TreeState : Type 0 where
  pub nodes : Nodes
  pub spare : ℕ

abbrev pub state_code : Coded TreeState
state_code = code_by (Nodes × ℕ) (coded× nodes_code coded_ℕ) (λ s. (s.nodes, s.spare)) (λ t. record { nodes = t.0; spare = t.1 }) (λ _. refl)
