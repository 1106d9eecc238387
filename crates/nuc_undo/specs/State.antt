use Rattle.std.specs.Prelude.{◌≡◌, ◌≤◌, ◌-◌, ℕ, List, [], ◌∷◌, min, refl}
use Rattle.std.specs.Coded.{Coded, code_by, coded×, coded_ℕ, coded_list}
use Rattle.nuc_base.specs.Codes.{nodes_code}
use Rattle.nuc_base.specs.Trees.{Nodes, WellFormed}
use Rattle.nuc_undo.specs.Laid.{AllFit, Laid}
use Rattle.nuc_undo.specs.Stock.{StockState}
use Rattle.nuc_undo.specs.Undo.{AreAway, AreUndoable, id_of, laid_first, owed_all, undone}
use Rattle.nuc_undo.specs.declared.undo.Step.{Step}

-- the tree before a change, and whose node changed
pub record Before : Type 0 where
  pub nodes : Nodes
  pub id : ℕ

-- what a caller sees: the tree, the trees before the changes since it was settled, the latest first, how many changes
-- it can take without memory, what is laid by, and what will be once all changes are taken back
pub record UndoState : Type 0 where
  pub now : Nodes
  pub past : List Before
  pub spare : ℕ
  pub laid : Laid
  pub laid_then : Laid

-- the earliest of the trees
abbrev pub earliest : Nodes → List Before → Nodes
earliest now [] = now
earliest now (b ∷ past) = earliest b.nodes past

-- the tree when it was settled
abbrev pub settled_of : UndoState → Nodes
settled_of s = earliest s.now s.past

-- the trees that taking back leads through, the next first
abbrev pub past_of : Nodes → List Step → List Before
past_of m [] = []
past_of m (s ∷ steps) = record { nodes = undone m s.undo; id = id_of s.undo } ∷ past_of (undone m s.undo) steps

-- what an undo tree shows: its changes, the last first, the free places for more, the room in its tree, what is kept of
-- that, and its stock
abbrev pub state_of : Nodes → List Step → ℕ → ℕ → ℕ → StockState → UndoState
state_of m steps free room kept stock = record {
  now = m;
  past = past_of m steps;
  spare = min free (room - kept);
  laid = stock.laid;
  laid_then = laid_first m steps stock.laid;
}

-- the tree is well formed, the changes can be taken back, the last first, with room for that in the tree and in the
-- stock, and what is laid by can be put
pub record IsUndoTree (m : Nodes) (steps : List Step) (spare kept : ℕ) (stock : StockState) : Type 0 where
  pub form : WellFormed m
  pub undos : AreUndoable m steps
  pub owed : kept ≡ owed_all steps
  pub room : kept ≤ spare
  pub away : AreAway m steps stock
  pub fits : AllFit stock.laid

abbrev pub before_code : Coded Before
before_code = code_by (Nodes × ℕ) (coded× nodes_code coded_ℕ) (λ b. (b.nodes, b.id)) (λ t. record { nodes = t.0; id = t.1 }) (λ _. refl)

abbrev pub state_code : Coded UndoState
state_code = code_by (Nodes × (List Before × (ℕ × (Laid × Laid))))
    (coded× nodes_code (coded× (coded_list before_code) (coded× coded_ℕ (coded× nodes_code nodes_code))))
    (λ s. (s.now, (s.past, (s.spare, (s.laid, s.laid_then)))))
    (λ t. record { now = t.0; past = t.1.0; spare = t.1.1.0; laid = t.1.1.1.0; laid_then = t.1.1.1.1 }) (λ _. refl)
