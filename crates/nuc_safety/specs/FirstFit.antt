-- Which operations of a list a batch takes: each that it has room for and that is together with all taken before it.
use Rattle.std.specs.Prelude.{◌≡◌, ◌<◌, ◌≤◌, ◌⊎◌, ℕ, List, [], ◌∷◌, ◌++◌, length, All, Any}
use Rattle.nuc_base.specs.Trees.{Nodes}
use Rattle.nuc_class.specs.declared.op.Op.{Op}
use Rattle.nuc_safety.specs.Together.{Together}

-- how many operations a batch has at most
abbrev pub most_in_batch : ℕ
most_in_batch = 32

-- a batch that has taken these has room for the operation, and it is together with each of them
pub record Joins (r l s : Nodes) (taken : List Op) (op : Op) : Type 0 where
  pub room : length taken < most_in_batch
  pub together : All (λ other. Together r l s other op) taken

-- the batch is full, or one that it has taken isn't together with the operation
abbrev pub StaysOut : Nodes → Nodes → Nodes → List Op → Op → Type 0
StaysOut r l s taken op = (most_in_batch ≤ length taken) ⊎ Any (λ other. ¬ (Together r l s other op)) taken

-- a batch that has taken these, and is then offered the operations of a list one after another, has taken `all` at the end
abbrev pub Takes : Nodes → Nodes → Nodes → List Op → List Op → List Op → Type 0
Takes r l s taken [] all = all ≡ taken
Takes r l s taken (op ∷ rest) all =
    (Joins r l s taken op × Takes r l s (taken ++ op ∷ []) rest all) ⊎ (StaysOut r l s taken op × Takes r l s taken rest all)

-- a batch is taken of this list
abbrev pub FirstFit : Nodes → Nodes → Nodes → List Op → List Op → Type 0
FirstFit r l s due batch = Takes r l s [] due batch

-- the second list begins with the first
abbrev pub BeginsWith : List Op → List Op → Type 0
BeginsWith front ops = (more : List Op) × (ops ≡ front ++ more)

-- when the batch had taken these, the operation joined them or stayed out, and the batch goes on from there
abbrev pub IsSettled : Nodes → Nodes → Nodes → List Op → Op → List Op → Type 0
IsSettled r l s taken op batch = (Joins r l s taken op × BeginsWith (taken ++ op ∷ []) batch) ⊎ (StaysOut r l s taken op × BeginsWith taken batch)

-- each operation of the list joined what was taken of those before it, or stayed out
abbrev pub EachIsSettled : Nodes → Nodes → Nodes → List Op → List Op → Type 0
EachIsSettled r l s due batch = (before after : List Op) (op : Op) → due ≡ before ++ op ∷ after
    → (taken : List Op) × FirstFit r l s before taken × IsSettled r l s taken op batch

-- the first list is the second without some of its operations
pub data IsPartOf : List Op → List Op → Type 0 where
  ended : IsPartOf [] []
  kept : (op : Op) (some all : List Op) → IsPartOf some all → IsPartOf (op ∷ some) (op ∷ all)
  left_out : (op : Op) (some all : List Op) → IsPartOf some all → IsPartOf some (op ∷ all)
