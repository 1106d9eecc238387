-- What follows of operations that are together, and of a batch.
use Rattle.std.specs.Prelude.{◌≡◌, ◌<◌, ◌≤◌, ℕ, Bool, List, [], ◌∷◌, length, All}
use Rattle.nuc_base.specs.Changes.{changed}
use Rattle.nuc_base.specs.Trees.{Nodes, OneKind, WellFormed}
use Rattle.nuc_class.specs.Due.{IsDue}
use Rattle.nuc_class.specs.declared.op.Op.{Op}
use Rattle.nuc_safety.specs.Batch.{IsPossible, IsBatch, InEveryOrder}
use Rattle.nuc_safety.specs.FirstFit.{FirstFit, EachIsSettled, IsPartOf, BeginsWith, most_in_batch}
use Rattle.nuc_safety.specs.Together.{Together}

-- it doesn't matter which of the two is named first
abbrev pub TogetherEitherWay : Type 0
TogetherEitherWay = (r l s : Nodes) (a b : Op) → Together r l s a b → Together r l s b a

-- what could be carried out still can be after an operation that it is together with
abbrev pub StaysPossible : Type 0
StaysPossible = (r l s : Nodes) (a b : Op) → WellFormed r → WellFormed l → WellFormed s → IsPossible r l s a → IsPossible r l s b → Together r l s a b
    → IsPossible (changed r a.id.0 a.remote) (changed l a.id.0 a.local) (changed s a.id.0 a.synced) b

-- what is due can be carried out
abbrev pub DueIsPossible : Type 0
DueIsPossible = (same : ℕ → ℕ → Bool) (r l s : Nodes) (x : ℕ) (op : Op) → WellFormed r → WellFormed l → OneKind r l → 0 < x → IsDue same r l s x op
    → IsPossible r l s op

-- a list has one first fit
abbrev pub OneFirstFit : Type 0
OneFirstFit = (r l s : Nodes) (due batch other : List Op) → FirstFit r l s due batch → FirstFit r l s due other → batch ≡ other

-- a first fit of possible operations is a batch
abbrev pub FirstFitIsBatch : Type 0
FirstFitIsBatch = (r l s : Nodes) (due batch : List Op) → All (IsPossible r l s) due → FirstFit r l s due batch → IsBatch r l s batch

-- a batch can be carried out in every order
abbrev pub BatchInEveryOrder : Type 0
BatchInEveryOrder = (r l s : Nodes) (ops : List Op) → WellFormed r → WellFormed l → WellFormed s → IsBatch r l s ops → InEveryOrder r l s ops

-- it is a part of the list, in its order, and not too long
abbrev pub FirstFitIsPart : Type 0
FirstFitIsPart = (r l s : Nodes) (due batch : List Op) → FirstFit r l s due batch → IsPartOf batch due × (length batch ≤ most_in_batch)

-- each operation of the list is taken or stays out, by those taken before it
abbrev pub FirstFitSettlesEach : Type 0
FirstFitSettlesEach = (r l s : Nodes) (due batch : List Op) → FirstFit r l s due batch → EachIsSettled r l s due batch

-- the first operation is always taken
abbrev pub FirstIsTaken : Type 0
FirstIsTaken = (r l s : Nodes) (op : Op) (rest batch : List Op) → FirstFit r l s (op ∷ rest) batch → BeginsWith (op ∷ []) batch
