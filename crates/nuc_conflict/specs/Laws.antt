-- What follows from the rules.
use Rattle.std.specs.Prelude.{◌≡◌, ◌+◌, ℕ, Bool}
use Rattle.std.specs.FinMap.{get}
use Rattle.nuc_base.specs.Trees.{Nodes, WellFormed}
use Rattle.nuc_class.specs.Due.{NothingDue}
use Rattle.nuc_class.specs.Wishes.{AllEqual}
use Rattle.nuc_class.specs.declared.op.Op.{Op}
use Rattle.nuc_conflict.specs.After.{AreAfter}
use Rattle.nuc_conflict.specs.Facts.{MendFacts}
use Rattle.nuc_conflict.specs.FitTogether.{FitBelow, FitTogether}
use Rattle.nuc_conflict.specs.Mends.{IsMend}
use Rattle.nuc_conflict.specs.Remedies.{NoRemedy}

-- where nothing is due, and no rule applies, each identity has equal values
abbrev pub MendOrEqual : Type 0
MendOrEqual = (same : ℕ → ℕ → Bool) (r l s : Nodes) → FitTogether r l s → ((x : ℕ) → NothingDue same r l s x) → NoRemedy same r l s
    → (x : ℕ) → AllEqual (get r x) (get l x) (get s x)

-- the trees have one mend
abbrev pub OneMend : Type 0
OneMend = (same : ℕ → ℕ → Bool) (r l s : Nodes) (next : ℕ) (a b : Op) → WellFormed r → WellFormed l → WellFormed s
    → IsMend same r l s next a → IsMend same r l s next b → a ≡ b

-- and none where no rule applies
abbrev pub MendOrNone : Type 0
MendOrNone = (same : ℕ → ℕ → Bool) (r l s : Nodes) (next : ℕ) (op : Op) → IsMend same r l s next op → ¬ (NoRemedy same r l s)

-- what a mend rests on, and that its changes are legal
abbrev pub MendsHaveFacts : Type 0
MendsHaveFacts = (same : ℕ → ℕ → Bool) (r l s : Nodes) (next : ℕ) (op : Op) → FitBelow r l s next → IsMend same r l s next op
    → MendFacts same r l s next op

-- the trees fit together after their mend too, and the only number that it gives out is `next`
abbrev pub MendsKeepForm : Type 0
MendsKeepForm = (same : ℕ → ℕ → Bool) (r l s : Nodes) (next : ℕ) (op : Op) (after_r after_l after_s : Nodes) → FitBelow r l s next
    → IsMend same r l s next op → AreAfter r l s op after_r after_l after_s → FitBelow after_r after_l after_s (next + 1)
