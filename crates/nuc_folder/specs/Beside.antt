-- What a folder in memory has beside what it holds, and what a call of an operation makes of that.
use Rattle.std.specs.Prelude.{◌≡◌, ℕ, List, Option, None, Some, MatchBool}
use Rattle.nuc_folder.specs.Memory.{GivesKey, MemState}
use Rattle.nuc_folder.specs.declared.noticed.Noticed.{Noticed}
use Rattle.nuc_folder.specs.declared.outcome.Outcome.{Outcome}
use Rattle.nuc_folder.specs.declared.outcome.Outcome.TheVariants as outcome
use Rattle.nuc_io.specs.Calls.{CallsData, after_call, is_to_fail}

-- its calls, what it was when it was last settled, and the changes by the user that nobody was told yet
pub record Beside : Type 0 where
  pub calls : CallsData
  pub settled : MemState
  pub pending : List Noticed

-- one call more came, which failed exactly where it was to, and all else stays
abbrev pub Counts : Outcome → Beside → Beside → Type 0
Counts answer old new = (new ≡ record old { calls = after_call old.calls (is_to_fail old.calls) })
    × MatchBool (is_to_fail old.calls) (answer ≡ outcome.Failed) (¬ (answer ≡ outcome.Failed))

-- so it is where a folder has it, and then new keys are given in turn; who hasn't never gets it
abbrev pub InMemory : Outcome → Option Beside → ℕ → Option Beside → ℕ → Type 0
InMemory answer None n None after = Unit {0}
InMemory answer None n (Some new) after = ⊥
InMemory answer (Some old) n None after = ⊥
InMemory answer (Some old) n (Some new) after = Counts answer old new × GivesKey answer n after
