-- Why something wasn't done, in words.
use Rattle.std.specs.Prelude.{ℕ, List, [], ◌∷◌, codes, decimal}
use Rattle.hex.specs.Hex.{encode_lower}
use Rattle.nuc_folder.specs.declared.outcome.Outcome.{Outcome}
use Rattle.nuc_folder.specs.declared.outcome.Outcome.TheVariants as outcome
use Rattle.nuc_server.specs.declared.commit.Refusal.{Refusal}
use Rattle.nuc_server.specs.declared.commit.Refusal.TheVariants as refusal
use Rattle.nuc_step.specs.declared.reason.Reason.{Reason}
use Rattle.nuc_step.specs.declared.reason.Reason.TheVariants as reason

-- a call that succeeded, or that wanted memory, is never a reason; these have a word so that each outcome has one
abbrev pub outcome_word : Outcome → List ℕ
outcome_word outcome.Ok = codes "ok"
outcome_word (outcome.Made key) = codes "made"
outcome_word outcome.Changed = codes "changed"
outcome_word outcome.Taken = codes "taken"
outcome_word outcome.NotEmpty = codes "notempty"
outcome_word outcome.Failed = codes "failed"
outcome_word outcome.Memory = codes "memory"

abbrev pub refusal_word : Refusal → List ℕ
refusal_word (refusal.Stale revision) = codes "stale"
refusal_word refusal.KindChanged = codes "kind"
refusal_word refusal.NoParent = codes "noparent"
refusal_word (refusal.Taken holder) = codes "taken"
refusal_word refusal.Cycle = codes "cycle"
refusal_word refusal.NotEmpty = codes "notempty"
refusal_word (refusal.NoBlock digest) = codes "noblock"

-- the same with the revision, the holder or the digest
abbrev pub refusal_words : Refusal → List (List ℕ)
refusal_words (refusal.Stale revision) = codes "stale" ∷ decimal revision ∷ []
refusal_words refusal.KindChanged = codes "kind" ∷ []
refusal_words refusal.NoParent = codes "noparent" ∷ []
refusal_words (refusal.Taken holder) = codes "taken" ∷ decimal holder.0 ∷ []
refusal_words refusal.Cycle = codes "cycle" ∷ []
refusal_words refusal.NotEmpty = codes "notempty" ∷ []
refusal_words (refusal.NoBlock digest) = codes "noblock" ∷ encode_lower digest.0 ∷ []

-- the line of the refused commit has shown what else belongs to it
abbrev pub reason_word : Reason → List ℕ
reason_word (reason.Folder outcome) = outcome_word outcome
reason_word (reason.Server refusal) = refusal_word refusal
