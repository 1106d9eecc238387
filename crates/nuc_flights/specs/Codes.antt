-- The codes of operations and flights, for a `Model` whose value has them.
use Rattle.std.specs.Prelude.{◌≡◌, ◌⊎◌, ℕ, zero, suc, List, Option, None, Some, refl}
use Rattle.std.proofs.Common.{inl, inr}
use Rattle.std.specs.Coded.{Coded, code_by, coded×, coded⊎, coded_ℕ, coded_list, coded_option}
use Rattle.nuc_base.specs.Codes.{node_code}
use Rattle.nuc_base.specs.declared.change.Change.{Change}
use Rattle.nuc_base.specs.declared.change.Change.TheVariants.{Keep, Put, Cut}
use Rattle.nuc_base.specs.declared.node.Node.{Node}
use Rattle.nuc_class.specs.declared.op.Effect.{Effect}
use Rattle.nuc_class.specs.declared.op.Effect.TheVariants as effect
use Rattle.nuc_class.specs.declared.op.Op.{Op}
use Rattle.nuc_class.specs.declared.op.Verb.{Verb}
use Rattle.nuc_class.specs.declared.op.Verb.TheVariants as verb
use Rattle.nuc_flights.specs.Flights.{Flight, Stage, planned, started, taken}
use Rattle.nuc_flights.specs.declared.taken.Taken.{Taken}
use Rattle.nuc_flights.specs.declared.taken.Taken.TheVariants as came
use Rattle.nuc_folder.specs.declared.outcome.Outcome.{Outcome}
use Rattle.nuc_folder.specs.declared.outcome.Outcome.TheVariants as outcome
use Rattle.nuc_server.specs.declared.commit.Refusal.{Refusal}
use Rattle.nuc_server.specs.declared.commit.Refusal.TheVariants as refusal

-- a change, as whether it changes and to what
abbrev pub told : Change → Option (Option Node)
told Keep = None
told (Put n) = Some (Some n)
told Cut = Some None

abbrev pub meant : Option (Option Node) → Change
meant None = Keep
meant (Some (Some n)) = Put n
meant (Some None) = Cut

pub meant_again : (c : Change) → meant (told c) ≡ c
meant_again Keep = refl
meant_again (Put n) = refl
meant_again Cut = refl

abbrev pub change_code : Coded Change
change_code = code_by (Option (Option Node)) (coded_option (coded_option node_code)) told meant meant_again

abbrev pub verb_number : Verb → ℕ
verb_number verb.Down = 0
verb_number verb.Up = 1
verb_number verb.CutDown = 2
verb_number verb.CutUp = 3
verb_number verb.Forget = 4
verb_number verb.Adopt = 5
verb_number verb.Split = 6
verb_number verb.Unmove = 7
verb_number verb.Revive = 8
verb_number verb.Evict = 9

abbrev pub verb_of : ℕ → Verb
verb_of zero = verb.Down
verb_of (suc zero) = verb.Up
verb_of (suc (suc zero)) = verb.CutDown
verb_of (suc (suc (suc zero))) = verb.CutUp
verb_of (suc (suc (suc (suc zero)))) = verb.Forget
verb_of (suc (suc (suc (suc (suc zero))))) = verb.Adopt
verb_of (suc (suc (suc (suc (suc (suc zero)))))) = verb.Split
verb_of (suc (suc (suc (suc (suc (suc (suc zero))))))) = verb.Unmove
verb_of (suc (suc (suc (suc (suc (suc (suc (suc zero)))))))) = verb.Revive
verb_of _ = verb.Evict

pub verb_again : (v : Verb) → verb_of (verb_number v) ≡ v
verb_again verb.Down = refl
verb_again verb.Up = refl
verb_again verb.CutDown = refl
verb_again verb.CutUp = refl
verb_again verb.Forget = refl
verb_again verb.Adopt = refl
verb_again verb.Split = refl
verb_again verb.Unmove = refl
verb_again verb.Revive = refl
verb_again verb.Evict = refl

abbrev pub verb_code : Coded Verb
verb_code = code_by ℕ coded_ℕ verb_number verb_of verb_again

abbrev pub effect_number : Effect → ℕ
effect_number effect.Nothing = 0
effect_number effect.Disk = 1
effect_number effect.Commit = 2

abbrev pub effect_of : ℕ → Effect
effect_of zero = effect.Nothing
effect_of (suc zero) = effect.Disk
effect_of _ = effect.Commit

pub effect_again : (e : Effect) → effect_of (effect_number e) ≡ e
effect_again effect.Nothing = refl
effect_again effect.Disk = refl
effect_again effect.Commit = refl

abbrev pub effect_code : Coded Effect
effect_code = code_by ℕ coded_ℕ effect_number effect_of effect_again

abbrev pub op_code : Coded Op
op_code = code_by
    ((ℕ × (Verb × (ℕ × ℕ))) × ((Change × (Change × Change)) × ((Option Node × Option Node) × (ℕ × Effect))))
    (coded× (coded× coded_ℕ (coded× verb_code (coded× coded_ℕ coded_ℕ)))
    (coded× (coded× change_code (coded× change_code change_code)) (coded× (coded× (coded_option node_code) (coded_option node_code)) (coded× coded_ℕ effect_code))))
    (λ o. ((o.number, (o.verb, (o.id.0, o.other.0))), ((o.remote, (o.local, o.synced)), ((o.old_local, o.old_synced), (o.base, o.effect)))))
    (λ t. record {
      number = t.0.0;
      verb = t.0.1.0;
      id = record { 0 = t.0.1.1.0 };
      other = record { 0 = t.0.1.1.1 };
      remote = t.1.0.0;
      local = t.1.0.1.0;
      synced = t.1.0.1.1;
      old_local = t.1.1.0.0;
      old_synced = t.1.1.0.1;
      base = t.1.1.1.0;
      effect = t.1.1.1.1;
    })
    (λ _. refl)

-- an outcome as a number: those of a kind that has none beside it, then the keys
abbrev pub outcome_number : Outcome → ℕ ⊎ ℕ
outcome_number outcome.Ok = inl 0
outcome_number (outcome.Made k) = inr k.0
outcome_number outcome.Changed = inl 1
outcome_number outcome.Taken = inl 2
outcome_number outcome.NotEmpty = inl 3
outcome_number outcome.Failed = inl 4
outcome_number outcome.Memory = inl 5

abbrev pub outcome_of : ℕ ⊎ ℕ → Outcome
outcome_of (inr k) = outcome.Made (record { 0 = k })
outcome_of (inl zero) = outcome.Ok
outcome_of (inl (suc zero)) = outcome.Changed
outcome_of (inl (suc (suc zero))) = outcome.Taken
outcome_of (inl (suc (suc (suc zero)))) = outcome.NotEmpty
outcome_of (inl (suc (suc (suc (suc zero))))) = outcome.Failed
outcome_of (inl _) = outcome.Memory

pub outcome_again : (o : Outcome) → outcome_of (outcome_number o) ≡ o
outcome_again outcome.Ok = refl
outcome_again (outcome.Made k) = refl
outcome_again outcome.Changed = refl
outcome_again outcome.Taken = refl
outcome_again outcome.NotEmpty = refl
outcome_again outcome.Failed = refl
outcome_again outcome.Memory = refl

abbrev pub outcome_code : Coded Outcome
outcome_code = code_by (ℕ ⊎ ℕ) (coded⊎ coded_ℕ coded_ℕ) outcome_number outcome_of outcome_again

-- a refusal likewise: those with nothing beside them, those with a number, and that with a digest
abbrev pub refusal_parts : Refusal → ℕ ⊎ ((ℕ ⊎ ℕ) ⊎ List ℕ)
refusal_parts (refusal.Stale rev) = inr (inl (inl rev))
refusal_parts refusal.KindChanged = inl 0
refusal_parts refusal.NoParent = inl 1
refusal_parts (refusal.Taken x) = inr (inl (inr x.0))
refusal_parts refusal.Cycle = inl 2
refusal_parts refusal.NotEmpty = inl 3
refusal_parts (refusal.NoBlock d) = inr (inr d.0)

abbrev pub refusal_of : ℕ ⊎ ((ℕ ⊎ ℕ) ⊎ List ℕ) → Refusal
refusal_of (inl zero) = refusal.KindChanged
refusal_of (inl (suc zero)) = refusal.NoParent
refusal_of (inl (suc (suc zero))) = refusal.Cycle
refusal_of (inl _) = refusal.NotEmpty
refusal_of (inr (inl (inl rev))) = refusal.Stale rev
refusal_of (inr (inl (inr x))) = refusal.Taken (record { 0 = x })
refusal_of (inr (inr d)) = refusal.NoBlock (record { 0 = d })

pub refusal_again : (r : Refusal) → refusal_of (refusal_parts r) ≡ r
refusal_again (refusal.Stale rev) = refl
refusal_again refusal.KindChanged = refl
refusal_again refusal.NoParent = refl
refusal_again (refusal.Taken x) = refl
refusal_again refusal.Cycle = refl
refusal_again refusal.NotEmpty = refl
refusal_again (refusal.NoBlock d) = refl

abbrev pub refusal_code : Coded Refusal
refusal_code = code_by (ℕ ⊎ ((ℕ ⊎ ℕ) ⊎ List ℕ)) (coded⊎ coded_ℕ (coded⊎ (coded⊎ coded_ℕ coded_ℕ) (coded_list coded_ℕ))) refusal_parts refusal_of refusal_again

abbrev pub taken_parts : Taken → Outcome ⊎ (ℕ ⊎ Refusal)
taken_parts (came.Folder o) = inl o
taken_parts (came.Accepted rev) = inr (inl rev)
taken_parts (came.Refused r) = inr (inr r)

abbrev pub taken_of : Outcome ⊎ (ℕ ⊎ Refusal) → Taken
taken_of (inl o) = came.Folder o
taken_of (inr (inl rev)) = came.Accepted rev
taken_of (inr (inr r)) = came.Refused r

pub taken_again : (t : Taken) → taken_of (taken_parts t) ≡ t
taken_again (came.Folder o) = refl
taken_again (came.Accepted rev) = refl
taken_again (came.Refused r) = refl

abbrev pub taken_code : Coded Taken
taken_code = code_by (Outcome ⊎ (ℕ ⊎ Refusal)) (coded⊎ outcome_code (coded⊎ coded_ℕ refusal_code)) taken_parts taken_of taken_again

abbrev pub stage_parts : Stage → ℕ ⊎ Taken
stage_parts planned = inl 0
stage_parts started = inl 1
stage_parts (taken t) = inr t

abbrev pub stage_of : ℕ ⊎ Taken → Stage
stage_of (inl zero) = planned
stage_of (inl _) = started
stage_of (inr t) = taken t

pub stage_again : (s : Stage) → stage_of (stage_parts s) ≡ s
stage_again planned = refl
stage_again started = refl
stage_again (taken t) = refl

abbrev pub flight_code : Coded Flight
flight_code = code_by (Op × Stage) (coded× op_code (code_by (ℕ ⊎ Taken) (coded⊎ coded_ℕ taken_code) stage_parts stage_of stage_again))
    (λ f. (f.op, f.stage)) (λ t. record { op = t.0; stage = t.1 }) (λ _. refl)
