-- Why the calls of an operation aren't made.
use Rattle.std.specs.Prelude.{◌≡◌, List, [], ◌∷◌, Option, None, Some}
use Rattle.nuc_filework.specs.declared.call.Call.{Call}
use Rattle.nuc_filework.specs.declared.steps.Lack.{Lack}
use Rattle.nuc_filework.specs.declared.steps.Lack.TheVariants.{Missing, Memory}

abbrev pub IsLacking : {X : Type 0} → Option X → Lack → Type 0
IsLacking o Missing = o ≡ None
IsLacking o Memory = Unit {0}

-- a step that needs no call needs no memory
abbrev pub NeedsCall : Option (Option Call) → Type 0
NeedsCall None = Unit {0}
NeedsCall (Some None) = ⊥
NeedsCall (Some (Some call)) = Unit {0}

abbrev pub LacksStep : Option (Option Call) → Lack → Type 0
LacksStep o Missing = o ≡ None
LacksStep o Memory = NeedsCall o

-- nor does an operation without calls
abbrev pub NeedsCalls : Option (List Call) → Type 0
NeedsCalls None = Unit {0}
NeedsCalls (Some []) = ⊥
NeedsCalls (Some (call ∷ calls)) = Unit {0}

abbrev pub LacksCalls : Option (List Call) → Lack → Type 0
LacksCalls o Missing = o ≡ None
LacksCalls o Memory = NeedsCalls o
