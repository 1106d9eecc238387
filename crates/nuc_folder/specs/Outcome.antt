use Rattle.std.specs.Prelude.{Bool, true, false}
use Rattle.nuc_folder.specs.declared.outcome.Outcome.{Outcome}
use Rattle.nuc_folder.specs.declared.outcome.Outcome.TheVariants as outcome

-- the call did what it was asked for
abbrev pub is_success : Outcome → Bool
is_success outcome.Ok = true
is_success (outcome.Made key) = true
is_success outcome.Changed = false
is_success outcome.Taken = false
is_success outcome.NotEmpty = false
is_success outcome.Failed = false
is_success outcome.Memory = false
