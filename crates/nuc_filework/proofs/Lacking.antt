-- What the calls of an operation lack, where the last of its steps does.
use Rattle.std.proofs.Common.{ℕ, List, [], ◌∷◌, Option, Some, None, ap, refl, inr}
use Rattle.nuc_filework.specs.Calls.{in_order}
use Rattle.nuc_filework.specs.Lacks.{LacksCalls, LacksStep, NeedsCall, NeedsCalls}
use Rattle.nuc_filework.specs.Runs.{FolderView, RunsOp}
use Rattle.nuc_filework.specs.declared.call.Call.{Call}
use Rattle.nuc_filework.specs.declared.steps.Lack.{Lack}
use Rattle.nuc_filework.specs.declared.steps.Lack.TheVariants.{Missing, Memory}
use Rattle.nuc_folder.specs.declared.outcome.Outcome.TheVariants as outcome
use Rattle.nuc_observe.specs.Keys.{KeyMap}

needs_calls : (a b : Option Call) (o : Option (Option Call)) → NeedsCall o → NeedsCalls (in_order (Some a) (Some b) o)
needs_calls a b None needs = tt
needs_calls a b (Some None) needs = absurd needs
needs_calls None None (Some (Some call)) needs = tt
needs_calls None (Some second) (Some (Some call)) needs = tt
needs_calls (Some first) b (Some (Some call)) needs = tt

pub last_lacks : (a b : Option Call) (o : Option (Option Call)) (lack : Lack) → LacksStep o lack → LacksCalls (in_order (Some a) (Some b) o) lack
last_lacks a b o Missing none = ap (in_order (Some a) (Some b)) none
last_lacks a b o Memory needs = needs_calls a b o needs

-- where memory lacks for the calls of an operation, it has some, or they lack something else too
pub lacks_memory : (m : KeyMap) (bytes : List ℕ) (o : Option (List Call)) (v : FolderView) → NeedsCalls o → RunsOp m bytes o v (record { outcome = outcome.Memory; made = 0 }) v
lacks_memory m bytes None v needs = inr (refl, refl)
lacks_memory m bytes (Some []) v needs = absurd needs
lacks_memory m bytes (Some (call ∷ calls)) v needs = inr (refl, refl)
