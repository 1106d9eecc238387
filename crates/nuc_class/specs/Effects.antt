-- Where an operation is carried out, and when it adopts a version.
use Rattle.std.specs.Prelude.{◌==◌, ◌&&◌, not, ℕ, Bool, true, false, Option, None, Some, if◌then◌else◌}
use Rattle.std.specs.Bool.{beq}
use Rattle.nuc_base.specs.declared.change.Change.{Change}
use Rattle.nuc_base.specs.declared.change.Change.TheVariants.{Keep, Put, Cut}
use Rattle.nuc_base.specs.declared.node.Node.{Node}
use Rattle.nuc_class.specs.Equal.{place_eq}
use Rattle.nuc_class.specs.Split.{same_content}
use Rattle.nuc_class.specs.declared.op.Effect.{Effect}
use Rattle.nuc_class.specs.declared.op.Effect.TheVariants.{Nothing, Disk, Commit}

-- a folder shows no difference between the two: place, content and bit are the same
abbrev pub looks_same : (ℕ → ℕ → Bool) → Node → Node → Bool
looks_same same n k = place_eq n.place k.place && same_content same n.ver.0 k.ver.0 && beq n.bit k.bit

-- the change of what Local had shows in the folder: a node comes or goes, or looks different
abbrev pub is_shown : (ℕ → ℕ → Bool) → Option Node → Change → Bool
is_shown same l Keep = false
is_shown same None (Put n) = true
is_shown same (Some l) (Put n) = not (looks_same same l n)
is_shown same None Cut = false
is_shown same (Some l) Cut = true

-- at the server where Remote is written, else on the disk where the change of Local shows there, else nowhere
abbrev pub effect_of : (ℕ → ℕ → Bool) → Option Node → Change → Change → Effect
effect_of same l local Keep = if is_shown same l local then Disk else Nothing
effect_of same l local (Put n) = Commit
effect_of same l local Cut = Commit

-- a node comes to Local in place of another, with another version of the same content: the old one is adopted into it
abbrev pub adopts : (ℕ → ℕ → Bool) → Node → Node → Bool
adopts same old into = not (old.ver.0 == into.ver.0) && same old.ver.0 into.ver.0
