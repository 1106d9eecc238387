-- How the calls of a client answer.
use Rattle.std.specs.Prelude.{◌≡◌, ◌<◌, ◌+◌, ℕ, List, [], length}
use Rattle.nuc_class.specs.declared.op.Op.{Op}
use Rattle.nuc_flights.specs.Flights.{Flight, IsStarted, StandsAt}
use Rattle.nuc_flights.specs.declared.taken.Taken.{Taken}
use Rattle.nuc_journal.specs.declared.entry.Entry.{Entry}
use Rattle.nuc_replica.specs.Remote.{RemoteState}
use Rattle.nuc_step.specs.Client.{ClientState}
use Rattle.nuc_step.specs.Sound.{FitsTaken}
use Rattle.nuc_step.specs.Steps.{after_fly, after_take}
use Rattle.nuc_step.specs.declared.answers.FlyReply.{FlyReply}
use Rattle.nuc_step.specs.declared.answers.FlyReply.TheVariants as fly
use Rattle.nuc_step.specs.declared.answers.TakeFault.{TakeFault}
use Rattle.nuc_step.specs.declared.answers.TakeFault.TheVariants as fault
use Rattle.std.specs.declared.result.Result.{Result}
use Rattle.std.specs.declared.result.Result.TheVariants as result

-- busy exactly while operations are in flight, with their number
abbrev pub FlyAnswers : ClientState → List Op → FlyReply → ClientState → Type 0
FlyAnswers c ops fly.Flying d = (c.flights ≡ []) × (d ≡ after_fly ops c)
FlyAnswers c ops (fly.Busy k) d = (0 < k) × (k ≡ length c.flights) × (d ≡ c)
FlyAnswers c ops fly.Memory d = (c.flights ≡ []) × (d ≡ c)

-- the outcome is one that the operation can have, and an accepted commit is among the entries that came with it, or known
-- already
abbrev pub MayBeTaken : RemoteState → List Entry → Taken → Flight → Type 0
MayBeTaken remote news t f = FitsTaken (remote.cursor + length news) f.op t

abbrev pub TakeAnswers : ClientState → ℕ → Taken → List Entry → Result (Unit {0}) TakeFault → ClientState → Type 0
TakeAnswers c n t news (result.Ok u) d = StandsAt n IsStarted c.flights × (d ≡ after_take n t news c)
TakeAnswers c n t news (result.Err fault.NoSuchOp) d = ¬ (StandsAt n IsStarted c.flights) × (d ≡ c)
TakeAnswers c n t news (result.Err fault.Memory) d = StandsAt n IsStarted c.flights × (d ≡ c)
