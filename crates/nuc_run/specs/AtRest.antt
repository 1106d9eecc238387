-- That the engine never goes round in circles: what holds wherever a client is left alone in a log.
use Rattle.std.specs.Prelude.{◌≡◌, ◌≤◌, ◌+◌, ◌*◌, ◌↔◌, ◌++◌, ◌∷◌, ℕ, All, List, Some}
use Rattle.nuc_converge.specs.Alone.{IsRested, LeftAlone}
use Rattle.nuc_converge.specs.Counts.{applied, dropped, planned}
use Rattle.nuc_converge.specs.Laws.{Differ, HasPotential, IsNoRefusal}
use Rattle.nuc_log.specs.declared.event.Event.TheVariants as event
use Rattle.nuc_log.specs.declared.log.LogEntry.{LogEntry}
use Rattle.nuc_log.specs.declared.log.LogEntry.TheVariants as entry
use Rattle.nuc_log.specs.declared.reply.Reply.TheVariants as reply
use Rattle.nuc_step.specs.declared.answers.Planned.{Planned}
use Rattle.nuc_step.specs.declared.answers.Planned.TheVariants as plan
use Rattle.nuc_transfer.specs.Transfer.{Collision}
use Rattle.nuc_world.specs.Marks.{IsQuiet}
use Rattle.nuc_world.specs.Runs.{Reaches}
use Rattle.nuc_world.specs.State.{MemberState, WorldState, member_of}
use Rattle.nuc_world.specs.Step.{IsStep}

-- EACH PLAN of the log is empty exactly where nothing of its client is in flight and the three trees are equal
abbrev pub PlansAreExact : List LogEntry → Type 0
PlansAreExact log = (es rest : List LogEntry) (c : ℕ) (p : Planned) (w v : WorldState) (m : MemberState)
    → log ≡ es ++ entry.Stepped (event.Plan c) (reply.Plan p) ∷ rest → Reaches es w → IsStep es w (event.Plan c) (reply.Plan p) v
    → member_of c w.members ≡ Some m → (p ≡ plan.Empty) ↔ IsQuiet m.client

-- OF A PART IN WHICH A CLIENT IS LEFT ALONE: each operation that was applied lowers the potential; it plans at most 6 for each
-- identity that differed, beside those that the server refused; and where it refused one, two lists of bytes have one SHA-256
pub record ComesToRest (c : ℕ) (part : List LogEntry) (w v : WorldState) (m : MemberState) : Type 0 where
  pub lowers : (n : MemberState) (a b : ℕ) → member_of c v.members ≡ Some n → HasPotential w.shared m a → HasPotential v.shared n b → b + applied part ≤ a
  pub few : (d : ℕ) → Differ m d → planned part ≤ 6 * d + dropped part
  pub unless : (d : ℕ) → Differ m d → ¬ Collision → planned part ≤ 6 * d
  pub accepted : All IsNoRefusal part

-- wherever it is
abbrev pub RestsThroughout : List LogEntry → Type 0
RestsThroughout log = (es part rest : List LogEntry) (c : ℕ) (w v : WorldState) (m : MemberState) → log ≡ es ++ (part ++ rest) → Reaches es w
    → IsRested c w m → LeftAlone c es w part v → ComesToRest c part w v m
