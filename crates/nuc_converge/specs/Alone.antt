-- A part of a log in which a client is left alone.
use Rattle.std.specs.Prelude.{◌≡◌, ℕ, true, length, List, [], ◌∷◌, ◌++◌, Some}
use Rattle.nuc_flights.specs.Flights.{Flight}
use Rattle.nuc_folder.specs.Outcome.{is_success}
use Rattle.nuc_log.specs.declared.event.Event.{Event}
use Rattle.nuc_log.specs.declared.event.Event.TheVariants as event
use Rattle.nuc_log.specs.declared.log.LogEntry.{LogEntry}
use Rattle.nuc_log.specs.declared.log.LogEntry.TheVariants as entry
use Rattle.nuc_log.specs.declared.reply.Reply.{Reply}
use Rattle.nuc_log.specs.declared.reply.Reply.TheVariants as reply
use Rattle.nuc_log.specs.declared.reply.StartReply.{StartReply}
use Rattle.nuc_log.specs.declared.reply.StartReply.TheVariants as start
use Rattle.nuc_log.specs.declared.reply.TakeReply.{TakeReply}
use Rattle.nuc_log.specs.declared.reply.TakeReply.TheVariants as took
use Rattle.nuc_step.specs.declared.answers.Planned.{Planned}
use Rattle.nuc_step.specs.declared.answers.Planned.TheVariants as plan
use Rattle.nuc_world.specs.State.{MemberState, WorldState, member_of}
use Rattle.nuc_world.specs.Step.{IsStep}

-- WHAT SUCH A PART HOLDS: plans, starts, takes and Dones of the client, and marks. No plan finds it busy, and no read and no
-- call of its folder goes wrong. Whether the server accepts a commit is left open
abbrev pub IsIdlePlan : Planned → Type 0
IsIdlePlan (plan.Busy k) = ⊥
IsIdlePlan _ = Unit {0}

abbrev pub HasBegun : StartReply → Type 0
HasBegun (start.Ok bytes) = Unit {0}
HasBegun start.NoSuchOp = Unit {0}
HasBegun _ = ⊥

abbrev pub HasGoneWell : TakeReply → Type 0
HasGoneWell (took.Folder ran) = is_success ran.outcome ≡ true
HasGoneWell _ = Unit {0}

abbrev pub IsAlone : ℕ → Event → Reply → Type 0
IsAlone c (event.Plan d) (reply.Plan answer) = (d ≡ c) × IsIdlePlan answer
IsAlone c (event.Start d n) (reply.Started answer) = (d ≡ c) × HasBegun answer
IsAlone c (event.Take d n) (reply.Took answer) = (d ≡ c) × HasGoneWell answer
IsAlone c (event.Done d n) (reply.Done answer) = d ≡ c
IsAlone c (event.Mark d) r = Unit {0}
IsAlone c _ _ = ⊥

-- it begins where nothing of the client is in flight, and it is at the server's last revision
pub record IsRested (c : ℕ) (w : WorldState) (m : MemberState) : Type 0 where
  pub was : member_of c w.members ≡ Some m
  pub landed : m.client.flights ≡ []
  pub latest : m.client.remote.cursor ≡ length w.shared.entries

-- behind these entries, from this world on, the part leads to another
pub data LeftAlone (c : ℕ) (before : List LogEntry) (w : WorldState) : List LogEntry → WorldState → Type 0 where
  begins : LeftAlone c before w [] w
  goes : (part : List LogEntry) (u : WorldState) (e : Event) (r : Reply) (v : WorldState) → LeftAlone c before w part u
      → IsStep (before ++ part) u e r v → IsAlone c e r → LeftAlone c before w (part ++ entry.Stepped e r ∷ []) v
