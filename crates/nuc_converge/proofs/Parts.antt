-- The parts of the proof: what each step of a client that is left alone keeps, and what it pays.
use Rattle.std.proofs.Common.{◌≡◌, ◌≢◌, ◌≤◌, ◌<◌, ◌+◌, ℕ, Bool, List, [], ◌∷◌, ◌++◌, length, drop, take}
use Rattle.std.specs.Prelude.{Contains}
use Rattle.nuc_base.specs.Changes.{IsLegal}
use Rattle.nuc_base.specs.Trees.{Nodes}
use Rattle.nuc_conflict.specs.FitTogether.{FitTogether}
use Rattle.nuc_edits.specs.Edits.{Recorded, same_hash}
use Rattle.nuc_flights.specs.Flights.{Flight, flight_of}
use Rattle.nuc_flights.specs.declared.taken.Taken.{Taken}
use Rattle.nuc_journal.specs.Entries.{tree_after}
use Rattle.nuc_journal.specs.Journal.{IsJournal}
use Rattle.nuc_journal.specs.declared.entry.Entry.{Entry}
use Rattle.nuc_log.specs.declared.reply.Reply.{Reply}
use Rattle.nuc_log.specs.declared.reply.Reply.TheVariants as reply
use Rattle.nuc_measure.specs.Pays.{Keeps}
use Rattle.nuc_measure.specs.Potential.{IsCarried}
use Rattle.nuc_replica.specs.Following.{IsAt}
use Rattle.nuc_step.specs.Client.{ClientState}
use Rattle.nuc_step.specs.Order.{IsReady}
use Rattle.nuc_step.specs.Planning.{CanPlan, PlanAnswers, Planning}
use Rattle.nuc_step.specs.Sound.{IsClient}
use Rattle.nuc_step.specs.Steps.{IsDone}
use Rattle.nuc_step.specs.declared.answers.Planned.{Planned}
use Rattle.nuc_step.specs.declared.reply.DoneReply.{DoneReply}
use Rattle.nuc_converge.specs.Alone.{IsIdlePlan}
use Rattle.nuc_converge.specs.Counts.{applied_by, applied_in, dropped_in, planned_by}
use Rattle.nuc_converge.proofs.InFlight.{IsAlone, IsBatch, flies}

-- what a client carries, with what flies
abbrev pub Carries : (ℕ → ℕ → Bool) → ClientState → ℕ → Type 0
Carries same c k = IsCarried same (flies c.flights) c.remote.tree c.local.tree c.synced k

-- THE NEXT ENTRIES COME, those of commits of the batch. They aren't beyond what may be written, and raise nothing
pub record HaveCome (same : ℕ → ℕ → Bool) (r l s now : Nodes) (cursor : ℕ) (entries : List Entry) (fs : List Flight) : Type 0 where
  pub fit : FitTogether now l s
  pub batch : IsBatch same now l s cursor entries fs
  pub keeps : Keeps same (flies fs) r l s (flies fs) now l s

abbrev pub EntriesCome : Type 0
EntriesCome = (same : ℕ → ℕ → Bool) (r l s : Nodes) (cursor k : ℕ) (entries : List Entry) (fs : List Flight) → IsJournal entries → FitTogether r l s
    → IsBatch same r l s cursor entries fs → ((f : Flight) → Contains fs f → IsLegal s f.op.id.0 f.op.synced) → ((f : Flight) → Contains fs f → 0 < f.op.id.0)
    → k ≤ length (drop cursor entries)
    → HaveCome same r l s (tree_after r (take k (drop cursor entries))) (cursor + k) entries fs

-- A PLAN
pub record HasPlanned (same : ℕ → ℕ → Bool) (entries : List Entry) (c d : ClientState) (answer : Planned) : Type 0 where
  pub alone : IsAlone same entries d
  pub ready : IsReady d
  pub pays : (a b : ℕ) → Carries same c a → Carries same d b → b + applied_by answer ≤ a
  pub counts : planned_by answer + length c.flights ≡ applied_by answer + length d.flights

abbrev pub PlansStayAlone : Type 0
PlansStayAlone = (entries : List Entry) (p q : Planning) (answer : Planned) → IsClient p.client → CanPlan p.client p.next_id
    → IsAlone (same_hash p.recorded.edits) entries p.client → IsReady p.client → PlanAnswers p answer q → IsIdlePlan answer
    → HasPlanned (same_hash p.recorded.edits) entries p.client q.client answer

-- A DONE
pub record HasEnded (same : ℕ → ℕ → Bool) (entries : List Entry) (c d : ClientState) (answer : DoneReply) : Type 0 where
  pub alone : IsAlone same entries d
  pub ready : IsReady d
  pub pays : (a b : ℕ) → Carries same c a → Carries same d b → b + applied_in (reply.Done answer) ≤ a
  pub counts : length c.flights ≡ length d.flights + applied_in (reply.Done answer) + dropped_in (reply.Done answer)

abbrev pub DonesStayAlone : Type 0
DonesStayAlone = (same : ℕ → ℕ → Bool) (entries : List Entry) (n next : ℕ) (c d : ClientState) (e f : Recorded) (answer : DoneReply) → IsJournal entries
    → IsAt entries c.remote → IsClient c → CanPlan c next → IsAlone same entries c → IsReady c → IsDone n c e answer d f
    → HasEnded same entries c d answer
