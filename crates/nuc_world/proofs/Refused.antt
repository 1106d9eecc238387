-- Why a turn isn't entered, or not made.
use Rattle.std.specs.Prelude.{Result, Ok, Err, OnErr, OnOk, IfErr}
use Rattle.std.proofs.Common.{◌≡◌, ◌≢◌, ◌<◌, ◌+◌, ◌++◌, List, [], ◌∷◌, ℕ, refl, sym, ◌∙◌, ap, subst}
use Rattle.nuc_folder.specs.declared.item.Item.{Item}
use Rattle.nuc_folder.specs.declared.noticed.Noticed.{Noticed}
use Rattle.nuc_log.specs.declared.event.Event.{Event}
use Rattle.nuc_log.specs.declared.event.Event.TheVariants as event
use Rattle.nuc_log.specs.declared.log.LogEntry.{LogEntry}
use Rattle.nuc_log.specs.declared.reply.Reply.{Reply}
use Rattle.nuc_log.specs.declared.reply.Reply.TheVariants as reply
use Rattle.nuc_log.specs.declared.log.LogEntry.TheVariants as entry
use Rattle.nuc_server.specs.WebEdits.{WebState}
use Rattle.nuc_world.specs.Parts.{turn_at}
use Rattle.nuc_world.specs.State.{MemberState, Turn}
use Rattle.nuc_world.specs.Step.{Does, Watches}
use Rattle.nuc_world.specs.Turns.{CostsTurn, HasNoTurn, IsList, MissesTurn, StepsTurn, StopsTurn}
use Rattle.nuc_world.specs.Turns.CostsTurn.{one, listing}
use Rattle.nuc_world.specs.Units.{HasRoom, Refuses, units_by, units_of}
use Rattle.nuc_world.specs.Unlisted.{Unlists}
use Rattle.nuc_world.specs.declared.observing.ListFault.{ListFault}
use Rattle.nuc_world.specs.declared.observing.ListFault.TheVariants as fault
use Rattle.nuc_world.specs.declared.stop.Stop.{Stop}
use Rattle.nuc_world.specs.declared.stop.Stop.TheVariants as stop
use Rattle.nuc_world.specs.declared.stop.TheConstants.{MOST_UNITS}

-- WHAT A TURN COSTS: watching is never answered by a listing
no_listing : (pending : List Noticed) (changes : ℕ) (items : List Item) (t u : Turn) → Watches pending (reply.Listed changes items) t u → ⊥
no_listing [] changes items t u does = does
no_listing (notice ∷ notices) changes items t u does = does

costs_listing : (log : List LogEntry) (e : Event) (changes : ℕ) (items : List Item) (t u : Turn) → Does log e (reply.Listed changes items) t u
    → CostsTurn e t.member (units_by (reply.Listed changes items))
costs_listing log (event.User c edit) changes items t u does = absurd does
costs_listing log (event.Web edit) changes items t u does = absurd does
costs_listing log (event.List c) changes items t u does = listing c items refl does.lasts does.items_are does.few
costs_listing log (event.Scan c) changes items t u does = absurd does
costs_listing log (event.Watch c) changes items t u does = absurd (no_listing t.member.folder.pending changes items t u does)
costs_listing log (event.Pull c) changes items t u does = absurd does
costs_listing log (event.Plan c) changes items t u does = absurd does
costs_listing log (event.Start c n) changes items t u does = absurd does
costs_listing log (event.Take c n) changes items t u does = absurd does
costs_listing log (event.Done c n) changes items t u does = absurd does
costs_listing log (event.Restart c) changes items t u does = absurd does
costs_listing log (event.Mark c) changes items t u does = absurd does

costs : (log : List LogEntry) (e : Event) (r : Reply) (t u : Turn) → Does log e r t u → CostsTurn e t.member (units_by r)
costs log e (reply.User answer) t u does = one
costs log e (reply.Web answer) t u does = one
costs log e (reply.Listed changes items) t u does = costs_listing log e changes items t u does
costs log e (reply.Scan answer) t u does = one
costs log e (reply.Watch answer) t u does = one
costs log e reply.Nothing t u does = one
costs log e (reply.Pulled entries cursor) t u does = one
costs log e (reply.Plan answer) t u does = one
costs log e (reply.Started answer) t u does = one
costs log e (reply.Took answer) t u does = one
costs log e (reply.Done answer) t u does = one
costs log e reply.Restarted t u does = one
costs log e (reply.Marked answer) t u does = one

-- a turn that the log refused, and that was taken back
pub refused_turn : (log : List LogEntry) (e : Event) (r : Reply) (t u v : Turn) → Does log e r t u → (why : Stop) → Refuses (units_of log) r why → v ≡ t
    → StopsTurn log e why t v
refused_turn log e r t u v does stop.NoClient refuses same = absurd refuses
refused_turn log e r t u v does stop.LogFull refuses same = (record { cost = units_by r; costs = costs log e r t u does; passes = refuses }, same)
refused_turn log e r t u v does stop.FolderFault refuses same = absurd refuses
refused_turn log e r t u v does (stop.TooLong n) refuses same = absurd refuses
refused_turn log e r t u v does stop.Memory refuses same = same

-- only a listing is missed otherwise than for want of memory
pub missed_listing : (e : Event) (why : ListFault) (t u : Turn) → why ≢ fault.Memory → MissesTurn e why t u
    → IsList e × Unlists why t.member u.member × (u.shared ≡ t.shared)
missed_listing (event.User c edit) why t u other misses = absurd (other misses)
missed_listing (event.Web edit) why t u other misses = absurd (other misses)
missed_listing (event.List c) why t u other misses = (tt, misses.0, misses.1)
missed_listing (event.Scan c) why t u other misses = absurd (other misses)
missed_listing (event.Watch c) why t u other misses = absurd (other misses)
missed_listing (event.Pull c) why t u other misses = absurd (other misses)
missed_listing (event.Plan c) why t u other misses = absurd (other misses)
missed_listing (event.Start c n) why t u other misses = absurd (other misses)
missed_listing (event.Take c n) why t u other misses = absurd (other misses)
missed_listing (event.Done c n) why t u other misses = absurd (other misses)
missed_listing (event.Restart c) why t u other misses = absurd (other misses)
missed_listing (event.Mark c) why t u other misses = absurd (other misses)

-- THE ENDS OF A STEP of a member
pub same_turns : (s t : WebState) (m n : MemberState) → s ≡ t → m ≡ n → turn_at s m ≡ turn_at t n
same_turns s t m n shared member = ap (λ x. turn_at x m) shared ∙ ap (λ x. turn_at t x) member

pub full_turn : (log : List LogEntry) (e : Event) (t : Turn) → MOST_UNITS < units_of log + 1 → HasNoTurn log e t.member
full_turn log e t passes = record { cost = 1; costs = one; passes = passes }

long_listing : (log : List LogEntry) (e : Event) (t u v : Turn) (n : ℕ) → HasRoom log → v ≡ t → IsList e × Unlists (fault.TooLong n) t.member u.member × (u.shared ≡ t.shared)
    → StopsTurn log e (stop.TooLong n) t v
long_listing log e t u v n room same (is, (lasts, more), shared) = (room, is, lasts, more, same)

module _ (log : List LogEntry) (e : Event) (t u v : Turn) where
  pub failed_turn : HasRoom log → MissesTurn e fault.Failed t u → v ≡ u → StopsTurn log e stop.FolderFault t v
  failed_turn room misses same =
      let lists = missed_listing e fault.Failed t u (λ is. cc) misses in
      let (is, unlists, shared) = subst (λ (w : Turn). IsList e × Unlists fault.Failed t.member w.member × (w.shared ≡ t.shared)) (sym same) lists in
      (room, is, unlists, shared)

  pub long_turn : (n : ℕ) → HasRoom log → MissesTurn e (fault.TooLong n) t u → v ≡ t → StopsTurn log e (stop.TooLong n) t v
  long_turn n room misses same =
      long_listing log e t u v n room same (missed_listing e (fault.TooLong n) t u (λ is. cc) misses)

module _ (log now : List LogEntry) (e : Event) (answer : Reply) (t u v : Turn) (does : Does log e answer t u) where
  pub entered_turn : (r : Result (Unit {0}) Stop) → OnOk r (now ≡ log ++ entry.Stepped e answer ∷ []) → OnOk r (v ≡ u) → OnOk r (StepsTurn log e t v now)
  entered_turn (Ok x) is same = record { reply = answer; does = subst (Does log e answer t) (sym same) does; entered = is }
  entered_turn (Err why) is same = tt

  pub undone_turn : (r : Result (Unit {0}) Stop) → OnErr r (now ≡ log) → OnErr r (v ≡ t) → IfErr r (λ why. Refuses (units_of log) answer why)
      → IfErr r (λ why. StopsTurn log e why t v × (now ≡ log))
  undone_turn (Ok x) is same refuses = tt
  undone_turn (Err why) is same refuses = (refused_turn log e answer t u v does why refuses same, is)
