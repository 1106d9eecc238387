-- A script without `fail` lines ends quiet.
use Rattle.std.proofs.Common.{◌≡◌, ◌++◌, ℕ, Bool, List, [], ◌∷◌, Option, None, Some, inl, inr, refl, sym, ◌∙◌, ap, subst, arith}
use Rattle.nuc_fit.specs.Bounds.{FitsEntry}
use Rattle.nuc_log.specs.declared.event.Event.{Event}
use Rattle.nuc_log.specs.declared.event.Event.TheVariants as event
use Rattle.nuc_log.specs.declared.log.LogEntry.{LogEntry}
use Rattle.nuc_log.specs.declared.log.LogEntry.TheVariants as entry
use Rattle.nuc_log.specs.declared.reply.MarkReply.TheVariants as mark
use Rattle.nuc_log.specs.declared.reply.Reply.{Reply}
use Rattle.nuc_log.specs.declared.reply.Reply.TheVariants as reply
use Rattle.nuc_lookup.proofs.Ends.{same_ends}
use Rattle.nuc_report.specs.declared.status.Status.{Status}
use Rattle.nuc_report.specs.declared.status.Status.TheVariants as status
use Rattle.nuc_script.specs.Commands.{clients_of}
use Rattle.nuc_script.specs.Fitting.{FitBehind, Fits}
use Rattle.nuc_script.specs.Lines.{is_begun}
use Rattle.nuc_script.specs.declared.command.Command.{Command}
use Rattle.nuc_script.specs.declared.command.Command.TheVariants as command
use Rattle.nuc_script.proofs.CommandsFit.{every_script_fits}
use Rattle.nuc_sync.specs.Runs.{Refuses, Runs, StopsAt}
use Rattle.nuc_sync.specs.Tasks.{Task, event_of}
use Rattle.nuc_sync.proofs.Growing.{runs_longer}
use Rattle.nuc_transfer.specs.Transfer.{Collision}
use Rattle.nuc_world.specs.Runs.Reaches.{opened as reaches_opened}
use Rattle.nuc_world.specs.Runs.{opening}
use Rattle.nuc_world.specs.World.{FailsToList, WorldData, opened}
use Rattle.nuc_world.specs.declared.stop.Stop.{Stop}
use Rattle.nuc_world.specs.declared.stop.Stop.TheVariants as stop
use Rattle.nuc_world.proofs.Items.{all_first, all_front, all_none, all_rest}
use Rattle.nuc_run.specs.Outcome.{RunsCommands}
use Rattle.nuc_run.specs.Quiet.{EndsWell, HasNoFailures, IsNoFailure, MarksAreQuiet, ScriptsEndQuiet}
use Rattle.nuc_run.specs.Scripts.{IsCutLog, IsWholeLog, KeepsToLimit, script_tasks, tasks_of}
use Rattle.nuc_run.specs.Stalled.{IsStalled}
use Rattle.nuc_run.proofs.Calm.{its_calm, not_due, opens_calm}
use Rattle.nuc_run.proofs.Entries.{last_is_entry, new_or_before, no_element}
use Rattle.nuc_run.proofs.Fitted.{clients_within}
use Rattle.nuc_run.proofs.OneOutcome.{stop_log}
use Rattle.nuc_run.proofs.Parted.{beyond, parted, within}
use Rattle.nuc_run.proofs.QuietSoFar.{IsQuietSoFar, plain_run}
use Rattle.nuc_run.proofs.QuietSyncs.{sync_quiet}

-- what a run began with is no longer than what it led to
few_before : (w : WorldData) (ts : List Task) (v : WorldData) (left : List Task) → Runs w ts v left → KeepsToLimit v.log → KeepsToLimit w.log
few_before w ts v left run few = let longer = runs_longer w ts v left run in omega (arith, longer, few)

module _ (none : ¬ Collision) where
  -- EACH COMMAND
  command_quiet : (clients : ℕ) (begun : Bool) (c : Command) → Fits clients begun c → IsNoFailure c
      → (w : WorldData) → IsQuietSoFar w → (v : WorldData) (left : List Task) → Runs w (tasks_of c) v left → KeepsToLimit v.log → IsQuietSoFar v
  command_quiet clients begun (command.Clients count) fits well w so v left run few = plain_run w [] v left so tt run
  command_quiet clients begun (command.User client edit) fits well w so v left run few = plain_run w _ v left so (fits.1, tt) run
  command_quiet clients begun (command.Web edit) fits well w so v left run few = plain_run w _ v left so (fits, tt) run
  command_quiet clients begun (command.Sync client backwards) fits well w so v left run few =
      sync_quiet none client backwards w so (few_before w (tasks_of (command.Sync client backwards)) v left run few) v left run
  command_quiet clients begun (command.Fail client call) fits well w so v left run few = absurd well
  command_quiet clients begun c fits well w so v left run few = plain_run w (tasks_of c) v left so (tt, tt) run

  commands_quiet : (before cs : List Command) → FitBehind before cs → HasNoFailures cs
      → (w : WorldData) → IsQuietSoFar w → (v : WorldData) (left : List Task) → Runs w (script_tasks cs) v left → KeepsToLimit v.log → IsQuietSoFar v
  commands_quiet before [] fits well w so v left run few = plain_run w [] v left so tt run
  commands_quiet before (c ∷ cs) fits well w so v left run few =
      let this = command_quiet (clients_of before) (is_begun before) c fits.0 (all_first IsNoFailure c cs well) w so in
      elim (parted w (script_tasks (c ∷ cs)) v left run (tasks_of c) (script_tasks cs) refl) [
        | within rest first ↦ this v rest first few
        | beyond u first later ↦
            let now = this u [] first (few_before u (script_tasks cs) v left later few) in
            commands_quiet (before ++ c ∷ []) cs fits.1 (all_rest IsNoFailure c cs well) u now v left later few
      ]

-- A WORLD that was just opened
no_opening : (clients : ℕ) (e : Event) (r : Reply) → opening clients ≡ entry.Stepped e r → ⊥
no_opening clients e r same = cc

opens_unmarked : (clients : ℕ) → MarksAreQuiet (opening clients ∷ [])
opens_unmarked clients es rest c r at =
    let mark = entry.Stepped (event.Mark c) r in
    elim (new_or_before [] (opening clients) es mark rest at) [
      | inl (front, same) ↦ absurd (no_opening clients (event.Mark c) r same)
      | inr (later, front) ↦ absurd (no_element es mark later front)
    ]

opens_quiet : (cs : List Command) → FitBehind [] cs → IsQuietSoFar (opened (clients_of cs))
opens_quiet cs fits =
    let (some, few) = clients_within cs fits in
    record {
      reached = reaches_opened (clients_of cs) some few;
      calm = opens_calm (clients_of cs);
      bounded = all_front FitsEntry (opening (clients_of cs)) [] tt (all_none FitsEntry);
      marks = opens_unmarked (clients_of cs);
    }

-- WHY IT ENDS: no folder couldn't be listed
lists_well : (w : WorldData) (e : Event) (v : WorldData) → IsQuietSoFar w → FailsToList w e v → ⊥
lists_well w e v so fails =
    let counted = fails.unlisted.counted in
    let calm = not_due counted.member (its_calm fails.client w.now.members counted.member so.calm counted.was) in
    let clash = sym fails.unlisted.fails ∙ calm in
    cc

refuses_well : (t : Task) (o : Option Event) (w v : WorldData) → IsQuietSoFar w → Refuses t o w stop.FolderFault v → ⊥
refuses_well t (Some e) w v so is = lists_well w e v so is.1
refuses_well t None w v so is = is

stops_well : (left : List Task) (w v : WorldData) → IsQuietSoFar w → StopsAt left w stop.FolderFault v → ⊥
stops_well [] w v so is = is
stops_well (t ∷ ts) w v so is = refuses_well t (event_of t) w v so is

-- and nothing was entered there
refusal_log : (t : Task) (o : Option Event) (w : WorldData) (why : Stop) (v : WorldData) → Refuses t o w why v → v.log ≡ w.log
refusal_log t (Some e) w why v is = stop_log w e why v is
refusal_log t None w stop.Memory v is = ap (λ (u : WorldData). u.log) is
refusal_log t None w why v is = absurd is

stopped_log : (left : List Task) (w : WorldData) (why : Stop) (v : WorldData) → StopsAt left w why v → v.log ≡ w.log
stopped_log [] w stop.Memory v is = ap (λ (u : WorldData). u.log) is
stopped_log [] w why v is = absurd is
stopped_log (t ∷ ts) w why v is = refusal_log t (event_of t) w why v is

-- no client stalled
none_stalled : (n : ℕ) (log : List LogEntry) → MarksAreQuiet log → IsStalled n log → ⊥
none_stalled n log marks is =
    let last = last_is_entry is.client log (mark.Stalled is.differing) is.last in
    let quiet = marks last.before last.rest is.client (reply.Marked (mark.Stalled is.differing)) last.is in
    let stalled = entry.Stepped (event.Mark is.client) (reply.Marked (mark.Stalled is.differing)) in
    let same : stalled ≡ entry.Stepped (event.Mark is.client) (reply.Marked mark.Quiet) =
    (same_ends last.before quiet.ends.before stalled _ quiet.ends.marked).1 in
    cc

module _ (none : ¬ Collision) (cs : List Command) (fits : FitBehind [] cs) (well : HasNoFailures cs) where
  from_opening : (v : WorldData) (left : List Task) → Runs (opened (clients_of cs)) (script_tasks cs) v left → KeepsToLimit v.log → IsQuietSoFar v
  from_opening v left run few = commands_quiet none [] cs fits well (opened (clients_of cs)) (opens_quiet cs fits) v left run few

  whole_quiet : (log : List LogEntry) → IsWholeLog cs log → MarksAreQuiet log
  whole_quiet log is = subst MarksAreQuiet (sym is.log_is) (from_opening is.end [] is.runs (subst KeepsToLimit is.log_is is.few)).marks

  log_cut : (why : Stop) (log : List LogEntry) → (is : IsCutLog cs why log) → log ≡ is.breaks.before.log
  log_cut why log is = is.log_is ∙ stopped_log is.breaks.left is.breaks.before why is.end is.breaks.stops

  before_cut : (why : Stop) (log : List LogEntry) → (is : IsCutLog cs why log) → IsQuietSoFar is.breaks.before
  before_cut why log is = from_opening is.breaks.before is.breaks.left is.breaks.runs (subst KeepsToLimit (log_cut why log is) is.few)

  cut_quiet : (why : Stop) (log : List LogEntry) → IsCutLog cs why log → MarksAreQuiet log
  cut_quiet why log is = subst MarksAreQuiet (sym (log_cut why log is)) (before_cut why log is).marks

  runs_quiet : (b : Status) (log : List LogEntry) → RunsCommands cs b log → EndsWell b × MarksAreQuiet log
  runs_quiet status.Ok log (whole, judged) = (tt, whole_quiet log whole)
  runs_quiet status.Stalled log (whole, judged) = absurd (none_stalled (clients_of cs) log (whole_quiet log whole) judged)
  runs_quiet status.LogFull log cut = (tt, cut_quiet stop.LogFull log cut)
  runs_quiet status.FolderFault log cut = absurd (stops_well cut.breaks.left cut.breaks.before cut.end (before_cut stop.FolderFault log cut) cut.breaks.stops)
  runs_quiet status.ListingTooLong log (n, cut) = (tt, cut_quiet (stop.TooLong n) log cut)
  runs_quiet status.Memory log (inl empty) = (tt, λ es rest c r at. absurd (no_element es (entry.Stepped (event.Mark c) r) rest (sym empty ∙ at)))
  runs_quiet status.Memory log (inr cut) = (tt, cut_quiet stop.Memory log cut)
  runs_quiet b log runs = absurd runs

pub scripts_end_quiet : ScriptsEndQuiet
scripts_end_quiet bytes cs b log are well runs none = runs_quiet none cs (every_script_fits bytes cs are).0 well b log runs
