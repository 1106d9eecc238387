-- A whole sync, task by task, ends quiet.
use Rattle.std.proofs.Common.{◌≡◌, ◌++◌, ℕ, Bool, List, [], ◌∷◌, refl, sym, subst}
use Rattle.nuc_log.specs.declared.event.Event.{Event}
use Rattle.nuc_log.specs.declared.event.Event.TheVariants as event
use Rattle.nuc_log.specs.declared.log.LogEntry.TheVariants as entry
use Rattle.nuc_log.specs.declared.reply.Reply.{Reply}
use Rattle.nuc_sync.specs.Runs.{Answers, Moves, Restarts, Runs, goes, stays}
use Rattle.nuc_sync.specs.Tasks.{Task, begins, ends, fails, more, once, plans, pulls, restarts, sync_tasks, takes}
use Rattle.nuc_transfer.specs.Transfer.{Collision}
use Rattle.nuc_world.specs.Step.{IsStep}
use Rattle.nuc_world.specs.World.{WorldData}
use Rattle.nuc_quiet.specs.Laws.{EndsQuiet, SyncsEndQuiet}
use Rattle.nuc_quiet.proofs.FirstSteps.{list_step, mark_step, may_restart, pull_step, restart_step, scan_step}
use Rattle.nuc_quiet.proofs.Holding.{Holds, HoldsOnce, listing, marking, planning, pulling, scanning}
use Rattle.nuc_quiet.proofs.Parts.{DonesGoWell, PlansGoWell, ScansMatch, StartsGoWell, TakesGoWell}
use Rattle.nuc_quiet.proofs.PlanStep.{plan_step}
use Rattle.nuc_quiet.proofs.WorkSteps.{done_step, start_step, take_step}

module _ (scans : ScansMatch) (plans_well : PlansGoWell) (starts_well : StartsGoWell) (takes_well : TakesGoWell) (dones_well : DonesGoWell) (none : ¬ Collision)
    (c : ℕ) (b : Bool) where
  -- what holds behind each reply
  answered : (t : Task) (e : Event) (rest ts asked : List Task) (w v : WorldData)
      → ((r : Reply) → IsStep w.log w.now e r v.now → v.log ≡ w.log ++ entry.Stepped e r ∷ [] → Holds c b v (more t r ++ rest))
      → ts ≡ rest → Answers t e w asked v → Holds c b v (asked ++ ts)
  answered t e rest ts asked w v each is answers =
      subst (λ xs. Holds c b v (asked ++ xs)) (sym is)
      (subst (λ xs. Holds c b v (xs ++ rest)) (sym answers.asks) (each answers.reply answers.step answers.log))

  by_once : (e : Event) (ts asked : List Task) (w v : WorldData) → HoldsOnce c b w e ts → Answers (once e) e w asked v → Holds c b v (asked ++ ts)
  by_once (event.Restart d) ts asked w v (is, rest, at) answers =
      answered (once (event.Restart c)) (event.Restart c) (listing c b) ts asked w v (λ r step log. (refl, refl, restart_step c w v at r step log)) rest
      (subst (λ x. Answers (once (event.Restart x)) (event.Restart x) w asked v) is answers)
  by_once (event.List d) ts asked w v (is, rest, at) answers =
      answered (once (event.List c)) (event.List c) (scanning c b) ts asked w v (λ r step log. (refl, refl, list_step c w v at r step log)) rest
      (subst (λ x. Answers (once (event.List x)) (event.List x) w asked v) is answers)
  by_once (event.Scan d) ts asked w v (is, rest, at) answers =
      answered (once (event.Scan c)) (event.Scan c) (pulling c b) ts asked w v (λ r step log. (refl, refl, scan_step scans c w v at r step log)) rest
      (subst (λ x. Answers (once (event.Scan x)) (event.Scan x) w asked v) is answers)
  by_once (event.Mark d) ts asked w v (is, rest, at) answers =
      answered (once (event.Mark c)) (event.Mark c) [] ts asked w v (mark_step c w v at) rest
      (subst (λ x. Answers (once (event.Mark x)) (event.Mark x) w asked v) is answers)
  by_once e ts asked w v holds answers = absurd holds

  by_task : (t : Task) (ts asked : List Task) (w v : WorldData) → Holds c b w (t ∷ ts) → Moves t w asked v → Holds c b v (asked ++ ts)
  by_task (once e) ts asked w v holds moves = by_once e ts asked w v holds moves
  by_task (fails d call) ts asked w v holds moves = absurd holds
  by_task (restarts d) ts asked w v (is, rest, at) moves =
      subst (λ xs. Holds c b v (asked ++ xs)) (sym rest) (may_restart c b w at asked v (subst (λ x. Restarts x w asked v) is moves))
  by_task (pulls d) ts asked w v (is, rest, at) moves =
      answered (pulls c) (event.Pull c) (planning c b) ts asked w v (pull_step c b w v at) rest
      (subst (λ x. Answers (pulls x) (event.Pull x) w asked v) is moves)
  by_task (plans d a) ts asked w v (is, rest, at) moves =
      answered (plans c a) (event.Plan c) (marking c) ts asked w v (plan_step plans_well c b a w v at) rest
      (subst (λ x. Answers (plans x a) (event.Plan x) w asked v) is moves)
  by_task (begins d a n left applied) ts asked w v (is, rest, at) moves =
      answered (begins c a n left applied) (event.Start c n) (marking c) ts asked w v (start_step starts_well c b a n left applied w v at) rest
      (subst (λ x. Answers (begins x a n left applied) (event.Start x n) w asked v) is moves)
  by_task (takes d a n left applied) ts asked w v (is, rest, at) moves =
      answered (takes c a n left applied) (event.Take c n) (marking c) ts asked w v (take_step takes_well none c b a n left applied w v at) rest
      (subst (λ x. Answers (takes x a n left applied) (event.Take x n) w asked v) is moves)
  by_task (ends d a n left applied) ts asked w v (is, rest, at) moves =
      answered (ends c a n left applied) (event.Done c n) (marking c) ts asked w v (done_step dones_well c b a n left applied w v at) rest
      (subst (λ x. Answers (ends x a n left applied) (event.Done x n) w asked v) is moves)

  -- to the end of the tasks
  all_tasks : (w : WorldData) (ts : List Task) (v : WorldData) (left : List Task) → Holds c b w ts → Runs w ts v left → left ≡ [] → EndsQuiet c v
  all_tasks w ts v left holds (stays x a) end = subst (Holds c b w) end holds
  all_tasks w ts v left holds (goes x t a asked u y rest moves later) end = all_tasks u (asked ++ a) v left (by_task t a asked w u holds moves) later end

pub syncs_end_quiet : ScansMatch → PlansGoWell → StartsGoWell → TakesGoWell → DonesGoWell → SyncsEndQuiet
syncs_end_quiet scans plans_well starts_well takes_well dones_well c b w v m reached was nothing fit runs none =
    all_tasks scans plans_well starts_well takes_well dones_well none c b w (sync_tasks c b) v []
    (refl, refl, (record { member = m; reached = reached; was = was; nothing_fails = nothing }, fit)) runs refl
