-- A script has one outcome: of two runs of one script one goes as far as the other, and both end there for one reason.
use Rattle.std.proofs.Common.{◌≡◌, ◌≢◌, ◌≤◌, ◌⊎◌, ◌++◌, ℕ, List, [], ◌∷◌, Option, Some, None, Result, Ok, Err, inl, inr, refl, sym, ◌∙◌, ap, subst, arith}
use Rattle.nuc_log.specs.declared.event.Event.{Event}
use Rattle.nuc_log.specs.declared.log.LogEntry.{LogEntry}
use Rattle.nuc_report.specs.declared.status.Status.{Status}
use Rattle.nuc_report.specs.declared.status.Status.TheVariants as status
use Rattle.nuc_script.specs.Commands.{clients_of}
use Rattle.nuc_script.specs.declared.command.Command.{Command}
use Rattle.nuc_sync.specs.Runs.{Does, Moves, Refuses, Runs, StopsAt, goes, stays}
use Rattle.nuc_sync.specs.Tasks.{Task, event_of}
use Rattle.nuc_sync.proofs.Growing.{runs_longer}
use Rattle.nuc_world.specs.Runs.{Reaches}
use Rattle.nuc_world.specs.Runs.Reaches.{opened as reaches_opened}
use Rattle.nuc_world.specs.Units.{units_of}
use Rattle.nuc_world.specs.World.{Stops, WorldData, opened}
use Rattle.nuc_world.specs.declared.stop.Stop.{Stop}
use Rattle.nuc_world.specs.declared.stop.Stop.TheVariants as stop
use Rattle.nuc_world.specs.declared.stop.TheConstants.{MOST_UNITS}
use Rattle.nuc_run.specs.OneOutcome.{HasSomeClients, OneNumber, OneOutcome}
use Rattle.nuc_run.specs.Outcome.{RunsCommands}
use Rattle.nuc_run.specs.Scripts.{IsCutLog, IsWholeLog, script_tasks}
use Rattle.nuc_run.specs.Statuses.{IsStatusOf}
use Rattle.nuc_run.proofs.OneMove.{moves_one, moves_reach}
use Rattle.nuc_run.proofs.OneStop.{one_stop, stops_or_steps}

-- A RUN that isn't at its end: the first task was taken up
record Goes (w : WorldData) (ts : List Task) (v : WorldData) (left : List Task) : Type 0 where
  task : Task
  rest : List Task
  asked : List Task
  next : WorldData
  tasks : ts ≡ task ∷ rest
  moves : Moves task w asked next
  later : Runs next (asked ++ rest) v left

stays_or_goes : (w : WorldData) (ts : List Task) (v : WorldData) (left : List Task) → Runs w ts v left
    → ((w ≡ v) × (ts ≡ left)) ⊎ Goes w ts v left
stays_or_goes w ts v left (stays x a) = inl (refl, refl)
stays_or_goes w ts v left (goes x t a asked u y rest moves later) =
    inr (record { task = t; rest = a; asked = asked; next = u; tasks = refl; moves = moves; later = later })

-- OF TWO RUNS one goes on where the other is
abbrev GoesOn : WorldData → List Task → WorldData → List Task → Type 0
GoesOn v left u others = Runs v left u others ⊎ Runs u others v left

goes_on : (w : WorldData) (ts : List Task) (v : WorldData) (left : List Task) → Runs w ts v left → Reaches w.log w.now
    → (u : WorldData) (others : List Task) → Runs w ts u others → GoesOn v left u others
goes_on w ts v left (stays x a) reaches u others run = inl run
goes_on w ts v left (goes x t a asked q y rest moves later) reaches u others run = elim (stays_or_goes x (t ∷ a) u others run) [
  | inl (here, tasks) ↦ inr (subst (λ (z : WorldData). Runs z others y rest) here
      (subst (λ (zs : List Task). Runs x zs y rest) tasks (goes x t a asked q y rest moves later)))
  | inr is ↦
      let both : t ∷ a ≡ is.task ∷ is.rest = is.tasks in
      let first : t ≡ is.task = cc in
      let same : a ≡ is.rest = cc in
      let theirs : Moves t x is.asked is.next = subst (λ (z : Task). Moves z x is.asked is.next) (sym first) is.moves in
      let one = moves_one x q is.next asked is.asked t reaches moves theirs in
      let tasks : is.asked ++ is.rest ≡ asked ++ a = ap (λ (zs : List Task). zs ++ is.rest) (sym one.0) ∙ ap (λ (zs : List Task). asked ++ zs) (sym same) in
      let run : Runs q (asked ++ a) u others =
      subst (λ (z : WorldData). Runs z (asked ++ a) u others) (sym one.1) (subst (λ (zs : List Task). Runs is.next zs u others) tasks is.later) in
      goes_on q (asked ++ a) y rest later (moves_reach t x asked q reaches moves) u others run
]

-- WHERE A RUN ENDS: no task is left, or the first one isn't taken up, for this reason
record Known (why : Stop) : Type 0 where
  client : why ≢ stop.NoClient
  memory : why ≢ stop.Memory

abbrev Halts : Result Unit Stop → List Task → WorldData → WorldData → Type 0
Halts (Ok x) left w v = (left ≡ []) × (v ≡ w)
Halts (Err why) left w v = StopsAt left w why v × Known why

pub stop_log : (w : WorldData) (e : Event) (why : Stop) (v : WorldData) → Stops w e why v → v.log ≡ w.log
stop_log w e stop.NoClient v is = ap (λ (u : WorldData). u.log) is.1
stop_log w e stop.LogFull v is = ap (λ (u : WorldData). u.log) is.2
stop_log w e stop.FolderFault v is = is.1.log
stop_log w e (stop.TooLong n) v is = ap (λ (u : WorldData). u.log) is.2
stop_log w e stop.Memory v is = ap (λ (u : WorldData). u.log) is

-- only for want of memory another task than an event isn't taken up
none_refuses : (t : Task) (w : WorldData) (why : Stop) (v : WorldData) → Known why → Refuses t None w why v → ⊥
none_refuses t w stop.Memory v known is = known.memory refl
none_refuses t w why v known is = is

nothing_stops : (w : WorldData) (why : Stop) (v : WorldData) → Known why → StopsAt [] w why v → ⊥
nothing_stops w stop.Memory v known is = known.memory refl
nothing_stops w why v known is = is

refusal_log : (t : Task) (o : Option Event) (w : WorldData) (why : Stop) (v : WorldData) → Known why → Refuses t o w why v → v.log ≡ w.log
refusal_log t (Some e) w why v known is = stop_log w e why v is
refusal_log t None w why v known is = absurd (none_refuses t w why v known is)

halt_log : (r : Result Unit Stop) (left : List Task) (w v : WorldData) → Halts r left w v → v.log ≡ w.log
halt_log (Ok x) left w v is = ap (λ (u : WorldData). u.log) is.1
halt_log (Err why) [] w v is = absurd (nothing_stops w why v is.1 is.0)
halt_log (Err why) (t ∷ ts) w v is = refusal_log t (event_of t) w why v is.1 is.0

-- where it ends no task is taken up, within the limit of a log
refused_or_done : (t : Task) (o : Option Event) (w v u : WorldData) (asked : List Task) (why : Stop) → Known why → Refuses t o w why v
    → Does t o w asked u → units_of u.log ≤ MOST_UNITS → ⊥
refused_or_done t (Some e) w v u asked why known is does few = stops_or_steps w v u e does.reply why is known.client known.memory does.step does.log few
refused_or_done t None w v u asked why known is does few = none_refuses t w why v known is

ended_or_moves : (r : Result Unit Stop) (left : List Task) (w v : WorldData) → Halts r left w v
    → (t : Task) (ts asked : List Task) (u : WorldData) → left ≡ t ∷ ts
    → Moves t w asked u → units_of u.log ≤ MOST_UNITS → ⊥
ended_or_moves (Ok x) left w v is t ts asked u tasks moves few = let clash : [] ≡ t ∷ ts = sym is.0 ∙ tasks in cc
ended_or_moves (Err why) left w v is t ts asked u tasks moves few =
    refused_or_done t (event_of t) w v u asked why is.1 (subst (λ (zs : List Task). StopsAt zs w why v) tasks is.0) moves few

-- so a run doesn't go on from there
no_more : (r : Result Unit Stop) (left : List Task) (w v : WorldData) → Halts r left w v → (u : WorldData) (others : List Task) → Runs w left u others
    → units_of u.log ≤ MOST_UNITS → (w ≡ u) × (left ≡ others)
no_more r left w v is u others run few = elim (stays_or_goes w left u others run) [
  | inl same ↦ same
  | inr more ↦
      let longer : units_of more.next.log ≤ units_of u.log = runs_longer more.next (more.asked ++ more.rest) u others more.later in
      absurd (ended_or_moves r left w v is more.task more.rest more.asked more.next more.tasks more.moves (omega (arith, longer, few)))
]

-- TWO ENDS at one place have one reason
one_refusal : (t : Task) (o : Option Event) (w v u : WorldData) (why other : Stop) → Known why → Known other
    → Refuses t o w why v → Refuses t o w other u → why ≡ other
one_refusal t (Some e) w v u why other a b x y = one_stop w v u e why other a.client a.memory b.client b.memory x y
one_refusal t None w v u why other a b x y = absurd (none_refuses t w why v a x)

one_reason : (w v u : WorldData) (left : List Task) (why other : Stop) → Known why → Known other
    → StopsAt left w why v → StopsAt left w other u → why ≡ other
one_reason w v u [] why other a b x y = absurd (nothing_stops w why v a x)
one_reason w v u (t ∷ ts) why other a b x y = one_refusal t (event_of t) w v u why other a b x y

stopped_at_end : (left : List Task) (w v : WorldData) (why : Stop) → left ≡ [] → Known why → StopsAt left w why v → ⊥
stopped_at_end left w v why none known is = nothing_stops w why v known (subst (λ (zs : List Task). StopsAt zs w why v) none is)

one_halt : (r q : Result Unit Stop) (left : List Task) (w v u : WorldData) → Halts r left w v → Halts q left w u → r ≡ q
one_halt (Ok x) (Ok y) left w v u a b = refl
one_halt (Ok x) (Err other) left w v u a b = absurd (stopped_at_end left w u other a.0 b.1 b.0)
one_halt (Err why) (Ok y) left w v u a b = absurd (stopped_at_end left w v why b.0 a.1 a.0)
one_halt (Err why) (Err other) left w v u a b = ap Err (one_reason w v u left why other a.1 b.1 a.0 b.0)

-- A WHOLE RUN: up to its end, and the log there
record Ends (w : WorldData) (ts : List Task) (r : Result Unit Stop) (log : List LogEntry) : Type 0 where
  before : WorldData
  left : List Task
  end : WorldData
  runs : Runs w ts before left
  halts : Halts r left before end
  log_is : log ≡ end.log
  few : units_of log ≤ MOST_UNITS

module _ (w : WorldData) (ts : List Task) (r : Result Unit Stop) (log : List LogEntry) (is : Ends w ts r log) where
  log_before : log ≡ is.before.log
  log_before = is.log_is ∙ halt_log r is.left is.before is.end is.halts

  few_before : units_of is.before.log ≤ MOST_UNITS
  few_before = subst (λ (es : List LogEntry). units_of es ≤ MOST_UNITS) log_before is.few

module _ (w : WorldData) (ts : List Task) (r q : Result Unit Stop) (log other : List LogEntry) (a : Ends w ts r log) (b : Ends w ts q other) where
  same_place : (a.before ≡ b.before) × (a.left ≡ b.left) → (r ≡ q) × (log ≡ other)
  same_place (place, tasks) =
      let there : Halts r b.left b.before a.end =
      subst (λ (z : WorldData). Halts r b.left z a.end) place (subst (λ (zs : List Task). Halts r zs a.before a.end) tasks a.halts) in (
        one_halt r q b.left b.before a.end b.end there b.halts,
        log_before w ts r log a ∙ ap (λ (z : WorldData). z.log) place ∙ sym (log_before w ts q other b),
      )

  one_end : Reaches w.log w.now → (r ≡ q) × (log ≡ other)
  one_end reaches = elim (goes_on w ts a.before a.left a.runs reaches b.before b.left b.runs) [
    | inl on ↦ same_place (no_more r a.left a.before a.end a.halts b.before b.left on (few_before w ts q other b))
    | inr on ↦
        let same = no_more q b.left b.before b.end b.halts a.before a.left on (few_before w ts r log a) in
        same_place (sym same.0, sym same.1)
  ]

-- BY THE STATUS
record EndsBy (cs : List Command) (b : Status) (log : List LogEntry) : Type 0 where
  ran : Result Unit Stop
  judged : IsStatusOf (clients_of cs) log ran b
  ends : Ends (opened (clients_of cs)) (script_tasks cs) ran log

ends_whole : (cs : List Command) (log : List LogEntry) → IsWholeLog cs log → Ends (opened (clients_of cs)) (script_tasks cs) (Ok tt) log
ends_whole cs log is = record { before = is.end; left = []; end = is.end; runs = is.runs; halts = (refl, refl); log_is = is.log_is; few = is.few }

ends_cut : (cs : List Command) (why : Stop) (log : List LogEntry) → Known why
    → IsCutLog cs why log → Ends (opened (clients_of cs)) (script_tasks cs) (Err why) log
ends_cut cs why log known is = record {
  before = is.breaks.before;
  left = is.breaks.left;
  end = is.end;
  runs = is.breaks.runs;
  halts = (is.breaks.stops, known);
  log_is = is.log_is;
  few = is.few;
}

full_known : Known stop.LogFull
full_known = record { client = λ e. cc; memory = λ e. cc }

fault_known : Known stop.FolderFault
fault_known = record { client = λ e. cc; memory = λ e. cc }

long_known : (n : ℕ) → Known (stop.TooLong n)
long_known n = record { client = λ e. cc; memory = λ e. cc }

ends_by : (cs : List Command) (b : Status) (log : List LogEntry) → b ≢ status.Memory → RunsCommands cs b log → EndsBy cs b log
ends_by cs status.Ok log some (whole, judged) = record { ran = Ok tt; judged = judged; ends = ends_whole cs log whole }
ends_by cs status.Stalled log some (whole, judged) = record { ran = Ok tt; judged = judged; ends = ends_whole cs log whole }
ends_by cs status.LogFull log some cut = record { ran = Err stop.LogFull; judged = tt; ends = ends_cut cs stop.LogFull log full_known cut }
ends_by cs status.FolderFault log some cut = record { ran = Err stop.FolderFault; judged = tt; ends = ends_cut cs stop.FolderFault log fault_known cut }
ends_by cs status.ListingTooLong log some (n, cut) =
    record { ran = Err (stop.TooLong n); judged = tt; ends = ends_cut cs (stop.TooLong n) log (long_known n) cut }
ends_by cs status.Memory log some runs = absurd (some refl)
ends_by cs b log some none = absurd none

one_status : (n : ℕ) (log : List LogEntry) (r : Result Unit Stop) (a b : Status) → IsStatusOf n log r a → IsStatusOf n log r b → a ≡ b
one_status n log (Ok x) status.Ok status.Ok y z = refl
one_status n log (Ok x) status.Ok status.Stalled y z = absurd (y z)
one_status n log (Ok x) status.Ok b y z = absurd z
one_status n log (Ok x) status.Stalled status.Ok y z = absurd (z y)
one_status n log (Ok x) status.Stalled status.Stalled y z = refl
one_status n log (Ok x) status.Stalled b y z = absurd z
one_status n log (Ok x) a b y z = absurd y
one_status n log (Err stop.LogFull) status.LogFull status.LogFull y z = refl
one_status n log (Err stop.LogFull) status.LogFull b y z = absurd z
one_status n log (Err stop.LogFull) a b y z = absurd y
one_status n log (Err stop.FolderFault) status.FolderFault status.FolderFault y z = refl
one_status n log (Err stop.FolderFault) status.FolderFault b y z = absurd z
one_status n log (Err stop.FolderFault) a b y z = absurd y
one_status n log (Err (stop.TooLong k)) status.ListingTooLong status.ListingTooLong y z = refl
one_status n log (Err (stop.TooLong k)) status.ListingTooLong b y z = absurd z
one_status n log (Err (stop.TooLong k)) a b y z = absurd y
one_status n log (Err stop.Memory) status.Memory status.Memory y z = refl
one_status n log (Err stop.Memory) status.Memory b y z = absurd z
one_status n log (Err stop.Memory) a b y z = absurd y
one_status n log (Err stop.NoClient) status.Ok b y z = absurd y
one_status n log (Err stop.NoClient) a b y z = absurd y

abbrev too_long : ℕ → Result Unit Stop
too_long n = Err (stop.TooLong n)

same_number : (n k : ℕ) → too_long n ≡ too_long k → n ≡ k
same_number n k e = cc

begins : (cs : List Command) → HasSomeClients cs → Reaches (opened (clients_of cs)).log (opened (clients_of cs)).now
begins cs (some, few) = reaches_opened (clients_of cs) some few

pub one_outcome : OneOutcome
one_outcome cs a b log other clients x y first second =
    let xs = ends_by cs a log first x in
    let ys = ends_by cs b other second y in
    let one = one_end (opened (clients_of cs)) (script_tasks cs) xs.ran ys.ran log other xs.ends ys.ends (begins cs clients) in
    let judged = subst (λ (es : List LogEntry). IsStatusOf (clients_of cs) es ys.ran a) one.1
    (subst (λ (r : Result Unit Stop). IsStatusOf (clients_of cs) log r a) one.0 xs.judged) in
    (one_status (clients_of cs) other ys.ran a b judged ys.judged, one.1)

pub one_number : OneNumber
one_number cs n k log other clients x y =
    let one = one_end (opened (clients_of cs)) (script_tasks cs) (too_long n) (too_long k) log other
    (ends_cut cs (stop.TooLong n) log (long_known n) x) (ends_cut cs (stop.TooLong k) other (long_known k) y) (begins cs clients) in
    same_number n k one.0
