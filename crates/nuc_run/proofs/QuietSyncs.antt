-- Each sync of such a run that comes to its end is marked quiet.
use Rattle.std.proofs.Common.{◌≡◌, ◌++◌, ℕ, Bool, List, [], ◌∷◌, Some, inl, inr, refl, sym, ◌∙◌, ap, subst}
use Rattle.nuc_fit.proofs.Whole.{folders_are_fit}
use Rattle.nuc_log.specs.declared.event.Event.TheVariants as event
use Rattle.nuc_log.specs.declared.log.LogEntry.{LogEntry}
use Rattle.nuc_log.specs.declared.log.LogEntry.TheVariants as entry
use Rattle.nuc_log.specs.declared.reply.Reply.{Reply}
use Rattle.nuc_quiet.specs.Laws.{EndsQuiet}
use Rattle.nuc_quiet.proofs.Whole.{syncs_end_quiet}
use Rattle.nuc_sync.specs.Runs.{Answers, Moves, Runs, goes, stays}
use Rattle.nuc_sync.specs.Tasks.{Task, once, plans, pulls, restarts, sync_tasks}
use Rattle.nuc_sync.proofs.Running.{runs_then}
use Rattle.nuc_transfer.specs.Transfer.{Collision}
use Rattle.nuc_world.specs.Runs.{Reaches}
use Rattle.nuc_world.specs.Runs.Reaches.{stepped}
use Rattle.nuc_world.specs.State.{MemberState, member_of}
use Rattle.nuc_world.specs.World.{WorldData}
use Rattle.nuc_run.specs.Quiet.{IsMarkedQuiet, MarksAreQuiet}
use Rattle.nuc_run.specs.Scripts.{KeepsToLimit}
use Rattle.nuc_run.proofs.Calm.{its_calm}
use Rattle.nuc_run.proofs.Entries.{new_or_before}
use Rattle.nuc_run.proofs.Parted.{beyond, parted, within}
use Rattle.nuc_run.proofs.QuietSoFar.{ArePlain, IsQuietSoFar, entered, plain_run}

-- THE MARK is the last task of a sync
abbrev before_mark : ℕ → Bool → List Task
before_mark c b = restarts c ∷ once (event.List c) ∷ once (event.Scan c) ∷ pulls c ∷ plans c b ∷ []

abbrev mark_of : ℕ → Task
mark_of c = once (event.Mark c)

plain_before : (c : ℕ) (b : Bool) → ArePlain (before_mark c b)
plain_before c b = (tt, (tt, (tt, (tt, (tt, tt)))))

-- the client of a sync that began
begun_by : (c : ℕ) (w : WorldData) (ts : List Task) (v : WorldData) (left : List Task) → Runs w ts v left → (later : List Task) → ts ≡ restarts c ∷ later
    → left ≡ [] → (m : MemberState) × (member_of c w.now.members ≡ Some m)
begun_by c w ts v left (stays x a) later is none = let clash : restarts c ∷ later ≡ [] = sym is ∙ none in cc
begun_by c w ts v left (goes x t a asked u y rest moves run) later is none =
    let both : t ∷ a ≡ restarts c ∷ later = is in
    let first : t ≡ restarts c = cc in
    let restart : Moves (restarts c) x asked u = subst (λ (z : Task). Moves z x asked u) first moves in
    (restart.member, restart.was)

-- a run that is left with the mark alone, or takes it
data Marks (c : ℕ) (u v : WorldData) : Type 0 where
  waits : v ≡ u → Marks c u v
  marks : Answers (mark_of c) (event.Mark c) u [] v → Marks c u v

stays_there : (u : WorldData) (ts : List Task) (v : WorldData) (left : List Task) → Runs u ts v left → ts ≡ [] → v ≡ u
stays_there u ts v left (stays x a) none = refl
stays_there u ts v left (goes x t a asked y z rest moves later) none = let clash : t ∷ a ≡ [] = none in cc

marks_or_waits : (c : ℕ) (u : WorldData) (ts : List Task) (v : WorldData) (left : List Task) → Runs u ts v left → ts ≡ mark_of c ∷ [] → Marks c u v
marks_or_waits c u ts v left (stays x a) is = waits refl
marks_or_waits c u ts v left (goes x t a asked y z rest moves later) is =
    let both : t ∷ a ≡ mark_of c ∷ [] = is in
    let first : t ≡ mark_of c = cc in
    let last : a ≡ [] = cc in
    let answers : Answers (mark_of c) (event.Mark c) x asked y = subst (λ (s : Task). Moves s x asked y) first moves in
    let none : asked ≡ [] = answers.asks in
    let end : z ≡ y = stays_there y (asked ++ a) z rest later (ap (λ (ts : List Task). ts ++ a) none ∙ last) in
    marks (subst (λ (s : WorldData). Answers (mark_of c) (event.Mark c) x [] s) (sym end)
    (subst (λ (ts : List Task). Answers (mark_of c) (event.Mark c) x ts y) none answers))

-- so all marks are quiet, if this one is
new_marks : (c : ℕ) (u v : WorldData) (r : Reply) → MarksAreQuiet u.log → v.log ≡ u.log ++ entry.Stepped (event.Mark c) r ∷ [] → Reaches v.log v.now → EndsQuiet c v
    → MarksAreQuiet v.log
new_marks c u v r before log reached ends es rest d q at =
    elim (new_or_before u.log (entry.Stepped (event.Mark c) r) es (entry.Stepped (event.Mark d) q) rest (sym log ∙ at)) [
      | inl (front, same) ↦
          let client : c ≡ d = cc in
          let whole : v.log ≡ es ++ entry.Stepped (event.Mark d) q ∷ [] =
          log ∙ ap (λ (xs : List LogEntry). xs ++ entry.Stepped (event.Mark c) r ∷ []) front ∙ ap (λ (x : LogEntry). es ++ x ∷ []) same in
          let quiet : IsMarkedQuiet c v.log = record { now = v.now; reached = reached; ends = ends } in
          subst (λ (xs : List LogEntry). IsMarkedQuiet d xs) whole (subst (λ (k : ℕ). IsMarkedQuiet k v.log) client quiet)
      | inr (later, front) ↦ before es later d q front
    ]

module _ (none : ¬ Collision) (c : ℕ) (b : Bool) (w : WorldData) (so : IsQuietSoFar w) (few : KeepsToLimit w.log) where
  marked : (u : WorldData) → Runs w (before_mark c b) u [] → IsQuietSoFar u → (v : WorldData) → Answers (mark_of c) (event.Mark c) u [] v → IsQuietSoFar v
  marked u run now v answers =
      let (m, was) = begun_by c w (before_mark c b) u [] run (once (event.List c) ∷ once (event.Scan c) ∷ pulls c ∷ plans c b ∷ []) refl refl in
      let whole : Runs w (sync_tasks c b) v [] = runs_then w (before_mark c b) u run (mark_of c ∷ []) v [] (goes u (mark_of c) [] [] v v [] answers (stays v [])) in
      let ends : EndsQuiet c v = syncs_end_quiet c b w v m so.reached was (its_calm c w.now.members m so.calm was)
      (folders_are_fit w.log w.now c m few so.bounded so.reached was) whole none in
      let reached : Reaches v.log v.now =
      subst (λ (es : List LogEntry). Reaches es v.now) (sym answers.log) (stepped u.log u.now (event.Mark c) answers.reply v.now now.reached answers.step) in
      entered u v (event.Mark c) answers.reply now answers.step answers.log tt (new_marks c u v answers.reply now.marks answers.log reached ends)

  pub sync_quiet : (v : WorldData) (left : List Task) → Runs w (sync_tasks c b) v left → IsQuietSoFar v
  sync_quiet v left run = elim (parted w (sync_tasks c b) v left run (before_mark c b) (mark_of c ∷ []) refl) [
    | within rest first ↦ plain_run w (before_mark c b) v rest so (plain_before c b) first
    | beyond u first later ↦
        let now = plain_run w (before_mark c b) u [] so (plain_before c b) first in
        elim (marks_or_waits c u (mark_of c ∷ []) v left later refl) [
          | waits same ↦ subst IsQuietSoFar (sym same) now
          | marks answers ↦ marked u first now v answers
        ]
  ]
