-- The outside change of an operation is made in one way.
use Rattle.std.proofs.Common.{◌≡◌, ℕ, Bool, true, false, List, [], drop, Option, Some, None, refl, sym, ◌∙◌, ap}
use Rattle.std.specs.Option.{unwrap_or}
use Rattle.std.specs.Prelude.{is_some}
use Rattle.nuc_base.specs.Trees.{WellFormed}
use Rattle.nuc_class.specs.declared.op.Op.{Op}
use Rattle.nuc_filework.specs.Calls.{calls_of}
use Rattle.nuc_flights.specs.Flights.{flight_of}
use Rattle.nuc_flights.specs.declared.taken.Taken.TheVariants as came
use Rattle.nuc_folder.specs.Beside.{Beside}
use Rattle.nuc_folder.specs.Memory.{MemState}
use Rattle.nuc_folder.specs.declared.outcome.Outcome.{Outcome}
use Rattle.nuc_folder.specs.declared.ran.RanOp.{RanOp}
use Rattle.nuc_hash.specs.Content.{content_of}
use Rattle.nuc_journal.specs.Entries.{tree_of}
use Rattle.nuc_journal.specs.declared.entry.Entry.{Entry}
use Rattle.nuc_log.specs.declared.log.LogEntry.{LogEntry}
use Rattle.nuc_log.specs.declared.reply.TakeReply.{TakeReply}
use Rattle.nuc_log.specs.declared.reply.TakeReply.TheVariants as answer
use Rattle.nuc_server.specs.Judge.{blocks_with}
use Rattle.nuc_server.specs.declared.commit.Commit.{Commit}
use Rattle.nuc_server.specs.declared.commit.Refusal.{Refusal}
use Rattle.nuc_step.specs.Stages.{started_of}
use Rattle.nuc_world.specs.Starts.{is_upload}
use Rattle.nuc_world.specs.State.{Due, MemberState, Turn, with_counts}
use Rattle.nuc_world.specs.Takes.{CarriesOut, Commits, CommitsBytes, CommitsRead, IsCarriedOut, IsJudged, IsOutdated, Takes, TakesBy, TakesOf, bytes_for, commit_of, content_in, is_commit, is_recorded, read_in, seen_content, stored, told, view_of, wanted_content}
use Rattle.nuc_world.proofs.OneJudge.{accepted_not_refused, refused_one}
use Rattle.nuc_world.proofs.OneRun.{Alike, op_one}

-- A COMMIT
-- a turn behind an accepted one
abbrev accepted : ℕ → Turn → ℕ → List Entry → Turn
accepted n t rev es = record { shared = record t.shared { entries = es }; member = told n (came.Accepted rev) (drop t.member.client.remote.cursor es) t.member }

judged_one : (c n : ℕ) (k : Commit) (t u v : Turn) (r q : TakeReply) → WellFormed (tree_of t.shared.entries) → IsJudged c n k t r u → IsJudged c n k t q v → (r ≡ q) × (u ≡ v)
judged_one c n k t u v (answer.Accepted a) (answer.Accepted b) form ((can, rev, now), is) ((may, number, then), was) =
    let same : a ≡ b = rev ∙ sym number in
    let entries = now ∙ sym then in
    (ap answer.Accepted same, is ∙ ap (λ z. accepted n t z u.shared.entries) same ∙ ap (λ (es : List Entry). accepted n t b es) entries ∙ sym was)
judged_one c n k t u v (answer.Accepted a) (answer.Refused b) form ((can, rev, now), is) ((why, then), was) = absurd (accepted_not_refused _ _ k _ b can why)
judged_one c n k t u v (answer.Refused a) (answer.Accepted b) form ((why, now), is) ((can, rev, then), was) = absurd (accepted_not_refused _ _ k _ a can why)
judged_one c n k t u v (answer.Refused a) (answer.Refused b) form ((why, now), is) ((reason, then), was) =
    let same : a ≡ b = refused_one t.shared.entries t.shared.blocks k (blocks_with (content_in t.shared.edits.edits k.value)) a b form why reason in
    (ap answer.Refused same, is ∙ ap (λ (z : Refusal). record t { member = told n (came.Refused z) [] t.member }) same ∙ sym was)
judged_one c n k t u v (answer.Accepted a) _ form x y = absurd y
judged_one c n k t u v (answer.Refused a) _ form x y = absurd y
judged_one c n k t u v _ q form x y = absurd x

outdated_one : (n : ℕ) (t u v : Turn) (r q : TakeReply) → IsOutdated n t r u → IsOutdated n t q v → (r ≡ q) × (u ≡ v)
outdated_one n t u v r q x y = (x.0 ∙ sym y.0, x.1 ∙ sym y.1)

module _ (c n : ℕ) (k : Commit) (t u v : Turn) (r q : TakeReply) (form : WellFormed (tree_of t.shared.entries)) where
  bytes_one : (bytes : List ℕ) (b : Bool) → CommitsBytes c n k bytes b t r u → CommitsBytes c n k bytes b t q v → (r ≡ q) × (u ≡ v)
  bytes_one bytes true x y = judged_one c n k (stored bytes t) u v r q form x y
  bytes_one bytes false x y = outdated_one n t u v r q x y

  read_one : (o : Option (List ℕ)) → CommitsRead c n k o t r u → CommitsRead c n k o t q v → (r ≡ q) × (u ≡ v)
  read_one None x y = outdated_one n t u v r q x y
  read_one (Some bytes) x y = bytes_one bytes (is_recorded t.shared.edits.edits (content_of bytes).hash k.value) x y

  commits_one : (log : List LogEntry) (b : Bool) → Commits log c n k b t r u → Commits log c n k b t q v → (r ≡ q) × (u ≡ v)
  commits_one log true x y = read_one (read_in c n log) x y
  commits_one log false x y = judged_one c n k t u v r q form x y

-- IN THE FOLDER
some_same : {A : Type 0} (a b : A) → Some a ≡ Some b → a ≡ b
some_same a b is = cc

abbrev beside_of : ℕ → ℕ → MemState → MemberState → Beside
beside_of faults made settled m = record { calls = with_counts made faults m.due; settled = settled; pending = m.folder.pending }

-- views that are alike are of one folder, with one count of its calls
module _ (f g i j : ℕ) (s d : MemState) (m k : MemberState) (alike : Alike (view_of f g s m) (view_of i j d k)) where
  first : beside_of f g s m ≡ alike.one
  first = some_same _ alike.one alike.beside

  second : beside_of i j d k ≡ alike.other
  second = some_same _ alike.other alike.also_beside

  held_same : m.folder.held ≡ k.folder.held
  held_same = some_same m.folder.held alike.held alike.told ∙ sym (some_same k.folder.held alike.held alike.also_told)

  pending_same : m.folder.pending ≡ k.folder.pending
  pending_same = ap (λ (z : Beside). z.pending) first ∙ alike.pending ∙ sym (ap (λ (z : Beside). z.pending) second)

  made_same : m.due.made ≡ k.due.made
  made_same = ap (λ (z : Beside). z.calls.made) first ∙ alike.made ∙ sym (ap (λ (z : Beside). z.calls.made) second)

  failing_same : m.due.failing ≡ k.due.failing
  failing_same = ap (λ (z : Beside). z.calls.failing) first ∙ alike.failing ∙ sym (ap (λ (z : Beside). z.calls.failing) second)

  folder_same : m.folder ≡ k.folder
  folder_same = λ x. record { held = held_same x; next = alike.next x; pending = pending_same x }

  due_same : m.due ≡ k.due
  due_same = λ x. record { made = made_same x; failing = failing_same x }

-- the member with another folder, told of this outcome
abbrev carried : ℕ → Outcome → MemberState → MemState → Due → MemberState
carried n o m folder due = record (told n (came.Folder o) [] m) { folder = folder; due = due }

pub turn_one : (u v : Turn) → u.shared ≡ v.shared → u.member ≡ v.member → u ≡ v
turn_one u v shared member = λ x. record { shared = shared x; member = member x }

module _ (n : ℕ) (op : Op) (t u v : Turn) where
  carried_one : (a b : RanOp) → IsCarriedOut n op t a u → IsCarriedOut n op t b v → (a ≡ b) × (u ≡ v)
  carried_one a b is was =
      let start : Alike (view_of is.faults is.made is.settled t.member) (view_of was.faults was.made was.settled t.member) = record {
        held = t.member.folder.held;
        told = refl;
        also_told = refl;
        next = refl;
        one = beside_of is.faults is.made is.settled t.member;
        other = beside_of was.faults was.made was.settled t.member;
        beside = refl;
        also_beside = refl;
        made = refl;
        failing = refl;
        pending = refl;
      } in
      let one = op_one t.member.client.local.keys (unwrap_or (bytes_for t.shared op) [])
      (view_of is.faults is.made is.settled t.member) (view_of was.faults was.made was.settled t.member) start a b is.known was.known
      (view_of is.faults_after is.made is.settled u.member) (view_of was.faults_after was.made was.settled v.member)
      (calls_of t.member.client.local.keys op (seen_content t.shared.edits.edits op) (wanted_content t.shared.edits.edits op) (is_some (bytes_for t.shared op)))
      is.runs was.runs in
      let folder = folder_same is.faults_after is.made was.faults_after was.made is.settled was.settled u.member v.member one.1 in
      let due = due_same is.faults_after is.made was.faults_after was.made is.settled was.settled u.member v.member one.1 in (
        one.0,
        turn_one u v (is.shared ∙ sym was.shared)
            (is.member ∙ ap (λ (z : RanOp). carried n z.outcome t.member u.member.folder u.member.due) one.0
            ∙ ap (λ (z : MemState). carried n b.outcome t.member z u.member.due) folder ∙ ap (λ (z : Due). carried n b.outcome t.member v.member.folder z) due ∙ sym was.member),
      )

  carries_one : (r q : TakeReply) → CarriesOut n op t r u → CarriesOut n op t q v → (r ≡ q) × (u ≡ v)
  carries_one (answer.Folder a) (answer.Folder b) x y = let one = carried_one a b x y in (ap answer.Folder one.0, one.1)
  carries_one (answer.Folder a) _ x y = absurd y
  carries_one _ q x y = absurd x

-- EVERY TAKE
module _ (log : List LogEntry) (c n : ℕ) (t u v : Turn) (r q : TakeReply) (form : WellFormed (tree_of t.shared.entries)) where
  by_one : (op : Op) (b : Bool) → TakesBy log c n op b t r u → TakesBy log c n op b t q v → (r ≡ q) × (u ≡ v)
  by_one op true x y = commits_one c n (commit_of op) t u v r q form log (is_upload op) x y
  by_one op false x y = carries_one n op t u v r q x y

  of_one : (o : Option Op) → TakesOf log c n o t r u → TakesOf log c n o t q v → (r ≡ q) × (u ≡ v)
  of_one None x y = (x.0 ∙ sym y.0, x.1 ∙ sym y.1)
  of_one (Some op) x y = by_one op (is_commit op.effect) x y

  pub take_one : Takes log c n t r u → Takes log c n t q v → (r ≡ q) × (u ≡ v)
  take_one x y = of_one (started_of (flight_of n t.member.client.flights)) x y
