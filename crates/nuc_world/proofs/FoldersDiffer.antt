-- In each client's folder of a world that a log leads to, no two files or folders have one place.
use Rattle.std.proofs.Common.{◌≡◌, ◌⊎◌, ◌∷◌, ℕ, zero, suc, Bool, true, false, List, [], Option, Some, None, refl, sym, ◌∙◌, ap, subst, inl, inr}
use Rattle.std.specs.Prelude.{replicate, set, slice_get}
use Rattle.nuc_base.proofs.Forms.{empty_form}
use Rattle.nuc_class.specs.declared.op.Op.{Op}
use Rattle.nuc_filework.specs.Runs.{FolderView, Runs, RunsOp}
use Rattle.nuc_filework.specs.Runs.Runs.{over, stops, goes_on}
use Rattle.nuc_filework.specs.declared.call.Call.{Call}
use Rattle.nuc_flights.specs.Flights.{flight_of}
use Rattle.nuc_folder.specs.State.{FolderState, IsTold}
use Rattle.nuc_folder.specs.declared.noticed.Noticed.{Noticed}
use Rattle.nuc_folder.specs.declared.outcome.Outcome.{Outcome}
use Rattle.nuc_folder.specs.declared.ran.RanOp.{RanOp}
use Rattle.nuc_hash.specs.Content.{content_of}
use Rattle.nuc_log.specs.declared.event.Event.{Event}
use Rattle.nuc_log.specs.declared.event.Event.TheVariants as event
use Rattle.nuc_log.specs.declared.log.LogEntry.{LogEntry}
use Rattle.nuc_log.specs.declared.reply.Reply.{Reply}
use Rattle.nuc_log.specs.declared.reply.Reply.TheVariants as reply
use Rattle.nuc_log.specs.declared.reply.StartReply.{StartReply}
use Rattle.nuc_log.specs.declared.reply.StartReply.TheVariants as start
use Rattle.nuc_log.specs.declared.reply.TakeReply.{TakeReply}
use Rattle.nuc_log.specs.declared.reply.TakeReply.TheVariants as answer
use Rattle.nuc_observe.specs.Keys.{KeyMap}
use Rattle.nuc_server.specs.declared.commit.Commit.{Commit}
use Rattle.nuc_step.specs.Stages.{planned_of, started_of}
use Rattle.nuc_world.specs.Runs.{IsRecounted, Reaches}
use Rattle.nuc_world.specs.Runs.Reaches.{opened, stepped, told, unlisted}
use Rattle.nuc_world.specs.Starts.{Begins, Reads, StartsOf, Uploads, is_upload}
use Rattle.nuc_world.specs.State.{Due, MemberState, Turn, WorldState, after_one, fresh_member, member_of, with_failure, with_member}
use Rattle.nuc_world.specs.Step.{Does, EditsWeb, IsStep, IsTurn, Watches, client_of}
use Rattle.nuc_world.specs.Takes.{CarriesOut, Commits, CommitsBytes, CommitsRead, IsCarriedOut, IsJudged, TakesBy, TakesOf, commit_of, is_commit, is_recorded, read_in, stored}
use Rattle.nuc_world.proofs.FolderPlaces.{PlacesDiffer, user_differ}

abbrev pub Apart : MemberState → Type 0
Apart m = PlacesDiffer m.folder.held.tree

-- WHERE WHAT IS HELD STAYS
same_apart : (m k : MemberState) → k.folder.held ≡ m.folder.held → Apart m → Apart k
same_apart m k same apart = subst (λ (s : FolderState). PlacesDiffer s.tree) (sym same) apart

turn_apart : (t u z : Turn) → u ≡ z → z.member.folder.held ≡ t.member.folder.held → Apart t.member → Apart u.member
turn_apart t u z now same apart = same_apart t.member u.member (ap (λ (w : Turn). w.member.folder.held) now ∙ same) apart

member_apart : (m u z : MemberState) → u ≡ z → z.folder.held ≡ m.folder.held → Apart m → Apart u
member_apart m u z now same apart = same_apart m u (ap (λ (w : MemberState). w.folder.held) now ∙ same) apart

module _ (n : ℕ) (m u : MemberState) (apart : Apart m) where
  reads_apart : (key : ℕ) (r : StartReply) → Reads n key m r u → Apart u
  reads_apart key (start.Ok (Some bytes)) (lasts, at, is) = member_apart m u _ is refl apart
  reads_apart key start.Changed (lasts, gone, is) = member_apart m u _ is refl apart
  reads_apart key start.Failed (fails, is) = member_apart m u _ is refl apart
  reads_apart key _ is = absurd is

  uploads_apart : (o : Option ℕ) (r : StartReply) → Uploads n o m r u → Apart u
  uploads_apart (Some key) r is = reads_apart key r is
  uploads_apart None r is = member_apart m u _ is.1 refl apart

  begins_apart : (op : Op) (o : Option ℕ) (b : Bool) (r : StartReply) → Begins n op b m r u → Apart u
  begins_apart op o true r is = uploads_apart _ r is
  begins_apart op o false r is = member_apart m u _ is.1 refl apart

  starts_apart : (o : Option Op) (r : StartReply) → StartsOf n o m r u → Apart u
  starts_apart None r is = member_apart m u m is.1 refl apart
  starts_apart (Some op) r is = begins_apart op None (is_upload op) r is

-- THE CALLS OF AN OPERATION leave a folder that is well formed, or as it was
runs_form : (bytes : List ℕ) (last : Outcome) (calls : List Call) (v : FolderView) (a : Outcome) (i : ℕ) (w : FolderView) → Runs bytes last calls v a i w
    → (w ≡ v) ⊎ IsTold w.next w.told
runs_form bytes _ _ _ _ _ _ (over last v) = inl refl
runs_form bytes _ _ _ _ _ _ (stops last call calls v a w is fails) = inr is.form
runs_form bytes _ _ _ _ _ _ (goes_on last call calls v a u final made w is well rest) = elim (runs_form bytes a calls u final made w rest) [
  | inl same ↦ inr (subst (λ (z : FolderView). IsTold z.next z.told) (sym same) is.form)
  | inr form ↦ inr form
]

op_form : (m : KeyMap) (bytes : List ℕ) (o : Option (List Call)) (v : FolderView) (ran : RanOp) (w : FolderView) → RunsOp m bytes o v ran w → (w ≡ v) ⊎ IsTold w.next w.told
op_form m bytes None v ran w (inl is) = inl is.1
op_form m bytes None v ran w (inr is) = inl is.1
op_form m bytes (Some []) v ran w is = inl is.1
op_form m bytes (Some (call ∷ calls)) v ran w (inl is) = runs_form bytes _ (call ∷ calls) v is.last ran.made w is.runs
op_form m bytes (Some (call ∷ calls)) v ran w (inr is) = inl is.1

some_same : {A : Type 0} (a b : A) → Some a ≡ Some b → a ≡ b
some_same a b is = cc

module _ (n : ℕ) (op : Op) (t u : Turn) (apart : Apart t.member) where
  carried_apart : (ran : RanOp) → IsCarriedOut n op t ran u → Apart u.member
  carried_apart ran is = elim (op_form _ _ _ _ ran _ is.runs) [
    | inl same ↦ same_apart t.member u.member (some_same u.member.folder.held t.member.folder.held (ap (λ (z : FolderView). z.told) same)) apart
    | inr form ↦ form.0.form.places
  ]

  carries_apart : (r : TakeReply) → CarriesOut n op t r u → Apart u.member
  carries_apart (answer.Folder ran) is = carried_apart ran is
  carries_apart _ is = absurd is

module _ (c n : ℕ) (k : Commit) (t u : Turn) (apart : Apart t.member) where
  judged_apart : (r : TakeReply) → IsJudged c n k t r u → Apart u.member
  judged_apart (answer.Accepted rev) is = turn_apart t u _ is.1 refl apart
  judged_apart (answer.Refused why) is = turn_apart t u _ is.1 refl apart
  judged_apart _ is = absurd is

module _ (c n : ℕ) (k : Commit) (t u : Turn) (apart : Apart t.member) (r : TakeReply) where
  bytes_apart : (bytes : List ℕ) (b : Bool) → CommitsBytes c n k bytes b t r u → Apart u.member
  bytes_apart bytes true is = judged_apart c n k (stored bytes t) u apart r is
  bytes_apart bytes false is = turn_apart t u _ is.1 refl apart

  read_apart : (o : Option (List ℕ)) → CommitsRead c n k o t r u → Apart u.member
  read_apart None is = turn_apart t u _ is.1 refl apart
  read_apart (Some bytes) is = bytes_apart bytes (is_recorded t.shared.edits.edits (content_of bytes).hash k.value) is

  commits_apart : (log : List LogEntry) (b : Bool) → Commits log c n k b t r u → Apart u.member
  commits_apart log true is = read_apart (read_in c n log) is
  commits_apart log false is = judged_apart c n k t u apart r is

module _ (log : List LogEntry) (t u : Turn) (apart : Apart t.member) where
  by_apart : (c n : ℕ) (op : Op) (b : Bool) (r : TakeReply) → TakesBy log c n op b t r u → Apart u.member
  by_apart c n op true r is = commits_apart c n (commit_of op) t u apart r log (is_upload op) is
  by_apart c n op false r is = carries_apart n op t u apart r is

  of_apart : (c n : ℕ) (o : Option Op) (r : TakeReply) → TakesOf log c n o t r u → Apart u.member
  of_apart c n None r is = turn_apart t u t is.1 refl apart
  of_apart c n (Some op) r is = by_apart c n op (is_commit op.effect) r is

  watches_apart : (pending : List Noticed) (r : Reply) → Watches pending r t u → Apart u.member
  watches_apart [] reply.Nothing is = turn_apart t u t is refl apart
  watches_apart [] _ is = absurd is
  watches_apart (notice ∷ notices) (reply.Watch a) is = turn_apart t u _ is.1 refl apart
  watches_apart (notice ∷ notices) _ is = absurd is

  does_apart : (e : Event) (r : Reply) → Does log e r t u → Apart u.member
  does_apart (event.User c edit) (reply.User a) is = user_differ edit t.member.folder a u.member.folder is.0 apart
  does_apart (event.User c edit) _ is = absurd is
  does_apart (event.Web edit) r is = absurd is
  does_apart (event.List c) (reply.Listed n items) is = turn_apart t u _ is.now refl apart
  does_apart (event.List c) _ is = absurd is
  does_apart (event.Scan c) (reply.Scan a) is = turn_apart t u _ is.1 refl apart
  does_apart (event.Scan c) _ is = absurd is
  does_apart (event.Watch c) r is = watches_apart t.member.folder.pending r is
  does_apart (event.Pull c) (reply.Pulled a n) is = turn_apart t u _ is.now refl apart
  does_apart (event.Pull c) _ is = absurd is
  does_apart (event.Plan c) (reply.Plan a) is = turn_apart t u _ is.1 refl apart
  does_apart (event.Plan c) _ is = absurd is
  does_apart (event.Start c n) (reply.Started a) is = starts_apart n t.member u.member apart (planned_of (flight_of n t.member.client.flights)) a is.0
  does_apart (event.Start c n) _ is = absurd is
  does_apart (event.Take c n) (reply.Took a) is = of_apart c n (started_of (flight_of n t.member.client.flights)) a is
  does_apart (event.Take c n) _ is = absurd is
  does_apart (event.Done c n) (reply.Done a) is = turn_apart t u _ is.1 refl apart
  does_apart (event.Done c n) _ is = absurd is
  does_apart (event.Restart c) reply.Restarted is = turn_apart t u _ is refl apart
  does_apart (event.Restart c) _ is = absurd is
  does_apart (event.Mark c) (reply.Marked a) is = turn_apart t u t is.1 refl apart
  does_apart (event.Mark c) _ is = absurd is

-- EACH MEMBER OF A WORLD
abbrev pub AllApart : List MemberState → Type 0
AllApart ms = (c : ℕ) (m : MemberState) → member_of c ms ≡ Some m → Apart m

set_cases : (ms : List MemberState) (i j : ℕ) (x m : MemberState) → slice_get (set ms i x) j ≡ Some m → (m ≡ x) ⊎ (slice_get ms j ≡ Some m)
set_cases [] zero j x m is = inr is
set_cases [] (suc i) j x m is = inr is
set_cases (y ∷ ms) zero zero x m is = inl (some_same m x (sym is))
set_cases (y ∷ ms) zero (suc j) x m is = inr is
set_cases (y ∷ ms) (suc i) zero x m is = inr is
set_cases (y ∷ ms) (suc i) (suc j) x m is = set_cases ms i j x m is

with_apart : (ms : List MemberState) (c : ℕ) (x : MemberState) → Apart x → AllApart ms → AllApart (with_member c x ms)
with_apart ms zero x new all = all
with_apart ms (suc i) x new all = λ d. elim d as (λ d. (m : MemberState) → member_of d (set ms i x) ≡ Some m → Apart m) [
  | zero ↦ λ m is. absurd (let clash : None ≡ Some m = is in cc)
  | suc j ↦ λ m is. elim (set_cases ms i j x m is) [
    | inl same ↦ subst (λ z. Apart z) (sym same) new
    | inr stood ↦ all (suc j) m stood
  ]
]

fresh_apart : (k j : ℕ) (m : MemberState) → slice_get (replicate k fresh_member) j ≡ Some m → Apart m
fresh_apart zero j m is = absurd (let clash : None ≡ Some m = is in cc)
fresh_apart (suc k) zero m is = subst (λ z. Apart z) (some_same fresh_member m is) empty_form.places
fresh_apart (suc k) (suc j) m is = fresh_apart k j m is

opened_apart : (k c : ℕ) (m : MemberState) → member_of c (replicate k fresh_member) ≡ Some m → Apart m
opened_apart k zero m is = absurd (let clash : None ≡ Some m = is in cc)
opened_apart k (suc j) m is = fresh_apart k j m is

all_same : (w v : WorldState) → v.members ≡ w.members → AllApart w.members → AllApart v.members
all_same w v same all = subst AllApart (sym same) all

turns_apart : (log : List LogEntry) (e : Event) (r : Reply) (w v : WorldState) → IsTurn log e r w v → AllApart w.members → AllApart v.members
turns_apart log e r w v is all = subst AllApart (sym is.now)
    (with_apart w.members (client_of e) is.after
    (does_apart log (record { shared = w.shared; member = is.member }) (record { shared = v.shared; member = is.after }) (all (client_of e) is.member is.was) e r is.does) all)

web_apart : (edit : _) (r : Reply) (w v : WorldState) → EditsWeb edit r w v → AllApart w.members → AllApart v.members
web_apart edit (reply.Web answer) w v is all = all_same w v is.2 all
web_apart edit _ w v is all = absurd is

step_apart : (log : List LogEntry) (e : Event) (r : Reply) (w v : WorldState) → IsStep log w e r v → AllApart w.members → AllApart v.members
step_apart log (event.Web edit) r w v is all = web_apart edit r w v is all
step_apart log (event.User d edit) r w v is all = turns_apart log (event.User d edit) r w v is all
step_apart log (event.List d) r w v is all = turns_apart log (event.List d) r w v is all
step_apart log (event.Scan d) r w v is all = turns_apart log (event.Scan d) r w v is all
step_apart log (event.Watch d) r w v is all = turns_apart log (event.Watch d) r w v is all
step_apart log (event.Pull d) r w v is all = turns_apart log (event.Pull d) r w v is all
step_apart log (event.Plan d) r w v is all = turns_apart log (event.Plan d) r w v is all
step_apart log (event.Start d n) r w v is all = turns_apart log (event.Start d n) r w v is all
step_apart log (event.Take d n) r w v is all = turns_apart log (event.Take d n) r w v is all
step_apart log (event.Done d n) r w v is all = turns_apart log (event.Done d n) r w v is all
step_apart log (event.Restart d) r w v is all = turns_apart log (event.Restart d) r w v is all
step_apart log (event.Mark d) r w v is all = turns_apart log (event.Mark d) r w v is all

recounted_apart : (c : ℕ) (count : Due → Due) (w v : WorldState) → IsRecounted c count w v → AllApart w.members → AllApart v.members
recounted_apart c count w v is all =
    all_same (record w { members = with_member c (record is.member { due = count is.member.due }) w.members }) v (ap (λ (z : WorldState). z.members) is.now)
    (with_apart w.members c (record is.member { due = count is.member.due }) (all c is.member is.was) all)

pub reached_apart : (log : List LogEntry) (w : WorldState) → Reaches log w → AllApart w.members
reached_apart _ _ (opened clients some few) = opened_apart clients
reached_apart _ v (stepped log w e r _ before step) = step_apart log e r w v step (reached_apart log w before)
reached_apart log v (told _ w c k _ before some is) = recounted_apart c (with_failure k) w v is (reached_apart log w before)
reached_apart log v (unlisted _ w c _ before is) = recounted_apart c after_one w v is.counted (reached_apart log w before)
