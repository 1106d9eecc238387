-- No call of a folder is to fail that wasn't told to.
use Rattle.std.proofs.Common.{◌≡◌, ◌∙◌, ℕ, zero, suc, Bool, true, false, List, [], ◌∷◌, Option, None, Some, ap, refl, subst, sym}
use Rattle.std.specs.Option.{unwrap_or}
use Rattle.std.specs.Prelude.{All, is_some, replicate}
use Rattle.std.specs.FinMap.{get}
use Rattle.nuc_class.specs.declared.op.Op.{Op}
use Rattle.nuc_filework.specs.Calls.{calls_of}
use Rattle.nuc_flights.specs.Flights.{flight_of}
use Rattle.nuc_folder.specs.declared.noticed.Noticed.{Noticed}
use Rattle.nuc_hash.specs.Content.{content_of}
use Rattle.nuc_log.specs.declared.event.Event.{Event}
use Rattle.nuc_log.specs.declared.event.Event.TheVariants as event
use Rattle.nuc_log.specs.declared.log.LogEntry.{LogEntry}
use Rattle.nuc_log.specs.declared.reply.Reply.{Reply}
use Rattle.nuc_log.specs.declared.reply.Reply.TheVariants as reply
use Rattle.nuc_log.specs.declared.reply.StartReply.{StartReply}
use Rattle.nuc_log.specs.declared.reply.StartReply.TheVariants as start
use Rattle.nuc_log.specs.declared.reply.TakeReply.{TakeReply}
use Rattle.nuc_log.specs.declared.reply.TakeReply.TheVariants as answer
use Rattle.nuc_quiet.specs.Laws.{NothingFails}
use Rattle.nuc_server.specs.declared.commit.Commit.{Commit}
use Rattle.nuc_step.specs.Stages.{planned_of, started_of}
use Rattle.nuc_world.specs.Starts.{Begins, Reads, StartsOf, Uploads, is_upload}
use Rattle.nuc_world.specs.State.{MemberState, Turn, WorldState, fresh, fresh_member, is_due, member_of, with_member}
use Rattle.nuc_world.specs.Step.{Does, IsStep, IsTurn, Watches, client_of}
use Rattle.nuc_world.specs.Takes.{CarriesOut, Commits, CommitsBytes, CommitsRead, IsJudged, TakesBy, TakesOf, bytes_for, commit_of, is_commit, is_recorded, read_in, seen_content, stored, view_of, wanted_content}
use Rattle.nuc_world.proofs.Beside.{op_keeps}
use Rattle.nuc_world.proofs.Items.{all_front, all_get, all_none, all_set}

-- A TURN leaves what is to fail
abbrev Stays : Turn → Turn → Type 0
Stays t u = u.member.due.failing ≡ t.member.due.failing

same_turn : (t u v : Turn) → u ≡ v → Stays t v → Stays t u
same_turn t u v is stays = ap (λ (x : Turn). x.member.due.failing) is ∙ stays

module _ (n : ℕ) (m u : MemberState) where
  abbrev Keeps : Type 0
  Keeps = u.due.failing ≡ m.due.failing

  reads_stay : (key : ℕ) (r : StartReply) → Reads n key m r u → Keeps
  reads_stay key (start.Ok (Some bytes)) (lasts, at, is) = ap (λ (x : MemberState). x.due.failing) is
  reads_stay key start.Changed (lasts, gone, is) = ap (λ (x : MemberState). x.due.failing) is
  reads_stay key start.Failed (fails, is) = ap (λ (x : MemberState). x.due.failing) is
  reads_stay key _ is = absurd is

  uploads_stay : (key : Option ℕ) (r : StartReply) → Uploads n key m r u → Keeps
  uploads_stay (Some key) r is = reads_stay key r is
  uploads_stay None r is = ap (λ (x : MemberState). x.due.failing) is.1

  begins_stay : (op : Op) (b : Bool) (r : StartReply) → Begins n op b m r u → Keeps
  begins_stay op true r is = uploads_stay (get m.client.local.keys op.id.0) r is
  begins_stay op false r is = ap (λ (x : MemberState). x.due.failing) is.1

  starts_stay : (o : Option Op) (r : StartReply) → StartsOf n o m r u → Keeps
  starts_stay None r is = ap (λ (x : MemberState). x.due.failing) is.1
  starts_stay (Some op) r is = begins_stay op (is_upload op) r is

judged_stay : (c n : ℕ) (k : Commit) (t : Turn) (r : TakeReply) (u : Turn) → IsJudged c n k t r u → Stays t u
judged_stay c n k t (answer.Accepted rev) u is = ap (λ (x : Turn). x.member.due.failing) is.1
judged_stay c n k t (answer.Refused why) u is = ap (λ (x : Turn). x.member.due.failing) is.1
judged_stay c n k t _ u is = absurd is

module _ (c n : ℕ) (k : Commit) (t u : Turn) (r : TakeReply) where
  bytes_stay : (bytes : List ℕ) (b : Bool) → CommitsBytes c n k bytes b t r u → Stays t u
  bytes_stay bytes true is = judged_stay c n k (stored bytes t) r u is
  bytes_stay bytes false is = ap (λ (x : Turn). x.member.due.failing) is.1

  read_stay : (o : Option (List ℕ)) → CommitsRead c n k o t r u → Stays t u
  read_stay None is = ap (λ (x : Turn). x.member.due.failing) is.1
  read_stay (Some bytes) is = bytes_stay bytes (is_recorded t.shared.edits.edits (content_of bytes).hash k.value) is

  commits_stay : (log : List LogEntry) (b : Bool) → Commits log c n k b t r u → Stays t u
  commits_stay log true is = read_stay (read_in c n log) is
  commits_stay log false is = judged_stay c n k t r u is

carries_stay : (n : ℕ) (op : Op) (t : Turn) (r : TakeReply) (u : Turn) → CarriesOut n op t r u → Stays t u
carries_stay n op t (answer.Folder ran) u is =
    let s = t.shared in
    let keys = t.member.client.local.keys in
    let kept = op_keeps keys (unwrap_or (bytes_for s op) [])
    (calls_of keys op (seen_content s.edits.edits op) (wanted_content s.edits.edits op) (is_some (bytes_for s op)))
    (view_of is.faults is.made is.settled t.member) ran (view_of is.faults_after is.made is.settled u.member) is.runs in
    kept.failing
carries_stay n op t _ u is = absurd is

module _ (log : List LogEntry) (c n : ℕ) (t u : Turn) (r : TakeReply) where
  by_stay : (op : Op) (b : Bool) → TakesBy log c n op b t r u → Stays t u
  by_stay op true is = commits_stay c n (commit_of op) t u r log (is_upload op) is
  by_stay op false is = carries_stay n op t r u is

  takes_stay : (o : Option Op) → TakesOf log c n o t r u → Stays t u
  takes_stay None is = ap (λ (x : Turn). x.member.due.failing) is.1
  takes_stay (Some op) is = by_stay op (is_commit op.effect) is

watches_stay : (pending : List Noticed) (r : Reply) (t u : Turn) → Watches pending r t u → Stays t u
watches_stay [] reply.Nothing t u is = ap (λ (x : Turn). x.member.due.failing) is
watches_stay (notice ∷ notices) (reply.Watch said) t u is = ap (λ (x : Turn). x.member.due.failing) is.1
watches_stay pending _ t u is = absurd is

turns_stay : (log : List LogEntry) (e : Event) (r : Reply) (t u : Turn) → Does log e r t u → Stays t u
turns_stay log (event.User c edit) (reply.User said) t u (edits, known, is) = ap (λ (x : Turn). x.member.due.failing) is
turns_stay log (event.List c) (reply.Listed changes items) t u is = ap (λ (x : Turn). x.member.due.failing) is.now
turns_stay log (event.Scan c) (reply.Scan said) t u (scans, is) = ap (λ (x : Turn). x.member.due.failing) is
turns_stay log (event.Watch c) r t u is = watches_stay t.member.folder.pending r t u is
turns_stay log (event.Pull c) (reply.Pulled entries cursor) t u is = ap (λ (x : Turn). x.member.due.failing) is.now
turns_stay log (event.Plan c) (reply.Plan said) t u (plans, is) = ap (λ (x : Turn). x.member.due.failing) is
turns_stay log (event.Start c n) (reply.Started said) t u (starts, is) =
    starts_stay n t.member u.member (planned_of (flight_of n t.member.client.flights)) said starts
turns_stay log (event.Take c n) (reply.Took said) t u is = takes_stay log c n t u said (started_of (flight_of n t.member.client.flights)) is
turns_stay log (event.Done c n) (reply.Done said) t u (ends, is) = ap (λ (x : Turn). x.member.due.failing) is
turns_stay log (event.Restart c) reply.Restarted t u is = ap (λ (x : Turn). x.member.due.failing) is
turns_stay log (event.Mark c) (reply.Marked said) t u (marks, is) = ap (λ (x : Turn). x.member.due.failing) is
turns_stay log _ _ t u is = absurd is

-- A WORLD none of whose folders is to fail
abbrev pub IsCalm : WorldState → Type 0
IsCalm w = All NothingFails w.members

pub its_calm : (c : ℕ) (ms : List MemberState) (m : MemberState) → All NothingFails ms → member_of c ms ≡ Some m → NothingFails m
its_calm zero ms m all at = cc
its_calm (suc i) ms m all at = all_get NothingFails ms i m all at

with_calm : (c : ℕ) (ms : List MemberState) (m : MemberState) → All NothingFails ms → NothingFails m → All NothingFails (with_member c m ms)
with_calm zero ms m all its = all
with_calm (suc i) ms m all its = all_set NothingFails ms i m all its

turn_calm : (log : List LogEntry) (e : Event) (r : Reply) (w v : WorldState) → IsTurn log e r w v → IsCalm w → IsCalm v
turn_calm log e r w v is calm =
    let stays : is.after.due.failing ≡ is.member.due.failing =
    turns_stay log e r (record { shared = w.shared; member = is.member }) (record { shared = v.shared; member = is.after }) is.does in
    subst (λ (ms : List MemberState). All NothingFails ms) (sym is.now)
    (with_calm (client_of e) w.members is.after calm (stays ∙ its_calm (client_of e) w.members is.member calm is.was))

pub step_calm : (log : List LogEntry) (e : Event) (r : Reply) (w v : WorldState) → IsStep log w e r v → IsCalm w → IsCalm v
step_calm log (event.Web edit) (reply.Web said) w v is calm = subst (λ (ms : List MemberState). All NothingFails ms) (sym is.2) calm
step_calm log (event.Web edit) r w v is calm = absurd is
step_calm log e r w v is calm = turn_calm log e r w v is calm

all_calm : (n : ℕ) (m : MemberState) → NothingFails m → All NothingFails (replicate n m)
all_calm zero m its = all_none NothingFails
all_calm (suc n) m its = all_front NothingFails m (replicate n m) its (all_calm n m its)

pub opens_calm : (clients : ℕ) → IsCalm (fresh clients)
opens_calm clients = all_calm clients fresh_member refl

-- so no next call is to fail
pub not_due : (m : MemberState) → NothingFails m → is_due m.due ≡ false
not_due m none = ap (λ (ks : List ℕ). is_due (record m.due { failing = ks })) none
