-- The members of a world in code, by what each is.
use Rattle.std.specs.Prelude.{option_map, replicate, set, slice_get}
use Rattle.std.proofs.Common.{◌≡◌, ◌<◌, ◌≤◌, ◌+◌, ◌++◌, ◌∷◌, ℕ, zero, suc, List, [], Some, None, length, map, get_or, refl, sym, ◌∙◌, ap, subst, arith, inl, inr}
use Rattle.std.proofs.lemmas.List.{length-map, length-replicate, length-set, map-append, map-set, replicate_more, set-get_or}
use Rattle.std.proofs.lemmas.Option.{slice_get-map, slice_get_past, slice_get_read}
use Rattle.nuc_folder.specs.Memory.{MemStates}
use Rattle.nuc_log.specs.declared.event.Event.{Event}
use Rattle.nuc_log.specs.declared.event.Event.TheVariants as event
use Rattle.nuc_log.specs.declared.log.LogEntry.{LogEntry}
use Rattle.nuc_log.specs.declared.reply.Reply.{Reply}
use Rattle.nuc_log.specs.declared.reply.Reply.TheVariants as reply
use Rattle.nuc_server.specs.declared.web_edit.WebEdit.{WebEdit}
use Rattle.nuc_step.specs.Client.{ClientStates}
use Rattle.nuc_world.specs.Clients.{IsNoClient}
use Rattle.nuc_world.specs.Form.{IsWorld}
use Rattle.nuc_world.specs.Runs.{IsRecounted, Reaches}
use Rattle.nuc_world.specs.Runs.Reaches.{opened, stepped, told, unlisted}
use Rattle.nuc_world.specs.Parts.{member_now, member_then}
use Rattle.nuc_world.specs.State.{Due, MemberState, WorldState, after_one, fresh_member, member_of, with_failure, with_member}
use Rattle.nuc_world.specs.Step.{EditsWeb, IsStep, IsTurn, client_of}
use Rattle.nuc_world.specs.Turns.{CanTurn}
use Rattle.nuc_world.proofs.Grown.{its_member}
use Rattle.nuc_world.proofs.Reached.{reached_world}
use Rattle.nuc_world.proofs.Ready.{can_plan, can_take, can_watch}

-- one more of the same kind
pub more_alike : {M : Type 0} (f : M → MemberState) (ms : List M) (m : M) (k : ℕ) (x : MemberState) → map f ms ≡ replicate k x → f m ≡ x
    → map f (ms ++ m ∷ []) ≡ replicate (k + 1) x
more_alike f ms m k x alike same = map-append f ms (m ∷ []) ∙ ap (λ xs. xs ++ f m ∷ []) alike
    ∙ subst (λ y. replicate k x ++ y ∷ [] ≡ replicate (k + 1) x) (sym same) (replicate_more k x)

-- the one at a place
pub member_at : {M : Type 0} (f : M → MemberState) (ms : List M) (i c : ℕ) (m : M) → c ≡ i + 1 → i < length ms → m ≡ get_or ms i m
    → member_of c (map f ms) ≡ Some (f m)
member_at f ms i c m is below at =
    let place : slice_get ms i ≡ Some m = slice_get_read ms (length ms) i m refl below at in
    subst (λ d. member_of d (map f ms) ≡ Some (f m)) (sym (let e : i + 1 ≡ suc i = omega arith in is ∙ e))
    (slice_get-map f ms i ∙ ap (option_map f) place)

pub no_member : {M : Type 0} (f : M → MemberState) (ms : List M) (c : ℕ) → IsNoClient c (length ms) → member_of c (map f ms) ≡ None
no_member f ms zero none = refl
no_member f ms (suc i) none = slice_get_past (map f ms) i (let long = length-map ms f in elim none [
  | inl is ↦ absurd (omega (arith, is))
  | inr above ↦ omega (arith, above, long)
])

-- a member of a world that a log leads to is ready for a turn
pub ready : (log : List LogEntry) (w : WorldState) (c : ℕ) (m : MemberState) → Reaches log w → member_of c w.members ≡ Some m → CanTurn w.shared m
ready log w c m reaches was =
    let world : IsWorld w = reached_world log w reaches in
    record { plans = can_plan w world c m was; watches = can_watch w world c m was; takes = can_take w world c m was; at = (its_member w world c m was).at }

-- another one in the place of a client
pub other_set : {M : Type 0} (f : M → MemberState) (ms : List M) (i c : ℕ) (n : M) → c ≡ i + 1 → map f (set ms i n) ≡ with_member c (f n) (map f ms)
other_set f ms i c n is = map-set f ms i n ∙ subst (λ d. set (map f ms) i (f n) ≡ with_member d (f n) (map f ms)) (sym (let e : i + 1 ≡ suc i = omega arith in is ∙ e)) refl

-- one that is the same changes nothing
pub same_set : {M : Type 0} (f : M → MemberState) (ms : List M) (i : ℕ) (m n : M) → m ≡ get_or ms i m → f n ≡ f m → map f (set ms i n) ≡ map f ms
same_set f ms i m n at same = map-set f ms i n ∙ ap (set (map f ms) i) same ∙ sym (map-set f ms i m) ∙ ap (map f) (ap (set ms i) at ∙ set-get_or ms i m)

-- HOW MANY CLIENTS there are: as many as at first
with_length : (c : ℕ) (m : MemberState) (ms : List MemberState) → length (with_member c m ms) ≡ length ms
with_length zero m ms = refl
with_length (suc i) m ms = length-set ms i m

web_length : (edit : WebEdit) (r : Reply) (w v : WorldState) → EditsWeb edit r w v → length v.members ≡ length w.members
web_length edit (reply.User answer) w v is = absurd is
web_length edit (reply.Web answer) w v is = ap length is.2
web_length edit (reply.Listed changes items) w v is = absurd is
web_length edit (reply.Scan answer) w v is = absurd is
web_length edit (reply.Watch answer) w v is = absurd is
web_length edit reply.Nothing w v is = absurd is
web_length edit (reply.Pulled entries cursor) w v is = absurd is
web_length edit (reply.Plan answer) w v is = absurd is
web_length edit (reply.Started answer) w v is = absurd is
web_length edit (reply.Took answer) w v is = absurd is
web_length edit (reply.Done answer) w v is = absurd is
web_length edit reply.Restarted w v is = absurd is
web_length edit (reply.Marked answer) w v is = absurd is

turn_length : (log : List LogEntry) (e : Event) (r : Reply) (w v : WorldState) → IsTurn log e r w v → length v.members ≡ length w.members
turn_length log e r w v turn = ap length turn.now ∙ with_length (client_of e) turn.after w.members

step_length : (log : List LogEntry) (e : Event) (r : Reply) (w v : WorldState) → IsStep log w e r v → length v.members ≡ length w.members
step_length log (event.User d edit) r w v step = turn_length log (event.User d edit) r w v step
step_length log (event.Web edit) r w v step = web_length edit r w v step
step_length log (event.List d) r w v step = turn_length log (event.List d) r w v step
step_length log (event.Scan d) r w v step = turn_length log (event.Scan d) r w v step
step_length log (event.Watch d) r w v step = turn_length log (event.Watch d) r w v step
step_length log (event.Pull d) r w v step = turn_length log (event.Pull d) r w v step
step_length log (event.Plan d) r w v step = turn_length log (event.Plan d) r w v step
step_length log (event.Start d n) r w v step = turn_length log (event.Start d n) r w v step
step_length log (event.Take d n) r w v step = turn_length log (event.Take d n) r w v step
step_length log (event.Done d n) r w v step = turn_length log (event.Done d n) r w v step
step_length log (event.Restart d) r w v step = turn_length log (event.Restart d) r w v step
step_length log (event.Mark d) r w v step = turn_length log (event.Mark d) r w v step

recount_length : (c : ℕ) (count : Due → Due) (w v : WorldState) → IsRecounted c count w v → length v.members ≡ length w.members
recount_length c count w v is = ap (λ (u : WorldState). length u.members) is.now ∙ with_length c (record is.member { due = count is.member.due }) w.members

pub few_clients : (log : List LogEntry) (w : WorldState) → Reaches log w → length w.members ≤ 16
few_clients _ _ (opened clients some few) = let long = length-replicate clients fresh_member in omega (arith, few, long)
few_clients _ v (stepped log w e r _ before step) = let same = step_length log e r w v step in let few = few_clients log w before in omega (arith, same, few)
few_clients log v (told _ w c k _ before some is) = let same = recount_length c (with_failure k) w v is in let few = few_clients log w before in omega (arith, same, few)
few_clients log v (unlisted _ w c _ before is) = let same = recount_length c after_one w v is.counted in let few = few_clients log w before in omega (arith, same, few)

pub few_members : {M : Type 0} (f : M → MemberState) (ms : List M) (log : List LogEntry) (w : WorldState) → Reaches log w → w.members ≡ map f ms → length ms ≤ 16
few_members f ms log w reaches are = let few = few_clients log w reaches in let long = length-map ms f in let many = ap length are in omega (arith, few, long, many)

-- A CALL IS TOLD TO FAIL
abbrev pub told_to : ℕ → MemStates → MemStates
told_to k f = record f { calls = record f.calls { failing = f.calls.failing ++ (f.calls.made + k) ∷ [] } }

pub told_now : (c : ClientStates) (f g : MemStates) (k : ℕ) → g ≡ told_to k f → member_now c g ≡ record (member_now c f) { due = with_failure k (member_now c f).due }
told_now c f g k is = subst (λ h. member_now c h ≡ record (member_now c f) { due = with_failure k (member_now c f).due }) (sym is) refl

pub told_then : (c : ClientStates) (f g : MemStates) (k : ℕ) → g ≡ told_to k f → member_then c f ≡ member_now c f → member_then c g ≡ member_now c g
told_then c f g k is same = subst (λ h. member_then c h ≡ member_now c h) (sym is)
    (ap (λ (m : MemberState). record m { due = record m.due { failing = f.calls.failing ++ (f.calls.made + k) ∷ [] } }) same)
