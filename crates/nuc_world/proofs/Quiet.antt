-- What a user does, a listing, a pull, a start, a restart and a mark keep a member.
use Rattle.std.specs.Prelude.{All, Any, IfSome}
use Rattle.std.proofs.Common.{◌≡◌, ◌⊎◌, ℕ, Bool, true, false, List, [], ◌∷◌, Option, Some, None, refl, sym, ap, subst, inl, inr, arith}
use Rattle.std.specs.FinMap.{get}
use Rattle.nuc_base.specs.declared.node.Kind.{Kind}
use Rattle.nuc_class.specs.declared.op.Op.{Op}
use Rattle.nuc_flights.specs.Flights.{flight_of, started, taken}
use Rattle.nuc_flights.specs.declared.taken.Taken.{Taken}
use Rattle.nuc_flights.specs.declared.taken.Taken.TheVariants as came
use Rattle.nuc_folder.specs.declared.item.Item.{Item}
use Rattle.nuc_folder.specs.declared.outcome.Outcome.TheVariants as outcome
use Rattle.nuc_folder.specs.declared.user_edit.UserEdit.{UserEdit}
use Rattle.nuc_folder.specs.declared.user_edit.UserReply.{UserReply}
use Rattle.nuc_folder.proofs.ListedKeys.{listed_low}
use Rattle.nuc_journal.specs.declared.entry.Entry.{Entry}
use Rattle.nuc_log.specs.declared.reply.StartReply.{StartReply}
use Rattle.nuc_log.specs.declared.reply.StartReply.TheVariants as start
use Rattle.nuc_replica.specs.Following.{next_entries}
use Rattle.nuc_replica.specs.Remote.{Agree, Follows, RemoteState}
use Rattle.nuc_replica.proofs.Journaled.{at_forgotten, at_heard, at_next, next_entries_follow}
use Rattle.nuc_server.specs.WebEdits.{WebState}
use Rattle.nuc_step.specs.Calls.{MayBeTaken}
use Rattle.nuc_step.specs.Client.{ClientState}
use Rattle.nuc_step.specs.Holdings.{EntryBrings, Holds}
use Rattle.nuc_step.specs.Stages.{planned_of}
use Rattle.nuc_step.specs.Steps.{after_pull, after_restart, after_start, after_take}
use Rattle.nuc_step.proofs.Bringing.{steps_bring_nothing_else}
use Rattle.nuc_step.proofs.Steady.{steps_keep}
use Rattle.nuc_world.specs.Form.{AllGiven, CanFly, IsKnown, IsMember, IsNoticeBelow, IsShared, IsStageBelow, IsTakenBelow}
use Rattle.nuc_world.specs.Starts.{Begins, Reads, Starts, StartsOf, Uploads, called, has_started, is_over, is_upload, with_client}
use Rattle.nuc_world.specs.State.{MemberState, Turn}
use Rattle.nuc_world.specs.Step.{Edits, Lists, Pulls, after_restarting, page}
use Rattle.nuc_world.proofs.Grown.{Turned, turned_alone}
use Rattle.nuc_world.proofs.Items.{all_drop, all_none, all_take, any_of}
use Rattle.nuc_world.proofs.Later.{all_staged, member_beside, user_given, user_later}

-- A USER, A LISTING
pub user_turns : (edit : UserEdit) (answer : UserReply) (t u : Turn) (kinds : ℕ → Kind) → IsShared t.shared kinds → IsMember t.shared kinds t.member → Edits edit t answer u
    → Turned t u kinds
user_turns edit answer t u kinds shared member (answers, known, now) =
    turned_alone t u kinds shared (ap (λ (v : Turn). v.shared) now)
    (member_beside t.shared kinds t.member u.member (ap (λ (v : Turn). v.member.client) now)
    (user_later edit t.member.folder answer u.member.folder answers)
    (subst (AllGiven u.member.folder) (sym (ap (λ (v : Turn). v.member.listing) now))
    (user_given edit t.member.folder answer u.member.folder t.member.listing answers member.given)) member)

pub list_turns : (changes : ℕ) (items : List Item) (t u : Turn) (kinds : ℕ → Kind) → IsShared t.shared kinds → IsMember t.shared kinds t.member → Lists changes items t u
    → Turned t u kinds
list_turns changes items t u kinds shared member lists =
    turned_alone t u kinds shared (ap (λ (v : Turn). v.shared) lists.now)
    (member_beside t.shared kinds t.member u.member (ap (λ (v : Turn). v.member.client) lists.now)
    (let next : u.member.folder.next ≡ t.member.folder.next = ap (λ (v : Turn). v.member.folder.next) lists.now in omega (arith, next))
    (subst (λ (v : Turn). AllGiven v.member.folder v.member.listing) (sym lists.now) (record {
      held = member.given.held;
      pending = all_none (IsNoticeBelow t.member.folder.next);
      listed = listed_low t.member.folder.next t.member.folder.held member.given.held items lists.items_are;
    })) member)

module _ (s : WebState) (kinds : ℕ → Kind) (shared : IsShared s kinds) where
  -- the entries of the journal are known, so whoever has only what one of them brings, or had it before, has what is known
  pub brought_known : (c : ClientState) (es : List Entry) (x : ℕ) (k : Kind) (v : ℕ)
      → ((y : ℕ) (l : Kind) (w : ℕ) → Holds c y l w → IsKnown s kinds y l w)
      → All (λ e. EntryBrings x k v e → IsKnown s kinds x k v) es → Holds c x k v ⊎ Any (EntryBrings x k v) es → IsKnown s kinds x k v
  brought_known c es x k v holds each (inl held) = holds x k v held
  brought_known c es x k v holds each (inr some) = any_of (EntryBrings x k v) es (IsKnown s kinds x k v) each some

  module _ (m : MemberState) (member : IsMember s kinds m) where
    -- A PULL
    pub pulled_member : (n : ℕ) (es : List Entry) → es ≡ next_entries s.entries m.client.remote n
        → IsMember s kinds (with_client (after_pull es m.client) m)
    pulled_member n es is = subst (λ fs. IsMember s kinds (with_client (after_pull fs m.client) m)) (sym is) (record {
      client = (steps_keep m.client member.client).pull _ (next_entries_follow s.entries m.client.remote n shared.journal member.at);
      at = at_next s.entries m.client.remote n member.at;
      holds = λ x k v held. brought_known m.client _ x k v member.holds
          (all_take (λ e. EntryBrings x k v e → IsKnown s kinds x k v) n _ (all_drop (λ e. EntryBrings x k v e → IsKnown s kinds x k v) m.client.remote.cursor s.entries (shared.entries x k v)))
          ((steps_bring_nothing_else m.client).pull _ x k v held);
      flights = member.flights;
      keys = member.keys;
      made = member.made;
      given = member.given;
    })

    -- A RESTART
    pub restarted_member : IsMember s kinds (with_client (after_restart m.client) m)
    restarted_member = record {
      client = (steps_keep m.client member.client).restart;
      at = at_forgotten s.entries m.client.remote member.at;
      holds = λ x k v held. member.holds x k v ((steps_bring_nothing_else m.client).restart x k v held);
      flights = all_none (λ f. CanFly f.op);
      keys = member.keys;
      made = all_none (λ f. IsStageBelow m.folder.next f.stage);
      given = member.given;
    }

    -- A START
    pub started_member : (n : ℕ) → IsMember s kinds (has_started n m)
    started_member n = record {
      client = (steps_keep m.client member.client).start n;
      at = member.at;
      holds = λ x k v held. member.holds x k v ((steps_bring_nothing_else m.client).start n x k v held);
      flights = all_staged (λ f. CanFly f.op) n started (λ f can. can) m.client.flights member.flights;
      keys = member.keys;
      made = all_staged (λ f. IsStageBelow m.folder.next f.stage) n started (λ f below. tt) m.client.flights member.made;
      given = member.given;
    }

agree_nothing : (known : List Entry) → Agree known []
agree_nothing [] = tt
agree_nothing (e ∷ es) = tt

nothing_follows : (r : RemoteState) → Follows r []
nothing_follows r = record { goes_on = tt; agrees = agree_nothing r.ahead }

module _ (s : WebState) (kinds : ℕ → Kind) (m : MemberState) (member : IsMember s kinds m) where
  -- A TAKE without news
  pub taken_member : (n : ℕ) (t : Taken) → IfSome (flight_of n m.client.flights) (MayBeTaken m.client.remote [] t) → IsTakenBelow m.folder.next t
      → IsMember s kinds (with_client (after_take n t [] m.client) m)
  taken_member n t may below = record {
    client = (steps_keep m.client member.client).take n t [] (nothing_follows m.client.remote) may;
    at = at_heard s.entries m.client.remote 0 member.at;
    holds = λ x k v held. elim ((steps_bring_nothing_else m.client).take n t [] x k v held) [
      | inl was ↦ member.holds x k v was
      | inr none ↦ any_of (EntryBrings x k v) [] (IsKnown s kinds x k v) (all_none (λ e. EntryBrings x k v e → IsKnown s kinds x k v)) none
    ];
    flights = all_staged (λ f. CanFly f.op) n (taken t) (λ f can. can) m.client.flights member.flights;
    keys = member.keys;
    made = all_staged (λ f. IsStageBelow m.folder.next f.stage) n (taken t) (λ f was. below) m.client.flights member.made;
    given = member.given;
  }

if_some_all : {X : Type 0} (P : X → Type 0) (o : Option X) → ((x : X) → P x) → IfSome o P
if_some_all P None each = tt
if_some_all P (Some x) each = each x

module _ (s : WebState) (kinds : ℕ → Kind) (shared : IsShared s kinds) (m : MemberState) (member : IsMember s kinds m) (n : ℕ) where
  changed_over : IsMember s kinds (is_over n outcome.Changed m)
  changed_over = taken_member s kinds (has_started n m) (started_member s kinds shared m member n) n (came.Folder outcome.Changed)
      (if_some_all (MayBeTaken m.client.remote [] (came.Folder outcome.Changed)) (flight_of n (after_start n m.client).flights) (λ f. tt)) tt

  failed_over : IsMember s kinds (is_over n outcome.Failed m)
  failed_over = taken_member s kinds (has_started n m) (started_member s kinds shared m member n) n (came.Folder outcome.Failed)
      (if_some_all (MayBeTaken m.client.remote [] (came.Folder outcome.Failed)) (flight_of n (after_start n m.client).flights) (λ f. tt)) tt

  -- one call more
  after_call : (b u : MemberState) → u ≡ called b → IsMember s kinds b → IsMember s kinds u
  after_call b u now its = subst (IsMember s kinds) (sym now) (member_beside s kinds b (called b) refl (omega arith) its.given its)

  reads_member : (key : ℕ) (r : StartReply) (u : MemberState) → Reads n key m r u → IsMember s kinds u
  reads_member key (start.Ok (Some bytes)) u (lasts, at, now) = after_call (has_started n m) u now (started_member s kinds shared m member n)
  reads_member key (start.Ok None) u reads = absurd reads
  reads_member key start.Changed u (lasts, at, now) = after_call (is_over n outcome.Changed m) u now changed_over
  reads_member key start.Failed u (due, now) = after_call (is_over n outcome.Failed m) u now failed_over
  reads_member key start.NoSuchOp u reads = absurd reads

  uploads_member : (key : Option ℕ) (r : StartReply) (u : MemberState) → Uploads n key m r u → IsMember s kinds u
  uploads_member (Some key) r u reads = reads_member key r u reads
  uploads_member None r u (is, now) = subst (IsMember s kinds) (sym now) changed_over

  begins_member : (op : Op) (upload : Bool) (r : StartReply) (u : MemberState) → Begins n op upload m r u → IsMember s kinds u
  begins_member op true r u uploads = uploads_member (get m.client.local.keys op.id.0) r u uploads
  begins_member op false r u (is, now) = subst (IsMember s kinds) (sym now) (started_member s kinds shared m member n)

  starts_member : (op : Option Op) (r : StartReply) (u : MemberState) → StartsOf n op m r u → IsMember s kinds u
  starts_member None r u (is, now) = subst (IsMember s kinds) (sym now) member
  starts_member (Some op) r u begins = begins_member op (is_upload op) r u begins

pub start_turns : (n : ℕ) (answer : StartReply) (t u : Turn) (kinds : ℕ → Kind) → IsShared t.shared kinds → IsMember t.shared kinds t.member
    → Starts n t.member answer u.member → u.shared ≡ t.shared → Turned t u kinds
start_turns n answer t u kinds shared member starts same = turned_alone t u kinds shared same
    (starts_member t.shared kinds shared t.member member n (planned_of (flight_of n t.member.client.flights)) answer u.member starts)

pub pull_turns : (entries cursor : ℕ) (t u : Turn) (kinds : ℕ → Kind) → IsShared t.shared kinds → IsMember t.shared kinds t.member → Pulls entries cursor t u
    → Turned t u kinds
pull_turns entries cursor t u kinds shared member pulls = turned_alone t u kinds shared (ap (λ (v : Turn). v.shared) pulls.now)
    (subst (IsMember t.shared kinds) (sym (ap (λ (v : Turn). v.member) pulls.now)) (pulled_member t.shared kinds shared t.member member 64 (page t) refl))

pub restart_turns : (t u : Turn) (kinds : ℕ → Kind) → IsShared t.shared kinds → IsMember t.shared kinds t.member → u ≡ after_restarting t → Turned t u kinds
restart_turns t u kinds shared member now = turned_alone t u kinds shared (ap (λ (v : Turn). v.shared) now)
    (subst (IsMember t.shared kinds) (sym (ap (λ (v : Turn). v.member) now))
    (member_beside t.shared kinds (with_client (after_restart t.member.client) t.member) (after_restarting t).member refl (omega arith)
    (record { held = member.given.held; pending = member.given.pending; listed = tt })
    (restarted_member t.shared kinds shared t.member member)))

-- nothing changes
pub mark_turns : (t u : Turn) (kinds : ℕ → Kind) → IsShared t.shared kinds → IsMember t.shared kinds t.member → u ≡ t → Turned t u kinds
mark_turns t u kinds shared member now = turned_alone t u kinds shared (ap (λ (v : Turn). v.shared) now)
    (subst (IsMember t.shared kinds) (sym (ap (λ (v : Turn). v.member) now)) member)
