-- What a user does, a listing, a pull, a start, a Done, a restart and a mark leave names alone.
use Rattle.std.specs.Prelude.{All}
use Rattle.std.proofs.Common.{◌≡◌, ℕ, Bool, true, false, List, Option, Some, None, sym, ap, subst, arith}
use Rattle.std.specs.FinMap.{get}
use Rattle.nuc_class.specs.declared.op.Op.{Op}
use Rattle.nuc_flights.specs.Flights.{flight_of}
use Rattle.nuc_flights.specs.declared.taken.Taken.TheVariants as came
use Rattle.nuc_folder.specs.declared.item.Item.{Item}
use Rattle.nuc_folder.specs.declared.outcome.Outcome.{Outcome}
use Rattle.nuc_folder.specs.declared.outcome.Outcome.TheVariants as outcome
use Rattle.nuc_folder.specs.declared.user_edit.UserEdit.{UserEdit}
use Rattle.nuc_folder.specs.declared.user_edit.UserReply.{UserReply}
use Rattle.nuc_log.specs.declared.reply.StartReply.{StartReply}
use Rattle.nuc_log.specs.declared.reply.StartReply.TheVariants as start
use Rattle.nuc_script.specs.Fitting.{FitsEdit}
use Rattle.nuc_step.specs.Client.{ClientState}
use Rattle.nuc_step.specs.Stages.{planned_of}
use Rattle.nuc_step.specs.Steps.{after_pull, after_start}
use Rattle.nuc_step.specs.declared.reply.DoneReply.{DoneReply}
use Rattle.nuc_world.specs.Starts.{Begins, Reads, Starts, StartsOf, Uploads, called, has_started, is_over, is_upload, with_client}
use Rattle.nuc_world.specs.State.{MemberState, Turn}
use Rattle.nuc_world.specs.Step.{Dones, Edits, Lists, Pulls, after_list, after_restarting, page}
use Rattle.nuc_fit.proofs.NamesClient.{done_named, pull_named, restart_named, start_named, take_named}
use Rattle.nuc_fit.proofs.NamesFolder.{user_named}
use Rattle.nuc_fit.proofs.NamesForm.{IsListedFew, NamedClient, NamedEntry, NamedNotice}
use Rattle.nuc_fit.proofs.NamesLists.{all_drop, all_none, all_take}
use Rattle.nuc_fit.proofs.NamesWorld.{NamedMember, NamedTurn, after_step, alone}

-- another client
pub with_client_named : (c : ClientState) (m : MemberState) → NamedClient c → NamedMember m → NamedMember (with_client c m)
with_client_named c m its named = record { client = its; folder = named.folder; listed = named.listed }

-- STARTS
module _ (n : ℕ) (m : MemberState) (named : NamedMember m) where
  started : NamedMember (has_started n m)
  started = with_client_named _ m (start_named m.client named.client n) named

  over : (o : Outcome) → NamedMember (is_over n o m)
  over o = with_client_named _ m (take_named (after_start n m.client) (start_named m.client named.client n) n (came.Folder o) _ (all_none NamedEntry)) named

  one_call : (b u : MemberState) → u ≡ called b → NamedMember b → NamedMember u
  one_call b u now its = subst NamedMember (sym now) (record { client = its.client; folder = its.folder; listed = its.listed })

  reads : (key : ℕ) (r : StartReply) (u : MemberState) → Reads n key m r u → NamedMember u
  reads key (start.Ok (Some bytes)) u (lasts, at, now) = one_call (has_started n m) u now started
  reads key (start.Ok None) u is = absurd is
  reads key start.Changed u (lasts, at, now) = one_call (is_over n outcome.Changed m) u now (over outcome.Changed)
  reads key start.Failed u (due, now) = one_call (is_over n outcome.Failed m) u now (over outcome.Failed)
  reads key start.NoSuchOp u is = absurd is

  uploads : (key : Option ℕ) (r : StartReply) (u : MemberState) → Uploads n key m r u → NamedMember u
  uploads (Some key) r u is = reads key r u is
  uploads None r u (is, now) = subst NamedMember (sym now) (over outcome.Changed)

  begins : (op : Op) (upload : Bool) (r : StartReply) (u : MemberState) → Begins n op upload m r u → NamedMember u
  begins op true r u is = uploads (get m.client.local.keys op.id.0) r u is
  begins op false r u (is, now) = subst NamedMember (sym now) started

  starts : (op : Option Op) (r : StartReply) (u : MemberState) → StartsOf n op m r u → NamedMember u
  starts None r u (is, now) = subst NamedMember (sym now) named
  starts (Some op) r u is = begins op (is_upload op) r u is

module _ (most : ℕ) (t u : Turn) (named : NamedTurn most t) where
  -- a step of a member that is told as a whole
  told : (m : MemberState) → u ≡ record t { member = m } → NamedMember m → NamedTurn (after_step most) u
  told m now its = alone most t u named (ap (λ (v : Turn). v.shared) now) (subst NamedMember (sym (ap (λ (v : Turn). v.member) now)) its)

  pub user_turn : (edit : UserEdit) (answer : UserReply) → FitsEdit edit → Edits edit t answer u → NamedTurn (after_step most) u
  user_turn edit answer fits (answers, known, now) = alone most t u named (ap (λ (v : Turn). v.shared) now) (record {
    client = subst NamedClient (sym (ap (λ (v : Turn). v.member.client) now)) named.member.client;
    folder = user_named edit t.member.folder answer u.member.folder fits answers named.member.folder;
    listed = subst IsListedFew (sym (ap (λ (v : Turn). v.member.listing) now)) named.member.listed;
  })

  pub list_turn : (changes : ℕ) (items : List Item) → Lists changes items t u → NamedTurn (after_step most) u
  list_turn changes items lists = told (after_list items t.member) lists.now (record {
    client = named.member.client;
    folder = record { held = named.member.folder.held; pending = all_none NamedNotice };
    listed = lists.few;
  })

  pub pull_turn : (entries cursor : ℕ) → Pulls entries cursor t u → NamedTurn (after_step most) u
  pull_turn entries cursor pulls = told (with_client (after_pull (page t) t.member.client) t.member) pulls.now
      (with_client_named _ t.member
      (pull_named t.member.client named.member.client (page t)
      (all_take NamedEntry 64 _ (all_drop NamedEntry t.member.client.remote.cursor t.shared.entries named.shared.entries))) named.member)

  pub start_turn : (n : ℕ) (answer : StartReply) → Starts n t.member answer u.member → u.shared ≡ t.shared → NamedTurn (after_step most) u
  start_turn n answer is same = alone most t u named same (starts n t.member named.member (planned_of (flight_of n t.member.client.flights)) answer u.member is)

  pub restart_turn : u ≡ after_restarting t → NamedTurn (after_step most) u
  restart_turn now = told _ now (record { client = restart_named t.member.client named.member.client; folder = named.member.folder; listed = tt })

  pub mark_turn : u ≡ t → NamedTurn (after_step most) u
  mark_turn now = told t.member now named.member

  pub done_turn : (n : ℕ) (answer : DoneReply) → Dones n answer t u → NamedTurn (after_step most) u
  done_turn n answer (is, now) = record {
    shared = record {
      entries = subst (All NamedEntry) (sym (ap (λ (v : Turn). v.shared.entries) now)) named.shared.entries;
      next =
          let next : u.shared.ids.next_id ≡ t.shared.ids.next_id = ap (λ (v : Turn). v.shared.ids.next_id) now in
          let low = named.shared.next in
          omega (arith, next, low);
    };
    member = subst NamedMember (sym (ap (λ (v : Turn). v.member) now))
        (with_client_named u.member.client t.member
        (done_named t.member.client u.member.client n named.member.client t.shared.edits u.shared.edits answer is) named.member);
  }
