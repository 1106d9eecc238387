-- What a user does, a watched change, a pull, a start and a restart keep to the kinds of the keys.
use Rattle.std.specs.Prelude.{All}
use Rattle.std.proofs.Common.{◌≡◌, ℕ, Bool, true, false, List, [], ◌∷◌, Option, Some, None, refl, sym, ap, subst}
use Rattle.std.specs.FinMap.{get}
use Rattle.nuc_base.specs.declared.node.Kind.{Kind}
use Rattle.nuc_class.specs.declared.op.Op.{Op}
use Rattle.nuc_flights.specs.Flights.{flight_of, started}
use Rattle.nuc_flights.specs.declared.taken.Taken.TheVariants as came
use Rattle.nuc_folder.specs.declared.noticed.Noticed.{Noticed}
use Rattle.nuc_folder.specs.declared.outcome.Outcome.TheVariants as outcome
use Rattle.nuc_folder.specs.declared.user_edit.UserEdit.{UserEdit}
use Rattle.nuc_folder.specs.declared.user_edit.UserReply.{UserReply}
use Rattle.nuc_log.specs.declared.reply.Reply.{Reply}
use Rattle.nuc_log.specs.declared.reply.Reply.TheVariants as reply
use Rattle.nuc_log.specs.declared.reply.StartReply.{StartReply}
use Rattle.nuc_log.specs.declared.reply.StartReply.TheVariants as start
use Rattle.nuc_step.specs.Client.{ClientState}
use Rattle.nuc_step.specs.Stages.{planned_of}
use Rattle.nuc_step.specs.Steps.{after_pull, after_start, after_take}
use Rattle.nuc_step.specs.Watching.{WatchAnswers, Watching}
use Rattle.nuc_step.specs.declared.answers.WatchReply.{WatchReply}
use Rattle.nuc_step.specs.declared.answers.WatchReply.TheVariants as watch
use Rattle.nuc_world.specs.Form.{IsMember}
use Rattle.nuc_world.specs.Starts.{Begins, Reads, Starts, StartsOf, Uploads, called, has_started, is_over, is_upload, with_client}
use Rattle.nuc_world.specs.State.{MemberState, Turn}
use Rattle.nuc_world.specs.Step.{Edits, Pulls, Watches, after_restarting, page, watching_of, with_pending}
use Rattle.nuc_world.proofs.Items.{all_append, all_first, all_none, all_rest}
use Rattle.nuc_fit.proofs.KindsForm.{IsFlightOf, IsNoticeOf, Kinds}
use Rattle.nuc_fit.proofs.KindsMember.{AreAlike, HasKinds, OfClient, all_staged, client_alike, flights_later, listed_later, named_later, notices_later, of_client}
use Rattle.nuc_fit.proofs.KindsTakes.{over_of}
use Rattle.nuc_fit.proofs.KindsUser.{user_goes}
use Rattle.nuc_fit.proofs.KindsWatched.{watched_named}

-- A USER
pub user_kinds : (kinds : Kinds) (edit : UserEdit) (answer : UserReply) (t u : Turn) (all : ℕ → Kind) → IsMember t.shared all t.member → AreAlike kinds t.member → Edits edit t answer u
    → HasKinds u.member
user_kinds kinds edit answer t u all member are (answers, known, now) =
    let m = t.member in
    let goes = user_goes kinds m.folder u.member.folder member.given.held are.held edit answer answers in
    let next = m.folder.next in
    record {
      kinds = goes.later;
      are = subst (AreAlike goes.later) (sym (ap (λ (v : Turn). v.member) now)) (record {
        held = goes.held;
        pending = subst (All (IsNoticeOf goes.later)) (sym goes.pending)
            (all_append (IsNoticeOf goes.later) m.folder.pending goes.new (notices_later next kinds goes.later goes.agree m.folder.pending member.given.pending are.pending) goes.told);
        listed = listed_later next kinds goes.later goes.agree m.listing member.given.listed are.listed;
        local = named_later next kinds goes.later goes.agree m.client.local member.keys are.local;
        flights = flights_later next kinds goes.later goes.agree m.client.flights member.made are.flights;
      });
    }

module _ (kinds : Kinds) where
  pub same_kinds : (m u : MemberState) → u ≡ m → AreAlike kinds m → HasKinds u
  same_kinds m u same are = subst HasKinds (sym same) (record { kinds = kinds; are = are })

  -- A WATCHED CHANGE
  watched_alike : (t u : Turn) (notice : Noticed) (notices : List Noticed) → t.member.folder.pending ≡ notice ∷ notices → u.member ≡ with_pending notices (with_client u.member.client t.member)
      → OfClient kinds u.member.client → AreAlike kinds t.member → HasKinds u.member
  watched_alike t u notice notices pending now of are = record {
    kinds = kinds;
    are = subst (AreAlike kinds) (sym now) (record {
      held = are.held;
      pending = all_rest (IsNoticeOf kinds) notice notices (subst (All (IsNoticeOf kinds)) pending are.pending);
      listed = are.listed;
      local = of.local;
      flights = of.flights;
    });
  }

  watched_of : (t u : Turn) (all : ℕ → Kind) (member : IsMember t.shared all t.member) (notice : Noticed) (a : WatchReply) → IsNoticeOf kinds notice
      → WatchAnswers (watching_of t) notice a (watching_of u) → AreAlike kinds t.member → OfClient kinds u.member.client
  watched_of t u all member notice (watch.Changed x) of (d, leads, id, is) are = record {
    local = watched_named kinds (watching_of t) (watching_of u) member.client.local.follow are.local notice d of leads is;
    flights = subst (All (IsFlightOf kinds)) (sym (ap (λ (c : ClientState). c.flights) is.client)) are.flights;
  }
  watched_of t u all member notice watch.Rescan of (none, same) are = subst (λ (w : Watching). OfClient kinds w.client) (sym same) (of_client kinds t.member are)

  pub watch_kinds : (pending : List Noticed) (r : Reply) (t u : Turn) (all : ℕ → Kind) → IsMember t.shared all t.member → t.member.folder.pending ≡ pending → AreAlike kinds t.member
      → Watches pending r t u → HasKinds u.member
  watch_kinds [] reply.Nothing t u all member pending are same = same_kinds t.member u.member (ap (λ (v : Turn). v.member) same) are
  watch_kinds [] _ t u all member pending are is = absurd is
  watch_kinds (notice ∷ notices) (reply.Watch a) t u all member pending are (answers, now) =
      let first = all_first (IsNoticeOf kinds) notice notices (subst (All (IsNoticeOf kinds)) pending are.pending) in
      watched_alike t u notice notices pending (ap (λ (v : Turn). v.member) now) (watched_of t u all member notice a first answers are) are
  watch_kinds (notice ∷ notices) _ t u all member pending are is = absurd is

  -- A PULL, A RESTART
  pub pull_kinds : (entries cursor : ℕ) (t u : Turn) → AreAlike kinds t.member → Pulls entries cursor t u → HasKinds u.member
  pull_kinds entries cursor t u are pulls = record {
    kinds = kinds;
    are = client_alike kinds t.member u.member (after_pull (page t) t.member.client) (ap (λ (v : Turn). v.member) pulls.now) (record { local = are.local; flights = are.flights }) are;
  }

  pub restart_kinds : (t u : Turn) → AreAlike kinds t.member → u ≡ after_restarting t → HasKinds u.member
  restart_kinds t u are now = record {
    kinds = kinds;
    are = subst (AreAlike kinds) (sym (ap (λ (v : Turn). v.member) now))
        (record { held = are.held; pending = are.pending; listed = tt; local = are.local; flights = all_none (IsFlightOf kinds) });
  }

  -- A START
  module _ (n : ℕ) (m : MemberState) (are : AreAlike kinds m) where
    begun_of : OfClient kinds (after_start n m.client)
    begun_of = record { local = are.local; flights = all_staged (IsFlightOf kinds) n started (λ f its. record { copy = its.copy; stage = tt }) m.client.flights are.flights }

    begun : AreAlike kinds (has_started n m)
    begun = client_alike kinds m (has_started n m) (after_start n m.client) refl begun_of are

    changed_over : AreAlike kinds (is_over n outcome.Changed m)
    changed_over = client_alike kinds (has_started n m) (is_over n outcome.Changed m) (after_take n (came.Folder outcome.Changed) [] (after_start n m.client)) refl
        (over_of kinds n (came.Folder outcome.Changed) [] (has_started n m) (λ c. tt) begun) begun

    failed_over : AreAlike kinds (is_over n outcome.Failed m)
    failed_over = client_alike kinds (has_started n m) (is_over n outcome.Failed m) (after_take n (came.Folder outcome.Failed) [] (after_start n m.client)) refl
        (over_of kinds n (came.Folder outcome.Failed) [] (has_started n m) (λ c. tt) begun) begun

    -- one call more
    after_call : (b u : MemberState) → u ≡ called b → AreAlike kinds b → HasKinds u
    after_call b u now its = same_kinds (called b) u now
        (record { held = its.held; pending = its.pending; listed = its.listed; local = its.local; flights = its.flights })

    reads : (key : ℕ) (r : StartReply) (u : MemberState) → Reads n key m r u → HasKinds u
    reads key (start.Ok (Some bytes)) u (lasts, at, now) = after_call (has_started n m) u now begun
    reads key (start.Ok None) u is = absurd is
    reads key start.Changed u (lasts, at, now) = after_call (is_over n outcome.Changed m) u now changed_over
    reads key start.Failed u (due, now) = after_call (is_over n outcome.Failed m) u now failed_over
    reads key start.NoSuchOp u is = absurd is

    uploads : (key : Option ℕ) (r : StartReply) (u : MemberState) → Uploads n key m r u → HasKinds u
    uploads (Some key) r u is = reads key r u is
    uploads None r u (is, now) = same_kinds (is_over n outcome.Changed m) u now changed_over

    begins : (op : Op) (upload : Bool) (r : StartReply) (u : MemberState) → Begins n op upload m r u → HasKinds u
    begins op true r u is = uploads (get m.client.local.keys op.id.0) r u is
    begins op false r u (is, now) = same_kinds (has_started n m) u now begun

    starts : (o : Option Op) (r : StartReply) (u : MemberState) → StartsOf n o m r u → HasKinds u
    starts None r u (is, now) = same_kinds m u now are
    starts (Some op) r u is = begins op (is_upload op) r u is

    pub start_kinds : (r : StartReply) (u : MemberState) → Starts n m r u → HasKinds u
    start_kinds r u is = starts (planned_of (flight_of n m.client.flights)) r u is
