-- A watched change keeps a member.
use Rattle.std.specs.Prelude.{All}
use Rattle.std.proofs.Common.{◌≡◌, ℕ, List, [], ◌∷◌, refl, sym, ◌∙◌, ap, subst, arith}
use Rattle.nuc_base.specs.declared.node.Kind.{Kind}
use Rattle.nuc_folder.specs.declared.noticed.Noticed.{Noticed}
use Rattle.nuc_log.specs.declared.reply.Reply.{Reply}
use Rattle.nuc_log.specs.declared.reply.Reply.TheVariants as reply
use Rattle.nuc_step.specs.Client.{ClientState}
use Rattle.nuc_step.specs.Watching.{WatchAnswers, Watching}
use Rattle.nuc_step.specs.declared.answers.WatchReply.{WatchReply}
use Rattle.nuc_step.specs.declared.answers.WatchReply.TheVariants as watch
use Rattle.nuc_step.proofs.WatchBrings.{MadeBelow, watch_observes}
use Rattle.nuc_world.specs.Form.{AllGiven, IsMember, IsNoticeBelow, IsShared}
use Rattle.nuc_world.specs.Starts.{with_client}
use Rattle.nuc_world.specs.State.{Turn}
use Rattle.nuc_world.specs.Step.{Watches, watching_of, with_pending, with_watching}
use Rattle.nuc_world.proofs.Grown.{Turned, turned_alone}
use Rattle.nuc_world.proofs.Items.{all_first, all_rest}
use Rattle.nuc_world.proofs.Later.{member_beside}
use Rattle.nuc_world.proofs.Observed.{over_turns}
use Rattle.nuc_world.proofs.Quiet.{mark_turns}
use Rattle.nuc_world.proofs.Ready.{member_can_watch}

module _ (t : Turn) (kinds : ℕ → Kind) (shared : IsShared t.shared kinds) (member : IsMember t.shared kinds t.member) (notice : Noticed) (notices : List Noticed)
    (pending : t.member.folder.pending ≡ notice ∷ notices) where
  all_pending : All (IsNoticeBelow t.member.folder.next) (notice ∷ notices)
  all_pending = subst (All (IsNoticeBelow t.member.folder.next)) pending member.given.pending

  still_given : AllGiven (record t.member.folder { pending = notices }) t.member.listing
  still_given = record {
    held = member.given.held;
    pending = all_rest (IsNoticeBelow t.member.folder.next) notice notices all_pending;
    listed = member.given.listed;
  }

  made_below : MadeBelow notice t.member.folder.next
  made_below item is = subst (IsNoticeBelow t.member.folder.next) is (all_first (IsNoticeBelow t.member.folder.next) notice notices all_pending)

  answer_turns : (answer : WatchReply) (u : Turn) → WatchAnswers (watching_of t) notice answer (watching_of u)
      → u ≡ record (with_watching (watching_of u) t) { member = with_pending notices (with_client u.member.client t.member) } → Turned t u kinds
  answer_turns (watch.Changed x) u answers now =
      let over = watch_observes (watching_of t) (watching_of u) notice x (member_can_watch t.shared kinds t.member member shared) member.client.local answers in
      let so = now ∙ ap (λ (c : ClientState). record (with_watching (watching_of u) t) { member = with_pending notices (with_client c t.member) }) over.client in
      subst (λ (v : Turn). Turned t v kinds) (sym so)
      (over_turns t kinds shared member (watching_of u) (MadeBelow notice) over made_below notices t.member.listing still_given)
  answer_turns watch.Rescan u (none, same) now =
      let stays : u ≡ record t { member = with_pending notices t.member } =
      now ∙ ap (λ (w : Watching). record (with_watching w t) { member = with_pending notices (with_client w.client t.member) }) same in
      subst (λ (v : Turn). Turned t v kinds) (sym stays)
      (turned_alone t (record t { member = with_pending notices t.member }) kinds shared refl
      (member_beside t.shared kinds t.member (with_pending notices t.member) refl (omega arith) still_given member))

pub watch_turns : (pending : List Noticed) (r : Reply) (t u : Turn) (kinds : ℕ → Kind) → IsShared t.shared kinds → IsMember t.shared kinds t.member
    → t.member.folder.pending ≡ pending → Watches pending r t u → Turned t u kinds
watch_turns [] reply.Nothing t u kinds shared member pending same = mark_turns t u kinds shared member same
watch_turns (notice ∷ notices) (reply.Watch answer) t u kinds shared member pending (answers, now) = answer_turns t kinds shared member notice notices pending answer u answers now
watch_turns [] (reply.User answer) t u kinds shared member pending is = absurd is
watch_turns [] (reply.Web answer) t u kinds shared member pending is = absurd is
watch_turns [] (reply.Listed changes items) t u kinds shared member pending is = absurd is
watch_turns [] (reply.Scan answer) t u kinds shared member pending is = absurd is
watch_turns [] (reply.Watch answer) t u kinds shared member pending is = absurd is
watch_turns [] (reply.Pulled entries cursor) t u kinds shared member pending is = absurd is
watch_turns [] (reply.Plan answer) t u kinds shared member pending is = absurd is
watch_turns [] (reply.Started answer) t u kinds shared member pending is = absurd is
watch_turns [] (reply.Took answer) t u kinds shared member pending is = absurd is
watch_turns [] (reply.Done answer) t u kinds shared member pending is = absurd is
watch_turns [] (reply.Marked answer) t u kinds shared member pending is = absurd is
watch_turns [] reply.Restarted t u kinds shared member pending is = absurd is
watch_turns (notice ∷ notices) (reply.User answer) t u kinds shared member pending is = absurd is
watch_turns (notice ∷ notices) (reply.Web answer) t u kinds shared member pending is = absurd is
watch_turns (notice ∷ notices) (reply.Listed changes items) t u kinds shared member pending is = absurd is
watch_turns (notice ∷ notices) (reply.Scan answer) t u kinds shared member pending is = absurd is
watch_turns (notice ∷ notices) (reply.Pulled entries cursor) t u kinds shared member pending is = absurd is
watch_turns (notice ∷ notices) (reply.Plan answer) t u kinds shared member pending is = absurd is
watch_turns (notice ∷ notices) (reply.Started answer) t u kinds shared member pending is = absurd is
watch_turns (notice ∷ notices) (reply.Took answer) t u kinds shared member pending is = absurd is
watch_turns (notice ∷ notices) (reply.Done answer) t u kinds shared member pending is = absurd is
watch_turns (notice ∷ notices) (reply.Marked answer) t u kinds shared member pending is = absurd is
watch_turns (notice ∷ notices) reply.Restarted t u kinds shared member pending is = absurd is
watch_turns (notice ∷ notices) reply.Nothing t u kinds shared member pending is = absurd is
