-- A client's step has one end, where no two things in its folder have one place.
use Rattle.std.proofs.Common.{◌≡◌, ℕ, List, [], ◌∷◌, Option, refl, sym, ◌∙◌, ap}
use Rattle.nuc_base.specs.declared.node.Kind.{Kind}
use Rattle.nuc_edits.specs.Edits.{Recorded}
use Rattle.nuc_folder.specs.Memory.{MemState}
use Rattle.nuc_folder.specs.declared.item.Item.{Item}
use Rattle.nuc_folder.specs.declared.noticed.Noticed.{Noticed}
use Rattle.nuc_folder.proofs.OneListing.{one_listing}
use Rattle.nuc_journal.proofs.Journals.{form_of}
use Rattle.nuc_log.specs.declared.event.Event.{Event}
use Rattle.nuc_log.specs.declared.event.Event.TheVariants as event
use Rattle.nuc_log.specs.declared.log.LogEntry.{LogEntry}
use Rattle.nuc_log.specs.declared.reply.MarkReply.{MarkReply}
use Rattle.nuc_log.specs.declared.reply.MarkReply.TheVariants as mark
use Rattle.nuc_log.specs.declared.reply.Reply.{Reply}
use Rattle.nuc_log.specs.declared.reply.Reply.TheVariants as reply
use Rattle.nuc_measure.proofs.Counting.{one_count}
use Rattle.nuc_step.specs.Client.{ClientState}
use Rattle.nuc_step.specs.Held.{HeldData, HeldState}
use Rattle.nuc_step.specs.Planning.{Planning}
use Rattle.nuc_step.specs.Watching.{Watching}
use Rattle.nuc_step.specs.declared.answers.Planned.{Planned}
use Rattle.nuc_step.specs.declared.answers.Scanned.{Scanned}
use Rattle.nuc_step.specs.declared.reply.DoneReply.{DoneReply}
use Rattle.nuc_step.proofs.Written.{one_end}
use Rattle.nuc_world.specs.Form.{IsMember, IsShared}
use Rattle.nuc_world.specs.Marks.{Marks}
use Rattle.nuc_world.specs.Starts.{with_client}
use Rattle.nuc_world.specs.State.{Turn}
use Rattle.nuc_world.specs.Step.{Does, Dones, Lists, Plans, Pulls, Scans, Watches, after_list, held_as, planning_of, watching_of, with_folder, with_pending, with_planning, with_watching}
use Rattle.nuc_world.proofs.FolderPlaces.{PlacesDiffer}
use Rattle.nuc_world.proofs.OnePlanned.{plan_one}
use Rattle.nuc_world.proofs.OneScan.{scan_one}
use Rattle.nuc_world.proofs.OneStart.{start_one}
use Rattle.nuc_world.proofs.OneTaken.{take_one, turn_one}
use Rattle.nuc_world.proofs.OneUser.{user_one}
use Rattle.nuc_world.proofs.OneWatch.{watch_one}
use Rattle.nuc_world.proofs.Ready.{member_can_plan, member_can_watch}

marks_one : (c : ClientState) (a b : MarkReply) → Marks c a → Marks c b → a ≡ b
marks_one c mark.Quiet mark.Quiet x y = refl
marks_one c mark.Quiet (mark.Stalled k) x y = absurd (y.0 x)
marks_one c (mark.Stalled n) mark.Quiet x y = absurd (x.0 y)
marks_one c (mark.Stalled n) (mark.Stalled k) x y = ap mark.Stalled ((one_count c.remote.tree c.local.tree c.synced).one n k x.1 y.1)

module _ (t u v : Turn) where
  lists_one : (n k : ℕ) (items others : List Item) → Lists n items t u → Lists k others t v → (reply.Listed n items ≡ reply.Listed k others) × (u ≡ v)
  lists_one n k items others x y =
      let list = one_listing t.member.folder.held items others x.items_are y.items_are in (
        ap (λ z. reply.Listed z items) (x.changes_are ∙ sym y.changes_are) ∙ ap (λ (l : List Item). reply.Listed k l) list,
        x.now ∙ ap (λ (l : List Item). record t { member = after_list l t.member }) list ∙ sym y.now,
      )

  pulls_one : (a b n k : ℕ) → Pulls a n t u → Pulls b k t v → (reply.Pulled a n ≡ reply.Pulled b k) × (u ≡ v)
  pulls_one a b n k x y =
      let same = x.now ∙ sym y.now in
      let cursor : n ≡ k = x.cursor_is ∙ ap (λ (z : Turn). z.member.client.remote.cursor) same ∙ sym y.cursor_is in
      (ap (λ z. reply.Pulled z n) (x.entries_are ∙ sym y.entries_are) ∙ ap (λ z. reply.Pulled b z) cursor, same)

  watches_one : (pending : List Noticed) (r q : Reply) → Watches pending r t u → Watches pending q t v → (r ≡ q) × (u ≡ v)
  watches_one [] reply.Nothing reply.Nothing x y = (refl, x ∙ sym y)
  watches_one [] reply.Nothing _ x y = absurd y
  watches_one [] _ q x y = absurd x
  watches_one (notice ∷ notices) (reply.Watch a) (reply.Watch b) x y =
      let one = watch_one (watching_of t) (watching_of u) (watching_of v) notice a b x.0 y.0 in
      (ap reply.Watch one.0, x.1 ∙ ap (λ (w : Watching). record (with_watching w t) { member = with_pending notices (with_client w.client t.member) }) one.1 ∙ sym y.1)
  watches_one (notice ∷ notices) (reply.Watch a) _ x y = absurd y
  watches_one (notice ∷ notices) _ q x y = absurd x

  dones_one : (n : ℕ) (a b : DoneReply) → Dones n a t u → Dones n b t v → (a ≡ b) × (u ≡ v)
  dones_one n a b x y =
      let one = one_end n t.member.client u.member.client v.member.client t.shared.edits u.shared.edits v.shared.edits a b x.0 y.0 in (
        one.0,
        x.1 ∙ ap (λ (c : ClientState). record { shared = record t.shared { edits = u.shared.edits }; member = with_client c t.member }) one.1
            ∙ ap (λ (e : Recorded). record { shared = record t.shared { edits = e }; member = with_client v.member.client t.member }) one.2 ∙ sym y.1,
      )

  module _ (kinds : ℕ → Kind) (shared : IsShared t.shared kinds) (member : IsMember t.shared kinds t.member) where
    plans_one : (a b : Planned) → Plans a t u → Plans b t v → (a ≡ b) × (u ≡ v)
    plans_one a b x y =
        let one = plan_one (planning_of t) (planning_of u) (planning_of v) (member_can_plan t.shared kinds t.member member) a b x.0 y.0 in
        (one.0, x.1 ∙ ap (λ (p : Planning). with_planning p t) one.1 ∙ sym y.1)

    scans_one : (a b : Scanned) → Scans a t u → Scans b t v → (a ≡ b) × (u ≡ v)
    scans_one a b x y =
        let one = scan_one (held_as t.member.listing) (held_as u.member.listing) (held_as v.member.listing) (watching_of t) (watching_of u) (watching_of v)
        member.client.local (member_can_watch t.shared kinds t.member member shared) a b x.0 y.0 in
        let listing : u.member.listing ≡ v.member.listing = ap (λ (h : HeldState). h.now) one.1 in (
          one.0,
          x.1 ∙ ap (λ (w : Watching). record (with_watching w t) { member = record (with_client w.client t.member) { listing = u.member.listing } }) one.2
              ∙ ap (λ (l : Option HeldData). record (with_watching (watching_of v) t) { member = record (with_client v.member.client t.member) { listing = l } }) listing ∙ sym y.1,
        )

    pub does_one : (log : List LogEntry) (e : Event) (r q : Reply) → PlacesDiffer t.member.folder.held.tree → Does log e r t u → Does log e q t v → (r ≡ q) × (u ≡ v)
    does_one log (event.User c edit) (reply.User a) (reply.User b) differ (x, known, is) (y, sure, was) =
        let one = user_one edit t.member.folder u.member.folder v.member.folder a b differ known sure x y in
        (ap reply.User one.0, is ∙ ap (λ (f : MemState). record t { member = with_folder f t.member }) one.1 ∙ sym was)
    does_one log (event.User c edit) (reply.User a) _ differ x y = absurd y
    does_one log (event.User c edit) _ q differ x y = absurd x
    does_one log (event.Web edit) r q differ x y = absurd x
    does_one log (event.List c) (reply.Listed n items) (reply.Listed k others) differ x y = lists_one n k items others x y
    does_one log (event.List c) (reply.Listed n items) _ differ x y = absurd y
    does_one log (event.List c) _ q differ x y = absurd x
    does_one log (event.Scan c) (reply.Scan a) (reply.Scan b) differ x y = let one = scans_one a b x y in (ap reply.Scan one.0, one.1)
    does_one log (event.Scan c) (reply.Scan a) _ differ x y = absurd y
    does_one log (event.Scan c) _ q differ x y = absurd x
    does_one log (event.Watch c) r q differ x y = watches_one t.member.folder.pending r q x y
    does_one log (event.Pull c) (reply.Pulled a n) (reply.Pulled b k) differ x y = pulls_one a b n k x y
    does_one log (event.Pull c) (reply.Pulled a n) _ differ x y = absurd y
    does_one log (event.Pull c) _ q differ x y = absurd x
    does_one log (event.Plan c) (reply.Plan a) (reply.Plan b) differ x y = let one = plans_one a b x y in (ap reply.Plan one.0, one.1)
    does_one log (event.Plan c) (reply.Plan a) _ differ x y = absurd y
    does_one log (event.Plan c) _ q differ x y = absurd x
    does_one log (event.Start c n) (reply.Started a) (reply.Started b) differ x y =
        let one = start_one n t.member u.member v.member a b x.0 y.0 in
        (ap reply.Started one.0, turn_one u v (x.1 ∙ sym y.1) one.1)
    does_one log (event.Start c n) (reply.Started a) _ differ x y = absurd y
    does_one log (event.Start c n) _ q differ x y = absurd x
    does_one log (event.Take c n) (reply.Took a) (reply.Took b) differ x y =
        let one = take_one log c n t u v a b (form_of t.shared.entries shared.journal) x y in
        (ap reply.Took one.0, one.1)
    does_one log (event.Take c n) (reply.Took a) _ differ x y = absurd y
    does_one log (event.Take c n) _ q differ x y = absurd x
    does_one log (event.Done c n) (reply.Done a) (reply.Done b) differ x y = let one = dones_one n a b x y in (ap reply.Done one.0, one.1)
    does_one log (event.Done c n) (reply.Done a) _ differ x y = absurd y
    does_one log (event.Done c n) _ q differ x y = absurd x
    does_one log (event.Restart c) reply.Restarted reply.Restarted differ x y = (refl, x ∙ sym y)
    does_one log (event.Restart c) reply.Restarted _ differ x y = absurd y
    does_one log (event.Restart c) _ q differ x y = absurd x
    does_one log (event.Mark c) (reply.Marked a) (reply.Marked b) differ x y = (ap reply.Marked (marks_one t.member.client a b x.0 y.0), x.1 ∙ sym y.1)
    does_one log (event.Mark c) (reply.Marked a) _ differ x y = absurd y
    does_one log (event.Mark c) _ q differ x y = absurd x
