-- A scan, a watched change and a plan leave names alone.
use Rattle.std.specs.Prelude.{All}
use Rattle.std.proofs.Common.{◌≡◌, ◌<◌, ◌≤◌, ◌+◌, ◌^◌, ℕ, List, [], ◌∷◌, None, sym, ap, subst, arith}
use Rattle.nuc_folder.specs.declared.listed.TheConstants.{MOST_ITEMS}
use Rattle.nuc_folder.specs.declared.noticed.Noticed.{Noticed}
use Rattle.nuc_log.specs.declared.reply.Reply.{Reply}
use Rattle.nuc_log.specs.declared.reply.Reply.TheVariants as reply
use Rattle.nuc_step.specs.Held.{HeldState, let_go}
use Rattle.nuc_step.specs.Planning.{CanPlan}
use Rattle.nuc_step.specs.Scanning.{ScanAnswers}
use Rattle.nuc_step.specs.Watching.{WatchAnswers, Watching}
use Rattle.nuc_step.specs.declared.answers.Planned.{Planned}
use Rattle.nuc_step.specs.declared.answers.Scanned.{Scanned}
use Rattle.nuc_step.specs.declared.answers.Scanned.TheVariants as scan
use Rattle.nuc_step.specs.declared.answers.WatchReply.{WatchReply}
use Rattle.nuc_world.specs.Starts.{with_client}
use Rattle.nuc_world.specs.State.{Turn}
use Rattle.nuc_world.specs.Step.{Plans, Scans, Watches, held_as, planning_of, watching_of, with_pending, with_watching}
use Rattle.nuc_fit.proofs.NamesForm.{IsListedFew, NamedEntry, NamedFolder, NamedNotice}
use Rattle.nuc_fit.proofs.NamesLists.{all_first, all_rest}
use Rattle.nuc_fit.proofs.NamesPlan.{plan_named}
use Rattle.nuc_fit.proofs.NamesScan.{scan_named}
use Rattle.nuc_fit.proofs.NamesTurns.{mark_turn}
use Rattle.nuc_fit.proofs.NamesWatch.{watch_named}
use Rattle.nuc_fit.proofs.NamesWorld.{NamedShared, NamedTurn, after_step}

-- no listing is held after a scan
dropped : (h g : HeldState) (w v : Watching) (answer : Scanned) → ScanAnswers h w answer g v → g ≡ let_go h
dropped h g w v scan.NoListing (none, is, same) = is
dropped h g w v (scan.Stale changes) (stale, count, is, same) = is
dropped h g w v (scan.Bad number) (bad, is, same) = is
dropped h g w v (scan.Changed k) (scanned, is) = is

module _ (most : ℕ) (t u : Turn) (named : NamedTurn most t) where
  -- the journal stays, and so many identities are given at most
  shared_after : (given : ℕ) → given ≤ MOST_ITEMS + 1 → u.shared.entries ≡ t.shared.entries → u.shared.ids.next_id ≤ t.shared.ids.next_id + given
      → NamedShared (after_step most) u.shared
  shared_after given few entries next = record {
    entries = subst (All NamedEntry) (sym entries) named.shared.entries;
    next = let low = named.shared.next in omega (arith, few, next, low);
  }

  pub scan_turn : (answer : Scanned) → Scans answer t u → NamedTurn (after_step most) u
  scan_turn answer (is, now) =
      let after = scan_named (held_as t.member.listing) (held_as u.member.listing) (watching_of t) (watching_of u) answer named.member.listed named.member.client is in
      let none : u.member.listing ≡ None = ap (λ (h : HeldState). h.now) (dropped _ _ _ _ answer is) in
      record {
        shared = shared_after MOST_ITEMS (omega arith) (ap (λ (v : Turn). v.shared.entries) now) after.next;
        member = record {
          client = after.client;
          folder = subst NamedFolder (sym (ap (λ (v : Turn). v.member.folder) now)) named.member.folder;
          listed = subst IsListedFew (sym none) tt;
        };
      }

  watch_answered : (notice : Noticed) (notices : List Noticed) (answer : WatchReply) → t.member.folder.pending ≡ notice ∷ notices
      → WatchAnswers (watching_of t) notice answer (watching_of u)
      → u ≡ record (with_watching (watching_of u) t) { member = with_pending notices (with_client u.member.client t.member) } → NamedTurn (after_step most) u
  watch_answered notice notices answer pending is now =
      let all : All NamedNotice (notice ∷ notices) = subst (All NamedNotice) pending named.member.folder.pending in
      let after = watch_named (watching_of t) (watching_of u) named.member.client notice answer (all_first NamedNotice notice notices all) is in
      record {
        shared = shared_after 1 (omega arith) (ap (λ (v : Turn). v.shared.entries) now) after.next;
        member = record {
          client = after.client;
          folder = subst NamedFolder (sym (ap (λ (v : Turn). v.member.folder) now))
              (record { held = named.member.folder.held; pending = all_rest NamedNotice notice notices all });
          listed = subst IsListedFew (sym (ap (λ (v : Turn). v.member.listing) now)) named.member.listed;
        };
      }

  pub watch_turn : (pending : List Noticed) (r : Reply) → t.member.folder.pending ≡ pending → Watches pending r t u → NamedTurn (after_step most) u
  watch_turn [] reply.Nothing pending same = mark_turn most t u named same
  watch_turn (notice ∷ notices) (reply.Watch answer) pending (is, now) = watch_answered notice notices answer pending is now
  watch_turn [] (reply.User answer) pending is = absurd is
  watch_turn [] (reply.Web answer) pending is = absurd is
  watch_turn [] (reply.Listed changes items) pending is = absurd is
  watch_turn [] (reply.Scan answer) pending is = absurd is
  watch_turn [] (reply.Watch answer) pending is = absurd is
  watch_turn [] (reply.Pulled entries cursor) pending is = absurd is
  watch_turn [] (reply.Plan answer) pending is = absurd is
  watch_turn [] (reply.Started answer) pending is = absurd is
  watch_turn [] (reply.Took answer) pending is = absurd is
  watch_turn [] (reply.Done answer) pending is = absurd is
  watch_turn [] (reply.Marked answer) pending is = absurd is
  watch_turn [] reply.Restarted pending is = absurd is
  watch_turn (notice ∷ notices) (reply.User answer) pending is = absurd is
  watch_turn (notice ∷ notices) (reply.Web answer) pending is = absurd is
  watch_turn (notice ∷ notices) (reply.Listed changes items) pending is = absurd is
  watch_turn (notice ∷ notices) (reply.Scan answer) pending is = absurd is
  watch_turn (notice ∷ notices) (reply.Pulled entries cursor) pending is = absurd is
  watch_turn (notice ∷ notices) (reply.Plan answer) pending is = absurd is
  watch_turn (notice ∷ notices) (reply.Started answer) pending is = absurd is
  watch_turn (notice ∷ notices) (reply.Took answer) pending is = absurd is
  watch_turn (notice ∷ notices) (reply.Done answer) pending is = absurd is
  watch_turn (notice ∷ notices) (reply.Marked answer) pending is = absurd is
  watch_turn (notice ∷ notices) reply.Restarted pending is = absurd is
  watch_turn (notice ∷ notices) reply.Nothing pending is = absurd is

  pub plan_turn : (answer : Planned) → CanPlan t.member.client t.shared.ids.next_id → most + (most + most) + 1 < 2 ^ 64 → Plans answer t u → NamedTurn (after_step most) u
  plan_turn answer can few (is, now) =
      let low = named.shared.next in
      let after = plan_named (planning_of t) (planning_of u) named.member.client can (omega (arith, few, low)) answer is in
      record {
        shared = shared_after 1 (omega arith) (ap (λ (v : Turn). v.shared.entries) now) after.next;
        member = record {
          client = after.client;
          folder = subst NamedFolder (sym (ap (λ (v : Turn). v.member.folder) now)) named.member.folder;
          listed = subst IsListedFew (sym (ap (λ (v : Turn). v.member.listing) now)) named.member.listed;
        };
      }
