-- The first steps of a sync, until it is rested, and the last: what holds behind each.
use Rattle.std.proofs.Common.{◌≡◌, ◌≤◌, ◌+◌, ◌-◌, ◌++◌, ◌==◌, ℕ, Bool, cond, List, [], ◌∷◌, length, take, drop, refl, sym, ap, subst, ◌∙◌, inl, inr, arith, append-nil}
use Rattle.std.proofs.lemmas.Bool.{cases_Bool, eqb-true}
use Rattle.std.proofs.lemmas.List.{length-drop, length-take}
use Rattle.std.proofs.lemmas.Option.{same_Some}
use Rattle.nuc_converge.specs.Alone.{IsRested}
use Rattle.nuc_converge.specs.Alone.LeftAlone.{begins}
use Rattle.nuc_flights.specs.Flights.{Flight}
use Rattle.nuc_journal.specs.declared.entry.Entry.{Entry}
use Rattle.nuc_log.specs.declared.event.Event.TheVariants as event
use Rattle.nuc_log.specs.declared.log.LogEntry.{LogEntry}
use Rattle.nuc_log.specs.declared.log.LogEntry.TheVariants as entry
use Rattle.nuc_log.specs.declared.reply.MarkReply.{MarkReply}
use Rattle.nuc_log.specs.declared.reply.MarkReply.TheVariants as mark
use Rattle.nuc_log.specs.declared.reply.Reply.{Reply}
use Rattle.nuc_log.specs.declared.reply.Reply.TheVariants as reply
use Rattle.nuc_sync.specs.Runs.{Restarts, restart_of}
use Rattle.nuc_sync.specs.Tasks.{Task, more, pulls}
use Rattle.nuc_world.specs.Marks.{IsQuiet}
use Rattle.nuc_world.specs.Parts.{turn_at}
use Rattle.nuc_world.specs.Runs.{Reaches}
use Rattle.nuc_world.specs.Runs.Reaches.{stepped}
use Rattle.nuc_world.specs.State.{Turn}
use Rattle.nuc_world.specs.Step.{Does, IsTurn, after_restarting, page}
use Rattle.nuc_world.specs.World.{WorldData}
use Rattle.nuc_world.proofs.Grown.{its_member}
use Rattle.nuc_world.proofs.Reached.{reached_world}
use Rattle.nuc_quiet.specs.Fit.{FolderIsFit}
use Rattle.nuc_quiet.specs.Laws.{EndsQuiet, FolderMatches, NothingFails}
use Rattle.nuc_quiet.proofs.Holding.{AtFirst, AtList, AtMark, AtPull, AtScan, FitFirst, FitList, Holds, listing, planning}
use Rattle.nuc_quiet.proofs.Parts.{ScansMatch}
use Rattle.nuc_quiet.proofs.Points.{turned}

-- A RESTART where something is in flight
landed_or_not : (c : ℕ) (b : Bool) (w : WorldData) (at : AtFirst c w) (fit : FolderIsFit at.member) (fs : List Flight) → at.member.client.flights ≡ fs
    → Holds c b w (restart_of c fs ++ listing c b)
landed_or_not c b w at fit [] is = (refl, refl, (record { first = at; landed = is }, fit))
landed_or_not c b w at fit (f ∷ fs) is = (refl, refl, (at, fit))

pub may_restart : (c : ℕ) (b : Bool) (w : WorldData) → FitFirst c w → (asked : List Task) (v : WorldData) → Restarts c w asked v
    → Holds c b v (asked ++ listing c b)
may_restart c b w (at, fit) asked v restarts =
    let same = same_Some at.member restarts.member (sym at.was ∙ restarts.was) in
    let first : AtFirst c w = record {
      member = restarts.member;
      reached = at.reached;
      was = restarts.was;
      nothing_fails = subst NothingFails same at.nothing_fails;
    } in
    subst (λ x. Holds c b x (asked ++ listing c b)) (sym restarts.stays)
    (subst (λ ts. Holds c b w (ts ++ listing c b)) (sym restarts.asks) (landed_or_not c b w first (subst FolderIsFit same fit) restarts.member.client.flights refl))

restarted : (log : List LogEntry) (c : ℕ) (r : Reply) (t u : Turn) → Does log (event.Restart c) r t u → u ≡ after_restarting t
restarted log c reply.Restarted t u is = is
restarted log c r t u is = absurd is

pub restart_step : (c : ℕ) (w v : WorldData) → FitFirst c w → (r : Reply) → IsTurn w.log (event.Restart c) r w.now v.now
    → v.log ≡ w.log ++ entry.Stepped (event.Restart c) r ∷ [] → FitList c v
restart_step c w v (at, fit) r step log =
    let t = turned w.log (event.Restart c) r w.now v.now at.member step at.was in
    let now = restarted w.log c r (turn_at w.now.shared at.member) (turn_at v.now.shared t.after) t.does in
    let list : AtList c v = record {
      first = record {
        member = t.after;
        reached = subst (λ l. Reaches l v.now) (sym log) (stepped w.log w.now (event.Restart c) r v.now at.reached step);
        was = t.now;
        nothing_fails = ap (λ (x : Turn). x.member.due.failing) now ∙ at.nothing_fails;
      };
      landed = ap (λ (x : Turn). x.member.client.flights) now;
    } in
    (list, subst (λ (x : Turn). FolderIsFit x.member) (sym now) fit)

-- A LISTING, which is taken over
pub list_step : (c : ℕ) (w v : WorldData) → FitList c w → (r : Reply) → IsTurn w.log (event.List c) r w.now v.now
    → v.log ≡ w.log ++ entry.Stepped (event.List c) r ∷ [] → AtScan c v
list_step c w v (at, fit) r step log = record { before = w; list = at; fit = fit; reply = r; step = step; log = log }

pub scan_step : ScansMatch → (c : ℕ) (w v : WorldData) → AtScan c w → (q : Reply) → IsTurn w.log (event.Scan c) q w.now v.now
    → v.log ≡ w.log ++ entry.Stepped (event.Scan c) q ∷ [] → AtPull c v
scan_step scans c w v at q step log =
    let u = at.before in
    let first = at.list.first in
    let listed : Reaches w.log w.now =
    subst (λ l. Reaches l w.now) (sym at.log) (stepped u.log u.now (event.List c) at.reply w.now first.reached at.step) in
    let so = scans u.log u.now w.now v.now c first.member at.reply q first.reached first.was first.nothing_fails at.fit at.step
    (subst (λ l. IsTurn l (event.Scan c) q w.now v.now) at.log step) in
    record {
      list = record {
        first = record {
          member = so.member;
          reached = subst (λ l. Reaches l v.now) (sym log) (stepped w.log w.now (event.Scan c) q v.now listed step);
          was = so.was;
          nothing_fails = so.nothing_fails;
        };
        landed = so.flights ∙ at.list.landed;
      };
      matches = so.matches;
    }

-- A PULL that brings no entry, at the end of the journal
none_behind : (cursor ahead : ℕ) (es : List Entry) → length (take 64 (drop cursor es)) ≡ 0 → cursor + ahead ≤ length es → cursor ≡ length es
none_behind cursor ahead es none within =
    let taken = length-take 64 (drop cursor es) in
    let behind = length-drop cursor es in
    omega (arith, none, within, taken, behind)

module _ (c : ℕ) (b : Bool) (w v : WorldData) (at : AtPull c w) where
  by_pull : (entries cursor : ℕ) → IsTurn w.log (event.Pull c) (reply.Pulled entries cursor) w.now v.now
      → v.log ≡ w.log ++ entry.Stepped (event.Pull c) (reply.Pulled entries cursor) ∷ []
      → Holds c b v (cond (entries == 0) [] (pulls c ∷ []) ++ planning c b)
  by_pull entries cursor step log =
      let first = at.list.first in
      let m = first.member in
      let t = turned w.log (event.Pull c) (reply.Pulled entries cursor) w.now v.now m step first.was in
      let k = t.after in
      let pulled = t.does in
      let reached : Reaches v.log v.now =
      subst (λ l. Reaches l v.now) (sym log) (stepped w.log w.now (event.Pull c) (reply.Pulled entries cursor) v.now first.reached step) in
      let landed : k.client.flights ≡ [] = ap (λ (x : Turn). x.member.client.flights) pulled.now ∙ at.list.landed in
      let nothing : NothingFails k = ap (λ (x : Turn). x.member.due.failing) pulled.now ∙ first.nothing_fails in
      let matches : FolderMatches v.now.shared k = subst (λ (x : Turn). FolderMatches x.shared x.member) (sym pulled.now) at.matches in
      elim (cases_Bool (entries == 0)) [
        | inl last ↦
            let none : length (page (turn_at w.now.shared m)) ≡ 0 = sym pulled.entries_are ∙ eqb-true entries 0 last in
            let its = its_member w.now (reached_world w.log w.now first.reached) c m first.was in
            let end : m.client.remote.cursor ≡ length w.now.shared.entries =
            none_behind m.client.remote.cursor (length m.client.remote.ahead) w.now.shared.entries none its.at.within in
            let cursor_now : k.client.remote.cursor ≡ m.client.remote.cursor + length (page (turn_at w.now.shared m)) =
            ap (λ (x : Turn). x.member.client.remote.cursor) pulled.now in
            let entries_now : length v.now.shared.entries ≡ length w.now.shared.entries = ap (λ (x : Turn). length x.shared.entries) pulled.now in
            let rested : IsRested c v.now k = record { was = t.now; landed = landed; latest = omega (arith, none, end, cursor_now, entries_now) } in
            subst (λ l. Holds c b v (cond l [] (pulls c ∷ []) ++ planning c b)) (sym last) (
              refl,
              refl,
              record {
                member = k;
                syncing = record {
                  before = v.log;
                  part = [];
                  first = v.now;
                  rested = k;
                  reached = reached;
                  is_rested = rested;
                  left = begins;
                  log = sym (append-nil v.log);
                  now = reached;
                  was = t.now;
                  nothing_fails = nothing;
                };
                matches = matches;
                landed = landed;
              },
            )
        | inr again ↦ subst (λ l. Holds c b v (cond l [] (pulls c ∷ []) ++ planning c b)) (sym again) (
          refl,
          refl,
          record {
            list = record { first = record { member = k; reached = reached; was = t.now; nothing_fails = nothing }; landed = landed };
            matches = matches;
          },
        )
      ]

  pub pull_step : (r : Reply) → IsTurn w.log (event.Pull c) r w.now v.now → v.log ≡ w.log ++ entry.Stepped (event.Pull c) r ∷ []
      → Holds c b v (more (pulls c) r ++ planning c b)
  pull_step (reply.Pulled entries cursor) step log = by_pull entries cursor step log
  pull_step r step log = absurd (step.does)

-- THE MARK says so
module _ (c : ℕ) (w v : WorldData) (at : AtMark c w) where
  by_mark : (answer : MarkReply) → IsTurn w.log (event.Mark c) (reply.Marked answer) w.now v.now
      → v.log ≡ w.log ++ entry.Stepped (event.Mark c) (reply.Marked answer) ∷ [] → EndsQuiet c v
  by_mark mark.Quiet step log =
      let t = turned w.log (event.Mark c) (reply.Marked mark.Quiet) w.now v.now at.member step at.was in
      record {
        member = t.after;
        was = t.now;
        quiet = subst (λ (x : Turn). IsQuiet x.member.client) (sym t.does.1) t.does.0;
        matches = subst (λ (x : Turn). FolderMatches x.shared x.member) (sym t.does.1) at.matches;
        before = w.log;
        marked = log;
      }
  by_mark (mark.Stalled k) step log =
      let t = turned w.log (event.Mark c) (reply.Marked (mark.Stalled k)) w.now v.now at.member step at.was in
      absurd (t.does.0.0 at.quiet)

  pub mark_step : (r : Reply) → IsTurn w.log (event.Mark c) r w.now v.now → v.log ≡ w.log ++ entry.Stepped (event.Mark c) r ∷ [] → EndsQuiet c v
  mark_step (reply.Marked answer) step log = by_mark answer step log
  mark_step r step log = absurd (step.does)
