-- A client in its sync, from where it is rested on: what holds at each point.
use Rattle.std.proofs.Common.{◌≡◌, ◌++◌, ℕ, List, [], ◌∷◌, Some, sym, ap, subst, ◌∙◌}
use Rattle.std.specs.Prelude.{All}
use Rattle.std.proofs.lemmas.List.{append_assoc}
use Rattle.std.proofs.lemmas.List.Elements.{All-head, All-tail}
use Rattle.std.proofs.lemmas.Option.{same_Some}
use Rattle.nuc_converge.specs.Alone as left
use Rattle.nuc_converge.specs.Alone.{IsRested, LeftAlone}
use Rattle.nuc_converge.specs.Alone.LeftAlone.{goes}
use Rattle.nuc_converge.specs.Laws.{IsNoRefusal}
use Rattle.nuc_converge.proofs.Coming.{entries_come}
use Rattle.nuc_converge.proofs.Ending.{dones_stay_alone}
use Rattle.nuc_converge.proofs.InFlight.{IsAlone}
use Rattle.nuc_converge.proofs.Planning.{plans_stay_alone}
use Rattle.nuc_converge.proofs.Refusals.{PointsAreAlone}
use Rattle.nuc_converge.proofs.Rest.{none_is_refused}
use Rattle.nuc_converge.proofs.Stepping.{member_there}
use Rattle.nuc_converge.proofs.Whole.{each_point, still_there}
use Rattle.nuc_edits.specs.Edits.{same_hash}
use Rattle.nuc_edits.specs.declared.edit.Edit.{Edit}
use Rattle.nuc_log.specs.declared.event.Event.{Event}
use Rattle.nuc_log.specs.declared.log.LogEntry.{LogEntry}
use Rattle.nuc_log.specs.declared.log.LogEntry.TheVariants as entry
use Rattle.nuc_log.specs.declared.reply.Reply.{Reply}
use Rattle.nuc_measure.proofs.Carried.{potential_of}
use Rattle.nuc_step.specs.Order.{IsReady}
use Rattle.nuc_world.specs.Parts.{turn_at}
use Rattle.nuc_world.specs.Runs.{Reaches}
use Rattle.nuc_world.specs.Runs.Reaches.{stepped}
use Rattle.nuc_world.specs.State.{MemberState, WorldState, member_of}
use Rattle.nuc_world.specs.Step.{Does, IsStep, IsTurn, client_of}
use Rattle.nuc_world.specs.World.{WorldData}
use Rattle.nuc_quiet.specs.Laws.{NothingFails}
use Rattle.nuc_quiet.proofs.Parts.{InSync}

-- A TURN, of the member that takes it
pub record Turns (log : List LogEntry) (e : Event) (r : Reply) (w v : WorldState) (m : MemberState) : Type 0 where
  pub after : MemberState
  pub now : member_of (client_of e) v.members ≡ Some after
  pub does : Does log e r (turn_at w.shared m) (turn_at v.shared after)

pub turned : (log : List LogEntry) (e : Event) (r : Reply) (w v : WorldState) (m : MemberState) → IsTurn log e r w v
    → member_of (client_of e) w.members ≡ Some m
    → Turns log e r w v m
turned log e r w v m is was =
    let one : is.member ≡ m = same_Some is.member m (sym is.was ∙ was) in
    record {
      after = is.after;
      now = subst (λ ms. member_of (client_of e) ms ≡ Some is.after) (sym is.now) (member_there (client_of e) w.members is.member is.after is.was);
      does = subst (λ (x : MemberState). Does log e r (turn_at w.shared x) (turn_at v.shared is.after)) one is.does;
    }

-- at each point of a part in which it is left alone the client is alone, and ready
points_are_alone : PointsAreAlone
points_are_alone c before part w v m reached rested left =
    let (a, is_a) = (potential_of (same_hash w.shared.edits.edits) m.client.remote.tree m.client.local.tree m.client.synced).some in
    let (n, there) = still_there c before w m rested part v left in
    let point = each_point c before w m a reached rested is_a plans_stay_alone (dones_stay_alone entries_come) part v left n there in
    (n, there, point.alone, point.ready, point.edits)

-- IN ITS SYNC: since it rested it was left alone
pub record IsSyncing (c : ℕ) (u : WorldData) (m : MemberState) : Type 0 where
  pub before : List LogEntry
  pub part : List LogEntry
  pub first : WorldState
  pub rested : MemberState
  pub reached : Reaches before first
  pub is_rested : IsRested c first rested
  pub left : LeftAlone c before first part u.now
  pub log : u.log ≡ before ++ part
  pub now : Reaches u.log u.now
  pub was : member_of c u.now.members ≡ Some m
  pub nothing_fails : NothingFails m

pub in_sync : (c : ℕ) (u : WorldData) (m : MemberState) → IsSyncing c u m → InSync c u.log u.now m
in_sync c u m is =
    let (n, there, alone, ready, edits) = points_are_alone c is.before is.part is.first u.now is.rested is.reached is.is_rested is.left in
    let one : n ≡ m = same_Some n m (sym there ∙ is.was) in
    record {
      reached = is.now;
      was = is.was;
      nothing_fails = is.nothing_fails;
      alone = subst (λ (x : MemberState). IsAlone (same_hash u.now.shared.edits.edits) u.now.shared.entries x.client) one
          (subst (λ (es : List Edit). IsAlone (same_hash es) u.now.shared.entries n.client) (sym edits) alone);
      ready = subst (λ (x : MemberState). IsReady x.client) one ready;
    }

-- a step more
pub goes_on : (c : ℕ) (u v : WorldData) (m k : MemberState) (e : Event) (r : Reply) → IsSyncing c u m → IsStep u.log u.now e r v.now
    → v.log ≡ u.log ++ entry.Stepped e r ∷ [] → left.IsAlone c e r → member_of c v.now.members ≡ Some k → NothingFails k → IsSyncing c v k
goes_on c u v m k e r is step log alone was nothing = record {
  before = is.before;
  part = is.part ++ entry.Stepped e r ∷ [];
  first = is.first;
  rested = is.rested;
  reached = is.reached;
  is_rested = is.is_rested;
  left = goes is.part u.now e r v.now is.left (subst (λ l. IsStep l u.now e r v.now) is.log step) alone;
  log = log ∙ ap (λ l. l ++ entry.Stepped e r ∷ []) is.log ∙ append_assoc is.before is.part (entry.Stepped e r ∷ []);
  now = subst (λ l. Reaches l v.now) (sym log) (stepped u.log u.now e r v.now is.now step);
  was = was;
  nothing_fails = nothing;
}

-- and none was refused
last_all : {X : Type 0} (P : X → Type 0) (xs : List X) (x : X) → All P (xs ++ x ∷ []) → P x
last_all P [] x all = All-head P x [] all
last_all P (y ∷ xs) x all = last_all P xs x (All-tail P y (xs ++ x ∷ []) all)

pub never_refused : (c : ℕ) (u v : WorldData) (m : MemberState) (e : Event) (r : Reply) → IsSyncing c u m → IsStep u.log u.now e r v.now → left.IsAlone c e r
    → IsNoRefusal (entry.Stepped e r)
never_refused c u v m e r is step alone =
    last_all IsNoRefusal is.part (entry.Stepped e r)
    (none_is_refused c is.before (is.part ++ entry.Stepped e r ∷ []) is.first v.now is.rested is.reached is.is_rested
    (goes is.part u.now e r v.now is.left (subst (λ l. IsStep l u.now e r v.now) is.log step) alone))
