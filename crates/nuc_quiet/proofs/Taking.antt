-- An operation that has begun is taken well, and the folder then matches what Local will be.
use Rattle.std.specs.Prelude.{Any, Contains}
use Rattle.std.proofs.Common.{◌≡◌, ◌≢◌, ◌⊎◌, ◌==◌, ◌∙◌, ℕ, zero, suc, Bool, true, false, cond, if◌then◌else◌, List, [], ◌∷◌, Option, None, Some, refl, sym, ap, subst, inl, inr, true≢false, arith}
use Rattle.std.proofs.lemmas.List.Elements.{All-contains}
use Rattle.std.proofs.lemmas.Option.{same_Some}
use Rattle.std.specs.FinMap.{get}
use Rattle.nuc_base.specs.declared.change.Change.{Change}
use Rattle.nuc_base.specs.declared.change.Change.TheVariants.{Keep, Put, Cut}
use Rattle.nuc_base.specs.declared.node.Kind.{Kind}
use Rattle.nuc_base.specs.declared.node.Node.{Node}
use Rattle.nuc_base.specs.declared.node.Place.{Place}
use Rattle.nuc_base.specs.declared.node.Ver.{Ver}
use Rattle.nuc_blocks.specs.Blocks.{Blocks}
use Rattle.nuc_blocks.specs.Pieces.{all_stored}
use Rattle.nuc_class.specs.Merge.{target}
use Rattle.nuc_class.specs.declared.op.Op.{Op}
use Rattle.nuc_class.specs.declared.op.Verb.{Verb}
use Rattle.nuc_class.specs.declared.op.Verb.TheVariants as verb
use Rattle.nuc_conflict.specs.Facts.{FactsOf}
use Rattle.nuc_conflict.specs.Mends.{LeavesFor}
use Rattle.nuc_converge.specs.Alone.{HasGoneWell}
use Rattle.nuc_converge.proofs.Flown.{flies_at}
use Rattle.nuc_converge.proofs.InFlight.{IsAlone, IsMend, Means}
use Rattle.nuc_converge.proofs.InFlight.IsAlone.{batch, mend}
use Rattle.nuc_converge.proofs.InFlight.Means.{cut_came, cut_down, cut_up, down, up, up_came}
use Rattle.nuc_converge.proofs.KeptBlocks.{reached_stocked}
use Rattle.nuc_converge.proofs.Staged.{at_stage}
use Rattle.nuc_converge.proofs.Stepping.{member_there}
use Rattle.nuc_converge.proofs.Stocked.{IsKept, IsStocked}
use Rattle.nuc_edits.specs.Edits.{same_hash}
use Rattle.nuc_flights.specs.Flights.{Flight, Stage, flight_of, staged, started, taken}
use Rattle.nuc_flights.specs.declared.taken.Taken.{Taken}
use Rattle.nuc_flights.specs.declared.taken.Taken.TheVariants as came
use Rattle.nuc_folder.specs.Memory.{IsKeyed}
use Rattle.nuc_folder.specs.declared.outcome.Outcome.TheVariants as outcome
use Rattle.nuc_folder.specs.declared.ran.RanOp.{RanOp}
use Rattle.nuc_follow.specs.Matches.{Matches}
use Rattle.nuc_hash.specs.Content.{blocks_of, content_of}
use Rattle.nuc_journal.specs.declared.entry.Entry.{Entry}
use Rattle.nuc_log.specs.declared.log.LogEntry.{LogEntry}
use Rattle.nuc_log.specs.declared.reply.TakeReply.{TakeReply}
use Rattle.nuc_log.specs.declared.reply.TakeReply.TheVariants as took
use Rattle.nuc_server.specs.WebEdits.{WebState}
use Rattle.nuc_server.specs.declared.commit.Refusal.{Refusal}
use Rattle.nuc_step.specs.Holdings.{IsOf, OpHolds, Puts, local_id}
use Rattle.nuc_step.specs.Holdings.Holds.{flight as in_flight, local as in_local}
use Rattle.nuc_step.specs.Holdings.OpHolds.{local as puts_local}
use Rattle.nuc_step.specs.Order.{MayLand}
use Rattle.nuc_step.specs.Sound.{IsFlight, MayFly, known_to}
use Rattle.nuc_step.specs.Stages.{started_of}
use Rattle.nuc_step.specs.Steps.{LocalReady, is_split, local_after}
use Rattle.nuc_transfer.specs.Transfer.{Collision}
use Rattle.nuc_world.specs.Form.{CanFly, IsMember, IsPutAs}
use Rattle.nuc_world.specs.Parts.{turn_at}
use Rattle.nuc_world.specs.Starts.{is_upload}
use Rattle.nuc_world.specs.State.{MemberState, Turn, WorldState, member_of}
use Rattle.nuc_world.specs.Takes.{CarriesOut, Commits, CommitsBytes, CommitsRead, IsCarriedOut, IsJudged, Takes, TakesBy, TakesOf, commit_of, committed, is_commit, is_recorded, read_in}
use Rattle.nuc_world.proofs.Grown.{its_member}
use Rattle.nuc_world.proofs.Reached.{reached_world}
use Rattle.nuc_quiet.specs.Laws.{NothingFails}
use Rattle.nuc_quiet.proofs.AtHand.{Comes, IsPlain, remote_kept}
use Rattle.nuc_quiet.proofs.Carrying.{ChangeKnown, IsCarriedTo, NodeKnown, in_parts, plainly}
use Rattle.nuc_quiet.proofs.Parts.{HasRead, HasStarted, InSync, TakesGoWell, local_then}
use Rattle.nuc_quiet.proofs.Soundness.{AreHashed, its_folder, reached_sound}

-- HOW it is carried out in the folder: by its change alone, where what it puts is of a version that the server keeps or that was
-- there; or as a split
abbrev pub ChangeComes : WebState → Option Node → Change → Type 0
ChangeComes s old Keep = Unit {0}
ChangeComes s old (Put new) = Comes s old new
ChangeComes s old Cut = Unit {0}

pub data IsCarriedBy (s : WebState) (op : Op) : Type 0 where
  plain : IsPlain op.verb → ChangeComes s op.old_local op.local → IsCarriedBy s op
  parts : (old : Node) (place : Place) → op.verb ≡ verb.Split → op.old_local ≡ Some old → op.local ≡ Put (record old { place = place }) → IsCarriedBy s op

-- a Down brings Remote's version, or leaves Local's
abbrev number_of : Ver → ℕ
number_of v = v.0

target_comes : (s : WebState) (r : Node) (l agreed : Option Node) → IsKept s.edits.edits s.blocks r.ver.0 → Comes s l (target r l agreed)
target_comes s r None agreed kept = inl kept
target_comes s r (Some l) None kept = inl kept
target_comes s r (Some l) (Some k) kept =
    elim (r.ver.0 == k.ver.0) as (λ b. IsKept s.edits.edits s.blocks (number_of (if b then l.ver else r.ver)) ⊎ ((n : Node) × (Some l ≡ Some n) × (number_of (if b then l.ver else r.ver) ≡ n.ver.0))) [
      | true ↦ inr (l, refl, refl)
      | false ↦ inl kept
    ]

-- what only moves keeps its version
leaves_comes : (s : WebState) (p e : Place) (old : Option Node) (c : Change) → LeavesFor p e old c → ChangeComes s old c
leaves_comes s p e (Some n) (Put node) leaves = inr (n, refl, ap (λ (k : Node). k.ver.0) leaves.1)
leaves_comes s p e (Some n) Keep leaves = tt
leaves_comes s p e (Some n) Cut leaves = absurd leaves
leaves_comes s p e None (Put node) leaves = absurd leaves
leaves_comes s p e None Keep leaves = tt
leaves_comes s p e None Cut leaves = absurd leaves

comes_as : (s : WebState) (old was : Option Node) (local now : Change) → old ≡ was → local ≡ now → ChangeComes s was now → ChangeComes s old local
comes_as s old was local now same is comes = subst (λ o. ChangeComes s o local) (sym same) (subst (ChangeComes s was) (sym is) comes)

module _ (s : WebState) (m : MemberState) (kept : (x : ℕ) (n : Node) → get m.client.remote.tree x ≡ Some n → IsKept s.edits.edits s.blocks n.ver.0) where
  -- an operation of a batch
  means_by : (same : ℕ → ℕ → Bool) (f : Flight) → Means same m.client.remote.tree m.client.local.tree m.client.synced m.client.remote.cursor f
      → get m.client.local.tree f.op.id.0 ≡ f.op.old_local → f.op.verb ≢ verb.Adopt → is_commit f.op.effect ≡ false → IsCarriedBy s f.op
  means_by same f (down n at wants writes disk within) old two outside =
      plain (record { one = writes.one; two = two })
      (comes_as s f.op.old_local (get m.client.local.tree f.op.id.0) f.op.local _ (sym old) writes.local
      (target_comes s n (get m.client.local.tree f.op.id.0) (get m.client.synced f.op.id.0) (kept f.op.id.0 n at)))
  means_by same f (cut_down n gone at writes disk within) old two outside =
      plain (record { one = writes.one; two = two }) (comes_as s f.op.old_local f.op.old_local f.op.local Cut refl writes.local tt)
  means_by same f (up n at apart writes commit within waits) old two outside = absurd (true≢false (sym (ap is_commit commit) ∙ outside))
  means_by same f (up_came n at too writes commit come) old two outside = absurd (true≢false (sym (ap is_commit commit) ∙ outside))
  means_by same f (cut_up n at too writes commit within waits) old two outside = absurd (true≢false (sym (ap is_commit commit) ∙ outside))
  means_by same f (cut_came at too writes commit come) old two outside = absurd (true≢false (sym (ap is_commit commit) ∙ outside))

  -- a mend
  facts_by : (same : ℕ → ℕ → Bool) (next : ℕ) (op : Op) (v : Verb) → op.verb ≡ v
      → FactsOf same m.client.remote.tree m.client.local.tree m.client.synced next op v
      → get m.client.local.tree op.id.0 ≡ op.old_local → op.verb ≢ verb.Adopt → IsCarriedBy s op
  facts_by same next op verb.Split is facts old two =
      parts facts.carried.node _ is (ap (λ (o : Op). o.old_local) facts.carried.is ∙ facts.carried.there) (ap (λ (o : Op). o.local) facts.carried.is)
  facts_by same next op verb.Evict is facts old two =
      plain (record { one = ap is_split is; two = two })
      (comes_as s op.old_local (get m.client.local.tree op.id.0) op.local op.local (sym old) refl (leaves_comes s facts.place _ (get m.client.local.tree op.id.0) op.local facts.carried.local))
  facts_by same next op verb.Adopt is facts old two = absurd (two is)
  facts_by same next op verb.Revive is facts old two =
      plain (record { one = ap is_split is; two = two })
      (comes_as s op.old_local op.old_local op.local (Put facts.carried.node) refl (ap (λ (o : Op). o.local) facts.carried.is)
      (inl (kept op.id.0 facts.carried.node facts.carried.there)))
  facts_by same next op verb.Unmove is facts old two =
      plain (record { one = ap is_split is; two = two })
      (comes_as s op.old_local (Some facts.carried.own) op.local (Put (record facts.carried.own { place = facts.carried.node.place })) (sym old ∙ facts.carried.own_there)
      (ap (λ (o : Op). o.local) facts.carried.is) (inr (facts.carried.own, refl, refl)))
  facts_by same next op verb.Down is facts old two = absurd facts
  facts_by same next op verb.Up is facts old two = absurd facts
  facts_by same next op verb.CutDown is facts old two = absurd facts
  facts_by same next op verb.CutUp is facts old two = absurd facts
  facts_by same next op verb.Forget is facts old two = absurd facts

  mend_by : (same : ℕ → ℕ → Bool) (entries : List Entry) (f : Flight)
      → IsMend same m.client.remote.tree m.client.local.tree m.client.synced m.client.remote.cursor entries f
      → get m.client.local.tree f.op.id.0 ≡ f.op.old_local → f.op.verb ≢ verb.Adopt → IsCarriedBy s f.op
  mend_by same entries f is old two =
      let op = is.op in
      shown_by (facts_by same is.next op op.verb refl is.facts
      (subst (λ (o : Op). get m.client.local.tree o.id.0 ≡ o.old_local) is.shown old) (subst (λ (o : Op). o.verb ≢ verb.Adopt) is.shown two))
    where
      numbered : (op : Op) (number base : ℕ) → IsCarriedBy s op → IsCarriedBy s (record op { number = number; base = base })
      numbered op number base (plain one comes) = plain one comes
      numbered op number base (parts node place split was puts) = parts node place split was puts

      shown_by : IsCarriedBy s is.op → IsCarriedBy s f.op
      shown_by by = subst (IsCarriedBy s) (sym is.shown) (numbered is.op f.op.number f.op.base by)

  carried_by : (same : ℕ → ℕ → Bool) (entries : List Entry) (f : Flight) → IsAlone same entries m.client → Contains m.client.flights f
      → get m.client.local.tree f.op.id.0 ≡ f.op.old_local → f.op.verb ≢ verb.Adopt → is_commit f.op.effect ≡ false → IsCarriedBy s f.op
  carried_by same entries f (batch is) within old two outside = means_by same f (is.means f within) old two outside
  carried_by same entries f (mend g flights is) within old two outside =
      let one = only g f (subst (λ fs. Contains fs f) flights within) in
      mend_by same entries f (subst (λ (h : Flight). IsMend same m.client.remote.tree m.client.local.tree m.client.synced m.client.remote.cursor entries h) one is) old two
    where
      only : (g f : Flight) → Contains (g ∷ []) f → g ≡ f
      only g f (zero, below, is) = is
      only g f (suc k, below, is) = absurd (omega (arith, below))

-- WHAT IS KNOWN of the versions that it speaks of
holds_here : (P : Flight → Type 0) (fs : List Flight) (f : Flight) → Contains fs f → P f → Any P fs
holds_here P [] f (k, below, is) its = absurd (omega (arith, below))
holds_here P (g ∷ fs) f (zero, below, is) its = (0, g, below, refl, subst P (sym is) its)
holds_here P (g ∷ fs) f (suc k, below, is) its = let (i, y, within, at, has) = holds_here P fs f (k, omega (arith, below), is) its in (suc i, y, omega (arith, within), at, has)

module _ (s : WebState) (kinds : ℕ → Kind) (m : MemberState) (member : IsMember s kinds m) (f : Flight) (within : Contains m.client.flights f) where
  put_known : (new : Node) → f.op.local ≡ Put new → IsPutAs s.edits.edits new.kind new.ver.0
  put_known new is =
      let x = local_id (is_split f.op.verb) f.op in
      let puts : Puts new.kind new.ver.0 f.op.local = subst (Puts new.kind new.ver.0) (sym is) (refl, refl) in
      (member.holds x new.kind new.ver.0 (in_flight (holds_here (λ g. OpHolds x new.kind new.ver.0 g.op) m.client.flights f within (puts_local refl puts)))).put

  change_known : (old : Option Node) (c : Change) → f.op.local ≡ c → ChangeComes s old c → ChangeKnown s old c
  change_known old Keep is comes = tt
  change_known old (Put new) is comes = (put_known new is, comes)
  change_known old Cut is comes = tt

  node_known : (o : Option Node) → get m.client.local.tree f.op.id.0 ≡ o → NodeKnown s o
  node_known None at = tt
  node_known (Some n) at = (member.holds f.op.id.0 n.kind n.ver.0 (in_local (subst (IsOf n.kind n.ver.0) (sym at) (refl, refl)))).put

-- THE FLIGHT after it
staged_at : (n : ℕ) (st : Stage) (fs : List Flight) (f : Flight) → flight_of n fs ≡ Some f → flight_of n (staged n st fs) ≡ Some (at_stage st f)
staged_at n st [] f there = cc
staged_at n st (g ∷ fs) f there =
    elim (g.op.number == n) as (λ b. (g.op.number == n) ≡ b → cond b (Some g) (flight_of n fs) ≡ Some f
    → flight_of n (cond b (at_stage st g ∷ fs) (g ∷ staged n st fs)) ≡ Some (at_stage st f)) [
      | true ↦ λ hit same.
          ap (λ b. cond b (Some (at_stage st g)) (flight_of n fs)) hit ∙ ap (λ (h : Flight). Some (at_stage st h)) (same_Some g f same)
      | false ↦ λ miss later. ap (λ b. cond b (Some g) (flight_of n (staged n st fs))) miss ∙ staged_at n st fs f later
    ] refl there

-- THE TAKE
abbrev GoesWell : ℕ → WebState → MemberState → TakeReply → Type 0
GoesWell n s k answer = HasGoneWell answer × NothingFails k × ((op : Op) × (t : Taken) × (flight_of n k.client.flights ≡ Some (record { op = op; stage = taken t }))
    × Matches s.edits.edits (local_then op t k.client.local) k.folder.held × ((why : Refusal) → t ≡ came.Refused why → answer ≡ took.Refused why))

module _ (log : List LogEntry) (w : WorldState) (c n : ℕ) (m : MemberState) (sync : InSync c log w m) (begun : HasStarted c n log w m) (unbroken : ¬ Collision) where
  abbrev S : WebState
  S = w.shared

  abbrev F : Flight
  F = record { op = begun.op; stage = started }

  -- AT THE SERVER nothing changes in the folder
  judged_well : (blocks : Blocks) (r : TakeReply) (u : Turn)
      → IsJudged c n (commit_of begun.op) (record { shared = record S { blocks = blocks }; member = m }) r u
      → GoesWell n u.shared u.member r
  judged_well blocks (took.Accepted rev) u (accepted, now) = subst (λ (x : Turn). GoesWell n x.shared x.member (took.Accepted rev)) (sym now)
      (tt, sync.nothing_fails, (begun.op, came.Accepted rev, staged_at n (taken (came.Accepted rev)) m.client.flights F begun.flies, begun.matches, λ why same. cc))
  judged_well blocks (took.Refused why) u (refused, now) = subst (λ (x : Turn). GoesWell n x.shared x.member (took.Refused why)) (sym now)
      (tt, sync.nothing_fails, (begun.op, came.Refused why, staged_at n (taken (came.Refused why)) m.client.flights F begun.flies, begun.matches, λ other same. cc))
  judged_well blocks (took.Folder ran) u is = absurd is
  judged_well blocks took.NoSuchOp u is = absurd is

  -- an upload commits what its Start read
  read_well : (bytes : List ℕ) (read : Option (List ℕ)) (recorded : Bool) → read ≡ Some bytes
      → is_recorded S.edits.edits (content_of bytes).hash (committed begun.op.remote) ≡ true
      → (r : TakeReply) (u : Turn) → CommitsRead c n (commit_of begun.op) read (turn_at S m) r u → GoesWell n u.shared u.member r
  read_well bytes read recorded is so r u commits =
      let by_bytes : CommitsRead c n (commit_of begun.op) (Some bytes) (turn_at S m) r u =
      subst (λ o. CommitsRead c n (commit_of begun.op) o (turn_at S m) r u) is commits in
      judged_well (all_stored (blocks_of bytes) S.blocks) r u (subst (λ b. CommitsBytes c n (commit_of begun.op) bytes b (turn_at S m) r u) so by_bytes)

  commit_well : (upload : Bool) → HasRead upload c n log S begun.op → (r : TakeReply) (u : Turn) → Commits log c n (commit_of begun.op) upload (turn_at S m) r u
      → GoesWell n u.shared u.member r
  commit_well true (bytes, read, recorded) r u commits = read_well bytes (read_in c n log) true read recorded r u commits
  commit_well false read r u judged = judged_well S.blocks r u judged

  -- IN THE FOLDER
  within : Contains m.client.flights F
  within = flies_at n m.client.flights F begun.flies

  carried_well : is_commit begun.op.effect ≡ false → (ran : RanOp) (u : Turn) → IsCarriedOut n begun.op (turn_at S m) ran u
      → GoesWell n u.shared u.member (took.Folder ran)
  carried_well outside ran u out =
      let world = reached_world log w sync.reached in
      let member = its_member w world c m sync.was in
      let stocked = (reached_stocked log w sync.reached).shared in
      let formed = (reached_sound log w sync.reached).blocks in
      let folder = its_folder log w c m sync.reached sync.was in
      let can = All-contains (λ f. CanFly f.op) m.client.flights F member.flights within in
      let flight = All-contains (IsFlight (known_to m.client.remote)) m.client.flights F member.client.flights within in
      let ready = (All-contains (MayLand m.client) m.client.flights F sync.ready.each within).0 in
      let how =
      carried_by S m (remote_kept S m.client.remote world.shared.journal stocked member.at) (same_hash S.edits.edits) S.entries F sync.alone within ready.old can.two outside in
      let carried : IsCarriedTo S (local_after begun.op ran.outcome m.client.local) ran u.member =
      carried_as world.kind_of member stocked formed folder flight.op ready how in (
        carried.well,
        carried.nothing_fails,
        (
          begun.op,
          came.Folder ran.outcome,
          ap (λ (x : MemberState). flight_of n x.client.flights) out.member ∙ staged_at n (taken (came.Folder ran.outcome)) m.client.flights F begun.flies,
          matches_then carried.matches,
          λ why same. cc,
        ),
      )
    where
      matches_then : Matches S.edits.edits (local_after begun.op ran.outcome m.client.local) u.member.folder.held
          → Matches u.shared.edits.edits (local_after begun.op ran.outcome u.member.client.local) u.member.folder.held
      matches_then is = subst (λ (s : WebState). Matches s.edits.edits (local_after begun.op ran.outcome u.member.client.local) u.member.folder.held) (sym out.shared)
          (subst (λ l. Matches S.edits.edits (local_after begun.op ran.outcome l) u.member.folder.held) (sym (ap (λ (x : MemberState). x.client.local) out.member)) is)

      carried_as : (kinds : ℕ → Kind) → IsMember S kinds m → IsStocked S → AreHashed S.blocks → IsKeyed m.folder → MayFly begun.op
          → LocalReady m.client.local begun.op outcome.Ok → IsCarriedBy S begun.op
          → IsCarriedTo S (local_after begun.op ran.outcome m.client.local) ran u.member
      carried_as kinds member stocked formed folder may ready (plain one comes) =
          plainly S stocked formed unbroken m folder member.keys sync.nothing_fails begun.matches out.faults out.faults_after out.made out.settled ran u.member begun.op may ready out.known out.runs
          one (node_known S kinds m member F within begun.op.old_local ready.old) (change_known S kinds m member F within begun.op.old_local begun.op.local refl comes)
      carried_as kinds member stocked formed folder may ready (parts old place split was puts) =
          in_parts S stocked formed unbroken m folder member.keys sync.nothing_fails begun.matches out.faults out.faults_after out.made out.settled ran u.member begun.op may ready out.known out.runs
          old place split was puts

  folder_well : is_commit begun.op.effect ≡ false → (r : TakeReply) (u : Turn) → CarriesOut n begun.op (turn_at S m) r u → GoesWell n u.shared u.member r
  folder_well outside (took.Folder ran) u out = carried_well outside ran u out
  folder_well outside (took.Accepted rev) u is = absurd is
  folder_well outside (took.Refused why) u is = absurd is
  folder_well outside took.NoSuchOp u is = absurd is

  by_effect : (commit : Bool) → is_commit begun.op.effect ≡ commit → (r : TakeReply) (u : Turn) → TakesBy log c n begun.op commit (turn_at S m) r u
      → GoesWell n u.shared u.member r
  by_effect true is r u commits = commit_well (is_upload begun.op) begun.read r u commits
  by_effect false is r u out = folder_well is r u out

  take_well : (r : TakeReply) (u : Turn) → Takes log c n (turn_at S m) r u → GoesWell n u.shared u.member r
  take_well r u takes = by_effect (is_commit begun.op.effect) refl r u (subst (λ o. TakesOf log c n (started_of o) (turn_at S m) r u) begun.flies takes)

pub takes_go_well : TakesGoWell
takes_go_well log w v c n m k answer sync begun unbroken turn there =
    let one : turn.member ≡ m = same_Some turn.member m (sym turn.was ∙ sync.was) in
    let after : member_of c v.members ≡ Some turn.after =
    subst (λ ms. member_of c ms ≡ Some turn.after) (sym turn.now) (member_there c w.members turn.member turn.after turn.was) in
    let then_one : turn.after ≡ k = same_Some turn.after k (sym after ∙ there) in
    let takes : Takes log c n (turn_at w.shared m) answer (turn_at v.shared k) =
    subst (λ (x : MemberState). Takes log c n (turn_at w.shared x) answer (turn_at v.shared k)) one
    (subst (λ (y : MemberState). Takes log c n (turn_at w.shared turn.member) answer (turn_at v.shared y)) then_one turn.does) in
    let (well, calm, (op, came_so, flies, matches, refused)) = take_well log w c n m sync begun unbroken answer (turn_at v.shared k) takes in
    (well, calm, (record { op = op; came_so = came_so; flies = flies; matches = matches }, refused))
