-- Each step of a client that is left alone keeps what its commits in flight are based on.
use Rattle.std.specs.Prelude.{All, Contains}
use Rattle.std.proofs.Common.{◌≡◌, ◌≢◌, ◌==◌, ◌+◌, ◌<◌, ◌++◌, ℕ, zero, suc, Bool, true, false, cond, List, [], ◌∷◌, Option, Some, None, refl, sym, ◌∙◌, ap, subst, arith}
use Rattle.std.proofs.lemmas.Bool.{eqb-true, eq-eqb}
use Rattle.std.proofs.lemmas.List.{append-nil}
use Rattle.std.proofs.lemmas.List.Elements.{All-contains_itself}
use Rattle.std.specs.FinMap.{get}
use Rattle.nuc_base.specs.declared.node.Kind.{Kind}
use Rattle.nuc_blocks.proofs.Stored.{keeps}
use Rattle.nuc_class.specs.declared.op.Op.{Op}
use Rattle.nuc_edits.specs.Edits.{Recorded, same_hash}
use Rattle.nuc_flights.specs.Flights.{Flight, Stage, flight_of, planned, staged, started, taken, without}
use Rattle.nuc_flights.specs.declared.taken.Taken.{Taken}
use Rattle.nuc_flights.specs.declared.taken.Taken.TheVariants as came
use Rattle.nuc_folder.specs.declared.outcome.Outcome.TheVariants as outcome
use Rattle.nuc_hash.specs.Content.{blocks_of, content_of}
use Rattle.nuc_journal.specs.Entries.{revision_of}
use Rattle.nuc_journal.specs.declared.entry.Entry.{Entry}
use Rattle.nuc_journal.proofs.Ends.{revision_push-other}
use Rattle.nuc_log.specs.declared.event.Event.{Event}
use Rattle.nuc_log.specs.declared.event.Event.TheVariants as event
use Rattle.nuc_log.specs.declared.log.LogEntry.{LogEntry}
use Rattle.nuc_log.specs.declared.reply.Reply.{Reply}
use Rattle.nuc_log.specs.declared.reply.Reply.TheVariants as reply
use Rattle.nuc_log.specs.declared.reply.StartReply.{StartReply}
use Rattle.nuc_log.specs.declared.reply.StartReply.TheVariants as start
use Rattle.nuc_log.specs.declared.reply.TakeReply.{TakeReply}
use Rattle.nuc_log.specs.declared.reply.TakeReply.TheVariants as answer
use Rattle.nuc_server.specs.Judge.{next_entry}
use Rattle.nuc_server.specs.WebEdits.{WebState}
use Rattle.nuc_step.specs.Client.{ClientState}
use Rattle.nuc_step.specs.Sound.{AreNumbered}
use Rattle.nuc_step.specs.Stages.{if_planned, planned_of, started_of}
use Rattle.nuc_step.specs.Steps.{Ends, EndsAt, EndsOf, NothingToEnd, finished, landed, reason_of}
use Rattle.nuc_step.specs.declared.reason.Reason.{Reason}
use Rattle.nuc_step.specs.declared.reply.DoneReply.{DoneReply}
use Rattle.nuc_step.specs.declared.reply.DoneReply.TheVariants as done
use Rattle.nuc_world.specs.Form.{IsMember, IsShared}
use Rattle.nuc_world.specs.Starts.{Begins, Reads, StartsOf, Uploads, is_upload}
use Rattle.nuc_world.specs.State.{MemberState, Turn}
use Rattle.nuc_world.specs.Step.{Does}
use Rattle.nuc_world.specs.Takes.{CarriesOut, Commits, CommitsBytes, CommitsRead, IsJudged, IsOutdated, TakesBy, TakesOf, commit_of, committed, is_commit, is_recorded, read_in, stored}
use Rattle.nuc_world.proofs.Items.{all_first, all_front, all_map, all_none, all_rest}
use Rattle.nuc_converge.specs.Alone.{HasBegun, IsAlone as IsLeft}
use Rattle.nuc_converge.proofs.Bases.{HasBases, IsBased, Waits, based_later, plan_based}
use Rattle.nuc_converge.proofs.Flown.{IsFlown, flies_at, flown}
use Rattle.nuc_converge.proofs.InFlight.{IsAlone}
use Rattle.nuc_converge.proofs.InFlight.IsAlone.{batch, mend}
use Rattle.nuc_converge.proofs.KeptBlocks.{done_edits, plan_edits}
use Rattle.nuc_converge.proofs.Stocked.{IsStocked, same_blocks, value_later}

-- NO TWO FLY for one identity
abbrev pub OneId : List Flight → Type 0
OneId fs = (f g : Flight) → Contains fs f → Contains fs g → f.op.id.0 ≡ g.op.id.0 → f ≡ g

pub the_only : (f g : Flight) → Contains (f ∷ []) g → f ≡ g
the_only f g (zero, below, at) = at
the_only f g (suc k, below, at) = absurd (omega (arith, below))

pub one_id : (same : ℕ → ℕ → Bool) (entries : List Entry) (c : ClientState) → IsAlone same entries c → OneId c.flights
one_id same entries c (batch is) = is.one_id
one_id same entries c (mend f flies is) = subst OneId (sym flies) (λ g h first other id. sym (the_only f g first) ∙ the_only f h other)

-- FLIGHTS at another stage
all_staged : (P : Flight → Type 0) (n : ℕ) (st : Stage) → ((f : Flight) → P f → P (record f { stage = st })) → (fs : List Flight) → All P fs → All P (staged n st fs)
all_staged P n st each [] all = all
all_staged P n st each (f ∷ fs) all = elim (f.op.number == n) as (λ b. All P (cond b (record f { stage = st } ∷ fs) (f ∷ staged n st fs))) [
  | true ↦ all_front P (record f { stage = st }) fs (each f (all_first P f fs all)) (all_rest P f fs all)
  | false ↦ all_front P f (staged n st fs) (all_first P f fs all) (all_staged P n st each fs (all_rest P f fs all))
]

staged_at : (P : Flight → Type 0) (n : ℕ) (st : Stage) (at : Flight) (fs : List Flight) → flight_of n fs ≡ Some at → (P at → P (record at { stage = st })) → All P fs → All P (staged n st fs)
staged_at P n st at [] there each all = all
staged_at P n st at (f ∷ fs) there each all =
    elim (f.op.number == n) as (λ b. cond b (Some f) (flight_of n fs) ≡ Some at → All P (cond b (record f { stage = st } ∷ fs) (f ∷ staged n st fs))) [
      | true ↦ λ here. (let same : at ≡ f = cc in
          all_front P (record f { stage = st }) fs (subst (λ g. P g → P (record g { stage = st })) same each (all_first P f fs all)) (all_rest P f fs all))
      | false ↦ λ later. all_front P f (staged n st fs) (all_first P f fs all) (staged_at P n st at fs later each (all_rest P f fs all))
    ] there

all_without : (P : Flight → Type 0) (n : ℕ) (fs : List Flight) → All P fs → All P (without n fs)
all_without P n [] all = all
all_without P n (f ∷ fs) all = elim (f.op.number == n) as (λ b. All P (cond b fs (f ∷ without n fs))) [
  | true ↦ all_rest P f fs all
  | false ↦ all_front P f (without n fs) (all_first P f fs all) (all_without P n fs (all_rest P f fs all))
]

-- the one under the number, and the others, which have others
shift : {X : Type 0} (x y : X) (xs : List X) → Contains xs y → Contains (x ∷ xs) y
shift x y xs (k, below, at) = (suc k, omega (arith, below), at)

all_of : (P : Flight → Type 0) (fs : List Flight) → ((f : Flight) → Contains fs f → P f) → All P fs
all_of P fs each k d below = each _ (All-contains_itself fs k d below)

pub item_of : (P : Flight → Type 0) (fs : List Flight) (f : Flight) → All P fs → Contains fs f → P f
item_of P fs f all (k, below, at) = subst P at (all k f below)

staged_cases : (P : Flight → Type 0) (n next : ℕ) (st : Stage) (fs : List Flight) → AreNumbered fs next
    → ((f : Flight) → Contains fs f → f.op.number ≡ n → P (record f { stage = st })) → ((f : Flight) → Contains fs f → f.op.number ≢ n → P f) → All P (staged n st fs)
staged_cases P n next st [] numbers own others = all_none P
staged_cases P n next st (f ∷ fs) (low, above, rest) own others =
    let first : Contains (f ∷ fs) f = (0, omega arith, refl) in
    elim (f.op.number == n) as (λ b. (f.op.number == n) ≡ b → All P (cond b (record f { stage = st } ∷ fs) (f ∷ staged n st fs))) [
      | true ↦ λ is. (let same = eqb-true f.op.number n is in
          all_front P (record f { stage = st }) fs (own f first same)
          (all_of P fs (λ g has. others g (shift f g fs has)
          (λ equal. let more = item_of (λ h. f.op.number < h.op.number) fs g above has in omega (arith, more, equal, same)))))
      | false ↦ λ is. all_front P f (staged n st fs) (others f first (λ equal. let yes = eq-eqb f.op.number n equal in let bad : true ≡ false = sym yes ∙ is in cc))
          (staged_cases P n next st fs rest (λ g has same. own g (shift f g fs has) same) (λ g has apart. others g (shift f g fs has) apart))
    ] refl

number_at : (n : ℕ) (fs : List Flight) (f : Flight) → flight_of n fs ≡ Some f → f.op.number ≡ n
number_at n [] f there = cc
number_at n (g ∷ fs) f there = elim (g.op.number == n) as (λ b. (g.op.number == n) ≡ b → cond b (Some g) (flight_of n fs) ≡ Some f → f.op.number ≡ n) [
  | true ↦ λ is same. (let it : g ≡ f = cc in subst (λ (h : Flight). h.op.number ≡ n) it (eqb-true g.op.number n is))
  | false ↦ λ is later. number_at n fs f later
] refl there

-- A START
record IsPlannedAt (o : Option Flight) : Type 0 where
  flight : Flight
  is : o ≡ Some flight
  stage : flight.stage ≡ planned

stage_at : (f : Flight) (st : Stage) (op : Op) → f.stage ≡ st → if_planned st f.op ≡ Some op → f.stage ≡ planned
stage_at f planned op at is = at
stage_at f started op at is = absurd (let bad : None ≡ Some op = is in cc)
stage_at f (taken t) op at is = absurd (let bad : None ≡ Some op = is in cc)

planned_at : (o : Option Flight) (op : Op) → planned_of o ≡ Some op → IsPlannedAt o
planned_at None op is = absurd (let bad : None ≡ Some op = is in cc)
planned_at (Some f) op is = record { flight = f; is = refl; stage = stage_at f f.stage op refl is }

module _ (s : WebState) (m : MemberState) (was : HasBases s m.client) (n : ℕ) where
  begun : (at : IsPlannedAt (flight_of n m.client.flights)) → All (IsBased s) (staged n started m.client.flights)
  begun at = staged_at (IsBased s) n started at.flight m.client.flights at.is
      (λ its. record { base = λ commits waits. its.base commits (subst Waits (sym at.stage) tt); kept = its.kept }) was.each

  to_client : (u v : MemberState) → u ≡ v → All (IsBased s) v.client.flights → All (IsBased s) u.client.flights
  to_client u v is all = subst (λ (x : MemberState). All (IsBased s) x.client.flights) (sym is) all

  reads_based : (key : ℕ) (r : StartReply) (u : MemberState) → HasBegun r → IsPlannedAt (flight_of n m.client.flights) → Reads n key m r u → All (IsBased s) u.client.flights
  reads_based key (start.Ok (Some bytes)) u good at is = to_client u _ is.2 (begun at)
  reads_based key (start.Ok None) u good at is = absurd is
  reads_based key start.Changed u good at is = absurd good
  reads_based key start.Failed u good at is = absurd good
  reads_based key start.NoSuchOp u good at is = absurd is

  uploads_based : (key : Option ℕ) (r : StartReply) (u : MemberState) → HasBegun r → IsPlannedAt (flight_of n m.client.flights) → Uploads n key m r u → All (IsBased s) u.client.flights
  uploads_based (Some key) r u good at is = reads_based key r u good at is
  uploads_based None r u good at is = absurd (subst HasBegun is.0 good)

  begins_based : (op : Op) (upload : Bool) (r : StartReply) (u : MemberState) → HasBegun r → IsPlannedAt (flight_of n m.client.flights) → Begins n op upload m r u
      → All (IsBased s) u.client.flights
  begins_based op true r u good at is = uploads_based (get m.client.local.keys op.id.0) r u good at is
  begins_based op false r u good at is = to_client u _ is.1 (begun at)

  start_based : (o : Option Op) → planned_of (flight_of n m.client.flights) ≡ o → (r : StartReply) (u : MemberState) → HasBegun r → StartsOf n o m r u → All (IsBased s) u.client.flights
  start_based None at r u good is = to_client u m is.1 was.each
  start_based (Some op) at r u good is = begins_based op (is_upload op) r u good (planned_at (flight_of n m.client.flights) op at) is

-- A TAKE
taken_based : (s : WebState) (n : ℕ) (tk : Taken) (fs : List Flight) → All (IsBased s) fs → All (IsBased s) (staged n (taken tk) fs)
taken_based s n tk fs all = all_staged (IsBased s) n (taken tk) (λ f its. record { base = λ commits waits. absurd waits; kept = its.kept }) fs all

module _ (c n : ℕ) (op : Op) (t : Turn) (of : IsFlown n t.member.client.flights op) (numbers : AreNumbered t.member.client.flights t.member.client.next_op)
    (one : OneId t.member.client.flights) (was : HasBases t.shared t.member.client) where
  abbrev Fs : List Flight
  Fs = t.member.client.flights

  judged_based : (a : TakeReply) (u : Turn) → IsJudged c n (commit_of op) t a u → HasBases u.shared u.member.client
  judged_based (answer.Accepted rev) u ((accepted, at, entries), now) =
      let edits : u.shared.edits.edits ≡ t.shared.edits.edits ++ [] = ap (λ (v : Turn). v.shared.edits.edits) now ∙ sym (append-nil t.shared.edits.edits) in
      let blocks = same_blocks t.shared.blocks u.shared.blocks (ap (λ (v : Turn). v.shared.blocks) now) in
      let e : Entry = next_entry t.shared.entries op.id.0 (committed op.remote) c in
      let all : All (IsBased u.shared) (staged n (taken (came.Accepted rev)) Fs) =
      staged_cases (IsBased u.shared) n t.member.client.next_op (taken (came.Accepted rev)) Fs numbers
      (λ f has same. record {
        base = λ commits waits. absurd waits;
        kept = λ not_up. value_later t.shared u.shared [] edits blocks (committed f.op.remote) ((item_of (IsBased t.shared) Fs f was.each has).kept not_up);
      })
      (λ f has apart. record {
        base = λ commits waits. (item_of (IsBased t.shared) Fs f was.each has).base commits waits
            ∙ sym (ap (λ es. revision_of es f.op.id.0) entries
            ∙ revision_push-other t.shared.entries e f.op.id.0 (λ same. apart (ap (λ (g : Flight). g.op.number)
            (one f of.flight has (flies_at n Fs of.flight of.there) (sym same ∙ ap (λ (o : Op). o.id.0) (sym of.is))) ∙ number_at n Fs of.flight of.there)));
        kept = λ not_up. value_later t.shared u.shared [] edits blocks (committed f.op.remote) ((item_of (IsBased t.shared) Fs f was.each has).kept not_up);
      }) in
      record { each = subst (All (IsBased u.shared)) (sym (ap (λ (v : Turn). v.member.client.flights) now)) all }
  judged_based (answer.Refused why) u (is, now) =
      subst (λ (v : Turn). HasBases v.shared v.member.client) (sym now) (record { each = taken_based t.shared n (came.Refused why) Fs was.each })
  judged_based (answer.Folder ran) u is = absurd is
  judged_based answer.NoSuchOp u is = absurd is

  outdated_based : (a : TakeReply) (u : Turn) → IsOutdated n t a u → HasBases u.shared u.member.client
  outdated_based a u (is, now) =
      subst (λ (v : Turn). HasBases v.shared v.member.client) (sym now) (record { each = taken_based t.shared n (came.Folder outcome.Changed) Fs was.each })

  carries_based : (a : TakeReply) (u : Turn) → CarriesOut n op t a u → HasBases u.shared u.member.client
  carries_based (answer.Folder ran) u out = subst (λ s. HasBases s u.member.client) (sym out.shared) (record {
    each = subst (All (IsBased t.shared)) (sym (ap (λ (m : MemberState). m.client.flights) out.member)) (taken_based t.shared n (came.Folder ran.outcome) Fs was.each);
  })
  carries_based (answer.Accepted rev) u is = absurd is
  carries_based (answer.Refused why) u is = absurd is
  carries_based answer.NoSuchOp u is = absurd is

-- the blocks of a file come to the store
stored_based : (bytes : List ℕ) (t : Turn) → HasBases t.shared t.member.client → HasBases (stored bytes t).shared t.member.client
stored_based bytes t was = record {
  each = all_map (IsBased t.shared) (IsBased (stored bytes t).shared)
      (based_later t.shared (stored bytes t).shared [] (sym (append-nil t.shared.edits.edits)) (keeps (blocks_of bytes) t.shared.blocks (stored bytes t).shared.blocks refl) refl)
      t.member.client.flights was.each;
}

module _ (c n : ℕ) (op : Op) (t : Turn) (of : IsFlown n t.member.client.flights op) (numbers : AreNumbered t.member.client.flights t.member.client.next_op)
    (one : OneId t.member.client.flights) (was : HasBases t.shared t.member.client) where
  bytes_based : (bytes : List ℕ) (same : Bool) (a : TakeReply) (u : Turn) → CommitsBytes c n (commit_of op) bytes same t a u → HasBases u.shared u.member.client
  bytes_based bytes true a u is = judged_based c n op (stored bytes t) of numbers one (stored_based bytes t was) a u is
  bytes_based bytes false a u is = outdated_based c n op t of numbers one was a u is

  read_based : (read : Option (List ℕ)) (a : TakeReply) (u : Turn) → CommitsRead c n (commit_of op) read t a u → HasBases u.shared u.member.client
  read_based None a u is = outdated_based c n op t of numbers one was a u is
  read_based (Some bytes) a u is = bytes_based bytes (is_recorded t.shared.edits.edits (content_of bytes).hash (committed op.remote)) a u is

  commit_based : (log : List LogEntry) (upload : Bool) (a : TakeReply) (u : Turn) → Commits log c n (commit_of op) upload t a u → HasBases u.shared u.member.client
  commit_based log true a u is = read_based (read_in c n log) a u is
  commit_based log false a u is = judged_based c n op t of numbers one was a u is

  by_effect : (log : List LogEntry) (commit : Bool) (a : TakeReply) (u : Turn) → TakesBy log c n op commit t a u → HasBases u.shared u.member.client
  by_effect log true a u is = commit_based log (is_upload op) a u is
  by_effect log false a u is = carries_based c n op t of numbers one was a u is

by_flight : (log : List LogEntry) (c n : ℕ) (t : Turn) → AreNumbered t.member.client.flights t.member.client.next_op → OneId t.member.client.flights → HasBases t.shared t.member.client
    → (o : Option Op) → started_of (flight_of n t.member.client.flights) ≡ o → (a : TakeReply) (u : Turn) → TakesOf log c n o t a u → HasBases u.shared u.member.client
by_flight log c n t numbers one was None at a u is = subst (λ (v : Turn). HasBases v.shared v.member.client) (sym is.1) was
by_flight log c n t numbers one was (Some op) at a u is =
    by_effect c n op t (flown n t.member.client.flights (flight_of n t.member.client.flights) op refl at) numbers one was log (is_commit op.effect) a u is

-- A DONE
module _ (P : Flight → Type 0) (n : ℕ) (c : ClientState) (was : All P c.flights) where
  landed_flights : (op : Op) (tk : Taken) → (landed op tk (finished n tk c)).flights ≡ without n c.flights
  landed_flights op (came.Folder o) = refl
  landed_flights op (came.Accepted rev) = refl
  landed_flights op (came.Refused why) = refl

  fewer : (d : ClientState) → d.flights ≡ without n c.flights → All P d.flights
  fewer d is = subst (All P) (sym is) (all_without P n c.flights was)

  nothing_ends : (r : DoneReply) (d : ClientState) (e f : Recorded) → NothingToEnd c e r d f → All P d.flights
  nothing_ends done.NoSuchOp d e f is = subst (λ (b : ClientState). All P b.flights) (sym is.0) was
  nothing_ends _ d e f is = absurd is

  ends : (op : Op) (tk : Taken) (why : Option Reason) (r : DoneReply) (d : ClientState) (e f : Recorded) → Ends n op tk why c e r d f → All P d.flights
  ends op tk None done.Applied d e f is = fewer d (ap (λ (b : ClientState). b.flights) is.1 ∙ landed_flights op tk)
  ends op tk None done.Stale d e f is = fewer d (ap (λ (b : ClientState). b.flights) is.1)
  ends op tk None (done.Dropped w) d e f is = absurd is
  ends op tk None done.NoSuchOp d e f is = absurd is
  ends op tk (Some because) (done.Dropped w) d e f is = fewer d (ap (λ (b : ClientState). b.flights) is.1)
  ends op tk (Some because) done.Applied d e f is = absurd is
  ends op tk (Some because) done.Stale d e f is = absurd is
  ends op tk (Some because) done.NoSuchOp d e f is = absurd is

  ends_at : (op : Op) (st : Stage) (r : DoneReply) (d : ClientState) (e f : Recorded) → EndsAt n op st c e r d f → All P d.flights
  ends_at op planned r d e f is = nothing_ends r d e f is
  ends_at op started r d e f is = nothing_ends r d e f is
  ends_at op (taken tk) r d e f is = ends op tk (reason_of tk) r d e f is

  ends_of : (o : Option Flight) (r : DoneReply) (d : ClientState) (e f : Recorded) → EndsOf n o c e r d f → All P d.flights
  ends_of None r d e f is = nothing_ends r d e f is
  ends_of (Some fl) r d e f is = ends_at fl.op fl.stage r d e f is

-- BY THE EVENT
module _ (log : List LogEntry) (t : Turn) (kinds : ℕ → Kind) (shared : IsShared t.shared kinds) (member : IsMember t.shared kinds t.member) (stocked : IsStocked t.shared)
    (alone : IsAlone (same_hash t.shared.edits.edits) t.shared.entries t.member.client) (was : HasBases t.shared t.member.client) where
  -- what all share has the same entries and blocks
  beside : (u : Turn) → u.shared.edits.edits ≡ t.shared.edits.edits → u.shared.blocks ≡ t.shared.blocks → u.shared.entries ≡ t.shared.entries
      → All (IsBased t.shared) u.member.client.flights → HasBases u.shared u.member.client
  beside u edits blocks entries all = record {
    each = all_map (IsBased t.shared) (IsBased u.shared)
        (based_later t.shared u.shared [] (edits ∙ sym (append-nil t.shared.edits.edits)) (same_blocks t.shared.blocks u.shared.blocks blocks) entries) u.member.client.flights all;
  }

  pub does_base : (c : ℕ) (u : Turn) (e : Event) (r : Reply) → IsLeft c e r → Does log e r t u → HasBases u.shared u.member.client
  does_base c u (event.Plan d) (reply.Plan a) left does =
      beside u (plan_edits a _ _ does.0) (ap (λ (v : Turn). v.shared.blocks) does.1) (ap (λ (v : Turn). v.shared.entries) does.1)
      (plan_based t kinds shared member stocked alone was a _ does.0)
  does_base c u (event.Plan d) _ left does = absurd left
  does_base c u (event.Start d n) (reply.Started a) left does =
      subst (λ s. HasBases s u.member.client) (sym does.1)
      (record { each = start_based t.shared t.member was n (planned_of (flight_of n t.member.client.flights)) refl a u.member left.1 does.0 })
  does_base c u (event.Start d n) _ left does = absurd left
  does_base c u (event.Take d n) (reply.Took a) left does =
      by_flight log d n t member.client.numbers (one_id (same_hash t.shared.edits.edits) t.shared.entries t.member.client alone) was
      (started_of (flight_of n t.member.client.flights)) refl a u does
  does_base c u (event.Take d n) _ left does = absurd left
  does_base c u (event.Done d n) (reply.Done a) left does =
      beside u (done_edits n t.member.client u.member.client t.shared.edits u.shared.edits a does.0) (ap (λ (v : Turn). v.shared.blocks) does.1)
      (ap (λ (v : Turn). v.shared.entries) does.1)
      (ends_of (IsBased t.shared) n t.member.client was.each (flight_of n t.member.client.flights) a u.member.client t.shared.edits u.shared.edits does.0)
  does_base c u (event.Done d n) _ left does = absurd left
  does_base c u (event.Mark d) (reply.Marked a) left does = subst (λ (v : Turn). HasBases v.shared v.member.client) (sym does.1) was
  does_base c u (event.Mark d) _ left does = absurd does
  does_base c u (event.User d edit) r left does = absurd left
  does_base c u (event.Web edit) r left does = absurd left
  does_base c u (event.List d) r left does = absurd left
  does_base c u (event.Scan d) r left does = absurd left
  does_base c u (event.Watch d) r left does = absurd left
  does_base c u (event.Pull d) r left does = absurd left
  does_base c u (event.Restart d) r left does = absurd left
