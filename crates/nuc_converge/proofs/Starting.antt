-- A step of a client that is left alone which changes nothing, or one stage alone, as a Start does.
use Rattle.std.specs.Prelude.{All}
use Rattle.std.proofs.Common.{◌≡◌, ◌⊎◌, ◌+◌, ◌==◌, ◌||◌, ℕ, suc, Bool, true, false, List, [], ◌∷◌, length, Option, None, Some, refl, sym, ap, subst, inl, inr, arith}
use Rattle.std.proofs.Math.Path.{fun_ext}
use Rattle.std.proofs.lemmas.Bool.{eqb-true}
use Rattle.nuc_class.specs.declared.op.Op.{Op}
use Rattle.nuc_edits.specs.declared.edit.Edit.{Edit}
use Rattle.nuc_flights.specs.Flights.{Flight, Stage, flight_of, planned, staged, started, taken}
use Rattle.nuc_journal.specs.declared.entry.Entry.{Entry}
use Rattle.nuc_log.specs.declared.reply.Reply.{Reply}
use Rattle.nuc_log.specs.declared.reply.Reply.TheVariants as reply
use Rattle.nuc_log.specs.declared.reply.StartReply.{StartReply}
use Rattle.nuc_log.specs.declared.reply.StartReply.TheVariants as start
use Rattle.nuc_measure.specs.Pays.{FliesBelow}
use Rattle.nuc_measure.specs.Potential.{IsCarried}
use Rattle.nuc_measure.proofs.Carried.{carried_of}
use Rattle.nuc_step.specs.Client.{ClientState}
use Rattle.nuc_step.specs.Order.{IsReady, KeyStands}
use Rattle.nuc_step.specs.Sound.{AreNumbered}
use Rattle.nuc_step.specs.Stages.{if_planned, planned_of}
use Rattle.nuc_step.specs.Steps.{after_start}
use Rattle.nuc_world.specs.Starts.{Begins, Reads, Starts, StartsOf, Uploads, is_upload}
use Rattle.nuc_world.specs.State.{MemberState}
use Rattle.std.specs.FinMap.{get}
use Rattle.nuc_converge.specs.Alone.{HasBegun}
use Rattle.nuc_converge.specs.Counts.{applied_in, dropped_in, planned_in}
use Rattle.nuc_converge.proofs.InFlight.{IsAlone, flies}
use Rattle.nuc_converge.proofs.Parts.{Carries}
use Rattle.nuc_converge.proofs.Point.{Moves}
use Rattle.nuc_converge.proofs.Restaged.{IsUntaken, MayCome, alone_then}
use Rattle.nuc_converge.proofs.Staged.{flies_staged, length_staged}
use Rattle.nuc_converge.proofs.StillReady.{AreOther, none_started, ready_then}

-- WHAT FLIES has a bound
or_of : (a b : Bool) → (a || b) ≡ true → (a ≡ true) ⊎ (b ≡ true)
or_of true b e = inl refl
or_of false b e = inr e

pub flies_bound : (fs : List Flight) → (k : ℕ) × FliesBelow (flies fs) k
flies_bound [] = (0, λ x up. absurd (let clash : false ≡ true = up in cc))
flies_bound (f ∷ fs) =
    let rest = flies_bound fs in (
      suc (f.op.id.0 + rest.0),
      λ x up. elim (or_of (f.op.id.0 == x) (flies fs x) up) [
        | inl here ↦ let same = eqb-true f.op.id.0 x here in omega (arith, same)
        | inr there ↦ let less = rest.1 x there in omega (arith, less)
      ],
    )

-- so one number is carried
pub one_carries : (same : ℕ → ℕ → Bool) (c : ClientState) (a b : ℕ) → Carries same c a → Carries same c b → a ≡ b
one_carries same c a b =
    let bound = flies_bound c.flights in
    (carried_of same (flies c.flights) c.remote.tree c.local.tree c.synced bound.0 bound.1).one a b

pub some_carries : (same : ℕ → ℕ → Bool) (c : ClientState) → (k : ℕ) × Carries same c k
some_carries same c =
    let bound = flies_bound c.flights in
    (carried_of same (flies c.flights) c.remote.tree c.local.tree c.synced bound.0 bound.1).some

-- a reply that counts nothing
abbrev pub CountsNone : Reply → Type 0
CountsNone r = (planned_in r ≡ 0) × (applied_in r ≡ 0) × (dropped_in r ≡ 0)

-- NOTHING CHANGES
pub still_moves : (same : ℕ → ℕ → Bool) (old edits : List Edit) (entries now : List Entry) (c d : ClientState) (r : Reply) → edits ≡ old → now ≡ entries → d ≡ c
    → CountsNone r → IsAlone same entries c → IsReady c → Moves same old edits now c d r
still_moves same old edits entries now c d r kept journal is (no_plan, no_end, no_drop) alone ready = record {
  edits_are = kept;
  alone = subst (λ es. IsAlone same es d) (sym journal) (subst (IsAlone same entries) (sym is) alone);
  ready = subst IsReady (sym is) ready;
  pays = λ a b is_a is_b. let e = one_carries same c a b is_a (subst (λ x. Carries same x b) is is_b) in omega (arith, e, no_end);
  counts = let long : length d.flights ≡ length c.flights = ap (λ (x : ClientState). length x.flights) is in omega (arith, long, no_plan, no_end, no_drop);
}

-- ONE STAGE CHANGES
module _ (same : ℕ → ℕ → Bool) (old : List Edit) (entries : List Entry) (c : ClientState) (numbered : AreNumbered c.flights c.next_op)
    (alone : IsAlone same entries c) (ready : IsReady c) (n : ℕ) (f : Flight) (there : flight_of n c.flights ≡ Some f) (untaken : IsUntaken f.stage) where
  pub staged_moves : (st : Stage) (now : List Entry) (ahead : List Entry) → MayCome c.remote.cursor entries now c.flights f st → KeyStands c.local.keys st
      → All (AreOther st) c.flights → (edits : List Edit) (after : List Entry) (d : ClientState) (r : Reply) → edits ≡ old → after ≡ now
      → d ≡ record c { flights = staged n st c.flights; remote = record c.remote { ahead = ahead } } → CountsNone r → Moves same old edits after c d r
  staged_moves st now ahead may stands new edits after d r kept journal is (no_plan, no_end, no_drop) = record {
    edits_are = kept;
    alone = subst (λ es. IsAlone same es d) (sym journal)
        (subst (IsAlone same now) (sym is) (alone_then same entries now c n numbered f there untaken st may ahead alone));
    ready = subst IsReady (sym is) (ready_then c n st (record c.remote { ahead = ahead }) ready stands new);
    pays = λ a b is_a is_b.
        let staged_b : IsCarried same (flies (staged n st c.flights)) c.remote.tree c.local.tree c.synced b = subst (λ x. Carries same x b) is is_b in
        let is_c : Carries same c b = subst (λ fly. IsCarried same fly c.remote.tree c.local.tree c.synced b) (fun_ext (flies_staged n st c.flights)) staged_b in
        let e = one_carries same c a b is_a is_c in
        omega (arith, e, no_end);
    counts =
        let long : length d.flights ≡ length (staged n st c.flights) = ap (λ (x : ClientState). length x.flights) is in
        let same_long = length_staged n st c.flights in
        omega (arith, long, same_long, no_plan, no_end, no_drop);
  }

-- A START
pub record IsPlannedAs (n : ℕ) (fs : List Flight) : Type 0 where
  pub flight : Flight
  pub there : flight_of n fs ≡ Some flight
  pub stage : flight.stage ≡ planned

planned_stage : (st : Stage) (op other : Op) → if_planned st op ≡ Some other → st ≡ planned
planned_stage planned op other is = refl
planned_stage started op other is = cc
planned_stage (taken t) op other is = cc

planned_found : (n : ℕ) (fs : List Flight) (o : Option Flight) (op : Op) → flight_of n fs ≡ o → planned_of o ≡ Some op → IsPlannedAs n fs
planned_found n fs None op there is = absurd (cc)
planned_found n fs (Some f) op there is = record { flight = f; there = there; stage = planned_stage f.stage f.op op is }

module _ (n : ℕ) (m : MemberState) (r : StartReply) (u : MemberState) (begun : HasBegun r) where
  reads_start : (key : ℕ) (r : StartReply) → HasBegun r → Reads n key m r u → u.client ≡ after_start n m.client
  reads_start key (start.Ok (Some bytes)) has (lasts, at, now) = ap (λ (x : MemberState). x.client) now
  reads_start key (start.Ok None) has reads = absurd reads
  reads_start key start.Changed has reads = absurd has
  reads_start key start.Failed has reads = absurd has
  reads_start key start.NoSuchOp has reads = absurd reads

  uploads_start : (key : Option ℕ) → Uploads n key m r u → u.client ≡ after_start n m.client
  uploads_start (Some key) reads = reads_start key r begun reads
  uploads_start None (is, now) = absurd (subst HasBegun is begun)

  begins_start : (op : Op) (upload : Bool) → Begins n op upload m r u → u.client ≡ after_start n m.client
  begins_start op true uploads = uploads_start (get m.client.local.keys op.id.0) uploads
  begins_start op false (is, now) = ap (λ (x : MemberState). x.client) now

  starts_of : (o : Option Op) → planned_of (flight_of n m.client.flights) ≡ o → StartsOf n o m r u
      → (u.client ≡ m.client) ⊎ (IsPlannedAs n m.client.flights × (u.client ≡ after_start n m.client))
  starts_of None none (is, now) = inl (ap (λ (x : MemberState). x.client) now)
  starts_of (Some op) there begins =
      inr (planned_found n m.client.flights (flight_of n m.client.flights) op refl there, begins_start op (is_upload op) begins)

  pub starts_so : Starts n m r u → (u.client ≡ m.client) ⊎ (IsPlannedAs n m.client.flights × (u.client ≡ after_start n m.client))
  starts_so starts = starts_of (planned_of (flight_of n m.client.flights)) refl starts

pub start_moves : (same : ℕ → ℕ → Bool) (old edits : List Edit) (entries now : List Entry) (n : ℕ) (m u : MemberState) (r : StartReply) → edits ≡ old → now ≡ entries
    → AreNumbered m.client.flights m.client.next_op → IsAlone same entries m.client → IsReady m.client → Starts n m r u → HasBegun r
    → Moves same old edits now m.client u.client (reply.Started r)
start_moves same old edits entries now n m u r kept journal numbered alone ready starts begun = elim (starts_so n m r u begun starts) [
  | inl still ↦ still_moves same old edits entries now m.client u.client (reply.Started r) kept journal still (refl, refl, refl) alone ready
  | inr (at, is) ↦
      staged_moves same old entries m.client numbered alone ready n at.flight at.there (subst IsUntaken (sym at.stage) tt) started entries m.client.remote.ahead
      (record { folder = λ _. tt; server = λ _. tt; waits = λ come. come; revision = λ g rev within stage is. cc; news = λ e within. inl within })
      tt (λ k d below. (none_started _, tt)) edits now u.client (reply.Started r) kept journal is (refl, refl, refl)
]
