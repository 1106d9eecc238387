-- How an operation ends that was taken.
use Rattle.std.specs.Prelude.{All, IsSomeAnd, MatchBool}
use Rattle.std.specs.Option.{option_map}
use Rattle.std.proofs.Common.{◌≡◌, ◌+◌, ◌≤◌, ℕ, Bool, true, false, cond, List, Option, None, Some, refl, sym, ap, subst}
use Rattle.nuc_base.specs.Changes.{changed}
use Rattle.nuc_base.specs.Trees.{Nodes, WellFormed}
use Rattle.nuc_class.specs.declared.op.Op.{Op}
use Rattle.nuc_edits.specs.Edits.{Recorded}
use Rattle.nuc_flights.specs.Flights.{Flight, FlightsState, IsTaken, Stage, StandsAt, flight_of, planned, started, taken, taken_at, taken_of, without}
use Rattle.nuc_flights.specs.declared.taken.Taken.{Taken}
use Rattle.nuc_flights.specs.declared.taken.Taken.TheVariants as came
use Rattle.nuc_folder.specs.Outcome.{is_success}
use Rattle.nuc_folder.specs.declared.outcome.Outcome.{Outcome}
use Rattle.nuc_replica.specs.Local.{IsLocal, LocalState, LocalStates}
use Rattle.nuc_replica.specs.Remote.{RemoteStates}
use Rattle.nuc_step.specs.Client.{ClientState, ClientStates}
use Rattle.nuc_step.specs.Sound.{AreLaid, ChangedOne, ChangedSynced, FitsStage, FitsTaken, IsFlight, IsKept, IsLaid, MayFly}
use Rattle.nuc_step.specs.Steps.{Ends, EndsAt, EndsOf, IsDone, LocalReady, SyncedReady, local_after, reason_of, with_adoptions}
use Rattle.nuc_step.specs.declared.counts.Counts.{Counts}
use Rattle.nuc_step.specs.declared.reason.Reason.TheVariants as reason
use Rattle.nuc_step.specs.declared.reply.DoneReply.{DoneReply}
use Rattle.nuc_step.specs.declared.reply.DoneReply.TheVariants as done
use Rattle.nuc_step.proofs.Flying.{flight_in, number_of}
use Rattle.nuc_step.proofs.Kept.{kept_finished, kept_flights}
use Rattle.nuc_undo.specs.Laid.{Laid}
use Rattle.nuc_undo.specs.State.{UndoState}

-- AN OPERATION THAT WAS TAKEN so is in flight under the number
pub record IsEnding (n : ℕ) (fs : List Flight) (t : Taken) (op : Op) : Type 0 where
  pub flight : Flight
  pub there : flight_of n fs ≡ Some flight
  pub stage : flight.stage ≡ taken t
  pub same : flight.op ≡ op

stage_taken : (stage : Stage) (t : Taken) → taken_at stage ≡ Some t → stage ≡ taken t
stage_taken planned t is = cc
stage_taken started t is = cc
stage_taken (taken u) t is = let same : u ≡ t = cc in ap taken same

ending : (n : ℕ) (fs : List Flight) (t : Taken) (op : Op) → taken_of (flight_of n fs) ≡ Some t → Some op ≡ option_map (λ (f : Flight). f.op) (flight_of n fs) → IsEnding n fs t op
ending n fs t op came is =
    elim (flight_of n fs) as (λ o. flight_of n fs ≡ o → taken_of o ≡ Some t → ◌≡◌ {A = Option Op} (Some op) (option_map (λ (f : Flight). f.op) o) → IsEnding n fs t op) [
      | None ↦ λ _ none _. cc
      | Some f ↦ λ there it same. record { flight = f; there = there; stage = stage_taken f.stage t it; same = (let one : op ≡ f.op = cc in sym one) }
    ] refl came is

-- the same, where the client is seen from outside
pub ending_inside : (before now : ClientStates) (n : ℕ) (t : Taken) (op : Op) → before ≡ now → taken_of (flight_of n now.now.flights) ≡ Some t
    → Some op ≡ option_map (λ (f : Flight). f.op) (flight_of n before.now.flights) → IsEnding n before.now.flights t op
ending_inside before now n t op same it is = ending n before.now.flights t op (subst (λ (s : ClientStates). taken_of (flight_of n s.now.flights) ≡ Some t) (sym same) it) is

pub ending_may : (known n : ℕ) (fs : List Flight) (t : Taken) (op : Op) → All (IsFlight known) fs → IsEnding n fs t op → MayFly op
ending_may known n fs t op all it = let is = flight_in (IsFlight known) n fs it.flight it.there all in subst MayFly it.same is.op

pub ending_fits : (known n : ℕ) (fs : List Flight) (t : Taken) (op : Op) → All (IsFlight known) fs → IsEnding n fs t op → FitsTaken known op t
ending_fits known n fs t op all it =
    let is = flight_in (IsFlight known) n fs it.flight it.there all in
    subst (λ o. FitsTaken known o t) it.same (subst (FitsStage known it.flight.op) it.stage is.stage)

pub ending_laid : (l s : Laid) (n : ℕ) (fs : List Flight) (t : Taken) (op : Op) → All (AreLaid l s) fs → IsEnding n fs t op
    → IsLaid l op.number op.local × IsLaid s op.number op.synced
ending_laid l s n fs t op all it =
    let are = flight_in (AreLaid l s) n fs it.flight it.there all in
    subst (λ (o : Op). IsLaid l o.number o.local × IsLaid s o.number o.synced) it.same (are.local, are.synced)

ending_number : (n : ℕ) (fs : List Flight) (t : Taken) (op : Op) → IsEnding n fs t op → op.number ≡ n
ending_number n fs t op it = subst (λ (o : Op). o.number ≡ n) it.same (number_of n fs it.flight it.there)

ending_stands : (n : ℕ) (fs : List Flight) (t : Taken) (op : Op) → IsEnding n fs t op → StandsAt n IsTaken fs
ending_stands n fs t op it = subst (λ o. IsSomeAnd o (λ f. IsTaken f.stage)) (sym it.there) (subst IsTaken (sym it.stage) tt)

-- it is in flight no more
abbrev pub Finishes : ℕ → List Flight → Bool → List Flight → Type 0
Finishes n fs b gs = MatchBool b (StandsAt n IsTaken fs × (gs ≡ without n fs)) (¬ (StandsAt n IsTaken fs) × (gs ≡ fs))

ending_without : (n : ℕ) (fs : List Flight) (t : Taken) (op : Op) (b : Bool) (gs : List Flight) → IsEnding n fs t op → Finishes n fs b gs → gs ≡ without n fs
ending_without n fs t op true gs it (there, is) = is
ending_without n fs t op false gs it (none, is) = absurd (none (ending_stands n fs t op it))

pub kept_ended : (r : RemoteStates) (l m : LocalStates) (s u : UndoState) (fs gs : FlightsState) (c b d : Counts) (n : ℕ) (t : Taken) (op : Op) (fin : Bool)
    → IsEnding n fs.now t op → Finishes n fs.now fin gs.now → gs.settled ≡ fs.settled
    → IsLocal m.now → ChangedOne op.number l m → WellFormed u.now → ChangedSynced op.number s u → b.next_op ≡ c.next_op → b.changes ≤ c.changes + 1
    → IsKept r l s fs c d → IsKept r m u gs b d
kept_ended r l m s u fs gs c b d n t op fin it ends same local one synced two next count kept =
    let number = ending_number n fs.now t op it in
    kept_flights r m u gs (without n fs.now) fs.settled b d (ending_without n fs.now t op fin gs.now it ends) same
    (kept_finished r l m s u fs c b d n it.flight it.there local (subst (λ k. ChangedOne k l m) number one) synced (subst (λ k. ChangedSynced k s u) number two) next count kept)

-- WHAT A DONE IS, by the flight
none_taken : (stage : Stage) (n : ℕ) (f : Flight) (c : ClientState) (e : Recorded) → taken_at stage ≡ None → EndsAt n f.op stage c e done.NoSuchOp c e
none_taken planned n f c e none = (refl, refl)
none_taken started n f c e none = (refl, refl)
none_taken (taken t) n f c e none = cc

none_ends : (n : ℕ) (o : Option Flight) (c : ClientState) (e : Recorded) → taken_of o ≡ None → EndsOf n o c e done.NoSuchOp c e
none_ends n None c e none = (refl, refl)
none_ends n (Some f) c e none = none_taken f.stage n f c e none

-- nothing ends where none was taken
pub nothing_ends : (n : ℕ) (c : ClientState) (e : Recorded) → taken_of (flight_of n c.flights) ≡ None → IsDone n c e done.NoSuchOp c e
nothing_ends n c e none = none_ends n (flight_of n c.flights) c e none

pub it_ends : (n : ℕ) (c d : ClientState) (e g : Recorded) (r : DoneReply) (t : Taken) (op : Op) → IsEnding n c.flights t op
    → Ends n op t (reason_of t) c e r d g → IsDone n c e r d g
it_ends n c d e g r t op it ends =
    subst (λ o. EndsOf n o c e r d g) (sym it.there)
    (subst (λ stage. EndsAt n it.flight.op stage c e r d g) (sym it.stage) (subst (λ o. Ends n o t (reason_of t) c e r d g) (sym it.same) ends))

-- what a Done of what the folder has done makes of the parts
pub record LandsInFolder (c : ClientState) (op : Op) (o : Outcome) (e : Recorded) (b : Bool) (r : DoneReply) (l : LocalState) (s : Nodes) (changes : ℕ) (g : Recorded) : Type 0 where
  pub landed : MatchBool b (LocalReady c.local op o × SyncedReady c.synced op) (¬ (LocalReady c.local op o × SyncedReady c.synced op))
  pub local : MatchBool b (l ≡ local_after op o c.local) (l ≡ c.local)
  pub synced : MatchBool b (s ≡ changed c.synced op.id.0 op.synced) (s ≡ c.synced)
  pub edits : MatchBool b (g ≡ with_adoptions op (came.Folder o) e) (g ≡ e)
  pub counted : MatchBool b (changes ≡ c.changes + 1) (changes ≡ c.changes)
  pub reply : MatchBool b (r ≡ done.Applied) (r ≡ done.Stale)

abbrev state_with : ClientState → LocalState → Nodes → List Flight → ℕ → ClientState
state_with c l s fs changes = record { remote = c.remote; local = l; synced = s; flights = fs; changes = changes; next_op = c.next_op }

lands : (n : ℕ) (c : ClientState) (op : Op) (o : Outcome) (e : Recorded) (b : Bool) (r : DoneReply) (l : LocalState) (s : Nodes) (changes : ℕ) (g : Recorded) (fs : List Flight)
    → fs ≡ without n c.flights → LandsInFolder c op o e b r l s changes g → Ends n op (came.Folder o) None c e r (state_with c l s fs changes) g
lands n c op o e true r l s changes g fs ends all = rw (all.reply, all.local, all.synced, all.edits, all.counted, ends) (all.landed, refl, refl)
lands n c op o e false r l s changes g fs ends all = rw (all.reply, all.local, all.synced, all.edits, all.counted, ends) (all.landed, refl, refl)

pub folder_ends : (n : ℕ) (c : ClientState) (op : Op) (o : Outcome) (e : Recorded) (b : Bool) (r : DoneReply) (l : LocalState) (s : Nodes) (changes : ℕ) (g : Recorded) (fin : Bool) (fs : List Flight)
    → IsEnding n c.flights (came.Folder o) op → is_success o ≡ true → Finishes n c.flights fin fs → LandsInFolder c op o e b r l s changes g
    → IsDone n c e r (state_with c l s fs changes) g
folder_ends n c op o e b r l s changes g fin fs it success ends all =
    it_ends n c (state_with c l s fs changes) e g r (came.Folder o) op it
    (subst (λ y. Ends n op (came.Folder o) (cond y None (Some (reason.Folder o))) c e r (state_with c l s fs changes) g) (sym success)
    (lands n c op o e b r l s changes g fs (ending_without n c.flights (came.Folder o) op fin fs it ends) all))
