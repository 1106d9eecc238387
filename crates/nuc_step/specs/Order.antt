-- That it doesn't matter in which order operations end.
use Rattle.std.specs.Prelude.{◌≡◌, ◌≢◌, ℕ, Bool, false, All, AllPairs, IsPermutation, List, [], ◌∷◌}
use Rattle.nuc_base.specs.Changes.{Apart}
use Rattle.nuc_class.specs.declared.op.Effect.TheVariants.{Nothing}
use Rattle.nuc_class.specs.declared.op.Op.{Op}
use Rattle.nuc_conflict.specs.FitTogether.{FitBelow}
use Rattle.nuc_edits.specs.Edits.{Recorded}
use Rattle.nuc_flights.specs.Flights.{Flight, Stage, taken}
use Rattle.nuc_flights.specs.declared.taken.Taken.{Taken}
use Rattle.nuc_flights.specs.declared.taken.Taken.TheVariants as came
use Rattle.nuc_folder.specs.declared.outcome.Outcome.TheVariants as outcome
use Rattle.nuc_journal.specs.declared.entry.Entry.{Entry}
use Rattle.nuc_observe.specs.Keys.{KeyMap}
use Rattle.nuc_plan.specs.Plans.{IsPlan}
use Rattle.nuc_plan.specs.declared.plans.Plan.TheVariants as plan
use Rattle.nuc_step.specs.Client.{ClientState}
use Rattle.nuc_step.specs.Sound.{IsClient}
use Rattle.nuc_step.specs.Steps.{CanLand, IsDone, KeyIsFree, after_fly, after_pull, after_start, after_take, is_split}
use Rattle.nuc_step.specs.declared.reply.DoneReply.{DoneReply}
use Rattle.nuc_step.specs.declared.reply.DoneReply.TheVariants as done

-- Local and Synced are as they were when it was planned, and what it planned may be written
abbrev pub MayLand : ClientState → Flight → Type 0
MayLand c f = CanLand c f.op (came.Folder outcome.Ok)

-- the key that the folder made for it, if it made one, is nobody's
abbrev pub KeyStands : KeyMap → Stage → Type 0
KeyStands keys (taken (came.Folder o)) = KeyIsFree keys o
KeyStands keys _ = Unit {0}

-- the folder didn't make one key for both
abbrev pub OtherKeys : Stage → Stage → Type 0
OtherKeys (taken (came.Folder (outcome.Made k))) (taken (came.Folder (outcome.Made j))) = k.0 ≢ j.0
OtherKeys _ _ = Unit {0}

-- two operations change different identities, one each, and their changes of Local and of Synced don't meet
pub record AreSeparate (c : ClientState) (f g : Flight) : Type 0 where
  pub ids : f.op.id.0 ≢ g.op.id.0
  pub one : is_split f.op.verb ≡ false
  pub other_one : is_split g.op.verb ≡ false
  pub local : Apart c.local.tree f.op.id.0 f.op.local g.op.id.0 g.op.local
  pub synced : Apart c.synced f.op.id.0 f.op.synced g.op.id.0 g.op.synced
  pub keys : OtherKeys f.stage g.stage

-- since the operations in flight were planned nothing else has changed Local or Synced: each may land, and any two are separate
pub record IsReady (c : ClientState) : Type 0 where
  pub each : All (MayLand c) c.flights
  pub keys : All (λ f. KeyStands c.local.keys f.stage) c.flights
  pub pairs : AllPairs (AreSeparate c) c.flights

-- after the Dones of these numbers, one after another
abbrev pub AreDone : List ℕ → ClientState → Recorded → ClientState → Recorded → Type 0
AreDone [] c e d f = (d ≡ c) × (f ≡ e)
AreDone (n ∷ ns) c e d f = (r : DoneReply) × (b : ClientState) × (g : Recorded) × IsDone n c e r b g × AreDone ns b g d f

-- no number comes twice
abbrev pub NoneAgain : List ℕ → Type 0
NoneAgain ns = AllPairs (λ n m. n ≢ m) ns

-- the same is recorded, but that the adoptions may come in another order
pub record SameRecorded (e f : Recorded) : Type 0 where
  pub edits : e.edits ≡ f.edits
  pub adoptions : IsPermutation e.adoptions f.adoptions

-- THE LAWS. The operations of a batch are ready once they fly
abbrev pub BatchIsReady : Type 0
BatchIsReady = (same : ℕ → ℕ → Bool) (c : ClientState) (next : ℕ) (ops : List Op) → FitBelow c.remote.tree c.local.tree c.synced next → c.flights ≡ []
    → IsPlan same c.remote.tree c.local.tree c.synced next (plan.Batch ops) → IsReady (after_fly ops c)

-- so is a mend that is carried out in the folder or at the server
abbrev pub MendIsReady : Type 0
MendIsReady = (same : ℕ → ℕ → Bool) (c : ClientState) (next : ℕ) (op : Op) → FitBelow c.remote.tree c.local.tree c.synced next → c.flights ≡ []
    → op.effect ≢ Nothing → IsPlan same c.remote.tree c.local.tree c.synced next (plan.Mend op) → IsReady (after_fly (op ∷ []) c)

-- a key that was made is new to the client, and to what else is in flight
pub record IsNewKey (c : ClientState) (t : Taken) : Type 0 where
  pub client : KeyStands c.local.keys (taken t)
  pub flights : All (λ f. OtherKeys f.stage (taken t) × OtherKeys (taken t) f.stage) c.flights

-- they stay ready whatever order things come in
pub record StaysReady (c : ClientState) : Type 0 where
  pub pull : (page : List Entry) → IsReady (after_pull page c)
  pub start : (n : ℕ) → IsReady (after_start n c)
  pub take : (n : ℕ) (t : Taken) (news : List Entry) → IsNewKey c t → IsReady (after_take n t news c)
  pub done : (n : ℕ) (d : ClientState) (e f : Recorded) (r : DoneReply) → IsDone n c e r d f → IsReady d

abbrev pub ReadyStaysReady : Type 0
ReadyStaysReady = (c : ClientState) → IsClient c → IsReady c → StaysReady c

-- what was made in the folder, and a commit that was accepted, is applied
abbrev pub ReadyIsApplied : Type 0
ReadyIsApplied = (n : ℕ) (c d : ClientState) (e f : Recorded) (r : DoneReply) → IsReady c → IsDone n c e r d f → r ≢ done.Stale

-- in every order the Dones leave one client, and the same recorded
abbrev pub OneClientInEveryOrder : Type 0
OneClientInEveryOrder = (c d b : ClientState) (e f g : Recorded) (ns ms : List ℕ) → IsClient c → IsReady c → NoneAgain ns → IsPermutation ns ms
    → AreDone ns c e d f → AreDone ms c e b g → (d ≡ b) × SameRecorded f g
