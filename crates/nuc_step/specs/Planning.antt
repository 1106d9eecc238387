-- What a plan makes of a client, of what is recorded, and of the next identity.
use Rattle.std.specs.Prelude.{◌≡◌, ◌≢◌, ◌<◌, ◌+◌, ◌++◌, [], ◌∷◌, ℕ, false, List, length}
use Rattle.std.specs.FinMap.{get}
use Rattle.nuc_base.specs.Changes.{changed}
use Rattle.nuc_base.specs.Kinds.{FitsKind}
use Rattle.nuc_base.specs.Trees.{Nodes}
use Rattle.nuc_base.specs.declared.change.Change.{Change}
use Rattle.nuc_base.specs.declared.change.Change.TheVariants.{Keep, Put, Cut}
use Rattle.nuc_class.specs.declared.op.Effect.{Effect}
use Rattle.nuc_class.specs.declared.op.Effect.TheVariants as effect
use Rattle.nuc_class.specs.declared.op.Op.{Op}
use Rattle.nuc_class.specs.declared.op.Verb.{Verb}
use Rattle.nuc_class.specs.declared.op.Verb.TheVariants as verb
use Rattle.nuc_conflict.specs.After.{ComesFor}
use Rattle.nuc_conflict.specs.FitTogether.{FitBelow}
use Rattle.nuc_edits.specs.Edits.{Recorded, same_hash}
use Rattle.nuc_flights.specs.declared.taken.Taken.TheVariants as came
use Rattle.nuc_folder.specs.declared.outcome.Outcome.TheVariants as outcome
use Rattle.nuc_plan.specs.Plans.{IsPlan}
use Rattle.nuc_plan.specs.declared.plans.Plan.{Plan}
use Rattle.nuc_plan.specs.declared.plans.Plan.TheVariants as plan
use Rattle.nuc_replica.specs.Local.{moved_key}
use Rattle.nuc_replica.specs.Remote.{RemoteState}
use Rattle.nuc_replica.specs.Renaming.{StandsIn}
use Rattle.nuc_step.specs.Client.{ClientState}
use Rattle.nuc_step.specs.Sound.{MayFly, makes_new}
use Rattle.nuc_step.specs.Steps.{LocalReady, SyncedReady, adopted_by, after_fly, base_of, is_split, local_after, numbered, with_adoptions}
use Rattle.nuc_step.specs.declared.answers.Planned.{Planned}
use Rattle.nuc_step.specs.declared.answers.Planned.TheVariants as answer

-- what a plan reads and writes: the client, what is recorded, and the next identity that nobody has
pub record Planning : Type 0 where
  pub client : ClientState
  pub recorded : Recorded
  pub next_id : ℕ

-- the three trees fit together, and each identity in them is below the next
abbrev pub CanPlan : ClientState → ℕ → Type 0
CanPlan c next = FitBelow c.remote.tree c.local.tree c.synced next

-- the plan of the three trees, where nothing is in flight
abbrev pub IsPlanOf : Planning → Plan → Type 0
IsPlanOf p plan = (p.client.flights ≡ []) × IsPlan (same_hash p.recorded.edits) p.client.remote.tree p.client.local.tree p.client.synced p.next_id plan

-- an operation with this number, and its base
abbrev pub numbered_one : ℕ → RemoteState → Op → Op
numbered_one n remote op = record op { number = n; base = base_of op.effect remote op.id.0 }

-- of a tree that was m and is k: the changes are one more exactly where it differs
pub record CountsChange (m k : Nodes) (before after : ℕ) : Type 0 where
  pub same : k ≡ m → after ≡ before
  pub other : k ≢ m → after ≡ before + 1

-- WHAT THE CLIENT ALONE NOTES takes place at once. Local and Synced get their planned values, and a version of Local that
-- gives way to another of the same content is adopted into that
pub record IsNoted (op : Op) (c : ClientState) (e : Recorded) (d : ClientState) (f : Recorded) : Type 0 where
  pub changes : CountsChange c.local.tree d.local.tree c.changes d.changes
  pub client : d ≡ record c {
    local = local_after op outcome.Ok c.local;
    synced = changed c.synced op.id.0 op.synced;
    changes = d.changes;
    next_op = c.next_op + 1;
  }
  pub recorded : f ≡ with_adoptions op (came.Folder outcome.Ok) e

-- of two identities that become one, the first comes to Local in place of the second, with its children and its key, and
-- the second's version is adopted into the first's where that is another
pub record IsAdopted (op : Op) (c : ClientState) (e : Recorded) (d : ClientState) (f : Recorded) : Type 0 where
  pub tree : ComesFor c.local.tree op.other.0 op.id.0 op.local d.local.tree
  pub client : d ≡ record c {
    local = record { tree = d.local.tree; keys = moved_key c.local.keys op.other.0 op.id.0 (get c.local.keys op.other.0) };
    changes = c.changes + 1;
    next_op = c.next_op + 1;
  }
  pub recorded : f ≡ record e { adoptions = e.adoptions ++ adopted_by (same_hash e.edits) (get c.local.tree op.other.0) op.local }

-- a mend without effect, by its verb
abbrev pub IsMendedAtOnce : Verb → Op → ClientState → Recorded → ClientState → Recorded → Type 0
IsMendedAtOnce verb.Adopt op c e d f = IsAdopted op c e d f
IsMendedAtOnce _ op c e d f = IsNoted op c e d f

-- a split takes the next identity
abbrev pub next_after : Verb → ℕ → ℕ
next_after verb.Split next = next + 1
next_after _ next = next

-- one that is carried out in the folder or at the server flies
pub record MendFlies (op : Op) (p q : Planning) : Type 0 where
  pub client : q.client ≡ after_fly (op ∷ []) p.client
  pub recorded : q.recorded ≡ p.recorded
  pub next_id : q.next_id ≡ next_after op.verb p.next_id

-- a mend, by its effect
abbrev pub MendGoes : Effect → Op → Planning → Planning → Type 0
MendGoes effect.Nothing op p q = IsMendedAtOnce op.verb op p.client p.recorded q.client q.recorded × (q.next_id ≡ p.next_id)
MendGoes effect.Disk op p q = MendFlies op p q
MendGoes effect.Commit op p q = MendFlies op p q

-- A RECORD STEP takes place at once
pub record IsBooked (p : Planning) (shown : Op) (q : Planning) : Type 0 where
  pub op : Op
  pub plan : IsPlanOf p (plan.Booked op)
  pub is : shown ≡ numbered_one p.client.next_op p.client.remote op
  pub noted : IsNoted op p.client p.recorded q.client q.recorded
  pub next_id : q.next_id ≡ p.next_id

-- A BATCH flies
pub record IsLaunched (p : Planning) (shown : List Op) (q : Planning) : Type 0 where
  pub ops : List Op
  pub plan : IsPlanOf p (plan.Batch ops)
  pub is : shown ≡ numbered p.client.next_op p.client.remote ops
  pub client : q.client ≡ after_fly ops p.client
  pub recorded : q.recorded ≡ p.recorded
  pub next_id : q.next_id ≡ p.next_id

-- A MEND
pub record IsMended (p : Planning) (shown : Op) (q : Planning) : Type 0 where
  pub op : Op
  pub plan : IsPlanOf p (plan.Mend op)
  pub is : shown ≡ numbered_one p.client.next_op p.client.remote op
  pub goes : MendGoes op.effect op p q

-- what comes of asking for a plan, by the answer: busy exactly while operations are in flight
abbrev pub PlanAnswers : Planning → Planned → Planning → Type 0
PlanAnswers p answer.Empty q = IsPlanOf p plan.Empty × (q ≡ p)
PlanAnswers p (answer.Booked shown) q = IsBooked p shown q
PlanAnswers p (answer.Batch shown) q = IsLaunched p shown q
PlanAnswers p (answer.Mend shown) q = IsMended p shown q
PlanAnswers p (answer.Busy k) q = (0 < k) × (k ≡ length p.client.flights) × (q ≡ p)

-- what is known of an operation that may take place at once: it may fly, the folder makes nothing new for it, and Local
-- and Synced are as it was planned over
pub record CanNote (c : ClientState) (op : Op) : Type 0 where
  pub may : MayFly op
  pub one : is_split op.verb ≡ false
  pub old : makes_new op ≡ false
  pub local : LocalReady c.local op outcome.Ok
  pub synced : SyncedReady c.synced op

-- what is put can stand in for what stands at y, under another number
abbrev pub MayComeFor : Nodes → ℕ → Change → Type 0
MayComeFor m y Keep = ⊥
MayComeFor m y (Put node) = FitsKind node × StandsIn m y node
MayComeFor m y Cut = ⊥
