-- The names of a client after a plan.
use Rattle.std.proofs.Common.{◌≡◌, ◌<◌, ◌≤◌, ◌+◌, ◌^◌, ℕ, List, [], ◌∷◌, sym, subst, arith}
use Rattle.nuc_class.specs.Due.{IsDue}
use Rattle.nuc_class.specs.declared.op.Effect.{Effect}
use Rattle.nuc_class.specs.declared.op.Effect.TheVariants as effect
use Rattle.nuc_class.specs.declared.op.Op.{Op}
use Rattle.nuc_class.specs.declared.op.Verb.{Verb}
use Rattle.nuc_class.specs.declared.op.Verb.TheVariants as verb
use Rattle.nuc_edits.specs.Edits.{Recorded, same_hash}
use Rattle.nuc_flights.specs.declared.taken.Taken.TheVariants as came
use Rattle.nuc_folder.specs.declared.outcome.Outcome.TheVariants as outcome
use Rattle.nuc_plan.proofs.Cases.{each_is_due}
use Rattle.nuc_step.specs.Client.{ClientState}
use Rattle.nuc_step.specs.Planning.{CanPlan, IsAdopted, IsBooked, IsLaunched, IsMended, IsMendedAtOnce, IsNoted, MendFlies, MendGoes, PlanAnswers, Planning, next_after}
use Rattle.nuc_step.specs.Steps.{landed}
use Rattle.nuc_step.specs.declared.answers.Planned.{Planned}
use Rattle.nuc_step.specs.declared.answers.Planned.TheVariants as answer
use Rattle.nuc_fit.proofs.NamesClient.{fly_named, landed_named}
use Rattle.nuc_fit.proofs.NamesForm.{NamedClient, NamedOp}
use Rattle.nuc_fit.proofs.NamesLists.{all_front, all_none}
use Rattle.nuc_fit.proofs.NamesOps.{mend_named, operation_named}
use Rattle.nuc_fit.proofs.NamesTrees.{comes_named, value_named}

-- and at most one identity more is given
pub record PlansNamed (p q : Planning) : Type 0 where
  pub client : NamedClient q.client
  pub next : q.next_id ≤ p.next_id + 1

-- the same client with other counts
recounted : (c : ClientState) (changes next : ℕ) → NamedClient c → NamedClient (record c { changes = changes; next_op = next })
recounted c changes next named = record { remote = named.remote; local = named.local; synced = named.synced; flights = named.flights }

noted_named : (op : Op) (c d : ClientState) (e f : Recorded) → NamedOp op → NamedClient c → IsNoted op c e d f → NamedClient d
noted_named op c d e f its named is = subst NamedClient (sym is.client)
    (recounted (landed op (came.Folder outcome.Ok) c) d.changes (c.next_op + 1) (landed_named op (came.Folder outcome.Ok) c its named))

adopted_named : (op : Op) (c d : ClientState) (e f : Recorded) → NamedOp op → NamedClient c → IsAdopted op c e d f → NamedClient d
adopted_named op c d e f its named is = subst NamedClient (sym is.client) (record {
  remote = named.remote;
  local = comes_named c.local.tree op.other.0 op.id.0 op.local d.local.tree its.local named.local is.tree;
  synced = named.synced;
  flights = named.flights;
})

mended_named : (v : Verb) (op : Op) (c d : ClientState) (e f : Recorded) → NamedOp op → NamedClient c → IsMendedAtOnce v op c e d f → NamedClient d
mended_named verb.Adopt op c d e f its named is = adopted_named op c d e f its named is
mended_named verb.Split op c d e f its named is = noted_named op c d e f its named is
mended_named verb.Evict op c d e f its named is = noted_named op c d e f its named is
mended_named verb.Revive op c d e f its named is = noted_named op c d e f its named is
mended_named verb.Unmove op c d e f its named is = noted_named op c d e f its named is
mended_named verb.Down op c d e f its named is = noted_named op c d e f its named is
mended_named verb.Up op c d e f its named is = noted_named op c d e f its named is
mended_named verb.CutDown op c d e f its named is = noted_named op c d e f its named is
mended_named verb.CutUp op c d e f its named is = noted_named op c d e f its named is
mended_named verb.Forget op c d e f its named is = noted_named op c d e f its named is

next_low : (v : Verb) (next : ℕ) → next_after v next ≤ next + 1
next_low verb.Adopt next = omega arith
next_low verb.Split next = omega arith
next_low verb.Evict next = omega arith
next_low verb.Revive next = omega arith
next_low verb.Unmove next = omega arith
next_low verb.Down next = omega arith
next_low verb.Up next = omega arith
next_low verb.CutDown next = omega arith
next_low verb.CutUp next = omega arith
next_low verb.Forget next = omega arith

module _ (p q : Planning) (named : NamedClient p.client) where
  same_low : q.next_id ≡ p.next_id → q.next_id ≤ p.next_id + 1
  same_low same = omega (arith, same)

  due_named : (x : ℕ) (op : Op) → IsDue (same_hash p.recorded.edits) p.client.remote.tree p.client.local.tree p.client.synced x op → NamedOp op
  due_named x op due = operation_named (same_hash p.recorded.edits) due.wish x _ _ _ op due.planned
      (value_named p.client.remote.tree named.remote.tree x) (value_named p.client.local.tree named.local x)

  stays : q ≡ p → PlansNamed p q
  stays same = subst (λ (z : Planning). PlansNamed p z) (sym same) (record { client = named; next = omega arith })

  booked : (shown : Op) → IsBooked p shown q → PlansNamed p q
  booked shown is = record {
    client = noted_named is.op p.client q.client p.recorded q.recorded (due_named is.op.id.0 is.op is.plan.1.step.due) named is.noted;
    next = same_low is.next_id;
  }

  launched : (shown : List Op) → IsLaunched p shown q → PlansNamed p q
  launched shown is =
      let due = (each_is_due (same_hash p.recorded.edits) p.client.remote.tree p.client.local.tree p.client.synced p.next_id is.ops is.plan.1).0 in
      record {
        client = subst NamedClient (sym is.client) (fly_named p.client named is.ops (λ k d below. due_named _ _ (due k d below).due));
        next = same_low is.next_id;
      }

  module _ (can : CanPlan p.client p.next_id) (few : p.next_id + (p.next_id + p.next_id) + 1 < 2 ^ 64) where
    flies : (op : Op) → NamedOp op → MendFlies op p q → PlansNamed p q
    flies op its is = record {
      client = subst NamedClient (sym is.client) (fly_named p.client named (op ∷ []) (all_front NamedOp op [] its (all_none NamedOp)));
      next = let low = next_low op.verb p.next_id in let next = is.next_id in omega (arith, low, next);
    }

    goes : (e : Effect) (op : Op) → NamedOp op → MendGoes e op p q → PlansNamed p q
    goes effect.Nothing op its (at_once, next) = record {
      client = mended_named op.verb op p.client q.client p.recorded q.recorded its named at_once;
      next = same_low next;
    }
    goes effect.Disk op its is = flies op its is
    goes effect.Commit op its is = flies op its is

    mended : (shown : Op) → IsMended p shown q → PlansNamed p q
    mended shown is = goes is.op.effect is.op
        (mend_named (same_hash p.recorded.edits) p.client.remote.tree p.client.local.tree p.client.synced p.next_id named.remote.tree named.local
        named.synced can few is.op is.plan.1.mend) is.goes

    pub plan_named : (planned : Planned) → PlanAnswers p planned q → PlansNamed p q
    plan_named answer.Empty is = stays is.1
    plan_named (answer.Busy k) is = stays is.2
    plan_named (answer.Booked shown) is = booked shown is
    plan_named (answer.Batch shown) is = launched shown is
    plan_named (answer.Mend shown) is = mended shown is
