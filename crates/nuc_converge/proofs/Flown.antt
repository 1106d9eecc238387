-- Which operation stands under a number, and what its commit would put.
use Rattle.std.specs.Prelude.{Any, Contains}
use Rattle.std.proofs.Common.{◌≡◌, ◌==◌, ℕ, suc, true, false, cond, List, [], ◌∷◌, Option, Some, None, refl, sym, subst, arith}
use Rattle.nuc_base.specs.declared.change.Change.{Change}
use Rattle.nuc_base.specs.declared.change.Change.TheVariants.{Keep, Put, Cut}
use Rattle.nuc_base.specs.declared.node.Kind.{Kind}
use Rattle.nuc_base.specs.declared.node.Node.{Node}
use Rattle.nuc_class.specs.declared.op.Op.{Op}
use Rattle.nuc_flights.specs.Flights.{Flight, Stage, flight_of, planned, started, taken}
use Rattle.nuc_server.specs.WebEdits.{WebState}
use Rattle.nuc_step.specs.Holdings.{OpHolds, Puts}
use Rattle.nuc_step.specs.Holdings.Holds.{flight as in_flight}
use Rattle.nuc_step.specs.Holdings.OpHolds.{remote as puts_remote}
use Rattle.nuc_step.specs.Stages.{if_started, started_of}
use Rattle.nuc_world.specs.Form.{IsKnown, IsMember}
use Rattle.nuc_world.specs.State.{MemberState}
use Rattle.nuc_world.specs.Takes.{committed}

pub record IsFlown (n : ℕ) (fs : List Flight) (op : Op) : Type 0 where
  pub flight : Flight
  pub there : flight_of n fs ≡ Some flight
  pub is : flight.op ≡ op
  pub begun : flight.stage ≡ started

stage_op : (stage : Stage) (op other : Op) → if_started stage op ≡ Some other → (op ≡ other) × (stage ≡ started)
stage_op planned op other is = absurd (let bad : None ≡ Some other = is in cc)
stage_op started op other is = (let same : op ≡ other = cc in same, refl)
stage_op (taken t) op other is = absurd (let bad : None ≡ Some other = is in cc)

pub flown : (n : ℕ) (fs : List Flight) (o : Option Flight) (op : Op) → flight_of n fs ≡ o → started_of o ≡ Some op → IsFlown n fs op
flown n fs None op there is = cc
flown n fs (Some f) op there is = let so = stage_op f.stage f.op op is in record { flight = f; there = there; is = so.0; begun = so.1 }

-- it is one of those that fly
pub flies_at : (n : ℕ) (fs : List Flight) (f : Flight) → flight_of n fs ≡ Some f → Contains fs f
flies_at n [] f there = cc
flies_at n (g ∷ fs) f there = elim (g.op.number == n) as (λ b. cond b (Some g) (flight_of n fs) ≡ Some f → Contains (g ∷ fs) f) [
  | true ↦ λ same. (let it : g ≡ f = cc in (0, omega arith, it))
  | false ↦ λ later. (let (k, below, at) = flies_at n fs f later in (suc k, omega (arith, below), at))
] there

flight_some : (P : Flight → Type 0) (n : ℕ) (fs : List Flight) (f : Flight) → flight_of n fs ≡ Some f → P f → Any P fs
flight_some P n [] f there its = cc
flight_some P n (g ∷ fs) f there its = elim (g.op.number == n) as (λ b. cond b (Some g) (flight_of n fs) ≡ Some f → Any P (g ∷ fs)) [
  | true ↦ λ same. let it : g ≡ f = cc in (0, g, omega arith, refl, subst P (sym it) its)
  | false ↦ λ later. let (k, y, below, at, has) = flight_some P n fs f later its in (suc k, y, omega (arith, below), at, has)
] there

puts_of : (c : Change) (n : Node) → committed c ≡ Some n → Puts n.kind n.ver.0 c
puts_of Keep n is = cc
puts_of (Put h) n is = let same : h ≡ n = cc in subst (λ (g : Node). (h.kind ≡ g.kind) × (h.ver.0 ≡ g.ver.0)) same (refl, refl)
puts_of Cut n is = cc

-- its node is known
pub commit_known : (s : WebState) (kinds : ℕ → Kind) (m : MemberState) → IsMember s kinds m → (n : ℕ) (op : Op) → IsFlown n m.client.flights op
    → (node : Node) → committed op.remote ≡ Some node → IsKnown s kinds op.id.0 node.kind node.ver.0
commit_known s kinds m member n op of node at =
    member.holds op.id.0 node.kind node.ver.0 (in_flight
    (flight_some (λ f. OpHolds op.id.0 node.kind node.ver.0 f.op) n m.client.flights of.flight of.there
    (subst (λ o. OpHolds op.id.0 node.kind node.ver.0 o) (sym of.is) (puts_remote refl (puts_of op.remote node at)))))
