-- A plan with one reply leaves one client, as far as its trees and what flies go.
use Rattle.std.proofs.Common.{◌≡◌, ◌++◌, ℕ, List, [], ◌∷◌, map, refl, sym, ap, subst, ◌∙◌}
use Rattle.nuc_base.specs.Trees.{Nodes}
use Rattle.nuc_base.specs.declared.change.Change.{Change}
use Rattle.nuc_base.specs.declared.change.Change.TheVariants.{Keep, Put, Cut}
use Rattle.nuc_base.proofs.Came.{renamed_unique}
use Rattle.nuc_class.specs.declared.op.Effect.{Effect}
use Rattle.nuc_class.specs.declared.op.Effect.TheVariants as effect
use Rattle.nuc_class.specs.declared.op.Op.{Op}
use Rattle.nuc_class.specs.declared.op.Verb.{Verb}
use Rattle.nuc_class.specs.declared.op.Verb.TheVariants as verb
use Rattle.nuc_conflict.specs.After.{ComesFor}
use Rattle.nuc_edits.specs.Edits.{Recorded}
use Rattle.nuc_flights.specs.Flights.{Flight, as_planned}
use Rattle.nuc_step.specs.Client.{ClientState}
use Rattle.nuc_step.specs.Planning.{IsAdopted, IsBooked, IsLaunched, IsMended, IsMendedAtOnce, IsNoted, MendFlies, MendGoes, PlanAnswers, Planning, numbered_one}
use Rattle.nuc_step.specs.Steps.{numbered}
use Rattle.nuc_step.specs.declared.answers.Planned.{Planned}
use Rattle.nuc_step.specs.declared.answers.Planned.TheVariants as plan
use Rattle.nuc_converge.specs.Alone.{IsIdlePlan}
use Rattle.nuc_converge.proofs.Orders.{EndsAs, all_made, as_same, on_local, on_remote, on_synced}

-- A CLIENT with these flights and trees
record Has (d : ClientState) (fs : List Flight) (r l s : Nodes) : Type 0 where
  flights : d.flights ≡ fs
  remote : d.remote.tree ≡ r
  local : d.local.tree ≡ l
  synced : d.synced ≡ s

made_alike : (make : Op → Nodes → Nodes) (fs gs : List Flight) (m k : Nodes) → fs ≡ gs → m ≡ k → all_made make fs m ≡ all_made make gs k
made_alike make fs gs m k flights trees = ap (λ hs. all_made make hs m) flights ∙ ap (all_made make gs) trees

have_alike : (d e : ClientState) (fs : List Flight) (r l s : Nodes) → Has d fs r l s → Has e fs r l s → EndsAs d e
have_alike d e fs r l s is too =
    let flights : d.flights ≡ e.flights = is.flights ∙ sym too.flights in
    record {
      remote = made_alike on_remote d.flights e.flights d.remote.tree e.remote.tree flights (is.remote ∙ sym too.remote);
      local = made_alike on_local d.flights e.flights d.local.tree e.local.tree flights (is.local ∙ sym too.local);
      synced = made_alike on_synced d.flights e.flights d.synced e.synced flights (is.synced ∙ sym too.synced);
    }

-- WHAT A PLAN LEAVES, by the operations that it shows: the operation took place in Local and Synced, or these fly
abbrev Noted : ClientState → Op → ClientState → Type 0
Noted c op d = Has d c.flights c.remote.tree (on_local op c.local.tree) (on_synced op c.synced)

abbrev Flown : ClientState → List Op → ClientState → Type 0
Flown c ops d = Has d (c.flights ++ map as_planned ops) c.remote.tree c.local.tree c.synced

-- or an adoption made this of Local
record Adopted (c : ClientState) (op : Op) (d : ClientState) : Type 0 where
  local : Nodes
  comes : ComesFor c.local.tree op.other.0 op.id.0 op.local local
  has : Has d c.flights c.remote.tree local c.synced

abbrev AtOnce : Verb → ClientState → Op → ClientState → Type 0
AtOnce verb.Adopt c op d = Adopted c op d
AtOnce _ c op d = Noted c op d

abbrev Mended : Effect → ClientState → Op → ClientState → Type 0
Mended effect.Nothing c op d = AtOnce op.verb c op d
Mended effect.Disk c op d = Flown c (op ∷ []) d
Mended effect.Commit c op d = Flown c (op ∷ []) d

noted_so : (op : Op) (c : ClientState) (e : Recorded) (d : ClientState) (f : Recorded) → IsNoted op c e d f → Noted c op d
noted_so op c e d f is = subst (Noted c op) (sym is.client) (record { flights = refl; remote = refl; local = refl; synced = refl })

adopted_so : (op : Op) (number base : ℕ) (c : ClientState) (e : Recorded) (d : ClientState) (f : Recorded) → IsAdopted op c e d f
    → Adopted c (record op { number = number; base = base }) d
adopted_so op number base c e d f is = record {
  local = d.local.tree;
  comes = is.tree;
  has = subst (λ (b : ClientState). Has b c.flights c.remote.tree d.local.tree c.synced) (sym is.client)
      (record { flights = refl; remote = refl; local = refl; synced = refl });
}

at_once_so : (v : Verb) (op : Op) (number base : ℕ) (c : ClientState) (e : Recorded) (d : ClientState) (f : Recorded) → IsMendedAtOnce v op c e d f
    → AtOnce v c (record op { number = number; base = base }) d
at_once_so verb.Adopt op number base c e d f is = adopted_so op number base c e d f is
at_once_so v op number base c e d f is = noted_so op c e d f is

flown_so : (op : Op) (p q : Planning) → MendFlies op p q → Flown p.client (numbered_one p.client.next_op p.client.remote op ∷ []) q.client
flown_so op p q is =
    subst (Flown p.client (numbered_one p.client.next_op p.client.remote op ∷ [])) (sym is.client)
    (record { flights = refl; remote = refl; local = refl; synced = refl })

mended_so : (x : Effect) (op : Op) (p q : Planning) → MendGoes x op p q → Mended x p.client (numbered_one p.client.next_op p.client.remote op) q.client
mended_so effect.Nothing op p q goes =
    at_once_so op.verb op (numbered_one p.client.next_op p.client.remote op).number (numbered_one p.client.next_op p.client.remote op).base
    p.client p.recorded q.client q.recorded goes.0
mended_so effect.Disk op p q goes = flown_so op p q goes
mended_so effect.Commit op p q goes = flown_so op p q goes

booked_so : (p : Planning) (shown : Op) (q : Planning) → IsBooked p shown q → Noted p.client shown q.client
booked_so p shown q is =
    subst (λ o. Noted p.client o q.client) (sym is.is) (noted_so is.op p.client p.recorded q.client q.recorded is.noted)

launched_so : (p : Planning) (shown : List Op) (q : Planning) → IsLaunched p shown q → Flown p.client shown q.client
launched_so p shown q is =
    subst (λ os. Flown p.client os q.client) (sym is.is)
    (subst (Flown p.client (numbered p.client.next_op p.client.remote is.ops)) (sym is.client)
    (record { flights = refl; remote = refl; local = refl; synced = refl }))

shown_so : (p : Planning) (shown : Op) (q : Planning) → IsMended p shown q → Mended shown.effect p.client shown q.client
shown_so p shown q is =
    subst (λ (o : Op). Mended o.effect p.client o q.client) (sym is.is) (mended_so is.op.effect is.op p q is.goes)

-- IT LEAVES ONE
one_comes_for : (m : Nodes) (y x : ℕ) (c : Change) (k h : Nodes) → ComesFor m y x c k → ComesFor m y x c h → k ≡ h
one_comes_for m y x (Put node) k h is too = renamed_unique m y x node k h is too
one_comes_for m y x Keep k h is too = absurd is
one_comes_for m y x Cut k h is too = absurd is

module _ (c d e : ClientState) where
  noted_alike : (op : Op) → Noted c op d → Noted c op e → EndsAs d e
  noted_alike op is too = have_alike d e c.flights c.remote.tree (on_local op c.local.tree) (on_synced op c.synced) is too

  flown_alike : (ops : List Op) → Flown c ops d → Flown c ops e → EndsAs d e
  flown_alike ops is too = have_alike d e (c.flights ++ map as_planned ops) c.remote.tree c.local.tree c.synced is too

  adopted_alike : (op : Op) → Adopted c op d → Adopted c op e → EndsAs d e
  adopted_alike op is too =
      let one = one_comes_for c.local.tree op.other.0 op.id.0 op.local is.local too.local is.comes too.comes in
      have_alike d e c.flights c.remote.tree too.local c.synced (subst (λ l. Has d c.flights c.remote.tree l c.synced) one is.has) too.has

  at_once_alike : (v : Verb) (op : Op) → AtOnce v c op d → AtOnce v c op e → EndsAs d e
  at_once_alike verb.Adopt op is too = adopted_alike op is too
  at_once_alike v op is too = noted_alike op is too

  mended_alike : (x : Effect) (op : Op) → Mended x c op d → Mended x c op e → EndsAs d e
  mended_alike effect.Nothing op is too = at_once_alike op.verb op is too
  mended_alike effect.Disk op is too = flown_alike (op ∷ []) is too
  mended_alike effect.Commit op is too = flown_alike (op ∷ []) is too

pub plans_alike : (p q k : Planning) (answer : Planned) → IsIdlePlan answer → PlanAnswers p answer q → PlanAnswers p answer k → EndsAs q.client k.client
plans_alike p q k plan.Empty idle is too = as_same q.client k.client (ap (λ (x : Planning). x.client) (too.1 ∙ sym is.1))
plans_alike p q k (plan.Booked shown) idle is too =
    noted_alike p.client q.client k.client shown (booked_so p shown q is) (booked_so p shown k too)
plans_alike p q k (plan.Batch shown) idle is too =
    flown_alike p.client q.client k.client shown (launched_so p shown q is) (launched_so p shown k too)
plans_alike p q k (plan.Mend shown) idle is too =
    mended_alike p.client q.client k.client shown.effect shown (shown_so p shown q is) (shown_so p shown k too)
plans_alike p q k (plan.Busy n) idle is too = absurd idle
