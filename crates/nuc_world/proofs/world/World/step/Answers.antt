use Rattle.std.proofs.Common.{◌<◌, refl, sym, ◌∙◌, subst}
use Rattle.nuc_world.specs.Parts.{shared_now}
use Rattle.nuc_world.proofs.Keeping.{kept_shared, kept_turn}
use Rattle.nuc_world.proofs.Members.{member_at, ready}
use Rattle.nuc_world.proofs.Reached.{reached_world}
use Rattle.nuc_world.proofs.Seen.{seen_shared_steps, seen_shared_stops, seen_steps, seen_stops, settled_at, unknown}
use Rattle.nuc_world.proofs.Worlds.{is_of_none}
use Rattle.nuc_world.proofs.world.World.step.Goals as goal

pub step_shared-requires-clause-versions : goal.step_shared-requires-clause-versions
step_shared-requires-clause-versions g c = (reached_world _ _ c.self.invariant.reached).shared.next_ver

pub step_shared-requires-clause-identities : goal.step_shared-requires-clause-identities
step_shared-requires-clause-identities g c = (reached_world _ _ c.self.invariant.reached).shared.next_id

pub invariant_of-self : goal.invariant_of-self
invariant_of-self g c =
    let now = c.step_shared.new in
    kept_shared _ _ c.self.inside.shared now.shared c.args.event c.self.inside.book now.book c.self.invariant (sym c.client_of.ensures ∙ c.in_default.is)
    c.step_shared.ensures.settled c.step_shared.result c.step_shared.ensures.ok c.step_shared.ensures.err

pub returns-in_default-clause-ok : goal.returns-in_default-clause-ok
returns-in_default-clause-ok g c =
    let was = c.self.inside in
    let now = c.step_shared.new in
    seen_shared_steps (shared_now was.shared) (shared_now now.shared) _ c.args.event was.book now.book c.args.self.now c.self.view_is
    c.step_shared.result c.step_shared.ensures.ok

pub returns-in_default-clause-err : goal.returns-in_default-clause-err
returns-in_default-clause-err g c =
    let was = c.self.inside in
    let now = c.step_shared.new in
    seen_shared_stops (shared_now was.shared) (shared_now now.shared) _ c.args.event was.book now.book c.args.self.now c.self.view_is
    c.step_shared.result (sym c.client_of.ensures ∙ c.in_default.is) c.step_shared.ensures.err

pub returns-in_default-index_of-clause-err : goal.returns-in_default-index_of-clause-err
returns-in_default-index_of-clause-err g c = (
  is_of_none c.args.event c.in-Some.client c.args.self.now.now (sym c.client_of.ensures ∙ c.in-Some.is)
      (unknown _ c.self.inside.members.items c.in-Some.client c.len.result _ _ c.args.self.now c.self.view_is (c.len.ensures ∙ c.self.inside.members.ok.0) c.in_default-index_of.ensures),
  refl,
)

pub step_member-requires-clause-ready : goal.step_member-requires-clause-ready
step_member-requires-clause-ready g c =
    let place = c.in-Some-index_of in
    let below = subst (λ n. place.index < n) (c.len.ensures ∙ c.self.inside.members.ok.0) place.ensures.1 in
    ready _ _ c.in-Some.client _ c.self.invariant.reached
    (member_at _ c.self.inside.members.items place.index c.in-Some.client c.index_mut-member.result.now place.ensures.0 below
    c.index_mut-member.ensures.value)

pub step_member-requires-clause-settled : goal.step_member-requires-clause-settled
step_member-requires-clause-settled g c =
    let place = c.in-Some-index_of in
    let below = subst (λ n. place.index < n) (c.len.ensures ∙ c.self.inside.members.ok.0) place.ensures.1 in
    settled_at _ _ c.self.inside.members.items place.index c.index_mut-member.result.now c.self.invariant.members_settled below
    c.index_mut-member.ensures.value

pub invariant_of-self-2 : goal.invariant_of-self-2
invariant_of-self-2 g c =
    let place = c.in-Some-index_of in
    let below = subst (λ n. place.index < n) (c.len.ensures ∙ c.self.inside.members.ok.0) place.ensures.1 in
    let was = c.self.inside in
    let now = c.step_member.new in
    kept_turn _ _ was.members.items place.index c.in-Some.client c.index_mut-member.result.now now.member was.shared now.shared c.args.event
    was.book now.book place.ensures.0 below c.index_mut-member.ensures.value c.self.invariant (sym c.client_of.ensures ∙ c.in-Some.is)
    c.step_member.ensures.shared_settled c.step_member.ensures.settled c.step_member.result c.step_member.ensures.ok c.step_member.ensures.err

pub returns-clause-ok : goal.returns-clause-ok
returns-clause-ok g c =
    let place = c.in-Some-index_of in
    let below = subst (λ n. place.index < n) (c.len.ensures ∙ c.self.inside.members.ok.0) place.ensures.1 in
    let was = c.self.inside in
    let now = c.step_member.new in
    seen_steps _ was.members.items place.index c.in-Some.client c.index_mut-member.result.now now.member (shared_now was.shared)
    (shared_now now.shared) c.args.event was.book now.book c.args.self.now c.self.view_is (sym c.client_of.ensures ∙ c.in-Some.is) place.ensures.0 below
    c.index_mut-member.ensures.value c.step_member.result c.step_member.ensures.ok

pub returns-clause-err : goal.returns-clause-err
returns-clause-err g c =
    let place = c.in-Some-index_of in
    let below = subst (λ n. place.index < n) (c.len.ensures ∙ c.self.inside.members.ok.0) place.ensures.1 in
    let was = c.self.inside in
    let now = c.step_member.new in
    seen_stops _ was.members.items place.index c.in-Some.client c.index_mut-member.result.now now.member (shared_now was.shared)
    (shared_now now.shared) c.args.event was.book now.book c.args.self.now c.self.view_is (sym c.client_of.ensures ∙ c.in-Some.is) place.ensures.0 below
    c.index_mut-member.ensures.value c.step_member.result c.step_member.ensures.err
