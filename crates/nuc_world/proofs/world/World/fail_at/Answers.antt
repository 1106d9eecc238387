use Rattle.std.proofs.Common.{◌<◌, ◌∙◌, ap, subst}
use Rattle.std.proofs.lemmas.Result.{on_err_weaker, on_ok_weaker}
use Rattle.nuc_world.specs.Parts.{member_now, member_then, shared_now}
use Rattle.nuc_world.proofs.Keeping.{kept_either}
use Rattle.nuc_world.proofs.Members.{told_now, told_then}
use Rattle.nuc_world.proofs.Seen.{not_err, not_ok, seen_same, seen_told, settled_at, unknown}
use Rattle.nuc_world.proofs.world.World.fail_at.Goals as goal
use Rattle.nuc_world.proofs.world.World.fail_at.Goals.{in-Ok, in-Err}

pub returns-in_default-clause-why : goal.returns-in_default-clause-why
returns-in_default-clause-why g c =
    let members = c.self.inside.members in
    unknown _ members.items c.args.client c.len.result _ _ c.args.self.now c.self.view_is (c.len.ensures ∙ members.ok.0) c.in_default.ensures

pub invariant_of-self : goal.invariant_of-self
invariant_of-self g c =
    let was = c.self.inside in
    let place = c.in-Some in
    let member = c.index_mut-member.result.now in
    let at = c.index_mut-member.ensures.value in
    let below = subst (λ n. place.index < n) (c.len.ensures ∙ was.members.ok.0) place.ensures.1 in
    let settled = settled_at _ _ was.members.items place.index member c.self.invariant.members_settled below at in
    let folder = c.fail_at.new.self in
    kept_either _ _ was.members.items place.index c.args.client member (record { client = member.client; folder = folder }) was.shared was.book
    place.ensures.0 below at c.self.invariant c.fail_at.result c.args.k c.requires
    (on_ok_weaker c.fail_at.result (λ is. (
      told_now member.client member.folder folder c.args.k is,
      told_then member.client member.folder folder c.args.k is settled,
    )) c.fail_at.ensures.ok)
    (on_err_weaker c.fail_at.result (λ is. (ap (λ x. member_now member.client x) is, ap (λ x. member_then member.client x) is)) c.fail_at.ensures.err)

pub returns-clause-ok : goal.returns-clause-ok
returns-clause-ok g c =
    let was = c.self.inside in
    let place = c.in-Some in
    let member = c.index_mut-member.result.now in
    let folder = c.fail_at.new.self in
    let below = subst (λ n. place.index < n) (c.len.ensures ∙ was.members.ok.0) place.ensures.1 in
    elim c.match-fail_at.branch [
      | in-Ok w ↦ seen_told _ _ was.members.items place.index c.args.client member (record { client = member.client; folder = folder }) was.shared was.book
          c.args.self.now c.self.view_is place.ensures.0 below c.index_mut-member.ensures.value c.self.invariant c.match-fail_at.result c.args.k
          (told_now member.client member.folder folder c.args.k w.in-Ok.ensures.ok)
      | in-Err w ↦ not_ok c.match-fail_at.result _ _ w.result-is
    ]

pub returns-clause-err : goal.returns-clause-err
returns-clause-err g c =
    let was = c.self.inside in
    let place = c.in-Some in
    let member = c.index_mut-member.result.now in
    let folder = c.fail_at.new.self in
    elim c.match-fail_at.branch [
      | in-Ok w ↦ not_err c.match-fail_at.result _ _ w.result-is
      | in-Err w ↦ seen_same _ was.members.items place.index member (record { client = member.client; folder = folder }) (shared_now was.shared) was.book
          c.args.self.now c.self.view_is c.index_mut-member.ensures.value c.match-fail_at.result (ap (λ x. member_now member.client x) w.in-Err.ensures.err)
    ]
