use Rattle.std.proofs.Common.{◌≡◌, arith, map, replicate, subst}
use Rattle.nuc_world.specs.Parts.{member_now, member_then}
use Rattle.nuc_world.specs.State.{fresh_member}
use Rattle.nuc_world.proofs.member.new_members.Goals as goal

pub returns-clause-now : goal.returns-clause-now
returns-clause-now g c =
    let all : c.loop.counter ≡ c.args.count = omega (arith, c.loop-test.false, c.loop.auto.counter-end) in
    subst (λ k. map (λ m. member_now m.client m.folder) c.loop.members.items ≡ replicate k fresh_member) all c.loop.invariant.now

pub returns-clause-settled : goal.returns-clause-settled
returns-clause-settled g c =
    let all : c.loop.counter ≡ c.args.count = omega (arith, c.loop-test.false, c.loop.auto.counter-end) in
    subst (λ k. map (λ m. member_then m.client m.folder) c.loop.members.items ≡ replicate k fresh_member) all c.loop.invariant.settled
