use Rattle.std.proofs.Common.{◌≡◌, map, replicate}
use Rattle.nuc_world.specs.Parts.{member_now, member_then}
use Rattle.nuc_world.specs.State.{fresh_member}
use Rattle.nuc_world.proofs.member.new_members.Given as goal

abbrev pub invariant-loop : goal.invariant-loop
invariant-loop g l = record {
  now : map (λ m. member_now m.client m.folder) l.members.items ≡ replicate l.counter fresh_member;
  settled : map (λ m. member_then m.client m.folder) l.members.items ≡ replicate l.counter fresh_member;
}
