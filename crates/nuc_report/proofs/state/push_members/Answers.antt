use Rattle.std.proofs.Common.{◌≡◌, [], sym, length, arith}
use Rattle.std.proofs.lemmas.List.{append-nil}
use Rattle.nuc_report.proofs.SeenClients.{all_walked, walked_on}
use Rattle.nuc_report.proofs.state.push_members.Goals as goal

pub loop-i-init : goal.loop-i-init
loop-i-init g c = ([], tt, sym (append-nil _))

pub loop-i-preserved : goal.loop-i-preserved
loop-i-preserved g c =
    walked_on c.args.members.now c.loop-i.i _ _ _ _ _ (omega arith) c.index-members-i.is (omega arith) c.loop-i.invariant c.in_ok-push_member.ensures

pub returns : goal.returns
returns g c =
    let all : c.loop-i.i ≡ length c.args.members.now = omega arith in
    all_walked c.args.members.now c.loop-i.i _ _ all c.loop-i.invariant
