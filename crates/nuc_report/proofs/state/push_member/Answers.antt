use Rattle.std.proofs.Common.{refl}
use Rattle.nuc_report.specs.Seen.{client_seen}
use Rattle.nuc_report.proofs.state.push_member.Goals as goal

pub returns : goal.returns
returns g c =
    let text = rw c.as_slice.ensures at c.in_ok-push_client.ensures in
    (client_seen c.args.number c.args.member.now.client.now _, record { listing = c.in_ok-items.ensures; client = refl }, text)
