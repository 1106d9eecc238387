use Rattle.std.proofs.Common.{Some, arith}
use Rattle.nuc_lookup.proofs.Undoing.{one_more}
use Rattle.nuc_lookup.proofs.tests.put_in_room.Goals as goal

pub put-requires : goal.put-requires
put-requires g c = omega (arith, one_more c.args.lookup.now.numbers c.args.from (Some c.args.to), c.len.ensures, c.room.ensures)
