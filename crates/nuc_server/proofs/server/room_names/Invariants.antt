use Rattle.std.proofs.Common.{◌-◌, vec_len}
use Rattle.nuc_server.proofs.server.room_names.Given as goal

abbrev pub decreases-loop-alloc : goal.decreases-loop-alloc
decreases-loop-alloc l = 2 - vec_len l.rooms
