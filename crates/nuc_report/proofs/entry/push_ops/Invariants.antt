use Rattle.std.proofs.Common.{◌≡◌, ◌++◌, take}
use Rattle.std.specs.String.{string_bytes}
use Rattle.std.specs.List.{flat_map}
use Rattle.nuc_report.specs.Entry.{op_line}
use Rattle.nuc_report.proofs.entry.push_ops.Given as goal

abbrev pub invariant-loop-op : goal.invariant-loop-op
invariant-loop-op l = string_bytes l.text ≡ string_bytes l.initial.text ++ flat_map op_line (take l.op-index l.ops)
