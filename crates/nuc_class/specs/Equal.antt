-- Whether two places, two nodes or two values are equal, byte for byte, as tests.
use Rattle.std.specs.Prelude.{◌==◌, ◌&&◌, Bool, true, false, Option, None, Some}
use Rattle.std.specs.Bool.{beq}
use Rattle.std.specs.Str.{bytes_eq}
use Rattle.nuc_base.specs.Codes.{is_file}
use Rattle.nuc_base.specs.declared.node.Node.{Node}
use Rattle.nuc_base.specs.declared.node.Place.{Place}

abbrev pub place_eq : Place → Place → Bool
place_eq p q = p.parent.0 == q.parent.0 && bytes_eq p.name q.name

abbrev pub node_eq : Node → Node → Bool
node_eq n k = place_eq n.place k.place && beq (is_file n.kind) (is_file k.kind) && n.ver.0 == k.ver.0 && beq n.bit k.bit

-- of what may be absent
abbrev pub value_eq : Option Node → Option Node → Bool
value_eq None None = true
value_eq None (Some k) = false
value_eq (Some n) None = false
value_eq (Some n) (Some k) = node_eq n k
