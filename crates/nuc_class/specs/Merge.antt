-- What a Down brings to Local: Remote's changes since Synced, made to what Local has.
use Rattle.std.specs.Prelude.{◌==◌, Option, None, Some, if◌then◌else◌}
use Rattle.std.specs.Bool.{beq}
use Rattle.nuc_base.specs.declared.node.Node.{Node}
use Rattle.nuc_class.specs.Equal.{place_eq}

-- Remote's node where Local or Synced has none; else its place, version and bit are each Remote's where that isn't
-- Synced's, and else Local's
abbrev pub target : Node → Option Node → Option Node → Node
target r None s = r
target r (Some l) None = r
target r (Some l) (Some s) = record {
  place = if place_eq r.place s.place then l.place else r.place;
  kind = r.kind;
  ver = if r.ver.0 == s.ver.0 then l.ver else r.ver;
  bit = if beq r.bit s.bit then l.bit else r.bit;
}
