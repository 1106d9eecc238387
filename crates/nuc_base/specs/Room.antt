use Rattle.std.specs.Prelude.{ℕ, Option, Some, None}
use Rattle.nuc_base.specs.declared.node.Node.{Node}

-- the spare room that a put may take: one where a node is new, none where one stands there
abbrev pub room_for : Option Node → ℕ
room_for None = 1
room_for (Some n) = 0
