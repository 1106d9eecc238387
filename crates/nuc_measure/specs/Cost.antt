-- What the three values of an identity cost: about how many operations they are from being equal.
use Rattle.std.specs.Prelude.{ℕ, Bool, Option, None, Some, if◌then◌else◌}
use Rattle.nuc_base.specs.declared.node.Node.{Node}
use Rattle.nuc_class.specs.Equal.{node_eq, value_eq}
use Rattle.nuc_class.specs.Merge.{target}
use Rattle.nuc_class.specs.Split.{needs_split}

-- nothing where all three are equal; 3 where a split is needed; 2 where a Down would leave Local other than Remote, since
-- an Up has to follow; else 1
abbrev pub cost : (ℕ → ℕ → Bool) → Option Node → Option Node → Option Node → ℕ
cost same None None None = 0
cost same None None (Some s) = 1
cost same None (Some l) s = 1
cost same (Some r) None s = 1
cost same (Some r) (Some l) s =
    if needs_split same (Some r) (Some l) s then 3
    else if value_eq (Some r) s then (if node_eq l r then 0 else 1)
    else if node_eq (target r (Some l) s) r then 1
    else 2
