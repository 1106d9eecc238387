use Rattle.std.proofs.Common.{◌+◌, ◌≤◌, ℕ}
use Rattle.nuc_base.specs.Trees.{IsUnder, Steps}
use Rattle.nuc_base.proofs.tree.TreeLike.under.Given as goal

abbrev pub invariant-loop : goal.invariant-loop
invariant-loop g l = record {
  back : IsUnder (g.Self.TreeLike.nodes l.self) l.at.0 l.b.0 → IsUnder (g.Self.TreeLike.nodes l.self) l.fn.a.0 l.b.0;
  on : IsUnder (g.Self.TreeLike.nodes l.self) l.fn.a.0 l.b.0 → (k : ℕ) × Steps (g.Self.TreeLike.nodes l.self) l.b.0 l.at.0 k × (k + l.counter ≤ l.end);
}
