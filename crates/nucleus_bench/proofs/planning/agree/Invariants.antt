use Rattle.std.proofs.Common.{◌≡◌, ◌<◌, ℕ, Some}
use Rattle.std.specs.Prelude.{slice_get}
use Rattle.std.specs.FinMap.{get, keys}
use Rattle.nuc_base.specs.declared.node.Node.{Node}
use Rattle.nucleus_bench.proofs.planning.agree.Given as goal

-- the identities so far have one kind in both
abbrev pub invariant-loop-i : goal.invariant-loop-i
invariant-loop-i g l = (j x : ℕ) (n k : Node) → j < l.i → slice_get (keys (g.T.TreeLike.nodes l.a)) j ≡ Some x → get (g.T.TreeLike.nodes l.a) x ≡ Some n → get (g.T.TreeLike.nodes l.b) x ≡ Some k → n.kind ≡ k.kind
