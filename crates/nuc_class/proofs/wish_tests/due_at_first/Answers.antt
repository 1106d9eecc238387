use Rattle.std.proofs.Common.{◌≡◌, subst, sym}
use Rattle.std.specs.FinMap as map
use Rattle.std.specs.Ordering.{nat_cmp}
use Rattle.nuc_base.specs.Trees.{Nodes, OneKind}
use Rattle.nuc_base.proofs.Maps.{not_both}
use Rattle.nuc_class.proofs.wish_tests.due_at_first.Goals as goal

kinds_of_empty : (m k : Nodes) → m ≡ map.empty → OneKind m k
kinds_of_empty m k none =
    subst (λ (t : Nodes). OneKind t k) (sym none) (λ x n h e f. absurd (not_both map.empty x n (map.get-empty nat_cmp x) e))

pub due-requires-clause-kinds : goal.due-requires-clause-kinds
due-requires-clause-kinds g c = kinds_of_empty _ _ c.new-r.ensures.empty
