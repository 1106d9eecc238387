-- What lies by, for those who put it.
use Rattle.std.proofs.Common.{◌≡◌, ℕ, Some, sym, ap, subst, ◌∙◌, IsSomeAnd}
use Rattle.std.specs.FinMap.{get, insert}
use Rattle.nuc_base.specs.Legal.{LegalPut}
use Rattle.nuc_base.specs.Trees.{Nodes}
use Rattle.nuc_base.specs.declared.node.Node.{Node}
use Rattle.nuc_base.proofs.Maps.{get_put_same}
use Rattle.nuc_undo.specs.Laid.{Laid, with_node}

-- what was laid by under a number lies there
pub lies_there : (laid after : Laid) (number : ℕ) (n : Node) → after ≡ insert laid number n → get after number ≡ Some n
lies_there laid after number n is = ap (λ l. get l number) is ∙ get_put_same laid number n

-- it may be put where that is legal
pub laid_legal : (laid : Laid) (number : ℕ) (m : Nodes) (x : ℕ) (n : Node) → get laid number ≡ Some n → LegalPut m x n → IsSomeAnd (get laid number) (λ k. LegalPut m x k)
laid_legal laid number m x n at legal = subst (λ o. IsSomeAnd o (λ k. LegalPut m x k)) (sym at) legal

-- and is what is put
pub laid_put : (laid : Laid) (number : ℕ) (m : Nodes) (x : ℕ) (n : Node) → get laid number ≡ Some n → with_node m x (get laid number) ≡ insert m x n
laid_put laid number m x n at = ap (with_node m x) at
