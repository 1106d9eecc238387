-- A legal change has no fault but want of memory.
use Rattle.std.proofs.Common.{◌≡◌, refl}
use Rattle.nuc_base.specs.Faults.{PutFaulty, CutFaulty}
use Rattle.nuc_base.specs.Legal.{LegalPut, LegalCut}
use Rattle.nuc_base.specs.Trees.{Nodes}
use Rattle.std.specs.Prelude.{ℕ}
use Rattle.nuc_base.specs.declared.node.Node.{Node}
use Rattle.nuc_base.specs.declared.tree_fault.CutFault.{CutFault}
use Rattle.nuc_base.specs.declared.tree_fault.CutFault.TheVariants as cut
use Rattle.nuc_base.specs.declared.tree_fault.PutFault.{PutFault}
use Rattle.nuc_base.specs.declared.tree_fault.PutFault.TheVariants as put
use Rattle.nuc_base.proofs.Maps.{not_both}

pub legal_put-fault : (m : Nodes) (x : ℕ) (node : Node) (e : PutFault) → LegalPut m x node → PutFaulty m x node e → e ≡ put.Memory
legal_put-fault m x node put.KindChanged legal fault = absurd (fault legal.kind)
legal_put-fault m x node put.NoParent legal (kind, no_parent) = absurd (no_parent legal.parent)
legal_put-fault m x node (put.Taken y) legal (kind, parent, apart, (n, e, s)) = absurd (apart (legal.free y.0 n e s))
legal_put-fault m x node put.Cycle legal (kind, parent, free, cycle) = absurd (legal.no_cycle cycle)
legal_put-fault m x node put.Memory legal fault = refl

pub legal_cut-fault : (m : Nodes) (x : ℕ) (e : CutFault) → LegalCut m x → CutFaulty m x e → ⊥
legal_cut-fault m x cut.Absent legal absent = not_both m x legal.there.0 absent legal.there.1
legal_cut-fault m x cut.NotEmpty legal (there, (y, n, e, s)) = legal.empty y n e s
