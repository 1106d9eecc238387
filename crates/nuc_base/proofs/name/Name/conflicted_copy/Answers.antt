use Rattle.std.proofs.Common.{subst, arith, sym}
use Rattle.nuc_base.specs.Names.{IsName}
use Rattle.nuc_base.proofs.Candidates.{candidate-is_name}
use Rattle.nuc_base.proofs.name.Name.conflicted_copy.Goals as goal

pub invariant_of-result : goal.invariant_of-result
invariant_of-result c =
    let named = candidate-is_name c.args.self.now c.args.number c.bytes.ensures.name (omega arith) in
    subst IsName (sym c.in_ok-bytes.ensures) (rw c.bytes.ensures.value named)
