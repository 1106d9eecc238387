-- A name has none of the faults of names.
use Rattle.std.proofs.Common.{◌≢◌, ℕ, List, refl, inl, inr, arith}
use Rattle.nuc_base.specs.Names.{IsName}
use Rattle.nuc_base.specs.NameFaults.{NameFaulty}
use Rattle.nuc_base.specs.declared.name_fault.NameFault.{NameFault}
use Rattle.nuc_base.specs.declared.name_fault.NameFault.TheVariants as fault
use Rattle.nuc_base.proofs.Names.{name-good_len}

pub no_fault : (bytes : List ℕ) → IsName bytes → (e : NameFault) → e ≢ fault.Memory → ¬ (NameFaulty bytes e)
no_fault bytes name fault.Empty other faulty = omega (arith, name.some, faulty)
no_fault bytes name (fault.TooLong len) other faulty = omega (arith, name.short, faulty.0, faulty.1)
no_fault bytes name (fault.BadByte at) other faulty = omega (arith, name-good_len bytes name, faulty.1, faulty.2)
no_fault bytes name fault.Dots other faulty = elim faulty [ inl dot ↦ name.not_dot dot | inr dots ↦ name.not_dots dots ]
no_fault bytes name fault.Memory other faulty = other refl
