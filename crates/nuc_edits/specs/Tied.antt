-- How what is kept for look-ups agrees with the recorded edits and adoptions.
use Rattle.std.specs.Prelude.{◌≡◌, ℕ, ◌≤◌, List, [], ◌∷◌, length, take}
use Rattle.std.specs.Map.{values_of}
use Rattle.nuc_edits.specs.Edits.{is_base, is_adopted}
use Rattle.nuc_edits.specs.Marks.{MarksState, is_marked}
use Rattle.nuc_edits.specs.declared.edit.Adoption.{Adoption}
use Rattle.nuc_edits.specs.declared.edit.Edit.{Edit}

-- each edit stands at its version
abbrev pub AreKeyed : List (ℕ × Edit) → Type 0
AreKeyed [] = Unit {0}
AreKeyed (e ∷ es) = (e.0 ≡ e.1.ver.0) × AreKeyed es

-- exactly the bases of these edits are marked
abbrev pub MarksBases : List ℕ → List Edit → Type 0
MarksBases marked edits = (v : ℕ) → is_marked marked v ≡ is_base edits v

-- exactly the versions that were adopted into others are marked
abbrev pub MarksAdopted : List ℕ → List Adoption → Type 0
MarksAdopted marked adoptions = (v : ℕ) → is_marked marked v ≡ is_adopted adoptions v

-- of the entries and adoptions, the first so many of each were there when they were last settled
pub record AreTied (entries : List (ℕ × Edit)) (adoptions : List Adoption) (bases adopted : MarksState) (settled_edits settled_adoptions : ℕ) : Type 0 where
  pub keyed : AreKeyed entries
  pub edits_within : settled_edits ≤ length entries
  pub adoptions_within : settled_adoptions ≤ length adoptions
  pub bases_now : MarksBases bases.now (values_of entries)
  pub bases_settled : MarksBases bases.settled (take settled_edits (values_of entries))
  pub adopted_now : MarksAdopted adopted.now adoptions
  pub adopted_settled : MarksAdopted adopted.settled (take settled_adoptions adoptions)
