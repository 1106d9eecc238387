use Rattle.std.specs.Prelude.{◌≡◌, ℕ, ◌<◌, Bool, true, false, nat_eq, List, All, Option, None, Some, IsSome}
use Rattle.std.specs.List.{find, list_any}
use Rattle.std.specs.Option.{option_and_then}
use Rattle.std.specs.Str.{bytes_eq}
use Rattle.nuc_base.specs.declared.node.Ver.{Ver}
use Rattle.nuc_hash.specs.Content.{ContentData}
use Rattle.nuc_edits.specs.declared.adopt_fault.AdoptFault.{AdoptFault}
use Rattle.nuc_edits.specs.declared.adopt_fault.AdoptFault.TheVariants.{HashesDiffer, Memory}
use Rattle.nuc_edits.specs.declared.edit.Adoption.{Adoption}
use Rattle.nuc_edits.specs.declared.edit.Edit.{Edit}
use Rattle.nuc_edits.specs.declared.edit.EditKind.{EditKind}
use Rattle.nuc_edits.specs.declared.edit.EditKind.TheVariants.{Put, Deleted}

-- what was recorded, each list in the order of entering
pub record Recorded : Type 0 where
  pub edits : List Edit
  pub adoptions : List Adoption

-- what is recorded now and what was when it was last settled, and how many adoptions need no memory
pub record EditsState : Type 0 where
  pub now : Recorded
  pub settled : Recorded
  pub spare : ℕ

-- the version that the next edit gets: not 0, which is no version, and above that of each edit
pub record IsNext (next : ℕ) (edits : List Edit) : Type 0 where
  pub some : 0 < next
  pub above : All (λ edit. edit.ver.0 < next) edits

abbrev pub content_put : EditKind → Option ContentData
content_put (Put content) = Some content
content_put Deleted = None

-- the edit of the version
abbrev pub edit_of : List Edit → ℕ → Option Edit
edit_of edits v = find (λ edit. nat_eq v edit.ver.0) edits

-- the content of the version, where an edit put one
abbrev pub content_at : List Edit → ℕ → Option ContentData
content_at edits v = option_and_then (λ edit. content_put edit.what) (edit_of edits v)

abbrev pub WasPut : List Edit → ℕ → Type 0
WasPut edits v = IsSome (content_at edits v)

abbrev pub both_same : Option ContentData → Option ContentData → Bool
both_same (Some a) (Some b) = bytes_eq a.hash.0 b.hash.0
both_same (Some a) None = false
both_same None b = false

-- both versions were put, with equal hashes
abbrev pub same_hash : List Edit → ℕ → ℕ → Bool
same_hash edits a b = both_same (content_at edits a) (content_at edits b)

-- an edit replaces the version
abbrev pub is_base : List Edit → ℕ → Bool
is_base edits v = list_any (λ edit. nat_eq v edit.base.0) edits

-- the version was adopted into another
abbrev pub is_adopted : List Adoption → ℕ → Bool
is_adopted adoptions v = list_any (λ adoption. nat_eq v adoption.old.0) adoptions

-- why the adoption is refused
abbrev pub AdoptFaulty : List Edit → Ver → Ver → AdoptFault → Type 0
AdoptFaulty edits old into (HashesDiffer a b) = (a ≡ old) × (b ≡ into) × (same_hash edits old.0 into.0 ≡ false)
AdoptFaulty edits old into Memory = same_hash edits old.0 into.0 ≡ true
