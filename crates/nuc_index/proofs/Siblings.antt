-- What the list of identities in order of parent and identity says of the tree that it is for.
use Rattle.std.proofs.Common.{◌≡◌, ◌≤◌, ℕ, List, Some, refl, sym, ap, ap₂, subst, ◌∙◌, inl, inr}
use Rattle.std.specs.Prelude.{slice_get}
use Rattle.std.specs.Cmp.{IsTotalOrder}
use Rattle.std.specs.FinMap.{get}
use Rattle.std.specs.FinMap as map
use Rattle.std.specs.List.{insert, remove}
use Rattle.std.specs.Ordering.{nat_cmp, ordering_index, ordering_then}
use Rattle.std.specs.declared.cmp.Ordering.{Ordering}
use Rattle.std.specs.declared.cmp.Ordering.TheVariants.{Less, Equal, Greater}
use Rattle.std.proofs.lemmas.Cmp.{nat_cmp_total, then_total, on_total, tied_itself, ranked}
use Rattle.nuc_base.specs.Trees.{Nodes}
use Rattle.nuc_base.specs.declared.node.Node.{Node}
use Rattle.nuc_base.proofs.Maps.{same_or_not, one_node, get_put_same, get_put_other, get_cut_other, after_put, after_cut}
use Rattle.nuc_index.specs.Rows.{IsIn, Holds}
use Rattle.nuc_index.specs.Siblings.{sibling_order, IsRisingByParent, IsRowAt, IsRowGap, IsRow}
use Rattle.nuc_index.specs.declared.sibling.Sibling.{Sibling}
use Rattle.nuc_index.proofs.Rows.{at_in, found, out_of_gap, rises_insert, rises_remove, holds_insert, holds_remove}
use Rattle.nuc_index.proofs.Search.{index_rises, turned}

pub sibling_total : IsTotalOrder sibling_order
sibling_total = then_total (on_total (λ (r : Sibling). r.parent.0) nat_cmp_total) (on_total (λ (r : Sibling). r.id.0) nat_cmp_total)

pub to_rises : (t r s : Sibling) → sibling_order r s ≡ Less → ordering_index (sibling_order r t) ≤ ordering_index (sibling_order s t)
to_rises t r s less = index_rises sibling_total r s t less

abbrev pub row_of : ℕ → ℕ → Sibling
row_of p x = record { parent = record { 0 = p }; id = record { 0 = x } }

same_row : (r s : Sibling) → r.parent.0 ≡ s.parent.0 → r.id.0 ≡ s.id.0 → r ≡ s
same_row r s p x = ap₂ row_of p x

one_row : (a b : Ordering) (r s : Sibling) → a ≡ nat_cmp r.parent.0 s.parent.0 → b ≡ nat_cmp r.id.0 s.id.0 → ordering_then a b ≡ Equal → r ≡ s
one_row Less b r s p q e = absurd (let f : Less ≡ Equal = e in cc)
one_row Equal b r s p q e = same_row r s (ranked _ _ Equal p) (ranked _ _ Equal (sym e ∙ q))
one_row Greater b r s p q e = absurd (let f : Greater ≡ Equal = e in cc)

pub tied_row : (r s : Sibling) → sibling_order r s ≡ Equal → r ≡ s
tied_row r s e = one_row _ _ r s refl refl e

module _ (rs : List Sibling) (rise : IsRisingByParent rs) where
  -- a search for a row finds it
  pub row_at : (r : Sibling) (i : ℕ) → IsRowAt r rs i → slice_get rs i ≡ Some r
  row_at r i at = let s = found (λ s. sibling_order s r) rs i at in s.1 ∙ ap Some (tied_row s.0 r s.2)

  pub with_row_rises : (r : Sibling) (i : ℕ) → IsRowGap r rs i → IsRisingByParent (insert rs i r)
  with_row_rises r i gap = rises_insert sibling_order rs i r (λ s more. turned sibling_total r s more) rise gap

  pub without_row_rises : (i : ℕ) → IsRisingByParent (remove rs i)
  without_row_rises i = rises_remove sibling_order rs i rise

module _ (m : Nodes) (x : ℕ) (n : Node) (there : get m x ≡ Some n) (rs : List Sibling) (i : ℕ) where
  abbrev pub own : Sibling
  own = row_of n.place.parent.0 x

  own_parent : (r : Sibling) → IsRow m r → r.id.0 ≡ x → n.place.parent.0 ≡ r.parent.0
  own_parent r has s = ap (λ (k : Node). k.place.parent.0) (one_node m x n has.0 there (subst (λ y. get m y ≡ Some has.0) s has.1)) ∙ has.2

  -- the row of a node that is there can't be missing
  pub not_missing : Holds (IsRow m) rs → ¬ (IsRowGap own rs i)
  not_missing holds gap = out_of_gap (λ s. sibling_order s own) rs i own gap (holds.every own (n, there, refl)) (tied_itself sibling_total own)

  pub without_row : IsRisingByParent rs → slice_get rs i ≡ Some own → Holds (IsRow m) rs → Holds (IsRow (map.remove m x)) (remove rs i)
  without_row rise at holds = holds_remove sibling_order (IsRow m) _ rs i own (tied_itself sibling_total own) rise at holds
      (λ r has apart. (has.0, get_cut_other m x r.id.0 (λ s. apart (same_row own r (own_parent r has s) (sym s))) ∙ has.1, has.2))
      (λ r has. (has.0, (after_cut m x r.id.0 has.0 has.1).1, has.2))
      (λ has. (after_cut m x x has.0 has.1).0 refl)

  -- nor can it be there before its node is
  pub not_there_yet : Holds (IsRow (map.remove m x)) rs → ¬ (IsRowAt own rs i)
  not_there_yet holds at =
      let s = found (λ s. sibling_order s own) rs i at in
      let has = holds.each own (subst (λ r. IsIn r rs) (tied_row s.0 own s.2) (at_in rs i s.0 s.1)) in
      (after_cut m x x has.0 has.1).0 refl

  pub with_row : Holds (IsRow (map.remove m x)) rs → Holds (IsRow m) (insert rs i own)
  with_row holds = holds_insert (IsRow (map.remove m x)) (IsRow m) rs i own holds
      (λ r has. elim (same_or_not r.id.0 x) [
        | inl s ↦ inl (same_row own r (own_parent r has s) (sym s))
        | inr apart ↦ inr (has.0, get_cut_other m x r.id.0 apart ∙ has.1, has.2)
      ])
      (n, there, refl)
      (λ r has. (has.0, (after_cut m x r.id.0 has.0 has.1).1, has.2))

  -- the rows stay as they are where the node gets another with its parent
  pub rows_still : (k : Node) → n.place.parent.0 ≡ k.place.parent.0 → Holds (IsRow m) rs → Holds (IsRow (map.insert m x k)) rs
  rows_still k same holds = record {
    each = λ r h. let has = holds.each r h in elim (same_or_not r.id.0 x) [
      | inl e ↦ (k, ap (get (map.insert m x k)) e ∙ get_put_same m x k, sym same ∙ own_parent r has e)
      | inr apart ↦ (has.0, get_put_other m x k r.id.0 apart ∙ has.1, has.2)
    ];
    every = λ r has. elim (after_put m x k r.id.0 has.0 has.1) [
      | inl (e, f) ↦ holds.every r (n, ap (get m) e ∙ there, same ∙ ap (λ (l : Node). l.place.parent.0) (sym f) ∙ has.2)
      | inr (apart, g) ↦ holds.every r (has.0, g, has.2)
    ];
  }
