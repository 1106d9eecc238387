-- The identities of a good listing: above 0, and each key's own.
use Rattle.std.proofs.Common.{◌≡◌, ◌≢◌, ◌∙◌, ◌<◌, ℕ, zero, suc, Contains, List, [], ◌∷◌, length, get_or, Option, None, Some, refl, sym, ap, subst, inl, inr, arith}
use Rattle.std.specs.Prelude.{unwrap_or}
use Rattle.std.specs.FinMap as map
use Rattle.std.specs.FinMap.{get-from_entries}
use Rattle.std.specs.Ordering.{nat_cmp}
use Rattle.std.proofs.lemmas.Bool.{cases_eq, cases_lt}
use Rattle.std.proofs.lemmas.Cmp.{nat_cmp_total}
use Rattle.nuc_base.specs.Trees.{Nodes}
use Rattle.nuc_base.specs.declared.node.Kind.{Kind}
use Rattle.nuc_folder.specs.declared.item.Item.{Item}
use Rattle.nuc_lookup.specs.Rows.{pairs}
use Rattle.nuc_lookup.specs.declared.row.Row.{Row}
use Rattle.nuc_lookup.proofs.Maps.{not_both}
use Rattle.nuc_lookup.proofs.Rows.{find_later}
use Rattle.nuc_observe.specs.Keys.{AreKeys, KeyMap}
use Rattle.nuc_observe.specs.Listing.{IsGoodListing, listed_kind}
use Rattle.nuc_observe.specs.Made.{AreDrawn}
use Rattle.nuc_observe.specs.Observed.{id_of, identity, identity_rows, listed_ids}
use Rattle.nuc_observe.specs.Turns.{next_after}
use Rattle.nuc_observe.proofs.Aligned.{leads}
use Rattle.nuc_observe.proofs.Distinct.{rows_apart, unlisted}
use Rattle.nuc_observe.proofs.Fresh.{RowIs, ids_differ, rows_are}
use Rattle.nuc_observe.proofs.Members.{found, owned}

-- an item has a row
row_at : (keys : KeyMap) (next : ℕ) (items : List Item) (i : Item) → Contains items i
    → (k : ℕ) × (k < length (identity_rows keys next items)) × ((d : Row) → (get_or (identity_rows keys next items) k d).from ≡ i.key.0)
row_at keys next [] i (k, within, at) = absurd (omega (arith, within))
row_at keys next (item ∷ items) i (zero, within, at) = (0, omega arith, λ d. ap (λ j. j.key.0) at)
row_at keys next (item ∷ items) i (suc k, within, at) =
    let row = row_at keys (next_after (id_of keys item.key.0) next) items i (k, omega (arith, within), at) in
    let inside = row.1 in
    (suc row.0, omega (arith, inside), row.2)

no_row : (rows : List Row) → ((k : ℕ) (d : Row) → k < length rows → (get_or rows k d).from ≢ 0) → map.find nat_cmp 0 (pairs rows) ≡ None
no_row [] other = refl
no_row (r ∷ rows) other =
    find_later 0 r rows (λ same. other 0 r (omega arith) (sym same))
    ∙ no_row rows (λ k d within. other (suc k) d (omega (arith, within)))

row_above : (keys : KeyMap) (low high : ℕ) (r : Row) → AreKeys keys → 0 < low → RowIs keys low high r → 0 < r.to
row_above keys low high r are some (inl held) = elim (cases_eq r.to 0) [
  | inl root ↦ absurd (not_both (map.get keys 0) r.from are.no_root (subst (λ x. map.get keys x ≡ Some r.from) root held))
  | inr other ↦ omega (arith, other)
]
row_above keys low high r are some (inr (from, to)) = omega (arith, some, from)

-- no item has the folder's own key
unowned : (keys : KeyMap) (l : Nodes) (items : List Item) → IsGoodListing keys l items → (o : Option Kind) → listed_kind items 0 ≡ o → o ≡ None
unowned keys l items good None is = refl
unowned keys l items good (Some kind) is =
    let i = found items 0 kind is in
    let own = owned keys l items good i.0 i.1 in
    absurd (omega (arith, own, i.2))

module _ (keys : KeyMap) (l : Nodes) (next : ℕ) (items : List Item) (are : AreKeys keys) (drawn : AreDrawn keys next) (some : 0 < next) (good : IsGoodListing keys l items) where
  pub no_zero_row : (k : ℕ) (d : Row) → k < length (identity_rows keys next items) → (get_or (identity_rows keys next items) k d).from ≢ 0
  no_zero_row = unlisted keys items 0 next (unowned keys l items good (listed_kind items 0) refl)

  pub rows_above : (k : ℕ) (d : Row) → k < length (identity_rows keys next items) → 0 < (get_or (identity_rows keys next items) k d).to
  rows_above k d within = row_above keys next _ _ are some (rows_are keys next items k d within)

  pub root_is : identity (listed_ids keys next items) 0 ≡ 0
  root_is = ap (λ o. unwrap_or o 0) (get-from_entries nat_cmp_total (pairs (identity_rows keys next items)) 0 ∙ no_row (identity_rows keys next items) no_zero_row)

  pub led_to : (i : Item) → Contains items i → (k : ℕ) × (k < length (identity_rows keys next items))
      × ((d : Row) → (get_or (identity_rows keys next items) k d).from ≡ i.key.0)
      × ((d : Row) → identity (listed_ids keys next items) i.key.0 ≡ (get_or (identity_rows keys next items) k d).to)
  led_to i has =
      let row = row_at keys next items i has in
      (row.0, row.1, row.2, λ d. ap (identity (listed_ids keys next items)) (sym (row.2 d)) ∙ leads (identity_rows keys next items) (rows_apart keys l next items good) row.0 d row.1)

  pub ids_above : (i : Item) → Contains items i → 0 < identity (listed_ids keys next items) i.key.0
  ids_above i has =
      let d : Row = record { from = 0; to = 0 } in
      let row = led_to i has in
      subst (λ x. 0 < x) (sym (row.3 d)) (rows_above row.0 d row.1)

  pub own_key : (i j : Item) → Contains items i → Contains items j → identity (listed_ids keys next items) i.key.0 ≡ identity (listed_ids keys next items) j.key.0 → i.key.0 ≡ j.key.0
  own_key i j has also same =
      let d : Row = record { from = 0; to = 0 } in
      let differ = ids_differ keys l next items drawn good in
      let first = led_to i has in
      let second = led_to j also in
      let to : (get_or (identity_rows keys next items) first.0 d).to ≡ (get_or (identity_rows keys next items) second.0 d).to = sym (first.3 d) ∙ same ∙ second.3 d in
      elim (cases_eq first.0 second.0) [
        | inl one ↦ sym (first.2 d) ∙ ap (λ k. (get_or (identity_rows keys next items) k d).from) one ∙ second.2 d
        | inr other ↦ elim (cases_lt first.0 second.0) [
          | inl less ↦ absurd (differ first.0 second.0 d less second.1 to)
          | inr le ↦ absurd (differ second.0 first.0 d (omega (arith, le, other)) first.1 (sym to))
        ]
      ]
