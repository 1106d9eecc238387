-- The nodes of a good listing have the identities of its bindings.
use Rattle.std.proofs.Common.{◌≡◌, ◌∙◌, ◌<◌, ℕ, zero, suc, List, [], ◌∷◌, length, map, get_or, Some, refl, sym, ap, arith}
use Rattle.std.specs.Prelude.{unwrap_or}
use Rattle.std.specs.FinMap.{find, get-from_entries}
use Rattle.std.specs.Ordering.{nat_cmp}
use Rattle.std.proofs.lemmas.Cmp.{nat_cmp_total}
use Rattle.nuc_base.specs.Trees.{Nodes}
use Rattle.nuc_folder.specs.declared.item.Item.{Item}
use Rattle.nuc_lookup.specs.Rows.{AreApart, Numbers, numbers_in, pairs}
use Rattle.nuc_lookup.specs.declared.row.Row.{Row}
use Rattle.nuc_lookup.proofs.Rows.{find_here, find_later}
use Rattle.nuc_observe.specs.Keys.{KeyMap}
use Rattle.nuc_observe.specs.Listing.{IsGoodListing}
use Rattle.nuc_observe.specs.Observed.{Before, bindings, id_of, identity, identity_rows, listed_ids, observed_nodes, own_version}
use Rattle.nuc_observe.specs.Turns.{next_after}
use Rattle.nuc_observe.proofs.Distinct.{rows_apart}

found : (rows : List Row) → AreApart rows → (i : ℕ) (d : Row) → i < length rows → find nat_cmp (get_or rows i d).from (pairs rows) ≡ Some (get_or rows i d).to
found [] apart i d within = absurd (omega (arith, within))
found (r ∷ rows) apart zero d within = find_here r.from r rows refl
found (r ∷ rows) apart (suc i) d within =
    find_later (get_or rows i d).from r rows (λ same. apart 0 (suc i) d (omega arith) within (sym same))
    ∙ found rows (λ a b c lt inside. apart (suc a) (suc b) c (omega (arith, lt)) (omega (arith, inside))) i d (omega (arith, within))

pub leads : (rows : List Row) → AreApart rows → (i : ℕ) (d : Row) → i < length rows → identity (numbers_in rows) (get_or rows i d).from ≡ (get_or rows i d).to
leads rows apart i d within =
    ap (λ o. unwrap_or o 0) (get-from_entries nat_cmp_total (pairs rows) (get_or rows i d).from ∙ found rows apart i d within)

aligned : (b : Before) (ids : Numbers) (keys : KeyMap) (next ver : ℕ) (items : List Item)
    → ((i : ℕ) (d : Row) → i < length (identity_rows keys next items) → identity ids (get_or (identity_rows keys next items) i d).from ≡ (get_or (identity_rows keys next items) i d).to)
    → map (λ n. n.id.0) (observed_nodes b ids ver items) ≡ map (λ k. k.id.0) (bindings (identity_rows keys next items))
aligned b ids keys next ver [] leads_to = refl
aligned b ids keys next ver (item ∷ items) leads_to =
    (λ k. leads_to 0 (record { from = 0; to = 0 }) (omega arith) k
    ∷ aligned b ids keys (next_after (id_of keys item.key.0) next) (next_after (own_version b item) ver) items (λ i d within. leads_to (suc i) d (omega (arith, within))) k)

pub nodes_aligned : (b : Before) (l : Nodes) (next ver : ℕ) (items : List Item) → IsGoodListing b.keys l items
    → map (λ n. n.id.0) (observed_nodes b (listed_ids b.keys next items) ver items) ≡ map (λ k. k.id.0) (bindings (identity_rows b.keys next items))
nodes_aligned b l next ver items good =
    aligned b (listed_ids b.keys next items) b.keys next ver items (leads (identity_rows b.keys next items) (rows_apart b.keys l next items good))
