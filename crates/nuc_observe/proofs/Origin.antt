-- Where the nodes of a scan come from: they keep the kind of what Local has of them, or are new.
use Rattle.std.proofs.Common.{◌≡◌, ◌⊎◌, ◌<◌, ◌≤◌, ℕ, Contains, List, get_or, Some, refl, sym, ◌∙◌, ap, subst, inl, inr, arith}
use Rattle.std.proofs.lemmas.List.Elements.{Contains-push_cases}
use Rattle.std.specs.FinMap.{get}
use Rattle.nuc_base.specs.Trees.{Nodes}
use Rattle.nuc_base.specs.declared.node.Counters.{Counters}
use Rattle.nuc_base.specs.declared.node.Node.{Node}
use Rattle.nuc_folder.specs.declared.item.Item.{Item}
use Rattle.nuc_lookup.specs.Rows.{Numbers}
use Rattle.nuc_lookup.specs.declared.row.Row.{Row}
use Rattle.nuc_observe.specs.Keys.{KeyMap}
use Rattle.nuc_observe.specs.Listing.{IsGoodListing, KeepsItemKind, kind_of, nothing, more}
use Rattle.nuc_observe.specs.Made.{AreSound, nodes_in}
use Rattle.nuc_observe.specs.Observed.{Before, identity_rows, listed_ids, next_id_after, node_of, observed_nodes}
use Rattle.nuc_observe.proofs.Drawn.{ids_above, led_to, own_key, root_is}
use Rattle.nuc_observe.proofs.Fresh.{RowIs, rows_are}
use Rattle.nuc_observe.proofs.Standing.{who}

-- y has a key, and what Local has of it is of the node's kind; or it was drawn between these
abbrev pub KeptOrNew : KeyMap → Nodes → ℕ → ℕ → ℕ → Node → Type 0
KeptOrNew keys l low high y n =
    ((k : ℕ) × (get keys y ≡ Some k) × ((h : Node) → get l y ≡ Some h → h.kind ≡ n.kind)) ⊎ ((low ≤ y) × (y < high))

each_keeps : (keys : KeyMap) (l : Nodes) (items : List Item) → IsGoodListing keys l items → (i : Item) → Contains items i → KeepsItemKind keys l i.key.0 (kind_of i.content)
each_keeps keys l items nothing i (k, within, at) = absurd (omega (arith, within))
each_keeps keys l items (more earlier item good is) i has = elim (Contains-push_cases earlier item i has) [
  | inl before ↦ each_keeps keys l earlier good i before
  | inr same ↦ subst (λ (j : Item). KeepsItemKind keys l j.key.0 (kind_of j.content)) same is.kind
]

by_row : (keys : KeyMap) (l : Nodes) (low high y : ℕ) (n : Node) (i : Item) (r : Row) → r.from ≡ i.key.0 → r.to ≡ y → n.kind ≡ kind_of i.content
    → KeepsItemKind keys l i.key.0 (kind_of i.content) → RowIs keys low high r → KeptOrNew keys l low high y n
by_row keys l low high y n i r from to kind keeps (inl held) =
    let own : get keys y ≡ Some i.key.0 = ap (get keys) (sym to) ∙ held ∙ ap Some from in
    inl (i.key.0, own, λ h at. keeps y h own at ∙ sym kind)
by_row keys l low high y n i r from to kind keeps (inr (above, below)) = inr (omega (arith, to, above), omega (arith, to, below))

module _ (b : Before) (ids : Counters) (items : List Item) (sound : AreSound b ids) (good : IsGoodListing b.keys b.local items) where
  abbrev listed : Numbers
  listed = listed_ids b.keys ids.next_id items

  pub kept_or_new : (y : ℕ) (n : Node) → get (nodes_in (observed_nodes b listed ids.next_ver items)) y ≡ Some n
      → KeptOrNew b.keys b.local ids.next_id (next_id_after b.keys ids.next_id items) y n
  kept_or_new y n at =
      let from = who b listed items (root_is b.keys b.local ids.next_id items sound.keys sound.drawn sound.next_id good)
      (ids_above b.keys b.local ids.next_id items sound.keys sound.drawn sound.next_id good) (own_key b.keys b.local ids.next_id items sound.keys sound.drawn sound.next_id good)
      ids.next_ver items y n at in
      let d : Row = record { from = 0; to = 0 } in
      let row = led_to b.keys b.local ids.next_id items sound.keys sound.drawn sound.next_id good from.0 from.2 in
      by_row b.keys b.local ids.next_id (next_id_after b.keys ids.next_id items) y n from.0 (get_or (identity_rows b.keys ids.next_id items) row.0 d)
      (row.2 d) (sym (row.3 d) ∙ sym from.3) (ap (λ (m : Node). m.kind) from.4) (each_keeps b.keys b.local items good from.0 from.2)
      (rows_are b.keys ids.next_id items row.0 d row.1)
