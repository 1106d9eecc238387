-- What a scan gives is a tree, with the keys of just its identities.
use Rattle.std.proofs.Common.{◌≡◌, ◌≢◌, ◌∙◌, ◌<◌, ℕ, All, AllPairs, IsPermutation, List, sym, ap, subst, arith}
use Rattle.std.specs.Prelude.{is_some}
use Rattle.std.specs.Cmp.{nat_cmp_total}
use Rattle.std.specs.FinMap.{get, get-from_entries}
use Rattle.std.specs.List.{list_any}
use Rattle.std.specs.Ordering.{eq_by_cmp, nat_cmp}
use Rattle.std.proofs.lemmas.List.Elements.{All-map}
use Rattle.std.proofs.lemmas.List.Sorted.{All-permutation}
use Rattle.nuc_base.specs.Trees.{WellFormed}
use Rattle.nuc_base.specs.declared.node.Counters.{Counters}
use Rattle.nuc_edits.specs.declared.edit.Edit.{Edit}
use Rattle.nuc_folder.specs.declared.item.Item.{Item}
use Rattle.nuc_lookup.specs.declared.row.Row.{Row}
use Rattle.nuc_observe.specs.Keys.{AreBindings, key_map}
use Rattle.nuc_observe.specs.Listing.{IsGoodListing}
use Rattle.nuc_observe.specs.Made.{AreSound, ComeInTurn, MakeLocal, nodes_in}
use Rattle.nuc_observe.specs.Observed.{Before, IsObserved, bindings, identity_rows, listed_ids, observed_nodes}
use Rattle.nuc_observe.specs.declared.binding.Binding.{Binding}
use Rattle.nuc_observe.specs.declared.observed_node.ObservedNode.{ObservedNode}
use Rattle.nuc_observe.proofs.Aligned.{nodes_aligned}
use Rattle.nuc_observe.proofs.Bound.{bound_keys}
use Rattle.nuc_observe.proofs.Distinct.{rows_apart}
use Rattle.nuc_observe.proofs.Drawn.{ids_above, no_zero_row, own_key, root_is, rows_above}
use Rattle.nuc_observe.proofs.Fresh.{ids_differ}
use Rattle.nuc_observe.proofs.KeptFits.{item_fits}
use Rattle.nuc_observe.proofs.Reordered.{apart_again, has_entry, one_map, pairs_back, pairs_map}
use Rattle.nuc_observe.proofs.Standing.{come, formed}

-- IN THE ORDER OF THE LISTING
abbrev binding_of : Row → Binding
binding_of row = record { id = record { 0 = row.to }; key = record { 0 = row.from } }

module _ (b : Before) (ids : Counters) (items : List Item) (sound : AreSound b ids) (good : IsGoodListing b.keys b.local items) where
  all_formed : WellFormed (nodes_in (observed_nodes b (listed_ids b.keys ids.next_id items) ids.next_ver items))
  all_formed =
      formed b (listed_ids b.keys ids.next_id items) items
      (root_is b.keys b.local ids.next_id items sound.keys sound.drawn sound.next_id good)
      (ids_above b.keys b.local ids.next_id items sound.keys sound.drawn sound.next_id good)
      (own_key b.keys b.local ids.next_id items sound.keys sound.drawn sound.next_id good)
      b.keys b.local (item_fits b (listed_ids b.keys ids.next_id items) sound.remote sound.local sound.kinds)
      ids.next_ver items sound.next_ver good (λ i has. has)

  pub all_come : ComeInTurn (observed_nodes b (listed_ids b.keys ids.next_id items) ids.next_ver items)
  all_come =
      come b (listed_ids b.keys ids.next_id items) items
      (root_is b.keys b.local ids.next_id items sound.keys sound.drawn sound.next_id good)
      (ids_above b.keys b.local ids.next_id items sound.keys sound.drawn sound.next_id good)
      (own_key b.keys b.local ids.next_id items sound.keys sound.drawn sound.next_id good)
      b.keys b.local (item_fits b (listed_ids b.keys ids.next_id items) sound.remote sound.local sound.kinds)
      ids.next_ver items sound.next_ver good (λ i has. has)

  all_bound : AreBindings (bindings (identity_rows b.keys ids.next_id items))
  all_bound =
      let rows = identity_rows b.keys ids.next_id items in
      record {
        ids = All-map (λ k. 0 < k.id.0) binding_of rows (rows_above b.keys b.local ids.next_id items sound.keys sound.drawn sound.next_id good);
        keys = All-map (λ k. 0 < k.key.0) binding_of rows (λ k d within.
            let other = no_zero_row b.keys b.local ids.next_id items sound.keys sound.drawn sound.next_id good k d within in omega (arith, other));
        apart = record {
          ids = pairs_map (λ j k. j.id.0 ≢ k.id.0) binding_of rows (ids_differ b.keys b.local ids.next_id items sound.drawn good);
          keys = pairs_map (λ j k. j.key.0 ≢ k.key.0) binding_of rows (rows_apart b.keys b.local ids.next_id items good);
        };
      }

  all_apart : AllPairs (λ n k. n.id.0 ≢ k.id.0) (observed_nodes b (listed_ids b.keys ids.next_id items) ids.next_ver items)
  all_apart =
      pairs_back (λ (n : ObservedNode). n.id.0) _
      (subst (AllPairs (λ x y. x ≢ y)) (sym (nodes_aligned b b.local ids.next_id ids.next_ver items good))
      (pairs_map (λ x y. x ≢ y) (λ (k : Binding). k.id.0) (bindings (identity_rows b.keys ids.next_id items)) all_bound.apart.ids))

  all_follow : (x : ℕ) → is_some (get (nodes_in (observed_nodes b (listed_ids b.keys ids.next_id items) ids.next_ver items)) x)
      ≡ is_some (get (key_map (bindings (identity_rows b.keys ids.next_id items))) x)
  all_follow x =
      ap is_some (get-from_entries nat_cmp_total _ x)
      ∙ has_entry (λ (n : ObservedNode). n.id.0) (λ (n : ObservedNode). n.node) (observed_nodes b (listed_ids b.keys ids.next_id items) ids.next_ver items) x
      ∙ ap (list_any (eq_by_cmp nat_cmp x)) (nodes_aligned b b.local ids.next_id ids.next_ver items good)
      ∙ sym (has_entry (λ (k : Binding). k.id.0) (λ (k : Binding). k.key.0) (bindings (identity_rows b.keys ids.next_id items)) x)
      ∙ sym (ap is_some (get-from_entries nat_cmp_total _ x))

-- IN ANOTHER ORDER
bound_again : (xs ys : List Binding) → IsPermutation xs ys → AreBindings xs → AreBindings ys
bound_again xs ys moved are = record {
  ids = All-permutation (λ k. 0 < k.id.0) xs ys moved are.ids;
  keys = All-permutation (λ k. 0 < k.key.0) xs ys moved are.keys;
  apart = record {
    ids = apart_again (λ k. k.id.0) xs ys moved are.apart.ids;
    keys = apart_again (λ k. k.key.0) xs ys moved are.apart.keys;
  };
}

made_again : (nodes others : List ObservedNode) (given moved : List Binding) → IsPermutation nodes others → IsPermutation given moved → WellFormed (nodes_in nodes)
    → AreBindings given → ((x : ℕ) → is_some (get (nodes_in nodes) x) ≡ is_some (get (key_map given) x)) → All (λ n. 0 < n.id.0) nodes → AllPairs (λ n k. n.id.0 ≢ k.id.0) nodes
    → MakeLocal others moved × (nodes_in others ≡ nodes_in nodes)
made_again nodes others given moved same_nodes same_keys form are follow above apart =
    let tree : nodes_in others ≡ nodes_in nodes = one_map (λ (n : ObservedNode). n.id.0) (λ (n : ObservedNode). n.node) nodes others same_nodes apart in
    let keys : key_map moved ≡ key_map given = one_map (λ (k : Binding). k.id.0) (λ (k : Binding). k.key.0) given moved same_keys are.apart.ids in
    let bound = bound_again given moved same_keys are in (
      record {
        form = subst WellFormed (sym tree) form;
        bindings = bound;
        keys = bound_keys moved bound;
        follow = λ x. ap (λ m. is_some (get m x)) tree ∙ follow x ∙ sym (ap (λ m. is_some (get m x)) keys);
        above = All-permutation (λ n. 0 < n.id.0) nodes others same_nodes above;
        apart = apart_again (λ n. n.id.0) nodes others same_nodes apart;
      },
      tree,
    )

pub makes_local : (b : Before) (items : List Item) (before : Counters) (nodes : List ObservedNode) (keys : List Binding) (edits : List Edit) (after : Counters)
    → AreSound b before → IsGoodListing b.keys b.local items → IsObserved b items before nodes keys edits after
    → MakeLocal nodes keys × (nodes_in nodes ≡ nodes_in (observed_nodes b (listed_ids b.keys before.next_id items) before.next_ver items))
makes_local b items before nodes keys edits after sound good are =
    made_again _ nodes _ keys are.nodes_are.0 are.keys_are.0 (all_formed b before items sound good) (all_bound b before items sound good) (all_follow b before items sound good)
    (λ k d within. (all_come b before items sound good k d within).above) (all_apart b before items sound good)
