-- A tree through another entry in a slot, and through an entry that goes.
use Rattle.std.proofs.Common.{◌≡◌, ◌≢◌, ◌<◌, ◌≤◌, ℕ, List, length, Some, None, refl, sym, ap, ap₂, subst, ◌∙◌, inl, inr}
use Rattle.std.specs.Prelude.{slice_get}
use Rattle.std.specs.FinMap as fin
use Rattle.std.specs.List.{insert, remove}
use Rattle.std.specs.Ordering.{nat_cmp}
use Rattle.std.proofs.lemmas.Option.{slice_get_within}
use Rattle.slab.specs.Slab.{Slab, get, slab_len, Updates}
use Rattle.nuc_base.specs.Legal.{IsFree}
use Rattle.nuc_base.specs.SamePlace.{SamePlace}
use Rattle.nuc_base.proofs.Maps.{same_or_not}
use Rattle.nuc_index.specs.Entries.{nodes_of, IsRising, IsEntryAt, IsEntryGap}
use Rattle.nuc_index.specs.Indexes.{AreSlots, CanEnter, IsIndex, IsIndexOf, IsIndexed, SameLists, tree_of}
use Rattle.nuc_index.specs.Rows.{IsIn}
use Rattle.nuc_index.specs.Slots.{filled, entry_in, entries_in, ids_in, rows_in}
use Rattle.nuc_index.specs.declared.entry.Entry.{Entry}
use Rattle.nuc_index.specs.declared.indexes.Indexes.{Indexes}
use Rattle.nuc_index.proofs.Changes.{cut_of_put}
use Rattle.nuc_index.proofs.Entries.{less_rises, less_is}
use Rattle.nuc_index.proofs.Indexed.{entry_here, id_here, node_at, once, tree_over, rise_over, full_over, lists_still, not_in_places, not_in_siblings, free_after, can_enter_new, tree_new, grown_indexed, kept_lists}
use Rattle.nuc_index.proofs.Places.{rises_still, holds_still}
use Rattle.nuc_index.proofs.Rows.{at_in, found, remove_in, in_remove}
use Rattle.nuc_index.proofs.Siblings.{rows_still}
use Rattle.nuc_index.proofs.Slots.{map_remove, same_map, length_in, has_entry, entry_is, entries_still, full_still, entries_grown, not_vacant_slot}

-- a position at which something stands is one of the list
pub at_within : (s : Slab Entry) (ks : List ℕ) (x at : ℕ) → IsEntryAt x (entries_in s ks) at → at < length ks
at_within s ks x at is =
    let e = found (λ e. nat_cmp e.id.0 x) (entries_in s ks) at is in
    subst (λ n. at < n) (length_in s ks) (slice_get_within (entries_in s ks) at e.0 e.1)

module _ (s : Slab Entry) (i : Indexes) (form : IsIndexed s i) (at k : ℕ) (here : slice_get i.ids.items at ≡ Some k) where
  abbrev old : Entry
  old = entry_in s k

  pub in_ids : IsIn k i.ids.items
  in_ids = at_in i.ids.items at k here

  pub full_here : get s k ≡ Some old
  full_here = has_entry s k (form.slots.full k in_ids)

  pub node_before : (x : ℕ) → IsEntryAt x (entries_in s i.ids.items) at → fin.get (tree_of s i) x ≡ Some old.node
  node_before x is = node_at s i.ids.items form.rise at k here old full_here x is

  -- another entry of the same identity in the slot
  module _ (t : Slab Entry) (e : Entry) (now : get t k ≡ Some e) (others : (l : ℕ) → l ≢ k → get t l ≡ get s l)
      (is : IsEntryAt e.id.0 (entries_in s i.ids.items) at) where
    pub tree_now : tree_of t i ≡ fin.insert (tree_of s i) e.id.0 e.node
    tree_now = tree_over s i.ids.items form.rise at k here t e now others is

    pub rise_now : IsRising (entries_in t i.ids.items)
    rise_now = rise_over s i.ids.items form.rise at k here t e now others is

    own : old.id.0 ≡ e.id.0
    own = id_here s i.ids.items form.rise at k here e.id.0 is

    pub slots_now : (j : Indexes) → j.ids ≡ i.ids → AreSlots s j → AreSlots t j
    slots_now j ids slots = record {
      full = λ l h. full_over s i.ids.items form.rise at k here t e now others form.slots.full l (subst (λ ks. IsIn l ks) (ap (λ v. v.items) ids) h);
      places = slots.places;
      siblings = slots.siblings;
    }

    -- at the same place, in the same lists
    module _ (same : SamePlace old.node.place e.node.place) where
      same_entry_id : (l : ℕ) → (entry_in t l).id ≡ (entry_in s l).id
      same_entry_id l = elim (same_or_not l k) [
        | inl z ↦ subst (λ w. (entry_in t w).id ≡ (entry_in s w).id) (sym z) (ap (λ (f : Entry). f.id) (entry_is t k e now) ∙ sym (ap (λ x. record { 0 = x }) own))
        | inr apart ↦ ap (λ o. (filled o).id) (others l apart)
      ]

      same_parent : (l : ℕ) → (entry_in t l).node.place.parent ≡ (entry_in s l).node.place.parent
      same_parent l = elim (same_or_not l k) [
        | inl z ↦ subst (λ w. (entry_in t w).node.place.parent ≡ (entry_in s w).node.place.parent) (sym z)
            (ap (λ (f : Entry). f.node.place.parent) (entry_is t k e now) ∙ sym (ap (λ x. record { 0 = x }) same.parent))
        | inr apart ↦ ap (λ o. (filled o).node.place.parent) (others l apart)
      ]

      ids_as_before : ids_in t i.places.items ≡ ids_in s i.places.items
      ids_as_before = same_map _ _ i.places.items (λ l h. same_entry_id l)

      rows_as_before : rows_in t i.siblings.items ≡ rows_in s i.siblings.items
      rows_as_before = same_map _ _ i.siblings.items (λ l h. ap₂ (λ p x. record { parent = p; id = x }) (same_parent l) (same_entry_id l))

      pub lists_as_before : IsIndexOf (tree_of t i) t i
      lists_as_before =
          let m = tree_of s i in
          let before = node_before e.id.0 is in
          subst (λ n. IsIndexOf n t i) (sym tree_now)
          (subst (λ l. IsIndex (fin.insert m e.id.0 e.node) l (rows_in t i.siblings.items)) (sym ids_as_before)
          (subst (λ l. IsIndex (fin.insert m e.id.0 e.node) (ids_in s i.places.items) l) (sym rows_as_before) (record {
            places_rise = rises_still m e.id.0 old.node e.node before same (ids_in s i.places.items) form.lists.places_rise;
            places = holds_still m e.id.0 old.node e.node before same (ids_in s i.places.items) form.lists.places;
            siblings_rise = form.lists.siblings_rise;
            siblings = rows_still m e.id.0 old.node before (rows_in s i.siblings.items) 0 e.node same.parent form.lists.siblings;
          })))

      pub indexed_still : slab_len t ≤ t.capacity → IsIndexed t i
      indexed_still fits = record { fits = fits; slots = slots_now i refl form.slots; rise = rise_now; lists = lists_as_before }

    -- at another place, once it has left the lists
    pub can_enter_over : (j : Indexes) → j.ids ≡ i.ids → AreSlots s j → IsFree (tree_of s i) e.id.0 e.node.place → IsIndexOf (fin.remove (tree_of s i) old.id.0) s j → CanEnter t k j
    can_enter_over j ids slots free lists =
        let m = tree_of s i in
        let items : j.ids.items ≡ i.ids.items = ap (λ v. v.items) ids in
        let whole : tree_of t j ≡ fin.insert m e.id.0 e.node = ap (λ ks. nodes_of (entries_in t ks)) items ∙ tree_now in
        record {
          slots = slots_now j ids slots;
          rise = subst (λ ks. IsRising (entries_in t ks)) (sym items) rise_now;
          there = subst (λ ks. IsIn k ks) (sym items) in_ids;
          free = subst (λ (f : Entry). IsFree (tree_of t j) f.id.0 f.node.place) (sym (entry_is t k e now))
              (subst (λ n. IsFree n e.id.0 e.node.place) (sym whole) (free_after m e.id.0 e.node free));
          lists = subst (λ (f : Entry). IsIndexOf (fin.remove (tree_of t j) f.id.0) t j) (sym (entry_is t k e now))
              (subst (λ n. IsIndexOf (fin.remove n e.id.0) t j) (sym whole)
              (subst (λ n. IsIndexOf n t j) (ap (fin.remove m) own ∙ sym (cut_of_put m e.id.0 e.node))
              (lists_still s t j j (fin.remove m old.id.0) k others refl refl (not_in_places s j m k lists) (not_in_siblings s j m k lists) lists)));
        }

  -- the slot is emptied, and leaves the lists
  module _ (t : Slab Entry) (j : Indexes) (others : (l : ℕ) → l ≢ k → get t l ≡ get s l) (ids : j.ids.items ≡ remove i.ids.items at)
      (places : (l : ℕ) → IsIn l j.places.items → IsIn l i.ids.items) (siblings : (l : ℕ) → IsIn l j.siblings.items → IsIn l i.ids.items)
      (lists : IsIndexOf (fin.remove (tree_of s i) old.id.0) s j) where
    entries_less : entries_in t j.ids.items ≡ remove (entries_in s i.ids.items) at
    entries_less = ap (entries_in t) ids ∙ entries_still s t k others (remove i.ids.items at) (once s i.ids.items form.rise at k here) ∙ map_remove (entry_in s) i.ids.items at

    pub tree_less : tree_of t j ≡ fin.remove (tree_of s i) old.id.0
    tree_less = ap nodes_of entries_less ∙ less_is (entries_in s i.ids.items) form.rise at old (entry_here s i.ids.items form.rise at k here)

    kept : (l : ℕ) → IsIn l i.ids.items → l ≢ k → IsIn l j.ids.items
    kept l h apart = subst (λ ks. IsIn l ks) (sym ids) (elim (remove_in i.ids.items at k l here h) [ inl same ↦ absurd (apart (sym same)) | inr rest ↦ rest ])

    pub indexed_less : slab_len t ≤ t.capacity → IsIndexed t j
    indexed_less fits = record {
      fits = fits;
      slots = record {
        full = λ l h. full_still s t k others (remove i.ids.items at) (once s i.ids.items form.rise at k here)
            (λ z g. form.slots.full z (in_remove i.ids.items at z g)) l (subst (λ ks. IsIn l ks) ids h);
        places = λ l h. kept l (places l h) (not_in_places s j (tree_of s i) k lists l h);
        siblings = λ l h. kept l (siblings l h) (not_in_siblings s j (tree_of s i) k lists l h);
      };
      rise = subst IsRising (sym entries_less) (less_rises (entries_in s i.ids.items) form.rise at old (entry_here s i.ids.items form.rise at k here));
      lists = subst (λ n. IsIndexOf n t j) (sym tree_less)
          (lists_still s t j j (fin.remove (tree_of s i) old.id.0) k others refl refl (not_in_places s j (tree_of s i) k lists) (not_in_siblings s j (tree_of s i) k lists) lists);
    }

-- an entry that comes into a slot of its own, once the room is made
module _ (s grown t : Slab Entry) (i more j : Indexes) (k at : ℕ) (e : Entry) (form : IsIndexed s i) (gap : IsEntryGap e.id.0 (entries_in s i.ids.items) at)
    (free : IsFree (tree_of s i) e.id.0 e.node.place) (capacity : s.capacity ≤ grown.capacity) (kept : grown ≡ record s { capacity = grown.capacity }) (same : SameLists i more)
    (vacant : get grown k ≡ None) (updates : Updates grown t k (Some e)) (ids : j.ids.items ≡ insert more.ids.items at k)
    (places : j.places.items ≡ more.places.items) (siblings : j.siblings.items ≡ more.siblings.items) where
  form_grown : IsIndexed grown more
  form_grown = kept_lists grown i more same (grown_indexed s grown i capacity kept form)

  as_it_was : entries_in grown more.ids.items ≡ entries_in s i.ids.items
  as_it_was = entries_grown s grown i.ids.items more.ids.items kept same.ids

  gap_grown : IsEntryGap e.id.0 (entries_in grown more.ids.items) at
  gap_grown = subst (λ es. IsEntryGap e.id.0 es at) (sym as_it_was) gap

  free_grown : IsFree (tree_of grown more) e.id.0 e.node.place
  free_grown = subst (λ es. IsFree (nodes_of es) e.id.0 e.node.place) (sym as_it_was) free

  apart : (l : ℕ) → IsIn l more.ids.items → l ≢ k
  apart = not_vacant_slot grown more.ids.items k vacant form_grown.slots.full

  pub can_enter_added : CanEnter t k j
  can_enter_added = can_enter_new grown t more j k at e form_grown gap_grown free_grown updates.changed updates.others apart ids places siblings

  pub tree_added : tree_of t j ≡ fin.insert (tree_of s i) e.id.0 e.node
  tree_added = tree_new grown t more j k at e form_grown gap_grown free_grown updates.changed updates.others apart ids places siblings
      ∙ ap (λ es. fin.insert (nodes_of es) e.id.0 e.node) as_it_was

  module _ (after : Indexes) (still : after.ids ≡ j.ids) where
    pub rise_added : IsRising (entries_in t after.ids.items)
    rise_added = subst (λ v. IsRising (entries_in t v.items)) (sym still) can_enter_added.rise

    pub tree_entered : tree_of t after ≡ fin.insert (tree_of s i) e.id.0 e.node
    tree_entered = ap (λ v. nodes_of (entries_in t v.items)) still ∙ tree_added
