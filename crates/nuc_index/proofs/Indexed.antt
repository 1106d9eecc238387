-- The slots and their lists through one change of an entry.
use Rattle.std.proofs.Common.{◌≡◌, ◌≢◌, ℕ, List, [], map, option_map, set, Some, is_some, arith, refl, sym, ap, ap₂, subst, ◌∙◌, inl, inr}
use Rattle.std.specs.Prelude.{◌≤◌, slice_get, count_by}
use Rattle.std.specs.FinMap as fin
use Rattle.std.specs.List.{insert, remove}
use Rattle.std.specs.Option.{option_cmp}
use Rattle.std.specs.Ordering.{nat_cmp}
use Rattle.std.specs.declared.cmp.Ordering.TheVariants.{Equal}
use Rattle.std.proofs.lemmas.Cmp.{nat_cmp_total, tied_itself, ranked}
use Rattle.std.proofs.lemmas.Option.{slice_get_within}
use Rattle.slab.specs.Slab.{Slab, get, ContainsKey}
use Rattle.nuc_base.specs.Legal.{IsFree}
use Rattle.nuc_base.specs.Trees.{Nodes}
use Rattle.nuc_base.specs.declared.node.Node.{Node}
use Rattle.nuc_base.proofs.Maps.{after_put, after_cut}
use Rattle.nuc_index.specs.Entries.{nodes_of, entry_order, IsRising, IsEntryAt, IsEntryGap}
use Rattle.nuc_index.specs.Indexes.{AreSlots, CanEnter, IsIndex, IsIndexOf, IsIndexed, SameLists, tree_of}
use Rattle.nuc_index.specs.Places.{IsRisingByPlace, IsPlaceAt, IsPlaceGap, HasNode, by_place, place_of, place_order}
use Rattle.nuc_index.specs.Rows.{Holds, IsIn, Rises}
use Rattle.nuc_index.specs.Siblings.{IsRisingByParent, IsRow, IsRowAt, IsRowGap}
use Rattle.nuc_index.specs.Slots.{AreFull, entry_in, entries_in, ids_in, rows_in, row_of_entry}
use Rattle.nuc_index.specs.declared.entry.Entry.{Entry}
use Rattle.nuc_index.specs.declared.indexes.Indexes.{Indexes}
use Rattle.nuc_index.proofs.Changes.{cut_of_new, nowhere}
use Rattle.nuc_index.proofs.Entries.{held, nobody, absent, new_rises, new_is, over_rises, over_is}
use Rattle.nuc_index.proofs.Places.{rises_in_whole, not_taken, with_holds, with_rises, not_vacant, own_at, without_holds, without_rises}
use Rattle.nuc_index.proofs.Rows.{at_in, in_insert, insert_in, in_remove, remove_in, removed_out, rises_alike, found, set_is}
use Rattle.nuc_index.proofs.Siblings.{not_missing, not_there_yet, row_at, with_row, with_row_rises, without_row, without_row_rises}
use Rattle.nuc_index.proofs.Slots.{map_insert, map_remove, get_map, in_map, rises_of_map, insert_of_remove, entries_still, ids_still, rows_still_in, full_still, entry_is, is_full}

-- a free place stays so for its own identity
pub free_after : (m : Nodes) (x : ℕ) (n : Node) → IsFree m x n.place → IsFree (fin.insert m x n) x n.place
free_after m x n free y k h s = elim (after_put m x n y k h) [ inl (e, f) ↦ e | inr (apart, g) ↦ free y k g s ]

-- lists that are as they were
pub kept_slots : (s : Slab Entry) (i j : Indexes) → SameLists i j → AreSlots s i → AreSlots s j
kept_slots s i j same slots = record {
  full = subst (AreFull s) (sym same.ids) slots.full;
  places = λ k h. subst (λ l. IsIn k l) (sym same.ids) (slots.places k (subst (λ l. IsIn k l) same.places h));
  siblings = λ k h. subst (λ l. IsIn k l) (sym same.ids) (slots.siblings k (subst (λ l. IsIn k l) same.siblings h));
}

pub kept_lists : (s : Slab Entry) (i j : Indexes) → SameLists i j → IsIndexed s i → IsIndexed s j
kept_lists s i j same is = record {
  fits = is.fits;
  slots = kept_slots s i j same is.slots;
  rise = subst (λ l. IsRising (entries_in s l)) (sym same.ids) is.rise;
  lists = subst (λ l. IsIndex (nodes_of (entries_in s l)) (ids_in s j.places.items) (rows_in s j.siblings.items)) (sym same.ids)
      (subst (λ l. IsIndex (tree_of s i) (ids_in s l) (rows_in s j.siblings.items)) (sym same.places)
      (subst (λ l. IsIndex (tree_of s i) (ids_in s i.places.items) (rows_in s l)) (sym same.siblings) is.lists));
}

-- an entry of the tree
pub node_in : (s : Slab Entry) (ks : List ℕ) → IsRising (entries_in s ks) → (k : ℕ) → IsIn k ks
    → fin.get (nodes_of (entries_in s ks)) (entry_in s k).id.0 ≡ Some (entry_in s k).node
node_in s ks rise k h = (held (entries_in s ks) rise).each (entry_in s k) (in_map (entry_in s) ks k h)

-- an identity that the lists don't have has no slot in them
module _ (s : Slab Entry) (i : Indexes) (m : Nodes) (k : ℕ) (lists : IsIndexOf (fin.remove m (entry_in s k).id.0) s i) where
  pub not_in_places : (j : ℕ) → IsIn j i.places.items → j ≢ k
  not_in_places j h e =
      let has = lists.places.each (entry_in s j).id (in_map (λ l. (entry_in s l).id) i.places.items j h) in
      (after_cut m (entry_in s k).id.0 (entry_in s j).id.0 has.0 has.1).0 (ap (λ l. (entry_in s l).id.0) e)

  pub not_in_siblings : (j : ℕ) → IsIn j i.siblings.items → j ≢ k
  not_in_siblings j h e =
      let has = lists.siblings.each (row_of_entry (entry_in s j)) (in_map (λ l. row_of_entry (entry_in s l)) i.siblings.items j h) in
      (after_cut m (entry_in s k).id.0 (entry_in s j).id.0 has.0 has.1).0 (ap (λ l. (entry_in s l).id.0) e)

-- the two lists where only a slot changes that is in none of them
pub lists_still : (s t : Slab Entry) (i j : Indexes) (m : Nodes) (k : ℕ) → ((l : ℕ) → l ≢ k → get t l ≡ get s l)
    → j.places.items ≡ i.places.items → j.siblings.items ≡ i.siblings.items
    → ((l : ℕ) → IsIn l i.places.items → l ≢ k) → ((l : ℕ) → IsIn l i.siblings.items → l ≢ k) → IsIndexOf m s i → IsIndexOf m t j
lists_still s t i j m k others same also p q lists =
    subst (λ l. IsIndex m l (rows_in t j.siblings.items)) (sym (ap (ids_in t) same ∙ ids_still s t k others i.places.items p))
    (subst (λ l. IsIndex m (ids_in s i.places.items) l) (sym (ap (rows_in t) also ∙ rows_still_in s t k others i.siblings.items q)) lists)

-- a new entry in an empty slot
module _ (s t : Slab Entry) (i j : Indexes) (k at : ℕ) (e : Entry) (form : IsIndexed s i) (gap : IsEntryGap e.id.0 (entries_in s i.ids.items) at)
    (free : IsFree (tree_of s i) e.id.0 e.node.place) (now : get t k ≡ Some e) (others : (l : ℕ) → l ≢ k → get t l ≡ get s l)
    (apart : (l : ℕ) → IsIn l i.ids.items → l ≢ k) (ids : j.ids.items ≡ insert i.ids.items at k) (places : j.places.items ≡ i.places.items)
    (siblings : j.siblings.items ≡ i.siblings.items) where
  entries_new : entries_in t j.ids.items ≡ insert (entries_in s i.ids.items) at e
  entries_new = ap (entries_in t) ids ∙ map_insert (entry_in t) i.ids.items at k
      ∙ ap₂ (λ l f. insert l at f) (entries_still s t k others i.ids.items apart) (entry_is t k e now)

  pub tree_new : tree_of t j ≡ fin.insert (tree_of s i) e.id.0 e.node
  tree_new = ap nodes_of entries_new ∙ new_is (entries_in s i.ids.items) form.rise e.id.0 e.node at gap

  in_new : (l : ℕ) → IsIn l i.ids.items → IsIn l j.ids.items
  in_new l h = subst (λ ks. IsIn l ks) (sym ids) (insert_in i.ids.items at k l (inr h))

  pub can_enter_new : CanEnter t k j
  can_enter_new = record {
    slots = record {
      full = λ l h. elim (in_insert i.ids.items at k l (subst (λ ks. IsIn l ks) ids h)) [
        | inl same ↦ subst (ContainsKey t) same (is_full t k e now)
        | inr old ↦ full_still s t k others i.ids.items apart form.slots.full l old
      ];
      places = λ l h. in_new l (form.slots.places l (subst (λ ks. IsIn l ks) places h));
      siblings = λ l h. in_new l (form.slots.siblings l (subst (λ ks. IsIn l ks) siblings h));
    };
    rise = subst IsRising (sym entries_new) (new_rises (entries_in s i.ids.items) form.rise e.id.0 e.node at gap);
    there = subst (λ ks. IsIn k ks) (sym ids) (insert_in i.ids.items at k k (inl refl));
    free = subst (λ f. IsFree (tree_of t j) f.id.0 f.node.place) (sym (entry_is t k e now))
        (subst (λ m. IsFree m e.id.0 e.node.place) (sym tree_new) (free_after (tree_of s i) e.id.0 e.node free));
    lists = subst (λ f. IsIndexOf (fin.remove (tree_of t j) f.id.0) t j) (sym (entry_is t k e now))
        (subst (λ m. IsIndexOf (fin.remove m e.id.0) t j) (sym tree_new)
        (subst (λ m. IsIndexOf m t j) (sym (cut_of_new (tree_of s i) e.id.0 e.node (absent (entries_in s i.ids.items) form.rise e.id.0 at gap)))
        (lists_still s t i j (tree_of s i) k others places siblings (λ l h. apart l (form.slots.places l h)) (λ l h. apart l (form.slots.siblings l h)) form.lists)));
  }

-- the slot at a position of the list by identity
module _ (s : Slab Entry) (ks : List ℕ) (rise : IsRising (entries_in s ks)) (at k : ℕ) (here : slice_get ks at ≡ Some k) where
  pub entry_here : slice_get (entries_in s ks) at ≡ Some (entry_in s k)
  entry_here = get_map (entry_in s) ks at ∙ ap (λ o. option_map (entry_in s) o) here

  -- it is nowhere else in the list
  pub once : (l : ℕ) → IsIn l (remove ks at) → l ≢ k
  once l h e = removed_out entry_order (entries_in s ks) at (entry_in s k) (tied_itself nat_cmp_total (entry_in s k).id.0) rise entry_here
      (subst (λ es. IsIn (entry_in s k) es) (map_remove (entry_in s) ks at)
      (subst (λ z. IsIn (entry_in s z) (map (entry_in s) (remove ks at))) e (in_map (entry_in s) (remove ks at) l h)))

  pub id_here : (x : ℕ) → IsEntryAt x (entries_in s ks) at → (entry_in s k).id.0 ≡ x
  id_here x is =
      let e = found (λ e. nat_cmp e.id.0 x) (entries_in s ks) at is in
      let same : Some (entry_in s k) ≡ Some e.0 = sym entry_here ∙ e.1 in
      let one : entry_in s k ≡ e.0 = cc in
      ap (λ (f : Entry). f.id.0) one ∙ ranked e.0.id.0 x Equal (sym e.2)

  pub node_at : (e : Entry) → get s k ≡ Some e → (x : ℕ) → IsEntryAt x (entries_in s ks) at → fin.get (nodes_of (entries_in s ks)) x ≡ Some e.node
  node_at e is x found_there =
      subst (λ y. fin.get (nodes_of (entries_in s ks)) y ≡ Some e.node) (id_here x found_there)
      (node_in s ks rise k (at_in ks at k here) ∙ ap (λ (f : Entry). Some f.node) (entry_is s k e is))

  -- another entry in its slot
  module _ (t : Slab Entry) (e : Entry) (now : get t k ≡ Some e) (others : (l : ℕ) → l ≢ k → get t l ≡ get s l) where
    entries_over : entries_in t ks ≡ set (entries_in s ks) at e
    entries_over =
        ap (entries_in t) (sym (insert_of_remove ks at k here))
        ∙ map_insert (entry_in t) (remove ks at) at k
        ∙ ap₂ (λ l f. insert l at f) (entries_still s t k others (remove ks at) once ∙ map_remove (entry_in s) ks at) (entry_is t k e now)
        ∙ sym (set_is (entries_in s ks) at e (slice_get_within (entries_in s ks) at (entry_in s k) entry_here))

    module _ (is : IsEntryAt e.id.0 (entries_in s ks) at) where
      pub tree_over : nodes_of (entries_in t ks) ≡ fin.insert (nodes_of (entries_in s ks)) e.id.0 e.node
      tree_over = ap nodes_of entries_over ∙ over_is (entries_in s ks) rise e.id.0 at is e.node

      pub rise_over : IsRising (entries_in t ks)
      rise_over = subst IsRising (sym entries_over) (over_rises (entries_in s ks) rise e.id.0 at is e.node)

  pub full_over : (t : Slab Entry) (e : Entry) → get t k ≡ Some e → ((l : ℕ) → l ≢ k → get t l ≡ get s l) → AreFull s ks → AreFull t ks
  full_over t e now others full l h = elim (remove_in ks at k l here h) [
    | inl same ↦ subst (ContainsKey t) same (is_full t k e now)
    | inr rest ↦ full_still s t k others (remove ks at) once (λ z g. full z (in_remove ks at z g)) l rest
  ]

-- no slots are those of no nodes
pub none_indexed : (s : Slab Entry) (i : Indexes) → s.slots ≡ [] → i.ids.items ≡ [] → i.places.items ≡ [] → i.siblings.items ≡ [] → IsIndexed s i
none_indexed s i none ids places siblings = record {
  fits = subst (λ l. count_by is_some l ≤ s.capacity) (sym none) (omega arith);
  slots = record {
    full = λ k h. absurd (subst (λ ks. IsIn k ks) ids h);
    places = λ k h. absurd (subst (λ ks. IsIn k ks) places h);
    siblings = λ k h. absurd (subst (λ ks. IsIn k ks) siblings h);
  };
  rise = subst (λ ks. IsRising (entries_in s ks)) (sym ids) tt;
  lists = subst (λ ks. IsIndex (nodes_of (entries_in s ks)) (ids_in s i.places.items) (rows_in s i.siblings.items)) (sym ids)
      (subst (λ ks. IsIndex (nodes_of []) (ids_in s ks) (rows_in s i.siblings.items)) (sym places)
      (subst (λ ks. IsIndex (nodes_of []) [] (rows_in s ks)) (sym siblings) (subst (λ m. IsIndex m [] []) (sym nobody) (record {
        places_rise = tt;
        places = record { each = λ x h. absurd h; every = λ x has. absurd (nowhere x.0 has.0 has.1) };
        siblings_rise = tt;
        siblings = record { each = λ r h. absurd h; every = λ r has. absurd (nowhere r.id.0 has.0 has.1) };
      }))));
}

-- room for more entries changes none
pub grown_indexed : (s t : Slab Entry) (i : Indexes) → s.capacity ≤ t.capacity → t ≡ record s { capacity = t.capacity } → IsIndexed s i → IsIndexed t i
grown_indexed s t i more kept is = subst (λ u. IsIndexed u i) (sym kept) (record {
  fits = let before = is.fits in omega (arith, before, more);
  slots = record { full = is.slots.full; places = is.slots.places; siblings = is.slots.siblings };
  rise = is.rise;
  lists = is.lists;
})

-- the slots by place are in the order of their entries' places
pub places_of_slots : (s : Slab Entry) (i : Indexes) → AreSlots s i → IsRising (entries_in s i.ids.items) → IsRisingByPlace (tree_of s i) (ids_in s i.places.items)
    → Rises (λ a b. place_order (entry_in s a).node.place (entry_in s b).node.place) i.places.items
places_of_slots s i slots rise places = rises_alike (λ a b. by_place (tree_of s i) (entry_in s a).id (entry_in s b).id)
    (λ a b. place_order (entry_in s a).node.place (entry_in s b).node.place) i.places.items
    (λ a b h k. ap₂ (λ u v. option_cmp place_order (place_of u) (place_of v)) (node_in s i.ids.items rise a (slots.places a h)) (node_in s i.ids.items rise b (slots.places b k)))
    (rises_of_map (by_place (tree_of s i)) (λ k. (entry_in s k).id) i.places.items places)

same_ids : (i j : Indexes) → j.ids ≡ i.ids → j.ids.items ≡ i.ids.items
same_ids i j e = ap (λ t. t.items) e

-- a slot comes into both lists
module _ (s : Slab Entry) (k : ℕ) (i : Indexes) (can : CanEnter s k i) (e : Entry) (is : get s k ≡ Some e) where
  abbrev whole : Nodes
  whole = tree_of s i

  there : fin.get whole e.id.0 ≡ Some e.node
  there = subst (λ (f : Entry). fin.get whole f.id.0 ≡ Some f.node) (entry_is s k e is) (node_in s i.ids.items can.rise k can.there)

  free : IsFree whole e.id.0 e.node.place
  free = subst (λ (f : Entry). IsFree whole f.id.0 f.node.place) (entry_is s k e is) can.free

  rest : IsIndexOf (fin.remove whole e.id.0) s i
  rest = subst (λ (f : Entry). IsIndexOf (fin.remove whole f.id.0) s i) (entry_is s k e is) can.lists

  pub rises_whole : IsRisingByPlace whole (ids_in s i.places.items)
  rises_whole = rises_in_whole whole e.id e.node there (ids_in s i.places.items) rest.places_rise rest.places

  pub not_taken_slot : (p : ℕ) → ¬ (IsPlaceAt whole e.node.place (ids_in s i.places.items) p)
  not_taken_slot p = not_taken whole e.id e.node there (ids_in s i.places.items) rest.places_rise rest.places p free

  pub no_row_yet : (q : ℕ) → ¬ (IsRowAt (row_of_entry e) (rows_in s i.siblings.items) q)
  no_row_yet q = not_there_yet whole e.id.0 e.node there (rows_in s i.siblings.items) q rest.siblings

  module _ (j : Indexes) (p q : ℕ) (ids : j.ids ≡ i.ids) (places : j.places.items ≡ insert i.places.items p k) (siblings : j.siblings.items ≡ insert i.siblings.items q k) where
    stays_in : (l : ℕ) → IsIn l i.ids.items → IsIn l j.ids.items
    stays_in l h = subst (λ ks. IsIn l ks) (sym (same_ids i j ids)) h

    pub entered_slots : AreSlots s j
    entered_slots = record {
      full = λ l h. can.slots.full l (subst (λ ks. IsIn l ks) (same_ids i j ids) h);
      places = λ l h. stays_in l (elim (in_insert i.places.items p k l (subst (λ ks. IsIn l ks) places h)) [
        | inl same ↦ subst (λ z. IsIn z i.ids.items) same can.there
        | inr old ↦ can.slots.places l old
      ]);
      siblings = λ l h. stays_in l (elim (in_insert i.siblings.items q k l (subst (λ ks. IsIn l ks) siblings h)) [
        | inl same ↦ subst (λ z. IsIn z i.ids.items) same can.there
        | inr old ↦ can.slots.siblings l old
      ]);
    }

    places_now : ids_in s j.places.items ≡ insert (ids_in s i.places.items) p e.id
    places_now = ap (ids_in s) places ∙ map_insert (λ l. (entry_in s l).id) i.places.items p k ∙ ap (λ (f : Entry). insert (ids_in s i.places.items) p f.id) (entry_is s k e is)

    rows_now : rows_in s j.siblings.items ≡ insert (rows_in s i.siblings.items) q (row_of_entry e)
    rows_now = ap (rows_in s) siblings ∙ map_insert (λ l. row_of_entry (entry_in s l)) i.siblings.items q k ∙ ap
        (λ (f : Entry). insert (rows_in s i.siblings.items) q (row_of_entry f)) (entry_is s k e is)

    pub entered_lists : IsPlaceGap whole e.node.place (ids_in s i.places.items) p → IsRowGap (row_of_entry e) (rows_in s i.siblings.items) q → IsIndexOf (tree_of s j) s j
    entered_lists gap row_gap = subst (λ ks. IsIndexOf (nodes_of (entries_in s ks)) s j) (sym (same_ids i j ids)) (record {
      places_rise = subst (IsRisingByPlace whole) (sym places_now) (with_rises whole e.id e.node there (ids_in s i.places.items) rest.places_rise rest.places p gap);
      places = subst (Holds (HasNode whole)) (sym places_now) (with_holds whole e.id e.node there (ids_in s i.places.items) rest.places_rise rest.places p);
      siblings_rise = subst IsRisingByParent (sym rows_now) (with_row_rises (rows_in s i.siblings.items) rest.siblings_rise (row_of_entry e) q row_gap);
      siblings = subst (Holds (IsRow whole)) (sym rows_now) (with_row whole e.id.0 e.node there (rows_in s i.siblings.items) q rest.siblings);
    })

-- a slot leaves both lists
module _ (s : Slab Entry) (k : ℕ) (i : Indexes) (slots : AreSlots s i) (rise : IsRising (entries_in s i.ids.items)) (here : IsIn k i.ids.items) (lists : IsIndexOf (tree_of s i) s i)
    (e : Entry) (is : get s k ≡ Some e) where
  abbrev all : Nodes
  all = tree_of s i

  known : fin.get all e.id.0 ≡ Some e.node
  known = subst (λ (f : Entry). fin.get all f.id.0 ≡ Some f.node) (entry_is s k e is) (node_in s i.ids.items rise k here)

  pub not_vacant_own : (p : ℕ) → ¬ (IsPlaceGap all e.node.place (ids_in s i.places.items) p)
  not_vacant_own p = not_vacant all (ids_in s i.places.items) lists.places_rise lists.places e.id e.node known p

  pub row_not_missing : (q : ℕ) → ¬ (IsRowGap (row_of_entry e) (rows_in s i.siblings.items) q)
  row_not_missing q = not_missing all e.id.0 e.node known (rows_in s i.siblings.items) q lists.siblings

  module _ (j : Indexes) (p q : ℕ) (ids : j.ids ≡ i.ids) (places : j.places.items ≡ remove i.places.items p) (siblings : j.siblings.items ≡ remove i.siblings.items q) where
    pub left_slots : AreSlots s j
    left_slots = record {
      full = λ l h. slots.full l (subst (λ ks. IsIn l ks) (same_ids i j ids) h);
      places = λ l h. subst (λ ks. IsIn l ks) (sym (same_ids i j ids)) (slots.places l (in_remove i.places.items p l (subst (λ ks. IsIn l ks) places h)));
      siblings = λ l h. subst (λ ks. IsIn l ks) (sym (same_ids i j ids)) (slots.siblings l (in_remove i.siblings.items q l (subst (λ ks. IsIn l ks) siblings h)));
    }

    places_left : ids_in s j.places.items ≡ remove (ids_in s i.places.items) p
    places_left = ap (ids_in s) places ∙ map_remove (λ l. (entry_in s l).id) i.places.items p

    rows_left : rows_in s j.siblings.items ≡ remove (rows_in s i.siblings.items) q
    rows_left = ap (rows_in s) siblings ∙ map_remove (λ l. row_of_entry (entry_in s l)) i.siblings.items q

    pub left_lists : IsPlaceAt all e.node.place (ids_in s i.places.items) p → IsRowAt (row_of_entry e) (rows_in s i.siblings.items) q
        → IsIndexOf (fin.remove all (entry_in s k).id.0) s j
    left_lists at row =
        let at_place = own_at all (ids_in s i.places.items) lists.places_rise lists.places e.id e.node known p at in
        let at_row = row_at (rows_in s i.siblings.items) lists.siblings_rise (row_of_entry e) q row in
        subst (λ (f : Entry). IsIndexOf (fin.remove all f.id.0) s j) (sym (entry_is s k e is)) (record {
          places_rise = subst (IsRisingByPlace (fin.remove all e.id.0)) (sym places_left)
              (without_rises all (ids_in s i.places.items) lists.places_rise lists.places e.id e.node known p at_place);
          places = subst (Holds (HasNode (fin.remove all e.id.0))) (sym places_left)
              (without_holds all (ids_in s i.places.items) lists.places_rise lists.places e.id e.node known p at_place);
          siblings_rise = subst IsRisingByParent (sym rows_left) (without_row_rises (rows_in s i.siblings.items) lists.siblings_rise q);
          siblings = subst (Holds (IsRow (fin.remove all e.id.0))) (sym rows_left)
              (without_row all e.id.0 e.node known (rows_in s i.siblings.items) q lists.siblings_rise at_row lists.siblings);
        })
