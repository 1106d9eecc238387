-- What the slots of a list have, through a change of the list and of one slot.
use Rattle.std.proofs.Common.{◌≡◌, ◌≢◌, ℕ, zero, suc, true, false, List, [], ◌∷◌, length, map, Option, Some, None, option_map, Result, Ok, Err, MatchResult, refl, sym, ap, ap₂, subst, ◌∙◌, inl, inr}
use Rattle.std.specs.Prelude.{slice_get, IsSome}
use Rattle.std.specs.List.{insert, remove, AllByRecursion}
use Rattle.std.specs.declared.cmp.Ordering.{Ordering}
use Rattle.slab.specs.Slab.{Slab, get, ContainsKey}
use Rattle.nuc_base.specs.declared.node.NodeId.{NodeId}
use Rattle.nuc_index.specs.Rows.{Rises, IsAt, IsGap, IsIn}
use Rattle.nuc_index.specs.Slots.{AreFull, filled, entry_in, entries_in, ids_in, rows_in, row_of_entry}
use Rattle.nuc_index.specs.declared.entry.Entry.{Entry}

module _ {A B : Type 0} where
  pub map_insert : (g : A → B) (xs : List A) (i : ℕ) (x : A) → map g (insert xs i x) ≡ insert (map g xs) i (g x)
  map_insert g [] zero x = refl
  map_insert g [] (suc i) x = refl
  map_insert g (y ∷ ys) zero x = refl
  map_insert g (y ∷ ys) (suc i) x = ap (λ l. g y ∷ l) (map_insert g ys i x)

  pub map_remove : (g : A → B) (xs : List A) (i : ℕ) → map g (remove xs i) ≡ remove (map g xs) i
  map_remove g [] zero = refl
  map_remove g [] (suc i) = refl
  map_remove g (y ∷ ys) zero = refl
  map_remove g (y ∷ ys) (suc i) = ap (λ l. g y ∷ l) (map_remove g ys i)

  pub get_map : (g : A → B) (xs : List A) (i : ℕ) → slice_get (map g xs) i ≡ option_map g (slice_get xs i)
  get_map g [] i = refl
  get_map g (x ∷ xs) zero = refl
  get_map g (x ∷ xs) (suc i) = get_map g xs i

  pub in_map : (g : A → B) (xs : List A) (x : A) → IsIn x xs → IsIn (g x) (map g xs)
  in_map g [] x h = absurd h
  in_map g (y ∷ ys) x (inl e) = inl (ap g e)
  in_map g (y ∷ ys) x (inr h) = inr (in_map g ys x h)

  pub same_map : (g h : A → B) (xs : List A) → ((x : A) → IsIn x xs → g x ≡ h x) → map g xs ≡ map h xs
  same_map g h [] f = refl
  same_map g h (x ∷ xs) f = ap₂ (λ y l. y ∷ l) (f x (inl refl)) (same_map g h xs (λ y k. f y (inr k)))

  -- a search among the slots is one among what they have

  pub at_along : (to : A → Ordering) (f : B → Ordering) (g : A → B) (xs : List A) (i : ℕ) → ((x : A) → IsIn x xs → to x ≡ f (g x)) → IsAt to xs i → IsAt f (map g xs) i
  at_along to f g [] i same at = at
  at_along to f g (x ∷ xs) zero same at = sym (same x (inl refl)) ∙ at
  at_along to f g (x ∷ xs) (suc i) same at = at_along to f g xs i (λ y h. same y (inr h)) at

  all_along : (P : A → Type 0) (Q : B → Type 0) (g : A → B) (xs : List A) → ((x : A) → IsIn x xs → P x → Q (g x)) → AllByRecursion P xs → AllByRecursion Q (map g xs)
  all_along P Q g [] f all = tt
  all_along P Q g (x ∷ xs) f all = (f x (inl refl) all.0, all_along P Q g xs (λ y h. f y (inr h)) all.1)

  pub gap_along : (to : A → Ordering) (f : B → Ordering) (g : A → B) (xs : List A) (i : ℕ) → ((x : A) → IsIn x xs → to x ≡ f (g x)) → IsGap to xs i → IsGap f (map g xs) i
  gap_along to f g [] i same gap = gap
  gap_along to f g (x ∷ xs) zero same gap = all_along _ _ g (x ∷ xs) (λ y h e. sym (same y h) ∙ e) gap
  gap_along to f g (x ∷ xs) (suc i) same gap = (sym (same x (inl refl)) ∙ gap.0, gap_along to f g xs i (λ y h. same y (inr h)) gap.1)

  all_of_map : (Q : B → Type 0) (g : A → B) (xs : List A) → AllByRecursion Q (map g xs) → AllByRecursion (λ x. Q (g x)) xs
  all_of_map Q g [] all = tt
  all_of_map Q g (x ∷ xs) all = (all.0, all_of_map Q g xs all.1)

  pub rises_of_map : (cmp : B → B → Ordering) (g : A → B) (xs : List A) → Rises cmp (map g xs) → Rises (λ x y. cmp (g x) (g y)) xs
  rises_of_map cmp g [] r = tt
  rises_of_map cmp g (x ∷ xs) r = (all_of_map _ g xs r.0, rises_of_map cmp g xs r.1)

pub along : {A B : Type 0} (to : A → Ordering) (f : B → Ordering) (g : A → B) (xs : List A) (r : Result ℕ ℕ) → ((x : A) → IsIn x xs → to x ≡ f (g x))
    → MatchResult r (IsAt to xs) (IsGap to xs) → MatchResult r (IsAt f (map g xs)) (IsGap f (map g xs))
along to f g xs (Ok i) same h = at_along to f g xs i same h
along to f g xs (Err i) same h = gap_along to f g xs i same h

pub insert_of_remove : {A : Type 0} (xs : List A) (i : ℕ) (x : A) → slice_get xs i ≡ Some x → insert (remove xs i) i x ≡ xs
insert_of_remove [] i x g = absurd (let f : None ≡ Some x = g in cc)
insert_of_remove (y ∷ []) zero x g = let f : Some y ≡ Some x = g in let s : y ≡ x = cc in ap (λ z. z ∷ []) (sym s)
insert_of_remove (y ∷ z ∷ zs) zero x g = let f : Some y ≡ Some x = g in let s : y ≡ x = cc in ap (λ w. w ∷ z ∷ zs) (sym s)
insert_of_remove (y ∷ ys) (suc i) x g = ap (λ l. y ∷ l) (insert_of_remove ys i x g)

is_filled : (o : Option Entry) → IsSome o → o ≡ Some (filled o)
is_filled None h = absurd (let f : false ≡ true = h in cc)
is_filled (Some e) h = refl

-- what a full slot has
pub has_entry : (s : Slab Entry) (k : ℕ) → ContainsKey s k → get s k ≡ Some (entry_in s k)
has_entry s k h = is_filled (get s k) h

pub entry_is : (s : Slab Entry) (k : ℕ) (e : Entry) → get s k ≡ Some e → entry_in s k ≡ e
entry_is s k e h = ap filled h

some_is : {A : Type 0} (o : Option A) (x : A) → o ≡ Some x → IsSome o
some_is None x e = absurd (let f : None ≡ Some x = e in cc)
some_is (Some y) x e = refl

pub is_full : (s : Slab Entry) (k : ℕ) (e : Entry) → get s k ≡ Some e → ContainsKey s k
is_full s k e h = some_is (get s k) e h

none_empty : (o : Option Entry) → o ≡ None → ¬ (IsSome o)
none_empty None e h = let f : false ≡ true = h in cc
none_empty (Some x) e h = let f : Some x ≡ None = e in cc

-- a slot that is empty is none of those that are full
pub not_vacant_slot : (s : Slab Entry) (ks : List ℕ) (j : ℕ) → get s j ≡ None → AreFull s ks → (k : ℕ) → IsIn k ks → k ≢ j
not_vacant_slot s ks j none full k h e = none_empty (get s j) none (subst (λ l. ContainsKey s l) e (full k h))

-- the other slots through a change of one
module _ (s t : Slab Entry) (j : ℕ) (others : (k : ℕ) → k ≢ j → get t k ≡ get s k) (ks : List ℕ) (apart : (k : ℕ) → IsIn k ks → k ≢ j) where
  still : (k : ℕ) → IsIn k ks → entry_in t k ≡ entry_in s k
  still k h = ap filled (others k (apart k h))

  pub entries_still : entries_in t ks ≡ entries_in s ks
  entries_still = same_map _ _ ks still

  pub ids_still : ids_in t ks ≡ ids_in s ks
  ids_still = same_map _ _ ks (λ k h. ap (λ (e : Entry). e.id) (still k h))

  pub rows_still_in : rows_in t ks ≡ rows_in s ks
  rows_still_in = same_map _ _ ks (λ k h. ap row_of_entry (still k h))

  pub full_still : AreFull s ks → AreFull t ks
  full_still full k h = subst IsSome (sym (others k (apart k h))) (full k h)

pub length_in : (s : Slab Entry) (ks : List ℕ) → length (entries_in s ks) ≡ length ks
length_in s [] = refl
length_in s (k ∷ ks) = ap suc (length_in s ks)

-- an identity is that of an entry, wherever it is read
pub id_read : (s : Slab Entry) (ks : List ℕ) (i : ℕ) → option_map (λ (x : NodeId). x.0) (slice_get (ids_in s ks) i) ≡ option_map (λ (e : Entry). e.id.0) (slice_get (entries_in s ks) i)
id_read s [] i = refl
id_read s (k ∷ ks) zero = refl
id_read s (k ∷ ks) (suc i) = id_read s ks i

pub id_shown : (s : Slab Entry) (ks : List ℕ) (i k : ℕ) (e : Entry) → slice_get ks i ≡ Some k → get s k ≡ Some e → Some e.id ≡ slice_get (ids_in s ks) i
id_shown s ks i k e at has = sym (get_map (λ l. (entry_in s l).id) ks i ∙ ap (option_map (λ l. (entry_in s l).id)) at ∙ ap (λ (f : Entry). Some f.id) (entry_is s k e has))

-- two sights of one slot
pub same_sight : (s : Slab Entry) (k : ℕ) (e f : Entry) → get s k ≡ Some e → get s k ≡ Some f → e ≡ f
same_sight s k e f p q = sym (entry_is s k e p) ∙ entry_is s k f q

pub entries_grown : (s t : Slab Entry) (ks ls : List ℕ) → t ≡ record s { capacity = t.capacity } → ls ≡ ks → entries_in t ls ≡ entries_in s ks
entries_grown s t ks ls kept same = ap (entries_in t) same ∙ ap (λ u. entries_in u ks) kept

pub row_shown : (s : Slab Entry) (ks : List ℕ) (i k : ℕ) (e : Entry) → slice_get ks i ≡ Some k → get s k ≡ Some e → slice_get (rows_in s ks) i ≡ Some (row_of_entry e)
row_shown s ks i k e at has = get_map (λ l. row_of_entry (entry_in s l)) ks i ∙ ap (option_map (λ l. row_of_entry (entry_in s l))) at ∙ ap
    (λ (f : Entry). Some (row_of_entry f)) (entry_is s k e has)

pub entry_shown : (s : Slab Entry) (ks : List ℕ) (i k : ℕ) (e : Entry) → slice_get ks i ≡ Some k → get s k ≡ Some e → slice_get (entries_in s ks) i ≡ Some e
entry_shown s ks i k e at has = get_map (entry_in s) ks i ∙ ap (option_map (entry_in s)) at ∙ ap Some (entry_is s k e has)
