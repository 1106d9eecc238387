-- What a change at a position does to a list in an order.
use Rattle.std.proofs.Common.{◌≡◌, ◌≢◌, ◌⊎◌, ◌<◌, ℕ, zero, suc, List, [], ◌∷◌, length, get_or, set, Some, None, refl, sym, ap, subst, ◌∙◌, inl, inr, arith}
use Rattle.std.specs.Prelude.{slice_get}
use Rattle.std.specs.List.{insert, remove, AllByRecursion}
use Rattle.std.specs.declared.cmp.Ordering.{Ordering}
use Rattle.std.specs.declared.cmp.Ordering.TheVariants.{Less, Equal, Greater}
use Rattle.nuc_index.specs.Rows.{Rises, IsAt, IsGap, IsIn, Holds}

module _ {A : Type 0} where
  -- what holds of all elements

  pub all_kept : (P Q : A → Type 0) (xs : List A) → ((x : A) → IsIn x xs → P x → Q x) → AllByRecursion P xs → AllByRecursion Q xs
  all_kept P Q [] f all = tt
  all_kept P Q (x ∷ xs) f all = (f x (inl refl) all.0, all_kept P Q xs (λ y h. f y (inr h)) all.1)

  pub all_in : (P : A → Type 0) (xs : List A) (x : A) → AllByRecursion P xs → IsIn x xs → P x
  all_in P [] x all h = absurd h
  all_in P (y ∷ ys) x all (inl e) = subst P e all.0
  all_in P (y ∷ ys) x all (inr h) = all_in P ys x all.1 h

  all_insert : (P : A → Type 0) (xs : List A) (i : ℕ) (x : A) → AllByRecursion P xs → P x → AllByRecursion P (insert xs i x)
  all_insert P [] zero x all p = (p, tt)
  all_insert P [] (suc i) x all p = (p, tt)
  all_insert P (y ∷ ys) zero x all p = (p, all)
  all_insert P (y ∷ ys) (suc i) x all p = (all.0, all_insert P ys i x all.1 p)

  all_remove : (P : A → Type 0) (xs : List A) (i : ℕ) → AllByRecursion P xs → AllByRecursion P (remove xs i)
  all_remove P [] zero all = tt
  all_remove P [] (suc i) all = tt
  all_remove P (y ∷ ys) zero all = all.1
  all_remove P (y ∷ ys) (suc i) all = (all.0, all_remove P ys i all.1)

  -- what is in

  pub at_in : (xs : List A) (i : ℕ) (x : A) → slice_get xs i ≡ Some x → IsIn x xs
  at_in [] i x g = absurd (let f : None ≡ Some x = g in cc)
  at_in (y ∷ ys) zero x g = inl (let f : Some y ≡ Some x = g in cc)
  at_in (y ∷ ys) (suc i) x g = inr (at_in ys i x g)

  pub in_insert : (xs : List A) (i : ℕ) (x y : A) → IsIn y (insert xs i x) → (x ≡ y) ⊎ IsIn y xs
  in_insert [] zero x y h = h
  in_insert [] (suc i) x y h = h
  in_insert (z ∷ zs) zero x y h = h
  in_insert (z ∷ zs) (suc i) x y (inl e) = inr (inl e)
  in_insert (z ∷ zs) (suc i) x y (inr h) = elim (in_insert zs i x y h) [ inl e ↦ inl e | inr k ↦ inr (inr k) ]

  pub insert_in : (xs : List A) (i : ℕ) (x y : A) → (x ≡ y) ⊎ IsIn y xs → IsIn y (insert xs i x)
  insert_in [] zero x y h = h
  insert_in [] (suc i) x y h = h
  insert_in (z ∷ zs) zero x y h = h
  insert_in (z ∷ zs) (suc i) x y (inl e) = inr (insert_in zs i x y (inl e))
  insert_in (z ∷ zs) (suc i) x y (inr (inl e)) = inl e
  insert_in (z ∷ zs) (suc i) x y (inr (inr h)) = inr (insert_in zs i x y (inr h))

  pub in_remove : (xs : List A) (i : ℕ) (y : A) → IsIn y (remove xs i) → IsIn y xs
  in_remove [] zero y h = h
  in_remove [] (suc i) y h = h
  in_remove (z ∷ zs) zero y h = inr h
  in_remove (z ∷ zs) (suc i) y (inl e) = inl e
  in_remove (z ∷ zs) (suc i) y (inr h) = inr (in_remove zs i y h)

  pub remove_in : (xs : List A) (i : ℕ) (x y : A) → slice_get xs i ≡ Some x → IsIn y xs → (x ≡ y) ⊎ IsIn y (remove xs i)
  remove_in [] i x y g h = absurd h
  remove_in (z ∷ zs) zero x y g (inl e) = inl ((let f : Some z ≡ Some x = g in let s : x ≡ z = cc in s) ∙ e)
  remove_in (z ∷ zs) zero x y g (inr h) = inr h
  remove_in (z ∷ zs) (suc i) x y g (inl e) = inr (inl e)
  remove_in (z ∷ zs) (suc i) x y g (inr h) = elim (remove_in zs i x y g h) [ inl e ↦ inl e | inr k ↦ inr (inr k) ]

  pub set_is : (xs : List A) (i : ℕ) (x : A) → i < length xs → set xs i x ≡ insert (remove xs i) i x
  set_is [] i x lt = absurd (omega arith)
  set_is (y ∷ []) zero x lt = refl
  set_is (y ∷ z ∷ zs) zero x lt = refl
  set_is (y ∷ ys) (suc i) x lt = ap (λ l. y ∷ l) (set_is ys i x (omega arith))

  pub nth_in : (xs : List A) (i : ℕ) (d : A) → i < length xs → IsIn (get_or xs i d) xs
  nth_in [] i d lt = absurd (omega arith)
  nth_in (x ∷ xs) zero d lt = inl refl
  nth_in (x ∷ xs) (suc i) d lt = inr (nth_in xs i d (omega arith))

  -- what stands at the position that a search gave

  pub found : (to : A → Ordering) (xs : List A) (i : ℕ) → IsAt to xs i → (x : A) × (slice_get xs i ≡ Some x) × (to x ≡ Equal)
  found to [] i h = absurd h
  found to (x ∷ xs) zero h = (x, refl, h)
  found to (x ∷ xs) (suc i) h = found to xs i h

  pub out_of_gap : (to : A → Ordering) (xs : List A) (i : ℕ) (x : A) → IsGap to xs i → IsIn x xs → ¬ (to x ≡ Equal)
  out_of_gap to [] i x g h e = absurd h
  out_of_gap to (y ∷ ys) zero x g h e = let more = all_in (λ z. to z ≡ Greater) (y ∷ ys) x g h in cc
  out_of_gap to (y ∷ ys) (suc i) x g (inl s) e = let less : to x ≡ Less = subst (λ z. to z ≡ Less) s g.0 in cc
  out_of_gap to (y ∷ ys) (suc i) x g (inr h) e = out_of_gap to ys i x g.1 h e

  first_gap : (to : A → Ordering) (xs : List A) → AllByRecursion (λ y. to y ≡ Greater) xs → IsGap to xs 0
  first_gap to [] all = refl
  first_gap to (x ∷ xs) all = all

  -- what was removed would stand where it stood
  pub gap_of_removed : (cmp : A → A → Ordering) (to : A → Ordering) (xs : List A) (i : ℕ) (x : A) → slice_get xs i ≡ Some x → Rises cmp xs
      → ((y : A) → cmp y x ≡ Less → to y ≡ Less) → ((y : A) → cmp x y ≡ Less → to y ≡ Greater) → IsGap to (remove xs i) i
  gap_of_removed cmp to [] i x g r before after = absurd (let f : None ≡ Some x = g in cc)
  gap_of_removed cmp to (y ∷ ys) zero x g r before after =
      let f : Some y ≡ Some x = g in
      let s : y ≡ x = cc in
      first_gap to ys (all_kept (λ z. cmp y z ≡ Less) (λ z. to z ≡ Greater) ys (λ z h e. after z (subst (λ w. cmp w z ≡ Less) s e)) r.0)
  gap_of_removed cmp to (y ∷ ys) (suc i) x g r before after =
      (before y (all_in (λ z. cmp y z ≡ Less) ys x r.0 (at_in ys i x g)), gap_of_removed cmp to ys i x g r.1 before after)

module _ {A : Type 0} (cmp : A → A → Ordering) where
  -- the order after a change

  pub rises_insert : (xs : List A) (i : ℕ) (x : A) → ((y : A) → cmp y x ≡ Greater → cmp x y ≡ Less) → Rises cmp xs
      → IsGap (λ y. cmp y x) xs i → Rises cmp (insert xs i x)
  rises_insert [] zero x back r g = (tt, tt)
  rises_insert [] (suc i) x back r g = (tt, tt)
  rises_insert (y ∷ ys) zero x back r g = (all_kept (λ z. cmp z x ≡ Greater) (λ z. cmp x z ≡ Less) (y ∷ ys) (λ z h. back z) g, r)
  rises_insert (y ∷ ys) (suc i) x back r g = (all_insert (λ z. cmp y z ≡ Less) ys i x r.0 g.0, rises_insert ys i x back r.1 g.1)

  pub rises_remove : (xs : List A) (i : ℕ) → Rises cmp xs → Rises cmp (remove xs i)
  rises_remove [] zero r = tt
  rises_remove [] (suc i) r = tt
  rises_remove (y ∷ ys) zero r = r.1
  rises_remove (y ∷ ys) (suc i) r = (all_remove (λ z. cmp y z ≡ Less) ys i r.0, rises_remove ys i r.1)

  pub rises_alike : (other : A → A → Ordering) (xs : List A) → ((x y : A) → IsIn x xs → IsIn y xs → cmp x y ≡ other x y) → Rises cmp xs → Rises other xs
  rises_alike other [] same r = tt
  rises_alike other (x ∷ xs) same r = (
    all_kept (λ y. cmp x y ≡ Less) (λ y. other x y ≡ Less) xs (λ y h e. sym (same x y (inl refl) (inr h)) ∙ e) r.0,
    rises_alike other xs (λ y z h k. same y z (inr h) (inr k)) r.1,
  )

  -- two elements that tie are one
  pub tied_one : (xs : List A) (x y : A) → Rises cmp xs → IsIn x xs → IsIn y xs → cmp x y ≡ Equal → cmp y x ≡ Equal → x ≡ y
  tied_one [] x y r h k e f = absurd h
  tied_one (z ∷ zs) x y r (inl s) (inl t) e f = sym s ∙ t
  tied_one (z ∷ zs) x y r (inl s) (inr k) e f =
      let less : cmp x y ≡ Less = subst (λ w. cmp w y ≡ Less) s (all_in (λ w. cmp z w ≡ Less) zs y r.0 k) in absurd (let both : Less ≡ Equal = sym less ∙ e in cc)
  tied_one (z ∷ zs) x y r (inr h) (inl t) e f =
      let less : cmp y x ≡ Less = subst (λ w. cmp w x ≡ Less) t (all_in (λ w. cmp z w ≡ Less) zs x r.0 h) in absurd (let both : Less ≡ Equal = sym less ∙ f in cc)
  tied_one (z ∷ zs) x y r (inr h) (inr k) e f = tied_one zs x y r.1 h k e f

  pub removed_out : (xs : List A) (i : ℕ) (x : A) → cmp x x ≡ Equal → Rises cmp xs → slice_get xs i ≡ Some x → ¬ (IsIn x (remove xs i))
  removed_out [] i x self r g h = absurd (let f : None ≡ Some x = g in cc)
  removed_out (y ∷ ys) zero x self r g h =
      let f : Some y ≡ Some x = g in
      let s : y ≡ x = cc in
      let less : cmp x x ≡ Less = subst (λ w. cmp w x ≡ Less) s (all_in (λ w. cmp y w ≡ Less) ys x r.0 h) in
      let both : Less ≡ Equal = sym less ∙ self in cc
  removed_out (y ∷ ys) (suc i) x self r g (inl s) =
      let less : cmp x x ≡ Less = subst (λ w. cmp w x ≡ Less) s (all_in (λ w. cmp y w ≡ Less) ys x r.0 (at_in ys i x g)) in
      let both : Less ≡ Equal = sym less ∙ self in cc
  removed_out (y ∷ ys) (suc i) x self r g (inr h) = removed_out ys i x self r.1 g h

  -- and what is held then

  pub holds_remove : (P Q : A → Type 0) (xs : List A) (i : ℕ) (x : A) → cmp x x ≡ Equal → Rises cmp xs → slice_get xs i ≡ Some x → Holds P xs
      → ((y : A) → P y → x ≢ y → Q y) → ((y : A) → Q y → P y) → ¬ (Q x) → Holds Q (remove xs i)
  holds_remove P Q xs i x self r g holds stays back gone = record {
    each = λ y h. stays y (holds.each y (in_remove xs i y h)) (λ s. removed_out xs i x self r g (subst (λ z. IsIn z (remove xs i)) (sym s) h));
    every = λ y q. elim (remove_in xs i x y g (holds.every y (back y q))) [ inl s ↦ absurd (gone (subst Q (sym s) q)) | inr h ↦ h ];
  }

pub holds_insert : {A : Type 0} (P Q : A → Type 0) (xs : List A) (i : ℕ) (x : A) → Holds P xs
    → ((y : A) → Q y → (x ≡ y) ⊎ P y) → Q x → ((y : A) → P y → Q y) → Holds Q (insert xs i x)
holds_insert P Q xs i x holds split new stays = record {
  each = λ y h. elim (in_insert xs i x y h) [ inl s ↦ subst Q s new | inr k ↦ stays y (holds.each y k) ];
  every = λ y q. insert_in xs i x y (elim (split y q) [ inl s ↦ inl s | inr p ↦ inr (holds.every y p) ]);
}
