-- How changes of keys are made, and taken back one after the other.
use Rattle.std.proofs.Common.{◌≡◌, ◌≢◌, ◌⊎◌, ◌<◌, ◌≤◌, ◌+◌, ℕ, List, [], ◌∷◌, ◌++◌, length, All, Option, None, Some, IfSome, Result, Ok, Err, OnOk, refl, sym, ◌∙◌, ap, subst, inl, inr, arith, length-append}
use Rattle.std.proofs.lemmas.List.Elements.{All-append, All-cons, All-nil, All-tail}
use Rattle.std.specs.Option.{option_map}
use Rattle.std.specs.declared.alloc.AllocError.{AllocError}
use Rattle.std.specs.FinMap.{get, insert, remove, len, empty, get-empty, len-empty}
use Rattle.std.specs.Ordering.{nat_cmp}
use Rattle.nuc_folder.specs.declared.item.Key.{Key}
use Rattle.nuc_lookup.specs.Lookup.{LookupState}
use Rattle.nuc_lookup.specs.State.{TakenBack, UndoLookupState, first_or, most_of, settled_of}
use Rattle.nuc_lookup.specs.Undo.{led}
use Rattle.nuc_lookup.specs.declared.undone.Undone.{Undone}
use Rattle.nuc_lookup.proofs.Maps.{same_or_not, get_put_same, get_put_other, get_cut_same, get_cut_other, one_number, not_both}
use Rattle.nuc_lookup.proofs.Undoing.{one_more}
use Rattle.nuc_observe.specs.Inverse.{AreInverse, led_back}
use Rattle.nuc_observe.specs.Keys.{AreKeys, HasAlone, IsFree, IsUnheld, KeyMap, with_key}
use Rattle.nuc_observe.specs.State.{IsKept}
use Rattle.nuc_observe.proofs.Inverse.{cut_inverse, inverse_as, nobody, put_inverse}

-- ONE CHANGE
-- after it these are keys still
at_put : (m : KeyMap) (x k : ℕ) (y j : ℕ) → get (insert m x k) y ≡ Some j → ((y ≡ x) × (j ≡ k)) ⊎ ((y ≢ x) × (get m y ≡ Some j))
at_put m x k y j at = elim (same_or_not y x) [
  | inl same ↦ inl (same, one_number _ j k (subst (λ z. get (insert m x k) z ≡ Some j) same at) (get_put_same m x k))
  | inr other ↦ inr (other, sym (get_put_other m x k y other) ∙ at)
]

at_cut : (m : KeyMap) (x y j : ℕ) → get (remove m x) y ≡ Some j → get m y ≡ Some j
at_cut m x y j at = elim (same_or_not y x) [
  | inl same ↦ absurd (not_both _ j (get_cut_same m x) (subst (λ z. get (remove m x) z ≡ Some j) same at))
  | inr other ↦ sym (get_cut_other m x y other) ∙ at
]

keys_with : (m : KeyMap) (x : ℕ) (key : Option Key) → AreKeys m → IfSome key (λ k. 0 < x) → IfSome key (λ k. 0 < k.0) → IfSome key (λ k. IsFree m x k.0)
    → AreKeys (with_key m x key)
keys_with m x None are above used free = record {
  no_root = elim (same_or_not 0 x) [
    | inl same ↦ subst (λ z. get (remove m x) z ≡ None) (sym same) (get_cut_same m x)
    | inr other ↦ get_cut_other m x 0 other ∙ are.no_root
  ];
  no_zero = λ y at. are.no_zero y (at_cut m x y 0 at);
  one_to_one = λ y z k at also. are.one_to_one y z k (at_cut m x y k at) (at_cut m x z k also);
}
keys_with m x (Some key) are above used free = record {
  no_root = get_put_other m x key.0 0 (λ same. absurd (omega arith)) ∙ are.no_root;
  no_zero = λ y at. elim (at_put m x key.0 y 0 at) [
    | inl (same, zero_key) ↦ absurd (omega arith)
    | inr (other, before) ↦ are.no_zero y before
  ];
  one_to_one = λ y z k at also. elim (at_put m x key.0 y k at) [
    | inl (mine, is) ↦ elim (at_put m x key.0 z k also) [
      | inl (his, so) ↦ mine ∙ sym his
      | inr (other, before) ↦ absurd (other (free z (subst (λ j. get m z ≡ Some j) is before)))
    ]
    | inr (other, before) ↦ elim (at_put m x key.0 z k also) [
      | inl (his, so) ↦ absurd (other (free y (subst (λ j. get m y ≡ Some j) so before)))
      | inr (too, was) ↦ are.one_to_one y z k before was
    ]
  ];
}

pub freed : (r : Result (Unit {0}) AllocError) (m n : KeyMap) (x k : ℕ) → OnOk r (n ≡ remove m x) → HasAlone m x k → OnOk r (IsUnheld n k)
freed (Ok done) m n x k ok alone = λ y at.
    let cut : get (remove m x) y ≡ Some k = ap (λ l. get l y) (sym ok) ∙ at in
    not_both (get (remove m x) x) k (get_cut_same m x) (subst (λ z. get (remove m x) z ≡ Some k) (alone.1 y (at_cut m x y k cut)) cut)
freed (Err e) m n x k ok alone = tt

-- a key that such keys have is nobody else's
free_after : (m : KeyMap) (x : ℕ) (key : Option ℕ) → AreKeys (led m x key) → IfSome key (λ k. IsFree m x k)
free_after m x None are = tt
free_after m x (Some k) are = λ y at. elim (same_or_not y x) [
  | inl same ↦ same
  | inr other ↦ are.one_to_one y x k (get_put_other m x k y other ∙ at) (get_put_same m x k)
]

inverse_free : (ids keys : KeyMap) (x : ℕ) (key : Option ℕ) → AreInverse ids keys → IfSome key (λ k. IsFree ids x k) → AreInverse (led ids x key) (led_back keys x (get ids x) key)
inverse_free ids keys x None inverse free = cut_inverse ids keys inverse x
inverse_free ids keys x (Some k) inverse free = put_inverse ids keys inverse x k free

inverse_after : (ids keys : KeyMap) (x : ℕ) (key : Option ℕ) → AreInverse ids keys → AreKeys (led ids x key) → AreInverse (led ids x key) (led_back keys x (get ids x) key)
inverse_after ids keys x key inverse are = inverse_free ids keys x key inverse (free_after ids x key are)

-- ONE MORE
-- there is some spare for it
module _ (ids : UndoLookupState) (keys : LookupState) (was : IsKept ids keys) (room : most_of ids + 1 ≤ keys.room) (x : ℕ) (key : Option Key) (new : Option ℕ)
    (given : new ≡ option_map (λ k. k.0) key) (above : IfSome key (λ k. 0 < x)) (used : IfSome key (λ k. 0 < k.0)) (free : IfSome key (λ k. IsFree ids.now x k.0)) where
  keys_after : AreKeys (led ids.now x new)
  keys_after = subst (λ o. AreKeys (led ids.now x o)) (sym given) (keys_with ids.now x key was.now above used free)

  leads_after : AreInverse (led ids.now x new) (led_back keys.numbers x (get ids.now x) new)
  leads_after = inverse_after ids.now keys.numbers x new was.inverse keys_after

  pub change_room : len (led_back keys.numbers x (get ids.now x) new) ≤ keys.room
  change_room = omega (arith, leads_after.size, one_more ids.now x new, was.most, room)

  pub change_kept : (after : UndoLookupState) (back : LookupState) → after.now ≡ led ids.now x new → after.past ≡ ids.past ++ ids.now ∷ []
      → settled_of after ≡ settled_of ids → back.numbers ≡ led_back keys.numbers x (get ids.now x) new → back.room ≡ keys.room → IsKept after back
  change_kept after back is past settled leads stays =
      let long = ap length past ∙ length-append ids.past (ids.now ∷ []) in
      let size = ap len settled in
      record {
        now = subst AreKeys (sym is) keys_after;
        past = subst (All AreKeys) (sym past) (All-append AreKeys ids.past (ids.now ∷ []) was.past (All-cons AreKeys ids.now [] was.now (All-nil AreKeys)));
        inverse = inverse_as _ _ _ _ leads_after is leads;
        most = omega (arith, ap len is, one_more ids.now x new, was.most, long, size);
        room = omega (arith, long, size, room, stays);
      }

-- ONE FEWER
-- what holds of all of a list that ends with x
front_all : {A : Type 0} (P : A → Type 0) (xs : List A) (x : A) → All P (xs ++ x ∷ []) → All P xs
front_all P [] x all = All-nil P
front_all P (y ∷ xs) x all = All-cons P y xs (all 0 y (omega arith)) (front_all P xs x (All-tail P y (xs ++ x ∷ []) all))

last_all : {A : Type 0} (P : A → Type 0) (xs : List A) (x : A) → All P (xs ++ x ∷ []) → P x
last_all P [] x all = all 0 x (omega arith)
last_all P (y ∷ xs) x all = last_all P xs x (All-tail P y (xs ++ x ∷ []) all)

module _ (ids before : UndoLookupState) (keys : LookupState) (u : Undone) (was : IsKept ids keys) (back : TakenBack ids u before)
    (settled : settled_of before ≡ settled_of ids) (most : len before.now ≤ most_of before) where
  are : All AreKeys (before.past ++ before.now ∷ [])
  are = subst (All AreKeys) back.past was.past

  now_are : AreKeys before.now
  now_are = last_all AreKeys before.past before.now are

  leads : AreInverse before.now (led_back keys.numbers u.from u.after u.before)
  leads = subst (λ o. AreInverse before.now (led_back keys.numbers u.from o u.before)) (sym back.after)
      (inverse_as _ _ _ _ (inverse_after ids.now keys.numbers u.from u.before was.inverse (subst AreKeys back.now now_are)) back.now refl)

  pub fewer : most_of before + 1 ≡ most_of ids
  fewer = let long = ap length back.past ∙ length-append before.past (before.now ∷ []) in omega (arith, long, ap len settled)

  pub undo_room : len (led_back keys.numbers u.from u.after u.before) ≤ keys.room
  undo_room = omega (arith, leads.size, most, fewer, was.room)

  pub undo_kept : (after : LookupState) → after.numbers ≡ led_back keys.numbers u.from u.after u.before → after.room ≡ keys.room → IsKept before after
  undo_kept after is stays = record {
    now = now_are;
    past = front_all AreKeys before.past before.now are;
    inverse = subst (AreInverse before.now) (sym is) leads;
    most = most;
    room = omega (arith, fewer, was.room, stays);
  }

-- ALL SETTLED
pub settled_most : (ids : UndoLookupState) → ids.past ≡ [] → most_of ids ≡ len ids.now
settled_most ids none = ap (λ past. len (first_or past ids.now) + length past) none ∙ omega arith

pub settled_kept : (ids : UndoLookupState) (keys : LookupState) → ids.past ≡ [] → AreKeys ids.now → AreInverse ids.now keys.numbers → len ids.now ≤ keys.room → IsKept ids keys
settled_kept ids keys none now inverse room =
    let size : most_of ids ≡ len ids.now = settled_most ids none in
    record {
      now = now;
      past = subst (All AreKeys) (sym none) (All-nil AreKeys);
      inverse = inverse;
      most = omega (arith, size);
      room = omega (arith, size, room);
    }

no_keys : (m : KeyMap) → m ≡ empty → AreKeys m
no_keys m none =
    let nothing : (x k : ℕ) → get m x ≡ Some k → ⊥ = λ x k at. not_both (get m x) k (ap (λ n. get n x) none ∙ get-empty nat_cmp x) at in
    record {
      no_root = ap (λ n. get n 0) none ∙ get-empty nat_cmp 0;
      no_zero = λ x at. nothing x 0 at;
      one_to_one = λ x y k at also. absurd (nothing x k at);
    }

pub none_made : (ids : UndoLookupState) (keys : LookupState) → ids.now ≡ empty → ids.past ≡ [] → keys.numbers ≡ empty → IsKept ids keys
none_made ids keys no_key none nor =
    let size : len ids.now ≡ 0 = ap len no_key ∙ len-empty nat_cmp ℕ in
    settled_kept ids keys none (no_keys ids.now no_key) (nobody ids.now keys.numbers no_key nor) (omega (arith, size))
