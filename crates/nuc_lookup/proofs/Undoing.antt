-- How changes of where numbers lead are noted, and taken back one after the other.
use Rattle.std.proofs.Common.{◌≡◌, ◌≢◌, ◌<◌, ◌≤◌, ◌+◌, ℕ, suc, List, [], ◌∷◌, ◌++◌, length, Option, None, Some, Result, Ok, Err, OnOk, OnErr, refl, sym, ◌∙◌, ap, inl, inr, arith, length-append}
use Rattle.std.specs.declared.alloc.AllocError.{AllocError}
use Rattle.std.specs.FinMap.{get, insert, remove, len, empty, len-empty}
use Rattle.std.specs.Ordering.{nat_cmp}
use Rattle.nuc_lookup.specs.Lookup.{LookupState}
use Rattle.nuc_lookup.specs.Rows.{Numbers}
use Rattle.nuc_lookup.specs.State.{IsKept, first_or, spare_of}
use Rattle.nuc_lookup.specs.Undo.{first_of, led, past_of, undone}
use Rattle.nuc_lookup.specs.declared.undo.Undo.{Undo}
use Rattle.nuc_lookup.proofs.Maps.{same_or_not, same_numbers, get_put_same, get_put_other, get_cut_same, get_cut_other, len_put_new, len_put_over, len_cut, len_cut_none}

-- ONE CHANGE
-- where x led before leads back
at_led : (m : Numbers) (x : ℕ) (to : Option ℕ) → get (led m x to) x ≡ to
at_led m x None = get_cut_same m x
at_led m x (Some n) = get_put_same m x n

others : (m : Numbers) (x : ℕ) (to : Option ℕ) (y : ℕ) → y ≢ x → get (led m x to) y ≡ get m y
others m x None y other = get_cut_other m x y other
others m x (Some n) y other = get_put_other m x n y other

pub taken_back : (m : Numbers) (x : ℕ) (to before : Option ℕ) → before ≡ get m x → led (led m x to) x before ≡ m
taken_back m x to before had = same_numbers _ m (λ y. elim (same_or_not y x) [
  | inl same ↦ rw same (at_led (led m x to) x before ∙ had)
  | inr other ↦ others (led m x to) x before y other ∙ others m x to y other
])

cut_absent : (m : Numbers) (x : ℕ) → get m x ≡ None → remove m x ≡ m
cut_absent m x none = same_numbers _ m (λ y. elim (same_or_not y x) [
  | inl same ↦ rw same (get_cut_same m x ∙ sym none)
  | inr other ↦ get_cut_other m x y other
])

pub kept_if_absent : (r : Result (Unit {0}) AllocError) (m k : Numbers) (x : ℕ) → OnOk r (k ≡ remove m x) → OnErr r (k ≡ m) → get m x ≡ None → k ≡ m
kept_if_absent (Ok done) m k x ok err none = ok ∙ cut_absent m x none
kept_if_absent (Err e) m k x ok err none = err

-- it adds a row at most, and takes one at most
pub one_more : (m : Numbers) (x : ℕ) (to : Option ℕ) → len (led m x to) ≤ len m + 1
one_more m x None = elim (get m x) as (λ o. get m x ≡ o → len (remove m x) ≤ len m + 1) [
  | None ↦ λ e. omega (arith, len_cut_none m x e)
  | Some k ↦ λ e. omega (arith, len_cut m x k e)
] refl
one_more m x (Some n) = elim (get m x) as (λ o. get m x ≡ o → len (insert m x n) ≤ len m + 1) [
  | None ↦ λ e. omega (arith, len_put_new m x n e)
  | Some k ↦ λ e. omega (arith, len_put_over m x n k e)
] refl

one_fewer : (m : Numbers) (x : ℕ) (to : Option ℕ) → len m ≤ len (led m x to) + 1
one_fewer m x None = elim (get m x) as (λ o. get m x ≡ o → len m ≤ len (remove m x) + 1) [
  | None ↦ λ e. omega (arith, len_cut_none m x e)
  | Some k ↦ λ e. omega (arith, len_cut m x k e)
] refl
one_fewer m x (Some n) = elim (get m x) as (λ o. get m x ≡ o → len m ≤ len (insert m x n) + 1) [
  | None ↦ λ e. omega (arith, len_put_new m x n e)
  | Some k ↦ λ e. omega (arith, len_put_over m x n k e)
] refl

-- THE CHANGES THAT WERE NOTED
first_push : (m : Numbers) (us : List Undo) (u : Undo) → first_of m (us ++ u ∷ []) ≡ first_of (undone m u) us
first_push m [] u = refl
first_push m (v ∷ us) u = ap (λ k. undone k v) (first_push m us u)

past_push : (m : Numbers) (us : List Undo) (u : Undo) → past_of m (us ++ u ∷ []) ≡ past_of (undone m u) us ++ undone m u ∷ []
past_push m [] u = refl
past_push m (v ∷ us) u =
    ap (λ k. undone k v ∷ past_of m (us ++ u ∷ [])) (first_push m us u) ∙ ap (λ past. first_of (undone m u) (v ∷ us) ∷ past) (past_push m us u)

pub first_is : (m : Numbers) (us : List Undo) → first_or (past_of m us) m ≡ first_of m us
first_is m [] = refl
first_is m (u ∷ us) = refl

pub length_past : (m : Numbers) (us : List Undo) → length (past_of m us) ≡ length us
length_past m [] = refl
length_past m (u ∷ us) = ap suc (length_past m us)

-- no more rows than at the last settling and a row for each change since
pub grown : (m : Numbers) (us : List Undo) → len m ≤ len (first_of m us) + length us
grown m [] = omega arith
grown m (u ∷ us) =
    let rest = grown m us in
    let step = one_fewer (first_of m us) u.from u.before in
    omega (arith, rest, step)

pub grown_past : (m : Numbers) (us : List Undo) → len m ≤ len (first_or (past_of m us) m) + length (past_of m us)
grown_past m us = omega (arith, grown m us, ap len (first_is m us), length_past m us)

-- ONE MORE
module _ (m k : Numbers) (us vs : List Undo) (u : Undo) (to : Option ℕ) (is : k ≡ led m u.from to) (had : u.before ≡ get m u.from) (noted : vs ≡ us ++ u ∷ []) where
  back : undone k u ≡ m
  back = ap (λ n. undone n u) is ∙ taken_back m u.from to u.before had

  pub change_past : past_of k vs ≡ past_of m us ++ m ∷ []
  change_past = ap (past_of k) noted ∙ past_push k us u ∙ ap (λ n. past_of n us ++ n ∷ []) back

  first_stays : first_of k vs ≡ first_of m us
  first_stays = ap (first_of k) noted ∙ first_push k us u ∙ ap (λ n. first_of n us) back

  pub change_settled : first_or (past_of k vs) k ≡ first_or (past_of m us) m
  change_settled = first_is k vs ∙ first_stays ∙ sym (first_is m us)

pub change_kept : (p q : LookupState) (us vs : List Undo) (n : ℕ) (u : Undo) (to : Option ℕ) → IsKept p us n
    → q.numbers ≡ led p.numbers u.from to → u.before ≡ get p.numbers u.from → vs ≡ us ++ u ∷ [] → n + length us + 1 ≤ q.room → IsKept q vs n
change_kept p q us vs n u to was is had noted room = record {
  size = was.size ∙ sym (ap len (first_stays p.numbers q.numbers us vs u to is had noted));
  room = let long = ap length noted ∙ length-append us (u ∷ []) in omega (arith, long, room);
}

-- there is room for a change where there is some spare
pub change_room : (p : LookupState) (us : List Undo) (n x : ℕ) (to : Option ℕ) → IsKept p us n → n + length us + 1 ≤ p.room → len (led p.numbers x to) ≤ p.room
change_room p us n x to was room = omega (arith, one_more p.numbers x to, grown p.numbers us, was.size, room)

-- ONE FEWER
pub record LeadsBack (p : LookupState) (us vs : List Undo) (n : ℕ) (u : Undo) : Type 0 where
  pub past : past_of p.numbers us ≡ past_of (undone p.numbers u) vs ++ undone p.numbers u ∷ []
  pub first : first_of p.numbers us ≡ first_of (undone p.numbers u) vs
  pub room : len (undone p.numbers u) ≤ p.room
  pub kept : (q : LookupState) → q.numbers ≡ undone p.numbers u → q.room ≡ p.room → IsKept q vs n

pub leads_back : (p : LookupState) (us vs : List Undo) (n : ℕ) (u : Undo) → IsKept p us n → us ≡ vs ++ u ∷ [] → LeadsBack p us vs n u
leads_back p us vs n u was noted =
    let before : Numbers = undone p.numbers u in
    let first : first_of p.numbers us ≡ first_of before vs = ap (first_of p.numbers) noted ∙ first_push p.numbers vs u in
    let long : length us ≡ length vs + 1 = ap length noted ∙ length-append vs (u ∷ []) in
    let size : n ≡ len (first_of before vs) = was.size ∙ ap len first in
    record {
      past = ap (past_of p.numbers) noted ∙ past_push p.numbers vs u;
      first = first;
      room = omega (arith, grown before vs, size, long, was.room);
      kept = λ q is room. record {
        size = size ∙ ap (λ m. len (first_of m vs)) (sym is);
        room = omega (arith, long, was.room, room);
      };
    }

pub spare_rises : (room cap n k j : ℕ) → k ≡ j + 1 → n + k ≤ room → k ≤ cap → spare_of room cap n k < spare_of room cap n j
spare_rises room cap n k j is fits noted = omega arith

-- ALL SETTLED
pub none_kept : (p : LookupState) (us : List Undo) (n : ℕ) → us ≡ [] → n ≡ len p.numbers → len p.numbers ≤ p.room → IsKept p us n
none_kept p us n none size room = record {
  size = size ∙ ap (λ vs. len (first_of p.numbers vs)) (sym none);
  room = let long = ap length none in omega arith;
}

pub spare_stays : (p : LookupState) (us vs : List Undo) (n m cap : ℕ) → IsKept p us n → vs ≡ [] → m ≡ len p.numbers
    → spare_of p.room cap n (length us) ≤ spare_of p.room cap m (length vs)
spare_stays p us vs n m cap was none size = omega (arith, grown p.numbers us, was.size, size, ap length none)

pub room_now : (p : LookupState) (us : List Undo) (n : ℕ) → IsKept p us n → len p.numbers ≤ p.room
room_now p us n was = omega (arith, grown p.numbers us, was.size, was.room)

pub none_made : (p : LookupState) (us : List Undo) → p.numbers ≡ empty → us ≡ [] → IsKept p us 0
none_made p us no_row none =
    let size : len p.numbers ≡ 0 = ap len no_row ∙ len-empty nat_cmp ℕ in
    none_kept p us 0 none (sym size) (omega arith)
