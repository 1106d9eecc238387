-- How many of a list are so, counted one after the other.
use Rattle.std.specs.Prelude.{slice_get}
use Rattle.std.proofs.Common.{◌≡◌, ◌≤◌, ◌+◌, ℕ, Bool, true, false, cond, List, Some, filter, length, take, sym, ◌∙◌, ap, arith}
use Rattle.std.proofs.lemmas.List.{take_all}
use Rattle.std.proofs.lemmas.List.Filters.{length-filter_more}
use Rattle.std.proofs.lemmas.Option.{get_or_from_slice_get, slice_get_within}

module _ (p : ℕ → Bool) (xs : List ℕ) where
  module _ (i x count new : ℕ) (at : slice_get xs i ≡ Some x) (so : count ≡ length (filter p (take i xs))) where
    next : length (filter p (take (i + 1) xs)) ≡ length (filter p (take i xs)) + cond (p x) 1 0
    next = length-filter_more p xs i x (slice_get_within xs i x at) ∙ ap (λ y. length (filter p (take i xs)) + cond (p y) 1 0) (get_or_from_slice_get xs i x x at)

    pub counted_then : p x ≡ true → new ≡ count + 1 → new ≡ length (filter p (take (i + 1) xs))
    counted_then is more = more ∙ ap (λ n. n + 1) so ∙ sym (next ∙ ap (λ b. length (filter p (take i xs)) + cond b 1 0) is)

    pub counted_else : p x ≡ false → new ≡ count → new ≡ length (filter p (take (i + 1) xs))
    counted_else is same =
        let more = next ∙ ap (λ b. length (filter p (take i xs)) + cond b 1 0) is in
        omega (arith, more, same, so)

  pub counted_all : (i count : ℕ) → length xs ≤ i → count ≡ length (filter p (take i xs)) → count ≡ length (filter p xs)
  counted_all i count all so = so ∙ ap (λ ys. length (filter p ys)) (take_all i xs all)
