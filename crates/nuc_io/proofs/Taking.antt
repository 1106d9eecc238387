-- What several reads or writes do together.
use Rattle.std.proofs.Common.{◌≡◌, ◌≢◌, ℕ, ◌+◌, ◌≤◌, List, [], ◌∷◌, ◌++◌, length, take, drop, Option, Some, None, refl, sym, ap, subst, append_assoc, arith, ◌∙◌}
use Rattle.std.proofs.lemmas.List.{take-append-drop, take_all, take-append-le, drop-drop}
use Rattle.std.proofs.lemmas.List.Elements.{All-push}
use Rattle.nuc_io.specs.Reading.{Took, AtEnd}
use Rattle.nuc_io.specs.Line.{IsOneLine}
use Rattle.nuc_io.specs.Writing.{Added}

-- two takings, one after the other
pub took_more : (before : Option (List ℕ)) (xs ys : List ℕ) (between after : Option (List ℕ)) → Took before xs between → Took between ys after → Took before (xs ++ ys) after
took_more None xs ys between after first second = subst (λ o. Took o ys after) first second
took_more (Some all) xs ys between after (rest, left, cut) second =
    let more : Took (Some rest) ys after = subst (λ o. Took o ys after) left second in
    (more.0, more.1, cut ∙ ap (λ r. xs ++ r) more.2 ∙ sym (append_assoc xs ys more.0))

-- what is taken without a byte stays as it is
pub took_nothing : (before after : Option (List ℕ)) → Took before [] after → after ≡ before
took_nothing None after same = same
took_nothing (Some all) after (rest, left, cut) = left ∙ ap Some (sym cut)

pub took_stays : (before : Option (List ℕ)) (xs : List ℕ) (between after : Option (List ℕ)) → Took before xs between → after ≡ between → Took before xs after
took_stays before xs between after took same = subst (λ o. Took before xs o) (sym same) took

pub at_end_stays : (between after : Option (List ℕ)) → AtEnd between → after ≡ between → AtEnd after
at_end_stays between after ends same = subst AtEnd (sym same) ends

-- two additions, one after the other
pub added_more : (before : Option (List ℕ)) (xs ys : List ℕ) (between after : Option (List ℕ)) → Added before xs between → Added between ys after → Added before (xs ++ ys) after
added_more None xs ys between after first second = subst (λ o. Added o ys after) first second
added_more (Some held) xs ys between after first second =
    let more : Added (Some (held ++ xs)) ys after = subst (λ o. Added o ys after) first second in
    more ∙ ap Some (append_assoc held xs ys)

-- the front of a list, by its length
pub front_of : (front rest all : List ℕ) → front ++ rest ≡ all → take (length front) all ≡ front
front_of front rest all joined =
    ap (λ l. take (length front) l) (sym joined) ∙ take-append-le (length front) front rest (omega arith) ∙ take_all (length front) front (omega arith)

-- the bytes from a place on are those that were copied, and those from the place behind them on
pub copied : (bytes front tail : List ℕ) (at count : ℕ) → count ≤ length (drop at bytes) → front ≡ take count (drop at bytes) → length front ≡ count → drop at bytes ≡ take count (front ++ tail) ++ drop (at + count) bytes
copied bytes front tail at count short same long =
    let cut : take count (front ++ tail) ≡ front = ap (λ n. take n (front ++ tail)) (sym long) ∙ front_of front tail (front ++ tail) refl in
    sym (take-append-drop count (drop at bytes)) ∙ ap (λ l. l ++ drop count (drop at bytes)) (sym same ∙ sym cut)
    ∙ ap (λ l. take count (front ++ tail) ++ l) (drop-drop count at bytes)

-- a byte that is no LF keeps one line
pub one_line_more : (bytes : List ℕ) (b : ℕ) → IsOneLine bytes → b ≢ 10 → IsOneLine (bytes ++ b ∷ [])
one_line_more bytes b one_line other = All-push (λ x. x ≢ 10) bytes b one_line other

-- to leave all as it is takes nothing
pub took_none : (left : Option (List ℕ)) → Took left [] left
took_none None = refl
took_none (Some all) = (all, refl, refl)
