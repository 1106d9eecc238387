-- The identities of a good listing differ.
use Rattle.std.proofs.Common.{◌≡◌, ◌≢◌, ◌∙◌, ◌⊎◌, ◌+◌, ◌<◌, ◌≤◌, ℕ, zero, suc, AllPairs, List, [], ◌∷◌, length, get_or, Option, None, Some, refl, sym, ap, subst, inl, inr, arith}
use Rattle.std.specs.Prelude.{unwrap_or}
use Rattle.std.specs.FinMap as map
use Rattle.std.proofs.lemmas.List.Quantifiers.{all_pairs_push}
use Rattle.nuc_base.specs.Trees.{Nodes}
use Rattle.nuc_folder.specs.declared.item.Item.{Item}
use Rattle.nuc_lookup.specs.declared.row.Row.{Row}
use Rattle.nuc_lookup.proofs.Maps.{one_number}
use Rattle.nuc_observe.specs.Keys.{KeyMap}
use Rattle.nuc_observe.specs.Made.{AreDrawn}
use Rattle.nuc_observe.specs.Listing.{IsGoodListing, nothing, more}
use Rattle.nuc_observe.specs.Observed.{id_of, identity_rows, next_id_after}
use Rattle.nuc_observe.specs.Turns.{next_after}
use Rattle.nuc_observe.proofs.Distinct.{unlisted}
use Rattle.nuc_observe.proofs.InTurn as turn
use Rattle.nuc_observe.proofs.Whose.{id_holds}

-- the identity has the row's key, or was drawn between the two numbers
abbrev pub RowIs : KeyMap → ℕ → ℕ → Row → Type 0
RowIs keys low high r = (map.get keys r.to ≡ Some r.from) ⊎ ((low ≤ r.to) × (r.to < high))

pub step_rises : (o : Option ℕ) (next : ℕ) → next ≤ next_after o next
step_rises None next = omega arith
step_rises (Some x) next = omega arith

pub rises : (keys : KeyMap) (next : ℕ) (items : List Item) → next ≤ next_id_after keys next items
rises keys next [] = omega arith
rises keys next (item ∷ items) =
    let first = step_rises (id_of keys item.key.0) next in
    let rest = rises keys (next_after (id_of keys item.key.0) next) items in
    omega (arith, first, rest)

first_is : (keys : KeyMap) (next key : ℕ) (items : List Item) (o : Option ℕ) → id_of keys key ≡ o
    → RowIs keys next (next_id_after keys (next_after o next) items) (record { from = key; to = unwrap_or o next })
first_is keys next key items None e = let rest = rises keys (next + 1) items in inr (omega arith, omega (arith, rest))
first_is keys next key items (Some x) e = inl (id_holds keys key x e)

lower : (keys : KeyMap) (low next high : ℕ) (r : Row) → low ≤ next → RowIs keys next high r → RowIs keys low high r
lower keys low next high r le (inl held) = inl held
lower keys low next high r le (inr (from, to)) = inr (omega (arith, le, from), to)

pub rows_are : (keys : KeyMap) (next : ℕ) (items : List Item) (k : ℕ) (d : Row) → k < length (identity_rows keys next items)
    → RowIs keys next (next_id_after keys next items) (get_or (identity_rows keys next items) k d)
rows_are keys next [] k d within = absurd (omega (arith, within))
rows_are keys next (item ∷ items) zero d within = first_is keys next item.key.0 items (id_of keys item.key.0) refl
rows_are keys next (item ∷ items) (suc k) d within =
    lower keys next (next_after (id_of keys item.key.0) next) _ _ (step_rises (id_of keys item.key.0) next)
    (rows_are keys (next_after (id_of keys item.key.0) next) items k d (omega (arith, within)))

differs : (keys : KeyMap) (next after key : ℕ) (r : Row) → AreDrawn keys next → next ≤ after → r.from ≢ key → RowIs keys next after r
    → (o : Option ℕ) → id_of keys key ≡ o → r.to ≢ unwrap_or o after
differs keys next after key r drawn le other (inl held) None e same = let below = drawn r.to r.from held in omega (arith, below, le, same)
differs keys next after key r drawn le other (inl held) (Some x) e same =
    other (one_number (map.get keys x) r.from key (ap (map.get keys) (sym same) ∙ held) (id_holds keys key x e))
differs keys next after key r drawn le other (inr (from, to)) None e same = omega (arith, to, same)
differs keys next after key r drawn le other (inr (from, to)) (Some x) e same =
    let below = drawn x key (id_holds keys key x e) in omega (arith, below, from, same)

pub ids_differ : (keys : KeyMap) (l : Nodes) (next : ℕ) (items : List Item) → AreDrawn keys next → IsGoodListing keys l items
    → AllPairs (λ r s. r.to ≢ s.to) (identity_rows keys next items)
ids_differ keys l next items drawn nothing = λ i j d lt within. absurd (omega (arith, within))
ids_differ keys l next items drawn (more earlier item good is) =
    subst (AllPairs (λ (r s : Row). r.to ≢ s.to))
    (sym (turn.more (λ (i : Item). id_of keys i.key.0) (λ (x : ℕ) (i : Item). record { from = i.key.0; to = x } ∷ []) next earlier item))
    (all_pairs_push (λ (r s : Row). r.to ≢ s.to) (identity_rows keys next earlier) _ (ids_differ keys l next earlier drawn good)
    (λ k d within. differs keys next (next_id_after keys next earlier) item.key.0 _ drawn (rises keys next earlier)
    (unlisted keys earlier item.key.0 next is.new k d within) (rows_are keys next earlier k d within) (id_of keys item.key.0) refl))
