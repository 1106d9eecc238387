-- No key of a good listing comes twice.
use Rattle.std.proofs.Common.{◌≡◌, ◌≢◌, ◌∙◌, ◌==◌, ◌<◌, ℕ, zero, suc, true, false, cond, T, List, [], ◌∷◌, length, get_or, None, Some, refl, sym, ap, subst, arith}
use Rattle.std.specs.Prelude.{is_some, option_map, slice_get}
use Rattle.std.specs.FinMap as map
use Rattle.std.specs.FinMap.{len-entries}
use Rattle.std.proofs.lemmas.Bool.{eq-eqb}
use Rattle.std.proofs.lemmas.List.{length-map}
use Rattle.std.proofs.lemmas.List.Quantifiers.{all_pairs_push}
use Rattle.std.proofs.lemmas.Option.{slice_get-get_or}
use Rattle.nuc_base.specs.Trees.{Nodes}
use Rattle.nuc_folder.specs.declared.item.Item.{Item}
use Rattle.nuc_lookup.specs.Rows.{AreApart}
use Rattle.nuc_lookup.specs.declared.row.Row.{Row}
use Rattle.nuc_observe.specs.Keys.{KeyMap}
use Rattle.nuc_observe.specs.Listing.{IsGoodListing, nothing, more, item_of, kind_of, listed_kind}
use Rattle.nuc_observe.specs.Observed.{id_of, identity_rows}
use Rattle.nuc_observe.specs.Turns.{next_after}
use Rattle.nuc_observe.proofs.InTurn as turn

pub not_here : (item : Item) (items : List Item) (key : ℕ) → listed_kind (item ∷ items) key ≡ None → (item.key.0 ≢ key) × (listed_kind items key ≡ None)
not_here item items key none =
    elim (item.key.0 == key) as (λ t. (item.key.0 == key) ≡ t → option_map (λ i. kind_of i.content) (cond t (Some item) (item_of items key)) ≡ None → (item.key.0 ≢ key) × (listed_kind items key ≡ None)) [
      | true ↦ λ is e. absurd (subst T (ap is_some e) tt)
      | false ↦ λ is e. ((λ same. let f : true ≡ false = sym (eq-eqb _ _ same) ∙ is in cc), e)
    ] refl none

pub unlisted : (keys : KeyMap) (items : List Item) (key next : ℕ) → listed_kind items key ≡ None
    → (k : ℕ) (d : Row) → k < length (identity_rows keys next items) → (get_or (identity_rows keys next items) k d).from ≢ key
unlisted keys [] key next none k d within = absurd (omega (arith, within))
unlisted keys (item ∷ items) key next none zero d within = (not_here item items key none).0
unlisted keys (item ∷ items) key next none (suc k) d within =
    unlisted keys items key (next_after (id_of keys item.key.0) next) (not_here item items key none).1 k d (omega (arith, within))

pub rows_apart : (keys : KeyMap) (l : Nodes) (next : ℕ) (items : List Item) → IsGoodListing keys l items → AreApart (identity_rows keys next items)
rows_apart keys l next items nothing = λ i j d lt within. absurd (omega (arith, within))
rows_apart keys l next items (more earlier item good is) =
    subst AreApart (sym (turn.more (λ (i : Item). id_of keys i.key.0) (λ (x : ℕ) (i : Item). record { from = i.key.0; to = x } ∷ []) next earlier item))
    (all_pairs_push (λ (r s : Row). r.from ≢ s.from) (identity_rows keys next earlier) _ (rows_apart keys l next earlier good)
    (unlisted keys earlier item.key.0 next is.new))

pub keys_long : (m : Nodes) → length (map.keys m) ≡ map.len m
keys_long m = length-map (map.entries m) (λ e. e.0) ∙ sym (len-entries m)

pub nth_there : (m : Nodes) (i : ℕ) → i < map.len m → slice_get (map.keys m) i ≢ None
nth_there m i within none =
    subst T (ap is_some (sym (slice_get-get_or (map.keys m) i 0 (omega (arith, keys_long m, within))) ∙ none)) tt
