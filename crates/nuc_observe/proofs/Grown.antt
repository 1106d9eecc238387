-- What an item more makes of the kinds and places of those before it.
use Rattle.std.proofs.Common.{◌≡◌, ◌∙◌, ◌==◌, ℕ, Bool, true, false, cond, List, [], ◌∷◌, ◌++◌, Option, None, Some, refl, sym, ap, subst, inl, inr}
use Rattle.std.specs.Prelude.{◌||◌, option_map, find}
use Rattle.std.specs.Cmp.{unsigned_tied, eq_by_cmp_equiv}
use Rattle.std.specs.List.{list_any}
use Rattle.std.specs.Option.{option_or}
use Rattle.std.specs.Ordering.{is_eq, nat_cmp}
use Rattle.std.proofs.lemmas.Bool.{eqb-true}
use Rattle.std.proofs.lemmas.List.Folds.{find-append, list_any-append}
use Rattle.nuc_base.specs.declared.node.Kind.{Kind}
use Rattle.nuc_folder.specs.declared.item.Item.{Item}
use Rattle.nuc_observe.specs.Listing.{kind_of, item_of, listed_kind}
use Rattle.nuc_observe.specs.Order.{place_order, place_order-total}
use Rattle.nuc_observe.specs.Seen.{is_placed, place_of}
use Rattle.nuc_observe.specs.declared.item_place.ItemPlace.{ItemPlace}

kind_here : Item → Kind
kind_here item = kind_of item.content

-- the last item of a list tells where no earlier one does
last_tells : (before : Option Item) (item : Item) (is : Bool) → (is ≡ true → option_map (λ i. kind_of i.content) before ≡ None)
    → option_map (λ i. kind_of i.content) (option_or before (cond is (Some item) None)) ≡ cond is (Some (kind_of item.content)) (option_map (λ i. kind_of i.content) before)
last_tells None item true none = refl
last_tells None item false none = refl
last_tells (Some other) item true none = let e = none refl in cc
last_tells (Some other) item false none = refl

pub kind_more : (items : List Item) (item : Item) (key : ℕ) → listed_kind items item.key.0 ≡ None
    → listed_kind (items ++ item ∷ []) key ≡ cond (is_eq (nat_cmp item.key.0 key)) (Some (kind_of item.content)) (listed_kind items key)
kind_more items item key none =
    ap (option_map (λ i. kind_of i.content)) (find-append (λ i. i.key.0 == key) items (item ∷ []))
    ∙ last_tells (item_of items key) item (item.key.0 == key) (λ is. ap (listed_kind items) (sym (eqb-true item.key.0 key is)) ∙ none)
    ∙ ap (λ t. cond t (Some (kind_of item.content)) (listed_kind items key)) (sym (unsigned_tied item.key.0 key))

last_counts : (before is : Bool) → (before || (is || false)) ≡ cond is true before
last_counts true true = refl
last_counts true false = refl
last_counts false true = refl
last_counts false false = refl

pub place_more : (items : List Item) (item : Item) (p : ItemPlace) → is_placed (items ++ item ∷ []) p ≡ cond (is_eq (place_order (place_of item) p)) true (is_placed items p)
place_more items item p =
    list_any-append (λ i. is_eq (place_order p (place_of i))) items (item ∷ [])
    ∙ last_counts (is_placed items p) (is_eq (place_order p (place_of item)))
    ∙ ap (λ t. cond t true (is_placed items p)) ((eq_by_cmp_equiv place_order-total).symm p (place_of item))
