-- What it is to be an item of a good listing.
use Rattle.std.proofs.Common.{◌≡◌, ◌≢◌, ◌⊎◌, ◌==◌, ◌<◌, ℕ, zero, suc, true, false, cond, Contains, List, [], ◌∷◌, ◌++◌, None, Some, refl, ap, subst, inl, inr, arith}
use Rattle.std.specs.Prelude.{option_map}
use Rattle.std.proofs.lemmas.Bool.{eqb-true}
use Rattle.std.proofs.lemmas.List.Elements.{Contains-append_left, Contains-append_right, Contains-push, Contains-push_cases}
use Rattle.nuc_base.specs.Trees.{Nodes}
use Rattle.nuc_base.specs.declared.node.Kind.{Kind}
use Rattle.nuc_base.specs.declared.node.Kind.TheVariants.{Folder}
use Rattle.nuc_folder.specs.declared.item.Item.{Item}
use Rattle.nuc_observe.specs.Keys.{KeyMap}
use Rattle.nuc_observe.specs.Listing.{IsGoodListing, IsListedFolder, IsPlacedApart, SameItemPlace, nothing, more, item_of, kind_of, listed_kind}
use Rattle.nuc_observe.proofs.Distinct.{not_here}

-- all of these are among those
abbrev pub ArePart : List Item → List Item → Type 0
ArePart items whole = (i : Item) → Contains items i → Contains whole i

pub part_front : (earlier : List Item) (item : Item) (whole : List Item) → ArePart (earlier ++ item ∷ []) whole → ArePart earlier whole
part_front earlier item whole part i has = part i (Contains-append_left earlier (item ∷ []) i has)

pub part_last : (earlier : List Item) (item : Item) (whole : List Item) → ArePart (earlier ++ item ∷ []) whole → Contains whole item
part_last earlier item whole part = part item (Contains-push earlier item)

pub part_tail : (item : Item) (items whole : List Item) → ArePart (item ∷ items) whole → ArePart items whole
part_tail item items whole part i has = part i (Contains-append_right (item ∷ []) items i has)

pub part_head : (item : Item) (items whole : List Item) → ArePart (item ∷ items) whole → Contains whole item
part_head item items whole part = part item (0, omega arith, refl)

-- whose key is listed is an item
pub found : (items : List Item) (key : ℕ) (kind : Kind) → listed_kind items key ≡ Some kind → (i : Item) × Contains items i × (i.key.0 ≡ key) × (kind_of i.content ≡ kind)
found [] key kind is = cc
found (item ∷ items) key kind is =
    elim (item.key.0 == key) as (λ t. (item.key.0 == key) ≡ t → option_map (λ i. kind_of i.content) (cond t (Some item) (item_of items key)) ≡ Some kind
    → (i : Item) × Contains (item ∷ items) i × (i.key.0 ≡ key) × (kind_of i.content ≡ kind)) [
      | true ↦ λ here e. (item, (0, omega arith, refl), eqb-true _ _ here, cc)
      | false ↦ λ later e. (let rest = found items key kind e in (rest.0, Contains-append_right (item ∷ []) items rest.0 rest.1, rest.2, rest.3))
    ] refl is

-- an item's key is listed
pub listed : (items : List Item) (i : Item) → Contains items i → listed_kind items i.key.0 ≢ None
listed [] i (k, within, at) none = absurd (omega (arith, within))
listed (item ∷ items) i (zero, within, at) none = (not_here item items i.key.0 none).0 (ap (λ j. j.key.0) at)
listed (item ∷ items) i (suc k, within, at) none = listed items i (k, omega (arith, within), at) (not_here item items i.key.0 none).1

pub placed_apart : (items : List Item) (other item : Item) → IsPlacedApart items item → Contains items other → ¬ (SameItemPlace other item)
placed_apart [] other item apart (k, within, at) = absurd (omega (arith, within))
placed_apart (first ∷ items) other item apart (zero, within, at) = subst (λ i. ¬ (SameItemPlace i item)) at apart.0
placed_apart (first ∷ items) other item apart (suc k, within, at) = placed_apart items other item apart.1 (k, omega (arith, within), at)

-- PARENTS
-- the folder itself, or the key of an item
abbrev pub IsParent : List Item → ℕ → Type 0
IsParent whole p = (p ≡ 0) ⊎ ((i : Item) × Contains whole i × (i.key.0 ≡ p))

parent_of : (items whole : List Item) (p : ℕ) → ArePart items whole → IsListedFolder items p → IsParent whole p
parent_of items whole p part (inl root) = inl root
parent_of items whole p part (inr folder) = let f = found items p Folder folder in inr (f.0, part f.0 f.1, f.2)

pub next_parent : (keys : KeyMap) (l : Nodes) (earlier : List Item) (item : Item) (whole : List Item) → ArePart (earlier ++ item ∷ []) whole
    → IsListedFolder earlier item.parent.0 → IsParent whole item.parent.0
next_parent keys l earlier item whole part is = parent_of earlier whole item.parent.0 (part_front earlier item whole part) is

pub parents : (keys : KeyMap) (l : Nodes) (items whole : List Item) → IsGoodListing keys l items → ArePart items whole → (i : Item) → Contains items i → IsParent whole i.parent.0
parents keys l items whole nothing part i (k, within, at) = absurd (omega (arith, within))
parents keys l items whole (more earlier item good is) part i has = elim (Contains-push_cases earlier item i has) [
  | inl before ↦ parents keys l earlier whole good (part_front earlier item whole part) i before
  | inr same ↦ subst (λ (j : Item). IsParent whole j.parent.0) same (next_parent keys l earlier item whole part is.parent)
]

pub owned : (keys : KeyMap) (l : Nodes) (items : List Item) → IsGoodListing keys l items → (i : Item) → Contains items i → 0 < i.key.0
owned keys l items nothing i (k, within, at) = absurd (omega (arith, within))
owned keys l items (more earlier item good is) i has = elim (Contains-push_cases earlier item i has) [
  | inl before ↦ owned keys l earlier good i before
  | inr same ↦ subst (λ (j : Item). 0 < j.key.0) same is.own
]
