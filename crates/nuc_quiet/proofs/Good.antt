-- The listing of a shelf has no bad item, where the names are names, the files aren't too large, and kinds are as Local has them.
use Rattle.std.specs.Prelude.{AllPairs, cond, option_map}
use Rattle.std.proofs.Common.{◌≡◌, ◌≢◌, ◌++◌, ◌⊎◌, ℕ, suc, List, [], ◌∷◌, Option, None, Some, refl, sym, ◌∙◌, ap, subst, inl, inr, arith}
use Rattle.std.proofs.lemmas.Bool.Decides.{eqb_tells}
use Rattle.std.proofs.lemmas.Cmp.{nat_list_cmp_total}
use Rattle.std.proofs.lemmas.List.{append-nil, append_assoc}
use Rattle.std.specs.Cmp.Lexicographic.{slice_cmp}
use Rattle.std.specs.FinMap.{get}
use Rattle.std.specs.Ordering.{nat_cmp, ordering_reverse}
use Rattle.std.specs.declared.cmp.Ordering.TheVariants.{Less, Greater}
use Rattle.nuc_base.specs.Names.{IsName}
use Rattle.nuc_base.specs.SamePlace.{SameName, SamePlace}
use Rattle.nuc_base.specs.Trees.{IsUnder, Nodes}
use Rattle.nuc_base.specs.Trees.Under.{here, up}
use Rattle.nuc_base.specs.declared.node.Kind.TheVariants.{Folder}
use Rattle.nuc_base.specs.declared.node.Node.{Node}
use Rattle.nuc_base.proofs.Chains.{under_trans}
use Rattle.nuc_base.proofs.Depths.{no_loop}
use Rattle.nuc_base.proofs.Maps.{not_both, one_node}
use Rattle.nuc_folder.specs.Listing.{AreInside, IsBefore, IsIn, IsItem, IsListing, Unfolds, item_of}
use Rattle.nuc_folder.specs.Listing.Unfolds.{none, next}
use Rattle.nuc_folder.specs.State.{FolderState}
use Rattle.nuc_folder.specs.declared.item.Item.{Item}
use Rattle.nuc_folder.proofs.ByName.{item_parts}
use Rattle.nuc_folder.proofs.OneListing.{Has}
use Rattle.nuc_hash.specs.Content.{content_of}
use Rattle.nuc_observe.specs.Keys.{KeyMap}
use Rattle.nuc_observe.specs.Listing as seen
use Rattle.nuc_observe.specs.Listing.{IsFirstBad, IsGood, IsListedFolder, IsPlacedApart, IsShort, SameItemPlace, kind_of, listed_kind}
use Rattle.nuc_shelf.specs.Shelf.{IsShelf}
use Rattle.nuc_quiet.specs.Fit.{AreFit}
use Rattle.nuc_quiet.proofs.Covered.{all_has, all_items, has_either, has_left, has_right}
use Rattle.nuc_quiet.proofs.Matching.{its_kind}

-- AMONG ITEMS
pushed : (es : List Item) (item j : Item) → Has (es ++ item ∷ []) j → Has es j ⊎ (item ≡ j)
pushed es item j has = elim (has_either es (item ∷ []) j has) [
  | inl old ↦ inl old
  | inr new ↦ elim new [ inl same ↦ inr same | inr never ↦ absurd never ]
]

unlisted_key : (es : List Item) (key : ℕ) → ((j : Item) → Has es j → j.key.0 ≢ key) → listed_kind es key ≡ None
unlisted_key [] key never = refl
unlisted_key (e ∷ es) key never = elim (eqb_tells e.key.0 key) [
  | inl (t, same) ↦ absurd (never e (inl refl) same)
  | inr (t, other) ↦
      ap (λ b. option_map (λ (i : Item). kind_of i.content) (cond b (Some e) (seen.item_of es key))) t
      ∙ unlisted_key es key (λ j has. never j (inr has))
]

placed : (es : List Item) (item : Item) → ((j : Item) → Has es j → ¬ (SameItemPlace j item)) → IsPlacedApart es item
placed [] item never = tt
placed (e ∷ es) item never = (never e (inl refl), placed es item (λ j has. never j (inr has)))

-- no two have one key
abbrev Apart : List Item → Type 0
Apart [] = Unit {0}
Apart (i ∷ items) = ((j : Item) → Has items j → i.key.0 ≢ j.key.0) × Apart items

not_before : (a b : Item) → IsBefore a b → a.name ≢ b.name
not_before a b is same =
    let less : slice_cmp nat_cmp a.name a.name ≡ Less = ap (slice_cmp nat_cmp a.name) same ∙ is in
    let flip : slice_cmp nat_cmp a.name a.name ≡ ordering_reverse (slice_cmp nat_cmp a.name a.name) = nat_list_cmp_total.antisymm a.name a.name in
    let bad : Less ≡ Greater = sym less ∙ flip ∙ ap ordering_reverse less in
    cc

module _ (s : FolderState) (shelf : IsShelf s) where
  parts : (i : Item) → IsItem s i → (n : Node) × (get s.tree i.key.0 ≡ Some n) × (i ≡ item_of i.key.0 n (get s.bytes i.key.0))
  parts i own = item_parts i.key.0 (get s.tree i.key.0) (get s.bytes i.key.0) i own

  -- WHO STANDS BELOW WHOM
  parent_is : (x : ℕ) (i : Item) (is : IsIn s x i) → (parts i is.0).0.place.parent.0 ≡ x
  parent_is x i is = sym (ap (λ (j : Item). j.parent.0) (parts i is.0).2) ∙ is.1

  below_parent : (x : ℕ) (i : Item) → IsIn s x i → IsUnder s.tree i.key.0 x
  below_parent x i is =
      let p = parts i is.0 in
      up i.key.0 p.0 p.1 (subst (λ z. IsUnder s.tree z x) (sym (parent_is x i is)) here)

  not_above : (x : ℕ) (i : Item) → IsIn s x i → ¬ (IsUnder s.tree x i.key.0)
  not_above x i is under =
      let p = parts i is.0 in
      no_loop s.tree i.key.0 p.0 shelf.form p.1 (subst (λ z. IsUnder s.tree z i.key.0) (sym (parent_is x i is)) under)

  above_of : (y b : ℕ) → IsUnder s.tree y b → (n : Node) → get s.tree y ≡ Some n → (y ≡ b) ⊎ IsUnder s.tree n.place.parent.0 b
  above_of y b here n at = inl refl
  above_of _ b (up y k e rest) n at = inr (subst (λ (g : Node). IsUnder s.tree g.place.parent.0 b) (one_node s.tree y k n e at) rest)

  apart_under : (x : ℕ) (a c : Item) → IsIn s x a → IsIn s x c → a.key.0 ≢ c.key.0 → ¬ (IsUnder s.tree a.key.0 c.key.0)
  apart_under x a c is_a is_c other under =
      let p = parts a is_a.0 in
      elim (above_of a.key.0 c.key.0 under p.0 p.1) [
        | inl same ↦ other same
        | inr higher ↦ not_above x c is_c (subst (λ z. IsUnder s.tree z c.key.0) (parent_is x a is_a) higher)
      ]

  -- of two that are above a third one is above the other
  either : (a j c : ℕ) → IsUnder s.tree j a → IsUnder s.tree j c → IsUnder s.tree a c ⊎ IsUnder s.tree c a
  either a j c here under = inl under
  either a _ c (up y n e rest) under = elim (above_of y c under n e) [
    | inl same ↦ inr (subst (λ z. IsUnder s.tree z a) same (up y n e rest))
    | inr higher ↦ either a n.place.parent.0 c rest higher
  ]

  all_under : (x : ℕ) (top all : List Item) → Unfolds s top all → ((i : Item) → Has top i → IsIn s x i)
      → (j : Item) → Has all j → IsUnder s.tree j.key.0 x
  all_under x _ _ none tops_are j has = absurd has
  all_under x _ _ (next item inside tops below rest is under more) tops_are j (inl same) =
      subst (λ (z : Item). IsUnder s.tree z.key.0 x) same (below_parent x item (tops_are item (inl refl)))
  all_under x _ _ (next item inside tops below rest is under more) tops_are j (inr has) = elim (has_either below rest j has) [
    | inl lower ↦ under_trans s.tree item.key.0 j.key.0 x
        (all_under item.key.0 inside below under (λ i in_it. all_has (IsIn s item.key.0) inside i is.each in_it) j lower)
        (below_parent x item (tops_are item (inl refl)))
    | inr later ↦ all_under x tops rest more (λ i in_it. tops_are i (inr in_it)) j later
  ]

  same_name : (a c : Item) → IsItem s a → IsItem s c → a.key.0 ≡ c.key.0 → a.name ≡ c.name
  same_name a c own its key =
      let p = parts a own in
      let q = parts c its in
      let n : p.0 ≡ q.0 = one_node s.tree c.key.0 p.0 q.0 (subst (λ z. get s.tree z ≡ Some p.0) key p.1) q.1 in
      ap (λ (j : Item). j.name) p.2 ∙ ap (λ (g : Node). g.place.name) n ∙ sym (ap (λ (j : Item). j.name) q.2)

  apart_of : (x : ℕ) (items : List Item) → ((i : Item) → Has items i → IsIn s x i) → AllPairs IsBefore items → Apart items
  apart_of x [] are rising = tt
  apart_of x (i ∷ items) are rising = (
    λ j has same. not_before i j
        (all_has (IsBefore i) items j (λ k d within. rising 0 (suc k) d (omega arith) (omega (arith, within))) has)
        (same_name i j (are i (inl refl)).0 (are j (inr has)).0 same),
    apart_of x items (λ j has. are j (inr has)) (λ p q d lt within. rising (suc p) (suc q) d (omega (arith, lt)) (omega (arith, within))),
  )

  -- A FOLDER IS LISTED with its kind
  listed_folder : (es : List Item) (x : ℕ) (h : Node) → ((j : Item) → Has es j → IsItem s j) → get s.tree x ≡ Some h → h.kind ≡ Folder
      → (j : Item) → Has es j → j.key.0 ≡ x → listed_kind es x ≡ Some Folder
  listed_folder [] x h are at folder j has key = absurd has
  listed_folder (e ∷ es) x h are at folder j has key = elim (eqb_tells e.key.0 x) [
    | inl (t, same) ↦
        let p = parts e (are e (inl refl)) in
        let n : p.0 ≡ h = one_node s.tree x p.0 h (subst (λ z. get s.tree z ≡ Some p.0) same p.1) at in
        ap (λ b. option_map (λ (i : Item). kind_of i.content) (cond b (Some e) (seen.item_of es x))) t
        ∙ ap Some (sym (its_kind s shelf e p.0 p.1 p.2) ∙ ap (λ (g : Node). g.kind) n ∙ folder)
    | inr (t, other) ↦
        let later : Has es j = elim has [ inl first ↦ absurd (other (ap (λ (i : Item). i.key.0) first ∙ key)) | inr rest ↦ rest ] in
        ap (λ b. option_map (λ (i : Item). kind_of i.content) (cond b (Some e) (seen.item_of es x))) t
        ∙ listed_folder es x h (λ i in_it. are i (inr in_it)) at folder j later key
  ]

  module _ (keys : KeyMap) (l : Nodes) (fit : AreFit keys l s) where
    -- each is good after those before it
    abbrev GoodFrom : List Item → List Item → Type 0
    GoodFrom earlier [] = Unit {0}
    GoodFrom earlier (item ∷ items) = IsGood keys l earlier item × GoodFrom (earlier ++ item ∷ []) items

    joined : (earlier xs ys : List Item) → GoodFrom earlier xs → GoodFrom (earlier ++ xs) ys → GoodFrom earlier (xs ++ ys)
    joined earlier [] ys first second = subst (λ es. GoodFrom es ys) (append-nil earlier) second
    joined earlier (x ∷ xs) ys first second =
        (first.0, joined (earlier ++ x ∷ []) xs ys first.1 (subst (λ es. GoodFrom es ys) (sym (append_assoc earlier (x ∷ []) xs)) second))

    behind : (earlier xs : List Item) (item : Item) (ys : List Item) → GoodFrom earlier (xs ++ item ∷ ys) → IsGood keys l (earlier ++ xs) item
    behind earlier [] item ys good = subst (λ es. IsGood keys l es item) (sym (append-nil earlier)) good.0
    behind earlier (x ∷ xs) item ys good = subst (λ es. IsGood keys l es item) (append_assoc earlier (x ∷ []) xs) (behind (earlier ++ x ∷ []) xs item ys good.1)

    -- what is so of those before some that are in the folder x itself
    record Stands (earlier : List Item) (x : ℕ) (top : List Item) : Type 0 where
      items : (j : Item) → Has earlier j → IsItem s j
      above : (x ≡ 0) ⊎ ((j : Item) × Has earlier j × (j.key.0 ≡ x))
      inside : (i : Item) → Has top i → IsIn s x i
      apart : Apart top
      fresh : (j i : Item) → Has earlier j → Has top i → ¬ (IsUnder s.tree j.key.0 i.key.0)

    short_by : (x : ℕ) (bytes : Option (List ℕ)) → get s.bytes x ≡ bytes → IsShort (option_map content_of bytes)
    short_by x None is = tt
    short_by x (Some bytes) is = fit.short x bytes is

    folder_by : (earlier : List Item) (x : ℕ) (item : Item) → ((j : Item) → Has earlier j → IsItem s j) → IsIn s x item
        → (x ≡ 0) ⊎ ((j : Item) × Has earlier j × (j.key.0 ≡ x)) → IsListedFolder earlier item.parent.0
    folder_by earlier x item items is above =
        let p = parts item is.0 in
        elim (shelf.form.parents item.key.0 p.0 p.1) [
          | inl root ↦ inl (is.1 ∙ sym (parent_is x item is) ∙ root)
          | inr (h, at, folder) ↦ elim above [
            | inl root ↦ inl (is.1 ∙ root)
            | inr (j, has, key) ↦ inr (listed_folder earlier item.parent.0 h items
                (subst (λ z. get s.tree z ≡ Some h) (parent_is x item is ∙ sym is.1) at) folder j has (key ∙ sym is.1))
          ]
        ]

    good_one : (earlier : List Item) (x : ℕ) (item : Item) (tops : List Item) → Stands earlier x (item ∷ tops) → IsGood keys l earlier item
    good_one earlier x item tops st =
        let is = st.inside item (inl refl) in
        let p = parts item is.0 in
        let kind = its_kind s shelf item p.0 p.1 p.2 in
        let other : (j : Item) → Has earlier j → j.key.0 ≢ item.key.0 = λ j has same.
        st.fresh j item has (inl refl) (subst (λ z. IsUnder s.tree z item.key.0) (sym same) here) in
        record {
          own = (let some : item.key.0 ≢ 0 = λ zero_key.
              not_both s.tree 0 p.0 shelf.form.no_root (subst (λ z. get s.tree z ≡ Some p.0) zero_key p.1) in omega (arith, some));
          new = unlisted_key earlier item.key.0 other;
          apart = placed earlier item (λ j has near.
              let q = parts j (st.items j has) in
              let place : SamePlace q.0.place p.0.place = record {
                parent = sym (ap (λ (i : Item). i.parent.0) q.2) ∙ near.0 ∙ ap (λ (i : Item). i.parent.0) p.2;
                name = subst (λ a. SameName a p.0.place.name) (ap (λ (i : Item). i.name) q.2)
                    (subst (λ a. SameName j.name a) (ap (λ (i : Item). i.name) p.2) near.1);
              } in
              other j has (shelf.form.places j.key.0 item.key.0 q.0 p.0 q.1 p.1 place));
          parent = folder_by earlier x item st.items is st.above;
          name = subst IsName (sym (ap (λ (i : Item). i.name) p.2)) (fit.names item.key.0 p.0 p.1);
          kind = λ y n key at. fit.kinds y item.key.0 n p.0 key at p.1 ∙ kind;
          short = subst IsShort (sym (ap (λ (i : Item). i.content) p.2)) (short_by item.key.0 (get s.bytes item.key.0) refl);
        }

    -- THE WALK
    lower_stands : (earlier : List Item) (x : ℕ) (item : Item) (tops inside : List Item) → AreInside s item.key.0 inside → Stands earlier x (item ∷ tops)
        → Stands (earlier ++ item ∷ []) item.key.0 inside
    lower_stands earlier x item tops inside is st =
        let are : (i : Item) → Has inside i → IsIn s item.key.0 i = λ i has. all_has (IsIn s item.key.0) inside i is.each has in
        record {
          items = λ j has. elim (pushed earlier item j has) [
            | inl old ↦ st.items j old
            | inr same ↦ subst (IsItem s) same (st.inside item (inl refl)).0
          ];
          above = inr (item, has_right earlier (item ∷ []) item (inl refl), refl);
          inside = are;
          apart = apart_of item.key.0 inside are is.rising;
          fresh = λ j i has in_it under. elim (pushed earlier item j has) [
            | inl old ↦ st.fresh j item old (inl refl) (under_trans s.tree i.key.0 j.key.0 item.key.0 under (below_parent item.key.0 i (are i in_it)))
            | inr same ↦ not_above item.key.0 i (are i in_it) (subst (λ (z : Item). IsUnder s.tree z.key.0 i.key.0) (sym same) under)
          ];
        }

    later_stands : (earlier : List Item) (x : ℕ) (item : Item) (tops inside below : List Item) → AreInside s item.key.0 inside → Unfolds s inside below
        → Stands earlier x (item ∷ tops) → Stands ((earlier ++ item ∷ []) ++ below) x tops
    later_stands earlier x item tops inside below is unfolds st =
        let lower = lower_stands earlier x item tops inside is st in
        record {
          items = λ j has. elim (has_either (earlier ++ item ∷ []) below j has) [
            | inl first ↦ lower.items j first
            | inr second ↦ all_items s inside below (λ i in_it. (lower.inside i in_it).0) unfolds j second
          ];
          above = elim st.above [
            | inl root ↦ inl root
            | inr (j, has, key) ↦ inr (j, has_left (earlier ++ item ∷ []) below j (has_left earlier (item ∷ []) j has), key)
          ];
          inside = λ i has. st.inside i (inr has);
          apart = st.apart.1;
          fresh = λ j t has in_it under. elim (has_either (earlier ++ item ∷ []) below j has) [
            | inl first ↦ elim (pushed earlier item j first) [
              | inl old ↦ st.fresh j t old (inr in_it) under
              | inr same ↦ apart_under x item t (st.inside item (inl refl)) (st.inside t (inr in_it)) (st.apart.0 t in_it)
                  (subst (λ (z : Item). IsUnder s.tree z.key.0 t.key.0) (sym same) under)
            ]
            | inr second ↦ elim (either item.key.0 j.key.0 t.key.0 (all_under item.key.0 inside below unfolds lower.inside j second) under) [
              | inl first ↦ apart_under x item t (st.inside item (inl refl)) (st.inside t (inr in_it)) (st.apart.0 t in_it) first
              | inr back ↦ apart_under x t item (st.inside t (inr in_it)) (st.inside item (inl refl)) (λ same. st.apart.0 t in_it (sym same)) back
            ]
          ];
        }

    all_good : (earlier : List Item) (x : ℕ) (top all : List Item) → Unfolds s top all → Stands earlier x top → GoodFrom earlier all
    all_good earlier x _ _ none st = tt
    all_good earlier x _ _ (next item inside tops below rest is unfolds rest_unfolds) st = (
      good_one earlier x item tops st,
      joined (earlier ++ item ∷ []) below rest (all_good (earlier ++ item ∷ []) item.key.0 inside below unfolds (lower_stands earlier x item tops inside is st))
          (all_good ((earlier ++ item ∷ []) ++ below) x tops rest rest_unfolds (later_stands earlier x item tops inside below is unfolds st)),
    )

    pub none_bad : (items : List Item) → IsListing s items → (number : ℕ) → ¬ (IsFirstBad keys l items (Some number))
    none_bad items listing number (earlier, item, later, split, count, good, bad) =
        let are : (i : Item) → Has listing.top i → IsIn s 0 i = λ i has. all_has (IsIn s 0) listing.top i listing.inside.each has in
        let whole : GoodFrom [] items = all_good [] 0 listing.top items listing.unfolds (record {
          items = λ j has. absurd has;
          above = inl refl;
          inside = are;
          apart = apart_of 0 listing.top are listing.inside.rising;
          fresh = λ j i has in_it under. has;
        }) in
        bad (behind [] earlier item later (subst (GoodFrom []) split whole))
