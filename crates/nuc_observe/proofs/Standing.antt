-- The tree of a listing's nodes, item by item.
use Rattle.std.proofs.Common.{◌≡◌, ◌≢◌, ◌∙◌, ◌==◌, ◌<◌, ◌≤◌, ◌+◌, ℕ, zero, suc, true, false, cond, Contains, List, [], ◌∷◌, ◌++◌, length, take, get_or, Option, None, Some, refl, sym, ap, subst, inl, inr, arith}
use Rattle.std.specs.Prelude.{map, option_map, unwrap_or}
use Rattle.std.specs.FinMap.{empty, from_entries, from_entries_push, get, get-empty, get-from_entries, insert, nat_cmp-IsAntisymmetric}
use Rattle.std.specs.Ordering.{nat_cmp}
use Rattle.std.proofs.lemmas.Bool.{cases_eq, eq-eqb, eqb-true}
use Rattle.std.proofs.lemmas.Cmp.{nat_cmp_total}
use Rattle.std.proofs.lemmas.List.{take_more, get_or_append_left, get_or_push, length_push}
use Rattle.std.proofs.lemmas.List.Elements.{Contains-append_right}
use Rattle.nuc_base.specs.Kinds.{FitsKind}
use Rattle.nuc_base.specs.Legal.{LegalPut}
use Rattle.nuc_base.specs.SamePlace.{SamePlace}
use Rattle.nuc_base.specs.Trees.{IsFolder, IsUnder, NoChild, Nodes, WellFormed}
use Rattle.nuc_base.specs.declared.node.Kind.{Kind}
use Rattle.nuc_base.specs.declared.node.Kind.TheVariants.{Folder}
use Rattle.nuc_base.specs.declared.node.Node.{Node}
use Rattle.nuc_base.proofs.Chains.{under_childless}
use Rattle.nuc_base.proofs.Forms.{empty_form, put_keeps}
use Rattle.nuc_base.proofs.Maps.{after_put, get_put_other, get_put_same, not_both}
use Rattle.nuc_folder.specs.declared.item.Item.{Item}
use Rattle.nuc_lookup.specs.Rows.{Numbers}
use Rattle.nuc_observe.specs.Keys.{KeyMap}
use Rattle.nuc_observe.specs.Listing.{IsGood, IsGoodListing, KeepsItemKind, nothing, more, item_of, kind_of, listed_kind}
use Rattle.nuc_observe.specs.Made.{ComeInTurn, IsNext, nodes_in}
use Rattle.nuc_observe.specs.Observed.{Before, identity, node_of, observed_node, observed_nodes, own_version}
use Rattle.nuc_observe.specs.Turns.{next_after, next_after_all}
use Rattle.nuc_observe.specs.declared.observed_node.ObservedNode.{ObservedNode}
use Rattle.nuc_observe.proofs.Fresh.{step_rises}
use Rattle.nuc_observe.proofs.InTurn as turn
use Rattle.nuc_observe.proofs.Members.{ArePart, IsParent, found, listed, next_parent, parents, part_front, part_head, part_last, part_tail, placed_apart}

-- ONE NODE MORE
abbrev entry : ObservedNode → ℕ × Node
entry n = (n.id.0, n.node)

entries_push : (nodes : List ObservedNode) (n : ObservedNode) → map entry (nodes ++ n ∷ []) ≡ map entry nodes ++ entry n ∷ []
entries_push [] n = refl
entries_push (k ∷ nodes) n = ap (λ es. entry k ∷ es) (entries_push nodes n)

pub nodes_push : (nodes : List ObservedNode) (n : ObservedNode) → get (nodes_in nodes) n.id.0 ≡ None → nodes_in (nodes ++ n ∷ []) ≡ insert (nodes_in nodes) n.id.0 n.node
nodes_push nodes n absent =
    ap from_entries (entries_push nodes n)
    ∙ from_entries_push nat_cmp_total nat_cmp-IsAntisymmetric (map entry nodes) n.id.0 n.node (sym (get-from_entries nat_cmp_total (map entry nodes) n.id.0) ∙ absent)

take_front : {A : Type 0} (i : ℕ) (xs ys : List A) → i ≤ length xs → take i (xs ++ ys) ≡ take i xs
take_front zero xs ys le = refl
take_front (suc i) [] ys le = absurd (omega (arith, le))
take_front (suc i) (x ∷ xs) ys le = ap (λ l. x ∷ l) (take_front i xs ys (omega (arith, le)))

take_all_front : {A : Type 0} (xs ys : List A) → take (length xs) (xs ++ ys) ≡ xs
take_all_front [] ys = refl
take_all_front (x ∷ xs) ys = ap (λ l. x ∷ l) (take_all_front xs ys)

pub come_push : (nodes : List ObservedNode) (n : ObservedNode) → ComeInTurn nodes → IsNext (nodes_in nodes) n → ComeInTurn (nodes ++ n ∷ [])
come_push nodes n come next i d within = elim (cases_eq i (length nodes)) [
  | inl last ↦
      subst (λ k. IsNext (nodes_in k) (get_or (nodes ++ n ∷ []) i d)) (sym (ap (λ j. take j (nodes ++ n ∷ [])) last ∙ take_all_front nodes (n ∷ [])))
      (subst (IsNext (nodes_in nodes)) (sym (get_or_push nodes n d i (sym last))) next)
  | inr other ↦
      let long = length_push nodes n in
      let inside : i < length nodes = omega (arith, long, within, other) in
      subst (λ k. IsNext (nodes_in k) (get_or (nodes ++ n ∷ []) i d)) (sym (take_front i nodes (n ∷ []) (omega (arith, inside))))
      (subst (IsNext (nodes_in (take i nodes))) (sym (get_or_append_left nodes (n ∷ []) d i inside)) (come i d inside))
]

-- after one node more of a list
pub tree_more : (nodes : List ObservedNode) (i : ℕ) (n : ObservedNode) → i < length nodes → n ≡ get_or nodes i n → get (nodes_in (take i nodes)) n.id.0 ≡ None
    → nodes_in (take (i + 1) nodes) ≡ insert (nodes_in (take i nodes)) n.id.0 n.node
tree_more nodes i n within is absent =
    ap nodes_in (take_more nodes i n within ∙ ap (λ k. take i nodes ++ k ∷ []) (sym is)) ∙ nodes_push (take i nodes) n absent

-- WHO IS ABSENT
none_there : (o : Option Node) → ((n : Node) → o ≡ Some n → ⊥) → o ≡ None
none_there None no_one = refl
none_there (Some n) no_one = absurd (no_one n refl)

-- nobody stands below who is absent
childless : (m : Nodes) (x : ℕ) → WellFormed m → 0 < x → get m x ≡ None → NoChild m x
childless m x form above absent y n at e = elim (form.parents y n at) [
  | inl root ↦ omega (arith, above, sym e ∙ root)
  | inr (k, there, folder) ↦ not_both m x k absent (subst (λ z. get m z ≡ Some k) e there)
]

no_cycle : (m : Nodes) (x p : ℕ) → WellFormed m → 0 < x → get m x ≡ None → IsFolder m p → ¬ (IsUnder m p x)
no_cycle m x p form above absent folder under =
    let same : p ≡ x = under_childless m x p (childless m x form above absent) under in
    elim folder [
      | inl root ↦ omega (arith, above, sym same ∙ root)
      | inr (k, there, is) ↦ not_both m x k absent (subst (λ z. get m z ≡ Some k) same there)
    ]

-- IN TURN
module _ (b : Before) (ids : Numbers) (whole : List Item) (root : identity ids 0 ≡ 0)
    (above : (i : Item) → Contains whole i → 0 < identity ids i.key.0)
    (apart : (i j : Item) → Contains whole i → Contains whole j → identity ids i.key.0 ≡ identity ids j.key.0 → i.key.0 ≡ j.key.0) where
  -- who stands there is an item's
  pub who : (next : ℕ) (items : List Item) (y : ℕ) (n : Node) → get (nodes_in (observed_nodes b ids next items)) y ≡ Some n
      → (i : Item) × (ver : ℕ) × Contains items i × (y ≡ identity ids i.key.0) × (n ≡ node_of ids ver i)
  who next [] y n at = absurd (not_both empty y n (get-empty nat_cmp y) at)
  who next (item ∷ items) y n at =
      let ver = unwrap_or (own_version b item) next in
      let after = next_after (own_version b item) next in
      elim (after_put (nodes_in (observed_nodes b ids after items)) (identity ids item.key.0) (node_of ids ver item) y n at) [
        | inl (same, is) ↦ (item, ver, (0, omega arith, refl), same, is)
        | inr (other, later) ↦ (let rest = who after items y n later in (rest.0, rest.1, Contains-append_right (item ∷ []) items rest.0 rest.2, rest.3, rest.4))
      ]

  -- what is listed stands there
  there : (next : ℕ) (items : List Item) → ArePart items whole → (key : ℕ) (kind : Kind) → listed_kind items key ≡ Some kind
      → (n : Node) × (get (nodes_in (observed_nodes b ids next items)) (identity ids key) ≡ Some n) × (n.kind ≡ kind)
  there next [] part key kind is = cc
  there next (item ∷ items) part key kind is =
      let ver = unwrap_or (own_version b item) next in
      let after = next_after (own_version b item) next in
      let m = nodes_in (observed_nodes b ids after items) in
      let x = identity ids item.key.0 in
      let node = node_of ids ver item in
      elim (item.key.0 == key) as (λ t. (item.key.0 == key) ≡ t → option_map (λ i. kind_of i.content) (cond t (Some item) (item_of items key)) ≡ Some kind
      → (n : Node) × (get (insert m x node) (identity ids key) ≡ Some n) × (n.kind ≡ kind)) [
        | true ↦ λ here e. (node, subst (λ k. get (insert m x node) (identity ids k) ≡ Some node) (eqb-true _ _ here) (get_put_same m x node), cc)
        | false ↦ λ later e.
            let rest = there after items (part_tail item items whole part) key kind e in
            let i = found items key kind e in
            let other : identity ids key ≢ x = λ same.
            let one : i.0.key.0 ≡ item.key.0 = apart i.0 item (part_tail item items whole part i.0 i.1) (part_head item items whole part) (ap (identity ids) i.2 ∙ same) in
            let f : true ≡ false = sym (eq-eqb _ _ (sym one ∙ i.2)) ∙ later in cc in
            (rest.0, get_put_other m x node (identity ids key) other ∙ rest.1, rest.2)
      ] refl is

  one_parent : (p q : ℕ) → IsParent whole p → IsParent whole q → identity ids p ≡ identity ids q → p ≡ q
  one_parent p q (inl first) (inl second) same = first ∙ sym second
  one_parent p q (inl first) (inr (j, has, is)) same =
      let up = above j has in
      absurd (omega (arith, up, ap (identity ids) is, ap (identity ids) first, root, same))
  one_parent p q (inr (i, has, is)) (inl second) same =
      let up = above i has in
      absurd (omega (arith, up, ap (identity ids) is, ap (identity ids) second, root, same))
  one_parent p q (inr (i, has, is)) (inr (j, also, so)) same =
      sym is ∙ apart i j has also (ap (identity ids) is ∙ same ∙ sym (ap (identity ids) so)) ∙ so

  absent : (next : ℕ) (earlier : List Item) (item : Item) → ArePart (earlier ++ item ∷ []) whole → listed_kind earlier item.key.0 ≡ None
      → get (nodes_in (observed_nodes b ids next earlier)) (identity ids item.key.0) ≡ None
  absent next earlier item part new = none_there _ (λ n at.
      let w = who next earlier (identity ids item.key.0) n at in
      let same = apart item w.0 (part_last earlier item whole part) (part_front earlier item whole part w.0 w.2) w.3 in
      listed earlier w.0 w.2 (ap (listed_kind earlier) (sym same) ∙ new))

  module _ (keys : KeyMap) (l : Nodes)
      (fit : (i : Item) (ver : ℕ) → KeepsItemKind keys l i.key.0 (kind_of i.content) → 0 < ver → FitsKind (node_of ids (unwrap_or (own_version b i) ver) i)) where
    -- the next item's node may be put
    legal : (next ver : ℕ) (earlier : List Item) (item : Item) → IsGoodListing keys l earlier → IsGood keys l earlier item → ArePart (earlier ++ item ∷ []) whole
        → WellFormed (nodes_in (observed_nodes b ids next earlier)) → LegalPut (nodes_in (observed_nodes b ids next earlier)) (identity ids item.key.0) (node_of ids ver item)
    legal next ver earlier item good is part form =
        let m = nodes_in (observed_nodes b ids next earlier) in
        let x = identity ids item.key.0 in
        let none : get m x ≡ None = absent next earlier item part is.new in
        let up : 0 < x = above item (part_last earlier item whole part) in
        let folder : IsFolder m (identity ids item.parent.0) = elim is.parent [
          | inl top ↦ inl (ap (identity ids) top ∙ root)
          | inr key ↦ inr (there next earlier (part_front earlier item whole part) item.parent.0 Folder key)
        ] in
        record {
          kind = λ n at. absurd (not_both m x n none at);
          parent = folder;
          free = λ y n at same.
              let w = who next earlier y n at in
              let place = subst (λ (k : Node). SamePlace k.place (node_of ids ver item).place) w.4 same in
              let one = one_parent _ _ (parents keys l earlier whole good (part_front earlier item whole part) w.0 w.2) (next_parent keys l earlier item whole part is.parent) place.parent in
              absurd (placed_apart earlier w.0 item is.apart w.2 (one, place.name));
          no_cycle = no_cycle m x (identity ids item.parent.0) form up none folder;
        }

    rises : (next : ℕ) (items : List Item) → next ≤ next_after_all (own_version b) next items
    rises next [] = omega arith
    rises next (item ∷ items) =
        let first = step_rises (own_version b item) next in
        let rest = rises (next_after (own_version b item) next) items in
        omega (arith, first, rest)

    next_is : (next : ℕ) (earlier : List Item) (item : Item) → 0 < next → IsGoodListing keys l earlier → IsGood keys l earlier item → ArePart (earlier ++ item ∷ []) whole
        → WellFormed (nodes_in (observed_nodes b ids next earlier))
        → IsNext (nodes_in (observed_nodes b ids next earlier)) (observed_node ids (unwrap_or (own_version b item) (next_after_all (own_version b) next earlier)) item)
    next_is next earlier item some good is part form = record {
      above = above item (part_last earlier item whole part);
      absent = absent next earlier item part is.new;
      legal = legal next _ earlier item good is part form;
      fits = (let up = rises next earlier in fit item (next_after_all (own_version b) next earlier) is.kind (omega (arith, up, some)));
    }

    one_more : (next : ℕ) (earlier : List Item) (item : Item)
        → observed_nodes b ids next (earlier ++ item ∷ []) ≡ observed_nodes b ids next earlier ++ observed_node ids (unwrap_or (own_version b item) (next_after_all (own_version b) next earlier)) item ∷ []
    one_more next earlier item = turn.more (own_version b) (λ (ver : ℕ) (i : Item). observed_node ids ver i ∷ []) next earlier item

    pub formed : (next : ℕ) (items : List Item) → 0 < next → IsGoodListing keys l items → ArePart items whole → WellFormed (nodes_in (observed_nodes b ids next items))
    formed next items some nothing part = empty_form
    formed next items some (more earlier item good is) part =
        let form = formed next earlier some good (part_front earlier item whole part) in
        let n = next_is next earlier item some good is part form in
        subst WellFormed (sym (ap nodes_in (one_more next earlier item) ∙ nodes_push _ _ n.absent)) (put_keeps _ _ _ form n.legal n.above n.fits)

    pub come : (next : ℕ) (items : List Item) → 0 < next → IsGoodListing keys l items → ArePart items whole → ComeInTurn (observed_nodes b ids next items)
    come next items some nothing part = λ i d within. absurd (omega (arith, within))
    come next items some (more earlier item good is) part =
        let before = part_front earlier item whole part in
        subst ComeInTurn (sym (one_more next earlier item))
        (come_push _ _ (come next earlier some good before) (next_is next earlier item some good is part (formed next earlier some good before)))
