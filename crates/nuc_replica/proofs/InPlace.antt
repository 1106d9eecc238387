-- How x comes in place of y: y goes aside, x comes, the children of y move below it, and y goes.
use Rattle.std.proofs.Common.{◌≡◌, cond, ◌≢◌, ◌<◌, ◌≤◌, ℕ, zero, suc, ◌+◌, List, [], ◌∷◌, ◌++◌, map, take, length, get_or, reverse, Option, Some, None, option_map, refl, sym, ap, subst, ◌∙◌, inl, inr, arith}
use Rattle.std.specs.Prelude.{All, IfSome, slice_get}
use Rattle.std.proofs.Math.Numerals.{add-one}
use Rattle.std.specs.FinMap.{get, insert, remove}
use Rattle.std.proofs.lemmas.Bool.Decides.{eqb_tells}
use Rattle.std.proofs.lemmas.List.{length-append, length-map, get_or-map, get_or_append_left, map-append, reverse-append, take_all}
use Rattle.std.proofs.lemmas.List.Sorted.{IsPermutation-reverse}
use Rattle.std.proofs.lemmas.Option.{get_or_from_slice_get, slice_get-get_or, slice_get_cases, slice_get_within}
use Rattle.nuc_base.specs.Changes.{Apart, FitsChange, IsLegal}
use Rattle.nuc_base.specs.Kinds.{FitsKind}
use Rattle.nuc_base.specs.Legal.{LegalCut, LegalPut}
use Rattle.nuc_base.specs.Ready.{AllReady, LegalInTurn, NoneTwice, OneOf, all_changed}
use Rattle.nuc_base.specs.Renamed.{IsRenamed, child_renamed, with_parent}
use Rattle.nuc_base.specs.SamePlace.{SamePlace, same_name-refl, same_place-sym, same_place-trans}
use Rattle.nuc_base.specs.Trees.{IsFolder, IsUnder, IsVacant, Nodes, WellFormed, children}
use Rattle.nuc_base.specs.Trees.Under.{here, up}
use Rattle.nuc_base.specs.declared.change.Change.{Change}
use Rattle.nuc_base.specs.declared.change.Change.TheVariants.{Put}
use Rattle.nuc_base.specs.declared.node.Kind.TheVariants.{Folder}
use Rattle.nuc_base.specs.declared.node.Node.{Node}
use Rattle.nuc_base.proofs.Alike.{under_absent}
use Rattle.nuc_base.proofs.Changed.{tree_after}
use Rattle.nuc_base.proofs.Children.{child_of, child_rises, child_there}
use Rattle.nuc_base.proofs.Depths.{no_loop}
use Rattle.nuc_base.proofs.InTurn.{change_or_none, every_order, get_all_changed, get_unchanged}
use Rattle.nuc_base.proofs.Maps.{after_put, get_cut_other, get_cut_same, get_put_other, get_put_same, not_both, one_node, same_or_not}
use Rattle.nuc_replica.specs.Renaming.{CanRename, IsReady, Rewritten, beside, change_of, move_of, moves_of}
use Rattle.nuc_replica.specs.declared.renaming.Moved.{Moved}
use Rattle.nuc_replica.specs.declared.renaming.Renaming.{Renaming}
use Rattle.nuc_undo.specs.State.{UndoState}

-- THE MOVES OF THE CHILDREN
pub record IsMove (m : Nodes) (y x : ℕ) (w : ℕ) (c : Change) : Type 0 where
  pub node : Node
  pub there : get m w ≡ Some node
  pub parent : node.place.parent.0 ≡ y
  pub change : c ≡ Put (with_parent x node)

module _ (m : Nodes) (y x : ℕ) where
  abbrev go : ℕ → ℕ × Change
  go w = (w, move_of x (get m w))

  as_many : length (moves_of m y x) ≡ length (children m y)
  as_many = length-map (children m y) go

  move_at : (k w : ℕ) (c : Change) → k < length (children m y) → get_or (moves_of m y x) k (w, c) ≡ (w, c)
      → (w ≡ get_or (children m y) k w) × (c ≡ move_of x (get m (get_or (children m y) k w)))
  move_at k w c within at =
      let is : (get_or (children m y) k w, move_of x (get m (get_or (children m y) k w))) ≡ (w, c) =
      sym (get_or-map go (children m y) k w (w, c) within) ∙ at in
      (sym (ap (λ (q : ℕ × Change). q.0) is), sym (ap (λ (q : ℕ × Change). q.1) is))

  pub move_is : (w : ℕ) (c : Change) → OneOf (moves_of m y x) w c → IsMove m y x w c
  move_is w c (k, below, at) =
      let within : k < length (children m y) = omega (arith, below, as_many) in
      let is = move_at k w c within at in
      let there = child_there m y k (get_or (children m y) k w) (slice_get-get_or (children m y) k w within) in
      record {
        node = there.0;
        there = ap (get m) is.0 ∙ there.1;
        parent = there.2;
        change = is.1 ∙ ap (move_of x) there.1;
      }

  pub is_moved : (w : ℕ) (n : Node) → get m w ≡ Some n → n.place.parent.0 ≡ y → OneOf (moves_of m y x) w (Put (with_parent x n))
  is_moved w n there parent =
      let at = child_of m y w n there parent in
      let as_move : Option Node → ℕ × Change = λ o. (w, move_of x o) in
      let same : get_or (children m y) at.0 w ≡ w = get_or_from_slice_get (children m y) at.0 w w at.2 in (
        at.0,
        omega (arith, at.1, as_many),
        get_or-map go (children m y) at.0 w (w, Put (with_parent x n)) at.1
            ∙ ap go same ∙ ap as_move there,
      )

  pub moves_once : NoneTwice (moves_of m y x)
  moves_once i j d less below same =
      let size = as_many in
      let within : j < length (children m y) = omega (arith, below, size) in
      let first = get_or-map go (children m y) i d.0 d (omega (arith, less, within)) in
      let second = get_or-map go (children m y) j d.0 d within in
      let rise = child_rises m y i j (get_or (children m y) i d.0) (get_or (children m y) j d.0) less
      (slice_get-get_or (children m y) i d.0 (omega (arith, less, within))) (slice_get-get_or (children m y) j d.0 within) in
      let one = ap (λ (q : ℕ × Change). q.0) (sym first) ∙ same ∙ ap (λ (q : ℕ × Change). q.0) second in
      omega (arith, rise, one)

-- ONE MORE IS COPIED
take_next : (f : ℕ → ℕ × Change) (xs : List ℕ) (n y : ℕ) → slice_get xs n ≡ Some y → take (n + 1) (map f xs) ≡ take n (map f xs) ++ f y ∷ []
take_next f [] n y at = absurd (let none : None ≡ Some y = at in cc)
take_next f (x ∷ xs) zero y at = let is : Some x ≡ Some y = at in let same : x ≡ y = cc in ap (λ v. f v ∷ []) same
take_next f (x ∷ xs) (suc n) y at =
    let rest : take (n + 1) (map f xs) ≡ take n (map f xs) ++ f y ∷ [] = take_next f xs n y at in
    rw (add-one (suc n)) (ap (λ cs. f x ∷ cs) (sym (ap (λ k. take k (map f xs)) (add-one n)) ∙ rest))

pub one_more : (m : Nodes) (y x id : ℕ) (items more : List Moved) (one : Moved) → map change_of items ≡ take (length items) (moves_of m y x)
    → slice_get (children m y) (length items) ≡ Some id → change_of one ≡ (id, move_of x (get m id)) → more ≡ items ++ one ∷ []
    → (map change_of more ≡ take (length more) (moves_of m y x)) × (length more ≤ length (children m y)) × (length more ≡ length items + 1)
one_more m y x id items more one before at is same =
    let size : length more ≡ length items + 1 = ap length same ∙ length-append items (one ∷ []) in
    let within : length items < length (children m y) = slice_get_within (children m y) (length items) id at in (
      ap (map change_of) same ∙ map-append change_of items (one ∷ []) ∙ ap (λ cs. cs ++ change_of one ∷ []) before
          ∙ ap (λ c. take (length items) (moves_of m y x) ++ c ∷ []) is
          ∙ sym (take_next (go m y x) (children m y) (length items) id at) ∙ sym (ap (λ n. take n (moves_of m y x)) size),
      omega (arith, within, size),
      size,
    )

pub all_copied : (m : Nodes) (y x : ℕ) (items : List Moved) → map change_of items ≡ take (length items) (moves_of m y x)
    → None ≡ slice_get (children m y) (length items) → map change_of items ≡ moves_of m y x
all_copied m y x items is none =
    let all : length (children m y) ≤ length items = elim (slice_get_cases (children m y) (length items)).1 [
      | inl (w, within, at, same) ↦ absurd (let not : None ≡ Some w = none ∙ at in cc)
      | inr (all, past) ↦ all
    ] in
    is ∙ take_all (length items) (moves_of m y x) (omega (arith, all, as_many m y x))

-- ONE IS PUT, the last first
pub last_first : (before after : List Moved) (one : Moved) → before ≡ after ++ one ∷ [] → reverse (map change_of before) ≡ change_of one ∷ reverse (map change_of after)
last_first before after one is = ap (λ cs. reverse (map change_of cs)) is ∙ ap reverse (map-append change_of after (one ∷ [])) ∙ reverse-append (map change_of after) (change_of one ∷ [])

pub all_before : (P : Moved → Type 0) (before after : List Moved) (one : Moved) → before ≡ after ++ one ∷ [] → All P before → All P after
all_before P before after one is all k d within =
    let size = length-append after (one ∷ []) in
    subst P (get_or_append_left after (one ∷ []) d k within) (subst (All P) is all k d (omega (arith, within, size)))

pub rewritten_more : (j k n : ℕ) (s t u : UndoState) → n ≡ j + k → Rewritten j s t → Rewritten k t u → Rewritten n s u
rewritten_more j k n s t u sum one more = record {
  settled = more.settled ∙ one.settled;
  laid = more.laid ∙ one.laid;
  laid_then = more.laid_then ∙ one.laid_then;
  spare = omega (arith, sum, one.spare, more.spare);
  spare_then = omega (arith, one.spare_then, more.spare_then);
}

-- THE COPIES ARE THOSE MOVES
pub copy_some : (m : Nodes) (y x : ℕ) (items : List Moved) → WellFormed m → map change_of items ≡ moves_of m y x → All (λ moved. (0 < moved.id.0) × FitsKind moved.node) items
copy_some m y x items form is k d within =
    let one = get_or items k d in
    let at : get_or (moves_of m y x) k (change_of one) ≡ change_of one =
    ap (λ cs. get_or cs k (change_of one)) (sym is) ∙ get_or-map change_of items k d (change_of one) within in
    let size = length-map items change_of in
    let long : length (map change_of items) ≡ length (moves_of m y x) = ap length is in
    let move = move_is m y x one.id.0 (Put one.node) (k, omega (arith, within, size, long), at) in
    let same : Put one.node ≡ Put (with_parent x move.node) = move.change in
    let node : one.node ≡ with_parent x move.node = cc in (
      elim (same_or_not one.id.0 0) [
        | inl e ↦ absurd (not_both m 0 move.node form.no_root (subst (λ z. get m z ≡ Some move.node) e move.there))
        | inr some ↦ omega (arith, some)
      ],
      subst FitsKind (sym node) (form.fits one.id.0 move.node move.there),
    )

-- from below another than itself on, the parent is below it too
step_up : (m : Nodes) (b a : ℕ) (n : Node) → IsUnder m a b → a ≢ b → get m a ≡ Some n → IsUnder m n.place.parent.0 b
step_up m b a n here apart at = absurd (apart refl)
step_up m b a n (up w k e u) apart at = subst (λ (r : Node). IsUnder m r.place.parent.0 b) (one_node m w k n e at) u

module _ (m : Nodes) (y x : ℕ) (node : Node) (aside : List ℕ) (form : WellFormed m) (can : CanRename m y x node aside) where
  abbrev own : Node
  own = can.stands.own

  -- the node of y, put aside
  abbrev pub put_aside : Node
  put_aside = record own { place = beside own aside }

  apart : x ≢ y
  apart e = not_both m x own can.absent (subst (λ z. get m z ≡ Some own) (sym e) can.stands.there)

  pub some_y : 0 < y
  some_y = elim (same_or_not y 0) [
    | inl e ↦ absurd (not_both m 0 own form.no_root (subst (λ z. get m z ≡ Some own) e can.stands.there))
    | inr some ↦ omega (arith, some)
  ]

  not_own_parent : own.place.parent.0 ≢ y
  not_own_parent e = no_loop m y own form can.stands.there (subst (λ z. IsUnder m z y) (sym e) here)

  node_parent : node.place.parent.0 ≡ own.place.parent.0
  node_parent = can.stands.place.parent

  -- nobody is a folder of the new number yet
  not_below : (q : ℕ) → IsFolder m q → q ≢ x
  not_below q (inl root) e = absurd (let some = can.some in omega (arith, root, e, some))
  not_below q (inr (p, at, folder)) e = not_both m x p can.absent (subst (λ z. get m z ≡ Some p) e at)

  -- Y GOES ASIDE
  vacant : IsVacant m (beside own aside)
  vacant w n at near = can.vacant w n at (same_place-trans _ _ _ near (record { parent = sym node_parent; name = same_name-refl aside }))

  pub aside_fits : FitsKind put_aside
  aside_fits = form.fits y own can.stands.there

  pub aside_legal : LegalPut m y put_aside
  aside_legal = record {
    kind = λ n at. ap (λ (r : Node). r.kind) (one_node m y n own at can.stands.there);
    parent = form.parents y own can.stands.there;
    free = λ w n at near. absurd (vacant w n at near);
    no_cycle = no_loop m y own form can.stands.there;
  }

  abbrev first : Nodes
  first = insert m y put_aside

  first_form : WellFormed first
  first_form = tree_after m y (Put put_aside) form some_y aside_fits aside_legal

  -- X COMES
  first_parent : IsFolder first node.place.parent.0
  first_parent = subst (IsFolder first) (sym node_parent) (first_form.parents y put_aside (get_put_same m y put_aside))

  first_absent : get first x ≡ None
  first_absent = get_put_other m y put_aside x apart ∙ can.absent

  first_free : (w : ℕ) (n : Node) → get first w ≡ Some n → ¬ (SamePlace n.place node.place)
  first_free w n at near = elim (after_put m y put_aside w n at) [
    | inl (s, is) ↦ vacant y own can.stands.there (same_place-trans _ _ _ (same_place-sym _ _ can.stands.place)
        (same_place-sym _ _ (subst (λ (r : Node). SamePlace r.place node.place) is near)))
    | inr (other, was) ↦ other (form.places w y n own was can.stands.there (same_place-trans _ _ _ near can.stands.place))
  ]

  pub node_legal : LegalPut first x node
  node_legal = record {
    kind = λ n at. absurd (not_both first x n first_absent at);
    parent = first_parent;
    free = λ w n at near. absurd (first_free w n at near);
    no_cycle = under_absent first x node.place.parent.0 first_form can.some first_parent first_absent;
  }

  abbrev second : Nodes
  second = insert first x node

  second_form : WellFormed second
  second_form = tree_after first x (Put node) first_form can.some can.fits node_legal

  second_other : (w : ℕ) → w ≢ x → w ≢ y → get second w ≡ get m w
  second_other w off_x off_y = get_put_other first x node w off_x ∙ get_put_other m y put_aside w off_y

  second_y : get second y ≡ Some put_aside
  second_y = get_put_other first x node y (λ e. apart (sym e)) ∙ get_put_same m y put_aside

  -- who stands in the second tree
  second_from : (P : Node → Type 0) (v : ℕ) (h : Node) → get second v ≡ Some h → P node → P put_aside
      → ((w : ℕ) (n : Node) → w ≢ x → w ≢ y → get m w ≡ Some n → w ≡ v → P n) → P h
  second_from P v h at new old others = elim (after_put first x node v h at) [
    | inl (s, is) ↦ subst P (sym is) new
    | inr (off_x, was) ↦ elim (after_put m y put_aside v h was) [
      | inl (s, is) ↦ subst P (sym is) old
      | inr (off_y, there) ↦ others v h off_x off_y there refl
    ]
  ]

  own_off : own.place.parent.0 ≢ x
  own_off = not_below own.place.parent.0 (form.parents y own can.stands.there)

  none_below : (v : ℕ) (h : Node) → get second v ≡ Some h → h.place.parent.0 ≢ x
  none_below v h at = second_from (λ n. n.place.parent.0 ≢ x) v h at (λ e. own_off (sym node_parent ∙ e)) own_off
      (λ w n off_x off_y there same. not_below n.place.parent.0 (form.parents w n there))

  -- THE CHILDREN MOVE
  module _ (w : ℕ) (n : Node) (there : get m w ≡ Some n) (parent : n.place.parent.0 ≡ y) where
    child_off_x : w ≢ x
    child_off_x e = not_both m x n can.absent (subst (λ z. get m z ≡ Some n) e there)

    child_off_y : w ≢ y
    child_off_y e = not_own_parent (ap (λ (r : Node). r.place.parent.0) (one_node m y own n can.stands.there (subst (λ z. get m z ≡ Some n) e there)) ∙ parent)

    some_child : 0 < w
    some_child = elim (same_or_not w 0) [
      | inl e ↦ absurd (not_both m 0 n form.no_root (subst (λ z. get m z ≡ Some n) e there))
      | inr some ↦ omega (arith, some)
    ]

    child_second : get second w ≡ Some n
    child_second = second_other w child_off_x child_off_y ∙ there

    y_folder : IsFolder m y → own.kind ≡ Folder
    y_folder (inl root) = absurd (let some = some_y in omega (arith, root, some))
    y_folder (inr (p, at, folder)) = ap (λ (r : Node). r.kind) (one_node m y own p can.stands.there at) ∙ folder

    no_ring : ¬ (IsUnder second x w)
    no_ring u =
        let rest : IsUnder second node.place.parent.0 w = step_up second w x node u (λ e. child_off_x (sym e)) (get_put_same first x node) in
        let from_y : IsUnder second y w = up y put_aside second_y (subst (λ z. IsUnder second z w) node_parent rest) in
        no_loop second w n second_form child_second (subst (λ z. IsUnder second z w) (sym parent) from_y)

    child_legal : LegalPut second w (with_parent x n)
    child_legal = record {
      kind = λ k at. ap (λ (r : Node). r.kind) (one_node second w k n at child_second);
      parent = inr (node, get_put_same first x node, can.stands.kind ∙ y_folder (subst (IsFolder m) parent (form.parents w n there)));
      free = λ v h at near. absurd (none_below v h at near.parent);
      no_cycle = no_ring;
    }

  moves_ready : AllReady second (OneOf (moves_of m y x))
  moves_ready = record {
    below = λ w c its. let is = move_is m y x w c its in some_child w is.node is.there is.parent;
    fits = λ w c its. let is = move_is m y x w c its in subst FitsChange (sym is.change) (form.fits w is.node is.there);
    legal = λ w c its. let is = move_is m y x w c its in subst (IsLegal second w) (sym is.change) (child_legal w is.node is.there is.parent);
    apart = λ w v c d its other off.
        let is = move_is m y x w c its in
        let too = move_is m y x v d other in
        let both : Apart second w (Put (with_parent x is.node)) v (Put (with_parent x too.node)) = record {
          places = λ near. off (form.places w v is.node too.node is.there too.there (record { parent = is.parent ∙ sym too.parent; name = near.name }));
          first = λ _. no_ring w is.node is.there is.parent;
          second = λ _. no_ring v too.node too.there too.parent;
        } in
        subst (λ c. Apart second w c v d) (sym is.change) (subst (λ d. Apart second w (Put (with_parent x is.node)) v d) (sym too.change) both);
  }

  moved_back : LegalInTurn second (reverse (moves_of m y x)) × WellFormed (all_changed second (reverse (moves_of m y x)))
      × (all_changed second (reverse (moves_of m y x)) ≡ all_changed second (moves_of m y x))
  moved_back = every_order second (moves_of m y x) (reverse (moves_of m y x)) second_form (moves_once m y x) moves_ready (IsPermutation-reverse (moves_of m y x))

  pub moves_legal : LegalInTurn second (reverse (moves_of m y x))
  moves_legal = moved_back.0

  abbrev third : Nodes
  third = all_changed second (moves_of m y x)

  third_child : (w : ℕ) (n : Node) → get m w ≡ Some n → n.place.parent.0 ≡ y → get third w ≡ Some (with_parent x n)
  third_child w n there parent = get_all_changed second (moves_of m y x) w (Put (with_parent x n)) (moves_once m y x) (is_moved m y x w n there parent)

  third_other : (w : ℕ) → ((n : Node) → get m w ≡ Some n → n.place.parent.0 ≢ y) → get third w ≡ get second w
  third_other w none = get_unchanged second (moves_of m y x) w (λ c its. let is = move_is m y x w c its in none is.node is.there is.parent)

  third_y : get third y ≡ Some put_aside
  third_y = third_other y (λ n at e. not_own_parent (ap (λ (r : Node). r.place.parent.0) (one_node m y own n can.stands.there at) ∙ e)) ∙ second_y

  -- Y GOES
  childless : (v : ℕ) (h : Node) → get third v ≡ Some h → h.place.parent.0 ≢ y
  childless v h at = elim (change_or_none (moves_of m y x) v) [
    | inl (c, its) ↦
        let is = move_is m y x v c its in
        let same : h ≡ with_parent x is.node = one_node third v h (with_parent x is.node) at (third_child v is.node is.there is.parent) in
        λ e. apart (sym (ap (λ (r : Node). r.place.parent.0) same) ∙ e)
    | inr none ↦
        second_from (λ n. n.place.parent.0 ≢ y) v h (sym (get_unchanged second (moves_of m y x) v none) ∙ at)
        (λ e. not_own_parent (sym node_parent ∙ e)) not_own_parent
        (λ w n off_x off_y there same parent. none (Put (with_parent x n)) (subst (λ z. OneOf (moves_of m y x) z (Put (with_parent x n))) same (is_moved m y x w n there parent)))
  ]

  pub end_legal : (k : Nodes) → k ≡ all_changed second (reverse (moves_of m y x)) → LegalCut k y
  end_legal k is =
      let cut : LegalCut third y = record { there = (put_aside, third_y); empty = childless } in
      subst (λ t. LegalCut t y) (sym (is ∙ moved_back.2)) cut

  renamed_child : (n : Node) → n.place.parent.0 ≡ y → child_renamed y x n ≡ with_parent x n
  renamed_child n e = elim (eqb_tells n.place.parent.0 y) [
    | inl (t, s) ↦ ap (λ b. cond b (with_parent x n) n) t
    | inr (t, off) ↦ absurd (off e)
  ]

  renamed_other : (n : Node) → n.place.parent.0 ≢ y → child_renamed y x n ≡ n
  renamed_other n off = elim (eqb_tells n.place.parent.0 y) [
    | inl (t, s) ↦ absurd (off s)
    | inr (t, other) ↦ ap (λ b. cond b (with_parent x n) n) t
  ]

  third_at : (w : ℕ) → w ≢ x → w ≢ y → (o : Option Node) → get m w ≡ o → get third w ≡ option_map (child_renamed y x) o
  third_at w off_x off_y None at = third_other w (λ n there. absurd (not_both m w n at there)) ∙ second_other w off_x off_y ∙ at
  third_at w off_x off_y (Some n) at = elim (same_or_not n.place.parent.0 y) [
    | inl e ↦ third_child w n at e ∙ ap Some (sym (renamed_child n e))
    | inr off ↦ third_other w (λ k there e. off (ap (λ (r : Node). r.place.parent.0) (one_node m w n k at there) ∙ e)) ∙ second_other w off_x off_y ∙ at
        ∙ ap Some (sym (renamed_other n off))
  ]

  third_renamed : IsRenamed m y x node (remove third y)
  third_renamed = record {
    came = get_cut_other third y x apart ∙ third_other x (λ n at. absurd (not_both m x n can.absent at)) ∙ get_put_same first x node;
    gone = get_cut_same third y;
    others = λ w off_x off_y. get_cut_other third y w off_y ∙ third_at w off_x off_y (get m w) refl;
  }

  pub is_renamed : (k : Nodes) → k ≡ remove (all_changed second (reverse (moves_of m y x))) y → IsRenamed m y x node k
  is_renamed k is = subst (IsRenamed m y x node) (sym (is ∙ ap (λ t. remove t y) moved_back.2)) third_renamed

-- WITH THE COPIES THAT WERE MADE
module _ (m : Nodes) (y x : ℕ) (node : Node) (copies : Renaming) (form : WellFormed m) (ready : IsReady m y x node copies) where
  put_is : copies.aside ≡ put_aside m y x node ready.name form ready.can
  put_is = subst (λ o. IfSome o (λ own. copies.aside ≡ record own { place = beside own ready.name })) ready.can.stands.there ready.nodes.aside

  pub copy_fits : FitsKind copies.aside
  copy_fits = subst FitsKind (sym put_is) (aside_fits m y x node ready.name form ready.can)

  pub copy_legal : LegalPut m y copies.aside
  copy_legal = subst (LegalPut m y) (sym put_is) (aside_legal m y x node ready.name form ready.can)

  module _ (one : Nodes) (first_is : one ≡ insert m y copies.aside) where
    one_is : one ≡ insert m y (put_aside m y x node ready.name form ready.can)
    one_is = first_is ∙ ap (insert m y) put_is

    pub next_legal : LegalPut one x node
    next_legal = subst (λ k. LegalPut k x node) (sym one_is) (node_legal m y x node ready.name form ready.can)

    module _ (two : Nodes) (second_is : two ≡ insert one x node) where
      two_is : two ≡ insert (insert m y (put_aside m y x node ready.name form ready.can)) x node
      two_is = second_is ∙ ap (λ k. insert k x node) one_is

      backwards : reverse (map change_of copies.children.items) ≡ reverse (moves_of m y x)
      backwards = ap reverse ready.nodes.children

      pub copies_legal : LegalInTurn two (reverse (map change_of copies.children.items))
      copies_legal = subst (λ cs. LegalInTurn two cs) (sym backwards) (subst (λ k. LegalInTurn k (reverse (moves_of m y x))) (sym two_is) (moves_legal m y x node ready.name form ready.can))

      module _ (three : Nodes) (third_is : three ≡ all_changed two (reverse (map change_of copies.children.items))) where
        three_is : three ≡ all_changed (insert (insert m y (put_aside m y x node ready.name form ready.can)) x node) (reverse (moves_of m y x))
        three_is = third_is ∙ ap (λ cs. all_changed two cs) backwards ∙ ap (λ k. all_changed k (reverse (moves_of m y x))) two_is

        pub last_legal : LegalCut three y
        last_legal = end_legal m y x node ready.name form ready.can three three_is

        pub now_renamed : (k : Nodes) → k ≡ remove three y → IsRenamed m y x node k
        now_renamed k is = is_renamed m y x node ready.name form ready.can k (is ∙ ap (λ t. remove t y) three_is)
