-- The rounds in which the rows of a kept image are put.
use Rattle.std.proofs.Common.{◌≡◌, ◌≢◌, ◌⊎◌, ◌<◌, ◌≤◌, ◌+◌, ◌==◌, ◌++◌, ℕ, Bool, true, false, cond, get_or, List, [], ◌∷◌, length, Option, None, Some, refl, sym, ap, subst, ◌∙◌, inl, inr, arith, is_some}
use Rattle.std.proofs.lemmas.Bool.Decides.{eqb_tells}
use Rattle.std.specs.FinMap as map
use Rattle.std.specs.FinMap.{get, insert, get-empty}
use Rattle.std.specs.Ordering.{nat_cmp}
use Rattle.nuc_base.specs.Legal.{LegalPut}
use Rattle.nuc_base.specs.SamePlace.{SamePlace}
use Rattle.nuc_base.specs.Trees.{Nodes, Held, IsFolder, IsVacant, StandsAt, WellFormed}
use Rattle.nuc_base.specs.declared.node.Kind.TheVariants.{Folder, File}
use Rattle.nuc_base.specs.declared.node.Node.{Node}
use Rattle.nuc_base.specs.declared.node.Place.{Place}
use Rattle.nuc_base.proofs.Alike.{under_absent}
use Rattle.nuc_base.proofs.Maps.{after_put, get_put_other, get_put_same, not_both, one_node}
use Rattle.nuc_shelf.proofs.Bytes.{led_same, led_other}
use Rattle.nuc_shelf.proofs.Shelves.{empty_is}
use Rattle.nuc_shelf.specs.Shelf.{IsShelf, ShelfState, empty_shelf}
use Rattle.nuc_folder.specs.Memory.{IsKeyed}
use Rattle.nuc_folder.specs.Shelves.{AreStuck, Faulty, Has, HasSuch, Holds, IsFit, IsIn, Opens, Rooted, RowFaulty, bytes_in, count, node_at, node_in, node_of, one, row_of, there, with_item, with_row}
use Rattle.nuc_folder.specs.Shelves.Rooted.{top, inside}
use Rattle.nuc_folder.specs.State.{FolderState, KeysBelow, place_of}
use Rattle.nuc_folder.specs.declared.noticed.Noticed.{Noticed}
use Rattle.nuc_folder.specs.declared.shelved.Shelved.{Shelved}
use Rattle.nuc_folder.specs.declared.shelved.ShelvedFault.{ShelvedFault}
use Rattle.nuc_folder.specs.declared.shelved.ShelvedFault.TheVariants as shelved

-- LISTS OF ROWS
has_end : (xs : List Shelved) (r row : Shelved) → Has (xs ++ r ∷ []) row → Has xs row ⊎ (r ≡ row)
has_end [] r row (inl is) = inr is
has_end [] r row (inr gone) = absurd gone
has_end (x ∷ xs) r row (inl is) = inl (inl is)
has_end (x ∷ xs) r row (inr has) = elim (has_end xs r row has) [ inl a ↦ inl (inr a) | inr is ↦ inr is ]

has_front : (xs : List Shelved) (r row : Shelved) → Has xs row → Has (xs ++ r ∷ []) row
has_front [] r row gone = absurd gone
has_front (x ∷ xs) r row (inl is) = inl is
has_front (x ∷ xs) r row (inr has) = inr (has_front xs r row has)

has_last : (xs : List Shelved) (r : Shelved) → Has (xs ++ r ∷ []) r
has_last [] r = inl refl
has_last (x ∷ xs) r = inr (has_last xs r)

count_end : (x : ℕ) (xs : List Shelved) (r : Shelved) → count x (xs ++ r ∷ []) ≡ count x xs + one (r.key.0 == x)
count_end x [] r = omega arith
count_end x (y ∷ xs) r = let more = count_end x xs r in omega (arith, more)

pub stuck_end : (m : Nodes) (xs : List Shelved) (r : Shelved) → AreStuck m xs → ¬ (IsFolder m r.place.parent.0) → AreStuck m (xs ++ r ∷ [])
stuck_end m xs r stuck lost = λ row has. elim (has_end xs r row has) [
  | inl a ↦ stuck row a
  | inr is ↦ subst (λ (q : Shelved). ¬ (IsFolder m q.place.parent.0)) is lost
]

-- WITH A ROW
item_tree : (s : FolderState) (x : ℕ) (place : Place) (bit : Bool) (o : Option (List ℕ)) → (with_item s x place bit o).tree ≡ insert s.tree x (node_at o place bit)
item_tree s x place bit None = refl
item_tree s x place bit (Some bytes) = refl

item_same : (s : FolderState) (x : ℕ) (place : Place) (bit : Bool) (o : Option (List ℕ)) → get s.bytes x ≡ None → get (with_item s x place bit o).bytes x ≡ o
item_same s x place bit None gone = gone
item_same s x place bit (Some bytes) gone = led_same s.bytes x (Some bytes)

item_other : (s : FolderState) (x : ℕ) (place : Place) (bit : Bool) (o : Option (List ℕ)) (q : ℕ) → q ≢ x → get (with_item s x place bit o).bytes q ≡ get s.bytes q
item_other s x place bit None q apart = refl
item_other s x place bit (Some bytes) q apart = led_other s.bytes x (Some bytes) q apart

node_place : (o : Option (List ℕ)) (place : Place) (bit : Bool) → (node_at o place bit).place ≡ place
node_place None place bit = refl
node_place (Some bytes) place bit = refl

absent_of : (o : Option Node) → ((n : Node) → o ≡ Some n → ⊥) → o ≡ None
absent_of None gone = refl
absent_of (Some n) gone = absurd (gone n refl)

bytes_gone : (s : ShelfState) (x : ℕ) (o : Option (List ℕ)) → IsShelf s → get s.tree x ≡ None → get s.bytes x ≡ o → o ≡ None
bytes_gone s x None shelf gone is = refl
bytes_gone s x (Some bytes) shelf gone is =
    let (n, at, file) = shelf.files x (ap is_some is) in absurd (not_both s.tree x n gone at)

module _ (next : ℕ) (s : FolderState) (r : Shelved) (shelf : IsShelf s) (gone : get s.tree r.key.0 ≡ None) where
  tree_is : (with_row s r).tree ≡ insert s.tree r.key.0 (node_of r)
  tree_is = item_tree s r.key.0 (place_of r.place) r.bit r.bytes

  new_in : IsFit next r → IsIn next (with_row s r) r
  new_in fit = (
    ap (λ m. get m r.key.0) tree_is ∙ get_put_same s.tree r.key.0 (node_of r),
    item_same s r.key.0 (place_of r.place) r.bit r.bytes (bytes_gone s r.key.0 (get s.bytes r.key.0) shelf gone refl),
    fit,
  )

  old_in : (row : Shelved) → IsIn next s row → IsIn next (with_row s r) row
  old_in row (at, bytes, fit) =
      let apart : row.key.0 ≢ r.key.0 = λ e. not_both s.tree r.key.0 (node_of row) gone (subst (λ x. get s.tree x ≡ Some (node_of row)) e at) in (
        ap (λ m. get m row.key.0) tree_is ∙ get_put_other s.tree r.key.0 (node_of r) row.key.0 apart ∙ at,
        item_other s r.key.0 (place_of r.place) r.bit r.bytes row.key.0 apart ∙ bytes,
        fit,
      )

  there_now : (x : ℕ) → there (get (with_row s r).tree x) ≡ there (get s.tree x) + one (r.key.0 == x)
  there_now x = elim (eqb_tells r.key.0 x) [
    | inl (t, e) ↦
        let now : there (get (with_row s r).tree x) ≡ 1 = ap there (ap (λ m. get m x) tree_is ∙ subst (λ z. get (insert s.tree r.key.0 (node_of r)) z ≡ Some (node_of r)) e (get_put_same s.tree r.key.0 (node_of r))) in
        let before : there (get s.tree x) ≡ 0 = ap there (subst (λ z. get s.tree z ≡ None) e gone) in
        let more : one (r.key.0 == x) ≡ 1 = ap one t in
        omega (arith, now, before, more)
    | inr (t, apart) ↦
        let same : there (get (with_row s r).tree x) ≡ there (get s.tree x) = ap there (ap (λ m. get m x) tree_is ∙ get_put_other s.tree r.key.0 (node_of r) x (λ e. apart (sym e))) in
        let more : one (r.key.0 == x) ≡ 0 = ap one t in
        omega (arith, same, more)
  ]

-- ROUNDS
pub begins : (next : ℕ) (rows : List Shelved) (s : FolderState) → s ≡ empty_shelf → Opens next rows s rows []
begins next rows s e =
    let gone : (x : ℕ) → get s.tree x ≡ None = λ x. ap (λ (t : FolderState). get t.tree x) e ∙ get-empty nat_cmp x in
    record {
      all = λ row has. inr (inl has);
      waits = λ row has. elim has [ inl a ↦ a | inr b ↦ absurd b ];
      source = λ x n at. absurd (not_both s.tree x n (gone x) at);
      counts = λ x. let none_there : there (get s.tree x) ≡ 0 = ap there (gone x) in omega (arith, none_there);
    }

pub next_round : (next : ℕ) (rows : List Shelved) (s : FolderState) (rest : List Shelved) → Opens next rows s [] rest → Opens next rows s rest []
next_round next rows s rest opens = record {
  all = λ row has. elim (opens.all row has) [ inl is ↦ inl is | inr w ↦ elim w [ inl a ↦ absurd a | inr b ↦ inr (inl b) ] ];
  waits = λ row has. elim has [ inl a ↦ opens.waits row (inr a) | inr b ↦ absurd b ];
  source = opens.source;
  counts = λ x. let e = opens.counts x in omega (arith, e);
}

module _ (next : ℕ) (rows : List Shelved) (s : FolderState) (r : Shelved) (left rest : List Shelved) (opens : Opens next rows s (left ++ r ∷ []) rest) where
  has_row : Has rows r
  has_row = opens.waits r (inl (has_last left r))

  pub waits_on : Opens next rows s left (rest ++ r ∷ [])
  waits_on = record {
    all = λ row has. elim (opens.all row has) [
      | inl is ↦ inl is
      | inr w ↦ elim w [
        | inl a ↦ elim (has_end left r row a) [
          | inl b ↦ inr (inl b)
          | inr is ↦ inr (inr (subst (Has (rest ++ r ∷ [])) is (has_last rest r)))
        ]
        | inr b ↦ inr (inr (has_front rest r row b))
      ]
    ];
    waits = λ row has. elim has [
      | inl a ↦ opens.waits row (inl (has_front left r row a))
      | inr b ↦ elim (has_end rest r row b) [
        | inl a ↦ opens.waits row (inr a)
        | inr is ↦ subst (Has rows) is has_row
      ]
    ];
    source = opens.source;
    counts = λ x. let e = opens.counts x in let a = count_end x left r in let b = count_end x rest r in omega (arith, e, a, b);
  }

  pub put_in : IsShelf s → get s.tree r.key.0 ≡ None → IsFit next r → Opens next rows (with_row s r) left rest
  put_in shelf gone fit = record {
    all = λ row has. elim (opens.all row has) [
      | inl is ↦ inl (old_in next s r shelf gone row is)
      | inr w ↦ elim w [
        | inl a ↦ elim (has_end left r row a) [
          | inl b ↦ inr (inl b)
          | inr is ↦ inl (subst (IsIn next (with_row s r)) is (new_in next s r shelf gone fit))
        ]
        | inr b ↦ inr (inr b)
      ]
    ];
    waits = λ row has. elim has [ inl a ↦ opens.waits row (inl (has_front left r row a)) | inr b ↦ opens.waits row (inr b) ];
    source = λ x n at.
        let put : get (insert s.tree r.key.0 (node_of r)) x ≡ Some n = sym (ap (λ m. get m x) (tree_is next s r shelf gone)) ∙ at in
        elim (after_put s.tree r.key.0 (node_of r) x n put) [
          | inl (same, is) ↦ (r, has_row, sym same, new_in next s r shelf gone fit)
          | inr (apart, f) ↦ let (row, has, key, is) = opens.source x n f in (row, has, key, old_in next s r shelf gone row is)
        ];
    counts = λ x. let e = opens.counts x in let a = count_end x left r in let b = there_now next s r shelf gone x in omega (arith, e, a, b);
  }

  twice : (n : Node) → get s.tree r.key.0 ≡ Some n → 1 < count r.key.0 rows
  twice n at =
      let e = opens.counts r.key.0 in
      let a = count_end r.key.0 left r in
      let here : there (get s.tree r.key.0) ≡ 1 = ap there at in
      elim (eqb_tells r.key.0 r.key.0) [
        | inl (t, same) ↦ let more : one (r.key.0 == r.key.0) ≡ 1 = ap one t in omega (arith, e, a, here, more)
        | inr (t, apart) ↦ absurd (apart refl)
      ]

  pub row_faulty : (fault : ShelvedFault) → RowFaulty next s.tree r fault → Faulty next rows fault
  row_faulty (shelved.BadKey key) (same, inl bad) = inr (r, has_row, sym same, inl bad)
  row_faulty (shelved.BadKey key) (same, inr (inl bad)) = inr (r, has_row, sym same, inr (inl bad))
  row_faulty (shelved.BadKey key) (same, inr (inr (n, at))) = inr (r, has_row, sym same, inr (inr (twice n at)))
  row_faulty (shelved.NoParent key) gone = absurd gone
  row_faulty (shelved.Taken key) (same, (y, n, at, place, apart)) =
      let (other, has, other_key, is) = opens.source y n at in
      let node = one_node s.tree y n (node_of other) at (subst (λ z. get s.tree z ≡ Some (node_of other)) other_key is.0) in
      let stands = ap (λ (k : Node). k.place) node ∙ node_place other.bytes (place_of other.place) other.bit in
      (r, has_row, sym same, (other, has, λ e. apart (sym other_key ∙ e), subst (λ p. SamePlace p (place_of r.place)) stands place))
  row_faulty (shelved.TooLong key) (same, long) = (r, has_row, sym same, long)
  row_faulty (shelved.HasBit key) (same, folder, bit) = (r, has_row, sym same, (folder, bit))
  row_faulty shelved.Memory ok = tt

-- the same, where the lists are named
module _ (next : ℕ) (rows : List Shelved) (s : FolderState) (r : Shelved) (waiting left rest : List Shelved) (pop : waiting ≡ left ++ r ∷ []) (opens : Opens next rows s waiting rest) where
  popped : Opens next rows s (left ++ r ∷ []) rest
  popped = subst (λ w. Opens next rows s w rest) pop opens

  pub round_put : (t : FolderState) → IsShelf s → (get s.tree r.key.0 ≡ None) × IsFit next r × (t ≡ with_row s r) → Opens next rows t left rest
  round_put t shelf ok = subst (λ u. Opens next rows u left rest) (sym ok.2) (put_in next rows s r left rest popped shelf ok.0 ok.1)

  pub round_wait : (more : List Shelved) → more ≡ rest ++ r ∷ [] → Opens next rows s left more
  round_wait more push = subst (λ w. Opens next rows s left w) (sym push) (waits_on next rows s r left rest popped)

  pub round_fault : (fault : ShelvedFault) → RowFaulty next s.tree r fault → Faulty next rows fault
  round_fault fault bad = row_faulty next rows s r left rest popped fault bad

-- THE END
Finds : ℕ → List Shelved → Type 0
Finds x rows = ((row : Shelved) × (row_of x rows ≡ Some row) × Has rows row × (row.key.0 ≡ x)) ⊎ ((row_of x rows ≡ None) × ((row : Shelved) → Has rows row → row.key.0 ≢ x))

found : (x : ℕ) (rows : List Shelved) → Finds x rows
unfolding Finds
found x [] = inr (refl, λ row gone. absurd gone)
found x (r ∷ rows) = elim (eqb_tells r.key.0 x) [
  | inl (t, e) ↦ inl (r, ap (λ b. cond b (Some r) (row_of x rows)) t, inl refl, e)
  | inr (t, apart) ↦ elim (found x rows) [
    | inl (row, is, has, key) ↦ inl (row, ap (λ b. cond b (Some r) (row_of x rows)) t ∙ is, inr has, key)
    | inr (is, lost) ↦ inr (
      ap (λ b. cond b (Some r) (row_of x rows)) t ∙ is,
      λ row has. elim has [
        | inl same ↦ λ e. apart (ap (λ (q : Shelved). q.key.0) same ∙ e)
        | inr h ↦ lost row h
      ],
    )
  ]
]

there_most : (o : Option Node) → there o ≤ 1
there_most None = omega arith
there_most (Some n) = omega arith

module _ (next : ℕ) (rows : List Shelved) (s : FolderState) (shelf : IsShelf s) (opens : Opens next rows s [] []) where
  all_in : (row : Shelved) → Has rows row → IsIn next s row
  all_in row has = elim (opens.all row has) [ inl is ↦ is | inr w ↦ elim w [ inl a ↦ absurd a | inr b ↦ absurd b ] ]

  none_at : (x : ℕ) → ((row : Shelved) → Has rows row → row.key.0 ≢ x) → get s.tree x ≡ None
  none_at x lost = absent_of (get s.tree x) (λ n at. let (row, has, key, is) = opens.source x n at in lost row has key)

  tree_at : (x : ℕ) → get s.tree x ≡ node_in (row_of x rows)
  unfolding Finds
  tree_at x = elim (found x rows) [
    | inl (row, is, has, key) ↦ subst (λ z. get s.tree z ≡ Some (node_of row)) key (all_in row has).0 ∙ sym (ap node_in is)
    | inr (is, lost) ↦ none_at x lost ∙ sym (ap node_in is)
  ]

  bytes_at : (x : ℕ) → get s.bytes x ≡ bytes_in (row_of x rows)
  unfolding Finds
  bytes_at x = elim (found x rows) [
    | inl (row, is, has, key) ↦ subst (λ z. get s.bytes z ≡ row.bytes) key (all_in row has).1 ∙ sym (ap bytes_in is)
    | inr (is, lost) ↦ bytes_gone s x (get s.bytes x) shelf (none_at x lost) refl ∙ sym (ap bytes_in is)
  ]

  pub holds : Holds next rows s
  holds = record {
    tree = tree_at;
    bytes = bytes_at;
    fit = λ row has. (all_in row has).2;
    once = λ x. let e = opens.counts x in let most = there_most (get s.tree x) in omega (arith, e, most);
  }

folder_kind : (o : Option (List ℕ)) (place : Place) (bit : Bool) → o ≡ None → (node_at o place bit).kind ≡ Folder
folder_kind o place bit e = ap (λ b. (node_at b place bit).kind) e

-- where no waiting row has its parent there, none has parents that lead to the folder itself
rooted_in : (next : ℕ) (rows : List Shelved) (s : FolderState) (left : List Shelved) → Opens next rows s left [] → AreStuck s.tree left → (x : ℕ) → Rooted rows x → IsFolder s.tree x
rooted_in next rows s left opens stuck x top = inl refl
rooted_in next rows s left opens stuck x (inside row has folder above) = elim (opens.all row has) [
  | inl is ↦ inr (node_of row, is.0, folder_kind row.bytes (place_of row.place) row.bit folder)
  | inr w ↦ elim w [
    | inl a ↦ absurd (stuck row a (rooted_in next rows s left opens stuck row.place.parent.0 above))
    | inr b ↦ absurd b
  ]
]

pub lost_row : (next : ℕ) (rows : List Shelved) (s : FolderState) (left : List Shelved) → Opens next rows s left [] → AreStuck s.tree left
    → (row : Shelved) → Has left row → HasSuch rows row.key.0 (λ q. ¬ (Rooted rows q.place.parent.0))
lost_row next rows s left opens stuck row has =
    (row, opens.waits row (inl has), refl, λ u. stuck row has (rooted_in next rows s left opens stuck row.place.parent.0 u))

-- ONE ROW
pub legal_new : (m : Nodes) (x : ℕ) (n : Node) → WellFormed m → 0 < x → get m x ≡ None → IsFolder m n.place.parent.0 → IsVacant m n.place → LegalPut m x n
legal_new m x n form some gone folder vacant = record {
  kind = λ k at. absurd (not_both m x k gone at);
  parent = folder;
  free = λ y k at same. absurd (vacant y k at same);
  no_cycle = under_absent m x n.place.parent.0 form some folder gone;
}

pub held_new : (m : Nodes) (x y : ℕ) (p : Place) → get m x ≡ None → StandsAt m y p → Held m p x
held_new m x y p gone (n, at, same) = (y, n, at, same, λ e. not_both m x n gone (subst (λ z. get m z ≡ Some n) e at))

-- A ROUND IN WHICH NONE WAS PUT
pub first_has : (xs : List Shelved) (x : Shelved) → 0 < length xs → x ≡ get_or xs 0 x → Has xs x
first_has [] x long is = absurd (omega arith)
first_has (y ∷ xs) x long is = inl (sym is)

empty_list : (xs : List Shelved) → length xs ≡ 0 → xs ≡ []
empty_list [] long = refl
empty_list (y ∷ xs) long = absurd (omega (arith, long))

pub holds_all : (next : ℕ) (rows : List Shelved) (s : FolderState) (left : List Shelved) → IsShelf s → length left ≡ 0 → Opens next rows s left [] → Holds next rows s
holds_all next rows s left shelf long opens = holds next rows s shelf (subst (λ w. Opens next rows s w []) (empty_list left long) opens)

-- THE FOLDER
pub keyed_rows : (next : ℕ) (rows : List Shelved) (s : FolderState) (pending : List Noticed) → IsShelf s → 0 < next → Holds next rows s
    → IsKeyed (record { held = s; next = next; pending = pending })
unfolding Finds
keyed_rows next rows s pending shelf some is = record {
  shelf = shelf;
  below = λ x n at. elim (found x rows) [
    | inl (row, found_at, has, key) ↦ subst (λ z. z < next) key (is.fit row has).1
    | inr (found_at, lost) ↦ absurd (not_both s.tree x n (is.tree x ∙ ap node_in found_at) at)
  ];
  some = some;
}

pub keyed_empty : (next : ℕ) (s : FolderState) (pending : List Noticed) → s ≡ empty_shelf → 0 < next → IsKeyed (record { held = s; next = next; pending = pending })
keyed_empty next s pending e some = subst (λ (h : FolderState). IsKeyed (record { held = h; next = next; pending = pending })) (sym e) (record {
  shelf = empty_is;
  below = λ x n at. absurd (not_both map.empty x n (get-empty nat_cmp x) at);
  some = some;
})
