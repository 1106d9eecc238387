-- What the list of entries says of the map that it stands for.
use Rattle.std.proofs.Common.{◌≡◌, ◌≢◌, ◌<◌, ◌≤◌, ℕ, zero, suc, Bool, true, false, List, [], ◌∷◌, length, map, get_or, set, cond, Option, Some, None, MatchOption, MatchBool, refl, sym, ap, subst, ◌∙◌, inl, inr, arith}
use Rattle.std.specs.Prelude.{T, ◌&&◌, ◌==◌, slice_get, option_map, filter}
use Rattle.std.specs.List.{insert, remove, All, HoldsAt}
use Rattle.std.specs.FinMap as map
use Rattle.std.specs.FinMap.{find, is_sorted, get-from_sorted, get-empty, entries-from_sorted, len-entries}
use Rattle.std.specs.FinMap.Entries.{below_all}
use Rattle.std.specs.Ordering.{nat_cmp, is_lt}
use Rattle.std.specs.declared.cmp.Ordering.TheVariants.{Less}
use Rattle.std.specs.Cmp.{nat_cmp_is}
use Rattle.nuc_base.specs.SamePlace.{SamePlace}
use Rattle.nuc_base.specs.Trees.{Nodes, IsThere, IsVacant, StandsAt, HasChild, NoChild, has_parent, children}
use Rattle.nuc_base.specs.declared.node.Node.{Node}
use Rattle.nuc_base.specs.declared.node.NodeId.{NodeId}
use Rattle.nuc_base.specs.declared.node.Place.{Place}
use Rattle.nuc_base.proofs.Maps.{same_or_not, same_nodes, get_put_same, get_put_other, get_cut_same, get_cut_other}
use Rattle.nuc_tree.specs.Entries.{pairs, nodes_of, IsBelow, IsRising, IsFound, IsGap, child_ids}
use Rattle.nuc_tree.specs.declared.entry.Entry.{Entry}
use Rattle.nuc_tree.proofs.Search.{below_at}
use Rattle.nuc_tree.proofs.Rows.{entry_of, find_here, find_later, find_found, find_gap, rising_set, rising_insert, rising_remove, find_set_same, find_set_other, find_insert_same, find_insert_other, find_remove_same, find_remove_other}

both : (a b : Bool) → T a → T b → T (a && b)
both true b p q = q
both false b p q = absurd p

less : (x y : ℕ) → x < y → T (is_lt (nat_cmp x y))
less x y lt = subst (λ o. T (is_lt o)) (nat_cmp_is x y Less lt) tt

below : (x : ℕ) (es : List Entry) → IsBelow x es → T (below_all nat_cmp x (pairs es))
below x [] b = tt
below x (e ∷ es) b = both _ _ (less x e.id.0 b.0) (below x es b.1)

sorted : (es : List Entry) → IsRising es → T (is_sorted nat_cmp (pairs es))
sorted [] r = tt
sorted (e ∷ es) r = both _ _ (below e.id.0 es r.0) (sorted es r.1)

get_of : (es : List Entry) → IsRising es → (x : ℕ) → map.get (nodes_of es) x ≡ find nat_cmp x (pairs es)
get_of es r x = get-from_sorted nat_cmp (pairs es) x (sorted es r)

pub nobody : nodes_of [] ≡ map.empty
nobody = same_nodes _ _ (λ x. get_of [] tt x ∙ sym (get-empty nat_cmp x))

length_pairs : (es : List Entry) → length (pairs es) ≡ length es
length_pairs [] = refl
length_pairs (e ∷ es) = ap suc (length_pairs es)

nth_pair : (es : List Entry) (i : ℕ) → slice_get (map (λ p. p.0) (pairs es)) i ≡ option_map (λ e. e.id.0) (slice_get es i)
nth_pair [] i = refl
nth_pair (e ∷ es) zero = refl
nth_pair (e ∷ es) (suc i) = nth_pair es i

pub get_within : (es : List Entry) (i : ℕ) (e : Entry) → i < length es → ((d : Entry) → e ≡ get_or es i d) → slice_get es i ≡ Some e
get_within [] i e lt is = absurd (omega arith)
get_within (f ∷ es) zero e lt is = ap Some (sym (is e))
get_within (f ∷ es) (suc i) e lt is = get_within es i e (omega arith) is

pub get_past : (es : List Entry) (i : ℕ) → length es ≤ i → slice_get es i ≡ None
get_past [] i le = refl
get_past (e ∷ es) zero le = absurd (omega arith)
get_past (e ∷ es) (suc i) le = get_past es i (omega arith)

-- what holds of each entry holds of each node
find_all : (Q : ℕ → Node → Type 0) (es : List Entry) → All (λ e. Q e.id.0 e.node) es → (x : ℕ) (n : Node) → find nat_cmp x (pairs es) ≡ Some n → Q x n
find_all Q [] all x n f = absurd (let g : None ≡ Some n = f in cc)
find_all Q (e ∷ es) all x n f = elim (same_or_not x e.id.0) [
  | inl s ↦
      let here : Some e.node ≡ Some n = sym (find_here x e es s) ∙ f in
      let node : e.node ≡ n = cc in
      subst (λ k. Q x k) node (subst (λ y. Q y e.node) (sym s) (all 0 e (omega arith)))
  | inr apart ↦ find_all Q es (λ k d lt. all (suc k) d (omega arith)) x n (sym (find_later x e es apart) ∙ f)
]

found_index : (es : List Entry) (k : ℕ) (d : Entry) → IsRising es → k < length es → IsFound (get_or es k d).id.0 es k
found_index [] k d r lt = absurd (omega arith)
found_index (e ∷ es) zero d r lt = refl
found_index (e ∷ es) (suc k) d r lt = (below_at e.id.0 es k d r.0 (omega arith), found_index es k d r.1 (omega arith))

-- an entry at a position is a node of the map
find_some : (P : Entry → Type 0) (es : List Entry) (k : ℕ) → IsRising es → k < length es → HoldsAt P es k
    → (e : Entry) × P e × (find nat_cmp e.id.0 (pairs es) ≡ Some e.node)
find_some P [] k r lt h = absurd (omega arith)
find_some P (e ∷ es) k r lt h = (get_or (e ∷ es) k e, h e, find_found _ (e ∷ es) k e (found_index (e ∷ es) k e r lt))

find_there : (x : ℕ) (es : List Entry) (i : ℕ) → IsFound x es i → (n : Node) × (find nat_cmp x (pairs es) ≡ Some n)
find_there x [] i f = absurd f
find_there x (e ∷ es) i f = ((get_or (e ∷ es) i e).node, find_found x (e ∷ es) i e f)

-- a test of the identities that tells the parent keeps the children
kept_rows : (x : ℕ) (q : ℕ → Bool) (es : List Entry) → All (λ e. q e.id.0 ≡ (e.node.place.parent.0 == x)) es
    → filter q (map (λ p. p.0) (pairs es)) ≡ child_ids x es
kept_rows x q [] same = refl
kept_rows x q (e ∷ es) same =
    let rest = kept_rows x q es (λ k d lt. same (suc k) d (omega arith)) in
    let here : q e.id.0 ≡ (e.node.place.parent.0 == x) = same 0 e (omega arith) in
    elim (e.node.place.parent.0 == x) as (λ b. q e.id.0 ≡ b → cond (q e.id.0) (e.id.0 ∷ filter q (map (λ p. p.0) (pairs es))) (filter q (map (λ p. p.0) (pairs es)))
    ≡ map (λ d. d.id.0) (cond b (e ∷ filter (λ d. d.node.place.parent.0 == x) es) (filter (λ d. d.node.place.parent.0 == x) es))) [
      | true ↦ λ t. ap (λ b. cond b (e.id.0 ∷ filter q (map (λ p. p.0) (pairs es))) (filter q (map (λ p. p.0) (pairs es)))) t ∙ ap (λ l. e.id.0 ∷ l) rest
      | false ↦ λ t. ap (λ b. cond b (e.id.0 ∷ filter q (map (λ p. p.0) (pairs es))) (filter q (map (λ p. p.0) (pairs es)))) t ∙ rest
    ] here

-- the entries of a tree, as a slice, as the items of its `Vec`, and as the nodes that callers see
module _ (s items : List Entry) (ns : Nodes) (same : s ≡ items) (view : nodes_of items ≡ ns) (rising : IsRising items) where
  got : (x : ℕ) → map.get ns x ≡ find nat_cmp x (pairs items)
  got x = ap (λ m. map.get m x) (sym view) ∙ get_of items rising x

  entries_are : map.entries ns ≡ pairs items
  entries_are = ap map.entries (sym view) ∙ entries-from_sorted nat_cmp (pairs items) (sorted items rising)

  pub present : (x i : ℕ) (d : Entry) → IsFound x s i → map.get ns x ≡ Some (get_or items i d).node
  present x i d f = got x ∙ find_found x items i d (subst (λ l. IsFound x l i) same f)

  pub there : (x i : ℕ) → IsFound x s i → IsThere ns x
  there x i f = let found = find_there x items i (subst (λ l. IsFound x l i) same f) in (found.0, got x ∙ found.1)

  pub absent : (x i : ℕ) → IsGap x s i → map.get ns x ≡ None
  absent x i g = got x ∙ find_gap x items i rising (subst (λ l. IsGap x l i) same g)

  pub len_is : map.len ns ≡ length items
  len_is = len-entries ns ∙ ap length entries_are ∙ length_pairs items

  pub nth_is : (i : ℕ) → slice_get (map.keys ns) i ≡ option_map (λ e. e.id.0) (slice_get s i)
  nth_is i = ap (λ es. slice_get (map (λ p. p.0) es) i) entries_are ∙ nth_pair items i ∙ ap (λ l. option_map (λ e. e.id.0) (slice_get l i)) (sym same)

  pub children_are : (x : ℕ) → children ns x ≡ child_ids x s
  children_are x =
      ap (λ es. filter (λ y. has_parent x (map.get ns y)) (map (λ p. p.0) es)) entries_are
      ∙ kept_rows x (λ y. has_parent x (map.get ns y)) items
      (λ k d lt. ap (has_parent x) (got (get_or items k d).id.0 ∙ find_found _ items k d (found_index items k d rising lt)))
      ∙ ap (child_ids x) (sym same)

  all_nodes : (Q : ℕ → Node → Type 0) → All (λ e. Q e.id.0 e.node) s → (x : ℕ) (n : Node) → map.get ns x ≡ Some n → Q x n
  all_nodes Q all x n e = find_all Q items (subst (λ l. All (λ e. Q e.id.0 e.node) l) same all) x n (sym (got x) ∙ e)

  some_node : (P : Entry → Type 0) (k : ℕ) → k < length s → HoldsAt P s k → (e : Entry) × P e × (map.get ns e.id.0 ≡ Some e.node)
  some_node P k lt h =
      let at : HoldsAt P items k = subst (λ l. HoldsAt P l k) same h in
      let within : k < length items = subst (λ l. k < length l) same lt in
      let found = find_some P items k rising within at in
      (found.0, found.1, got found.0.id.0 ∙ found.2)

  pub standing : (o : Option NodeId) (p : Place)
      → MatchOption o (All (λ e. ¬ (SamePlace e.node.place p)) s) (λ x. (k : ℕ) × (k < length s) × HoldsAt (λ e. (e.id.0 ≡ x.0) × SamePlace e.node.place p) s k)
      → MatchOption o (IsVacant ns p) (λ x. StandsAt ns x.0 p)
  standing None p all = all_nodes (λ x n. ¬ (SamePlace n.place p)) all
  standing (Some x) p (k, lt, h) =
      let found = some_node (λ e. (e.id.0 ≡ x.0) × SamePlace e.node.place p) k lt h in
      (found.0.node, subst (λ y. map.get ns y ≡ Some found.0.node) found.1.0 found.2, found.1.1)

  pub parent_of_some : (b : Bool) (x : ℕ)
      → MatchBool b ((k : ℕ) × (k < length s) × HoldsAt (λ e. e.node.place.parent.0 ≡ x) s k) (All (λ e. e.node.place.parent.0 ≢ x) s)
      → MatchBool b (HasChild ns x) (NoChild ns x)
  parent_of_some true x (k, lt, h) =
      let found = some_node (λ e. e.node.place.parent.0 ≡ x) k lt h in (found.0.id.0, found.0.node, found.2, found.1)
  parent_of_some false x all = all_nodes (λ y n. n.place.parent.0 ≢ x) all

  pub set_rises : (x : ℕ) (n : Node) (i : ℕ) → IsFound x s i → IsRising (set items i (entry_of x n))
  set_rises x n i f = rising_set x n items i rising (subst (λ l. IsFound x l i) same f)

  pub insert_rises : (x : ℕ) (n : Node) (i : ℕ) → IsGap x s i → IsRising (insert items i (entry_of x n))
  insert_rises x n i g = rising_insert x n items i rising (subst (λ l. IsGap x l i) same g)

  pub set_is : (x : ℕ) (n : Node) (i : ℕ) → IsFound x s i → nodes_of (set items i (entry_of x n)) ≡ map.insert ns x n
  set_is x n i f =
      let found = subst (λ l. IsFound x l i) same f in
      same_nodes _ _ (λ q. get_of _ (rising_set x n items i rising found) q ∙ elim (same_or_not q x) [
        | inl e ↦ rw e (find_set_same x n items i found ∙ sym (get_put_same ns x n))
        | inr apart ↦ find_set_other x n items i q found apart ∙ sym (got q) ∙ sym (get_put_other ns x n q apart)
      ])

  pub insert_is : (x : ℕ) (n : Node) (i : ℕ) → IsGap x s i → nodes_of (insert items i (entry_of x n)) ≡ map.insert ns x n
  insert_is x n i g =
      let gap = subst (λ l. IsGap x l i) same g in
      same_nodes _ _ (λ q. get_of _ (rising_insert x n items i rising gap) q ∙ elim (same_or_not q x) [
        | inl e ↦ rw e (find_insert_same x n items i gap ∙ sym (get_put_same ns x n))
        | inr apart ↦ find_insert_other x n items i q apart ∙ sym (got q) ∙ sym (get_put_other ns x n q apart)
      ])

  pub remove_is : (x i : ℕ) → IsFound x s i → nodes_of (remove items i) ≡ map.remove ns x
  remove_is x i f =
      let found = subst (λ l. IsFound x l i) same f in
      same_nodes _ _ (λ q. get_of _ (rising_remove items i rising) q ∙ elim (same_or_not q x) [
        | inl e ↦ rw e (find_remove_same x items i rising found ∙ sym (get_cut_same ns x))
        | inr apart ↦ find_remove_other x items i q found apart ∙ sym (got q) ∙ sym (get_cut_other ns x q apart)
      ])
