-- What the list of entries says of the map that it stands for.
use Rattle.std.proofs.Common.{◌≡◌, ◌≢◌, ◌<◌, ℕ, zero, suc, Bool, true, false, cond, List, [], ◌∷◌, length, map, get_or, set, Option, Some, None, refl, sym, ap, ap₂, subst, ◌∙◌, inl, inr, arith}
use Rattle.std.specs.Prelude.{T, ◌&&◌, slice_get, option_map}
use Rattle.std.specs.Cmp.{unsigned_tied}
use Rattle.std.specs.List.{insert, remove, AllByRecursion}
use Rattle.std.specs.FinMap as map
use Rattle.std.specs.FinMap.{find, is_sorted, get-from_sorted, get-empty, entries-from_sorted, len-entries}
use Rattle.std.specs.FinMap.Entries.{below_all}
use Rattle.std.specs.Ordering.{nat_cmp, is_lt, eq_by_cmp, ordering_reverse}
use Rattle.std.specs.declared.cmp.Ordering.TheVariants.{Less, Equal}
use Rattle.std.proofs.lemmas.Bool.Decides.{eqb_tells}
use Rattle.std.proofs.lemmas.Cmp.{nat_cmp_total, tied_itself, ranked}
use Rattle.std.proofs.lemmas.Option.{get_or_from_slice_get, slice_get_within}
use Rattle.nuc_base.specs.Trees.{Nodes, IsThere}
use Rattle.nuc_base.specs.declared.node.Node.{Node}
use Rattle.nuc_base.proofs.Maps.{same_or_not, same_nodes, one_node, not_both, get_put_same, get_put_other, get_cut_other, after_put, after_cut}
use Rattle.nuc_index.specs.Rows.{IsIn, Holds}
use Rattle.nuc_index.specs.Entries.{pairs, nodes_of, entry_order, IsRising, IsEntryAt, IsEntryGap, IsEntry}
use Rattle.nuc_index.specs.declared.entry.Entry.{Entry}
use Rattle.nuc_index.proofs.Rows.{all_in, at_in, nth_in, found, out_of_gap, set_is, gap_of_removed, rises_insert, rises_remove, holds_insert, holds_remove}
use Rattle.nuc_index.proofs.Search.{turned}
use Rattle.nuc_index.proofs.Changes.{put_of_cut}

abbrev pub entry_of : ℕ → Node → Entry
entry_of x n = record { id = record { 0 = x }; node = n }

apart_of : (x y : ℕ) → nat_cmp x y ≡ Less → y ≢ x
apart_of x y less e = let lt = ranked x y Less (sym less) in absurd (omega arith)

tied : (x y : ℕ) → x ≡ y → eq_by_cmp nat_cmp x y ≡ true
tied x y e = unsigned_tied x y ∙ elim (eqb_tells x y) [ inl (t, s) ↦ t | inr (t, apart) ↦ absurd (apart e) ]

untied : (x y : ℕ) → x ≢ y → eq_by_cmp nat_cmp x y ≡ false
untied x y apart = unsigned_tied x y ∙ elim (eqb_tells x y) [ inl (t, s) ↦ absurd (apart s) | inr (t, a) ↦ t ]

find_here : (x : ℕ) (e : Entry) (es : List Entry) → x ≡ e.id.0 → find nat_cmp x (pairs (e ∷ es)) ≡ Some e.node
find_here x e es s = ap (λ b. cond b (Some e.node) (find nat_cmp x (pairs es))) (tied x e.id.0 s)

find_later : (x : ℕ) (e : Entry) (es : List Entry) → x ≢ e.id.0 → find nat_cmp x (pairs (e ∷ es)) ≡ find nat_cmp x (pairs es)
find_later x e es apart = ap (λ b. cond b (Some e.node) (find nat_cmp x (pairs es))) (untied x e.id.0 apart)

find_in : (es : List Entry) (e : Entry) → IsRising es → IsIn e es → find nat_cmp e.id.0 (pairs es) ≡ Some e.node
find_in [] e r h = absurd h
find_in (f ∷ es) e r (inl s) = subst (λ g. find nat_cmp g.id.0 (pairs (f ∷ es)) ≡ Some g.node) s (find_here f.id.0 f es refl)
find_in (f ∷ es) e r (inr h) =
    let less = all_in (λ g. nat_cmp f.id.0 g.id.0 ≡ Less) es e r.0 h in
    find_later e.id.0 f es (apart_of f.id.0 e.id.0 less) ∙ find_in es e r.1 h

in_find : (es : List Entry) (x : ℕ) (n : Node) → find nat_cmp x (pairs es) ≡ Some n → IsIn (entry_of x n) es
in_find [] x n h = absurd (let f : None ≡ Some n = h in cc)
in_find (e ∷ es) x n h = elim (same_or_not x e.id.0) [
  | inl s ↦
      let here : Some e.node ≡ Some n = sym (find_here x e es s) ∙ h in
      let node : e.node ≡ n = cc in
      inl (ap₂ entry_of (sym s) node)
  | inr apart ↦ inr (in_find es x n (sym (find_later x e es apart) ∙ h))
]

both : (a b : Bool) → T a → T b → T (a && b)
both true b p q = q
both false b p q = absurd p

below : (x : ℕ) (es : List Entry) → AllByRecursion (λ e. nat_cmp x e.id.0 ≡ Less) es → T (below_all nat_cmp x (pairs es))
below x [] all = tt
below x (e ∷ es) all = both _ _ (subst (λ o. T (is_lt o)) (sym all.0) tt) (below x es all.1)

sorted : (es : List Entry) → IsRising es → T (is_sorted nat_cmp (pairs es))
sorted [] r = tt
sorted (e ∷ es) r = both _ _ (below e.id.0 es r.0) (sorted es r.1)

get_of : (es : List Entry) → IsRising es → (x : ℕ) → map.get (nodes_of es) x ≡ find nat_cmp x (pairs es)
get_of es r x = get-from_sorted nat_cmp (pairs es) x (sorted es r)

-- the entries are those of the map
pub held : (es : List Entry) → IsRising es → Holds (IsEntry (nodes_of es)) es
held es r = record {
  each = λ e h. get_of es r e.id.0 ∙ find_in es e r h;
  every = λ e h. in_find es e.id.0 e.node (sym (get_of es r e.id.0) ∙ h);
}

same_option : (a b : Option Node) → ((n : Node) → a ≡ Some n → b ≡ Some n) → ((n : Node) → b ≡ Some n → a ≡ Some n) → a ≡ b
same_option None None f g = refl
same_option None (Some n) f g = g n refl
same_option (Some n) b f g = sym (f n refl)

-- and no other map has them
pub nodes_are : (es : List Entry) (m : Nodes) → IsRising es → Holds (IsEntry m) es → nodes_of es ≡ m
nodes_are es m r holds = same_nodes _ _ (λ x. same_option _ _
    (λ n e. holds.each (entry_of x n) ((held es r).every (entry_of x n) e))
    (λ n e. (held es r).each (entry_of x n) (holds.every (entry_of x n) e)))

pub nobody : nodes_of [] ≡ map.empty
nobody = nodes_are [] map.empty tt (record { each = λ e h. absurd h; every = λ e h. absurd (not_both map.empty e.id.0 e.node (get-empty nat_cmp e.id.0) h) })

none_is : (o : Option Node) → ((n : Node) → o ≢ Some n) → o ≡ None
none_is None h = refl
none_is (Some n) h = absurd (h n refl)

module _ (es : List Entry) (rise : IsRising es) where
  pub entry_there : (i : ℕ) (d : Entry) → i < length es → map.get (nodes_of es) (get_or es i d).id.0 ≡ Some (get_or es i d).node
  entry_there i d lt = (held es rise).each (get_or es i d) (nth_in es i d lt)

  pub absent : (x i : ℕ) → IsEntryGap x es i → map.get (nodes_of es) x ≡ None
  absent x i g = none_is _ (λ n e. out_of_gap (λ f. nat_cmp f.id.0 x) es i (entry_of x n) g ((held es rise).every (entry_of x n) e) (tied_itself nat_cmp_total x))

  -- a new entry, where it would stand
  module _ (x : ℕ) (n : Node) (i : ℕ) (gap : IsEntryGap x es i) where
    pub new_rises : IsRising (insert es i (entry_of x n))
    new_rises = rises_insert entry_order es i (entry_of x n) (λ e more. turned nat_cmp_total x e.id.0 more) rise gap

    pub new_is : nodes_of (insert es i (entry_of x n)) ≡ map.insert (nodes_of es) x n
    new_is = nodes_are _ _ new_rises (holds_insert (IsEntry (nodes_of es)) _ es i (entry_of x n) (held es rise)
        (λ e h. elim (after_put (nodes_of es) x n e.id.0 e.node h) [ inl (s, k) ↦ inl (sym (ap₂ entry_of s k)) | inr (apart, k) ↦ inr k ])
        (get_put_same (nodes_of es) x n)
        (λ e h. get_put_other (nodes_of es) x n e.id.0 (λ s. not_both (nodes_of es) e.id.0 e.node (subst (λ y. map.get (nodes_of es) y ≡ None) (sym s) (absent x i gap)) h) ∙ h))

  -- without an entry
  module _ (i : ℕ) (e : Entry) (at : slice_get es i ≡ Some e) where
    pub less_rises : IsRising (remove es i)
    less_rises = rises_remove entry_order es i rise

    same_entry : (f : Entry) → map.get (nodes_of es) f.id.0 ≡ Some f.node → f.id.0 ≡ e.id.0 → e ≡ f
    same_entry f h s = ap₂ entry_of (sym s) (one_node (nodes_of es) f.id.0 e.node f.node
        (subst (λ y. map.get (nodes_of es) y ≡ Some e.node) (sym s) ((held es rise).each e (at_in es i e at))) h)

    pub less_is : nodes_of (remove es i) ≡ map.remove (nodes_of es) e.id.0
    less_is = nodes_are _ _ less_rises (holds_remove entry_order (IsEntry (nodes_of es)) _ es i e (tied_itself nat_cmp_total e.id.0) rise at (held es rise)
        (λ f h apart. get_cut_other (nodes_of es) e.id.0 f.id.0 (λ s. apart (same_entry f h s)) ∙ h)
        (λ f h. (after_cut (nodes_of es) e.id.0 f.id.0 f.node h).1)
        (λ h. (after_cut (nodes_of es) e.id.0 e.id.0 e.node h).0 refl))

-- another node at an entry's identity
module _ (es : List Entry) (rise : IsRising es) (x : ℕ) (i : ℕ) (at : IsEntryAt x es i) where
  here : (e : Entry) × (slice_get es i ≡ Some e) × (nat_cmp e.id.0 x ≡ Equal)
  here = found (λ e. nat_cmp e.id.0 x) es i at

  here_id : here.0.id.0 ≡ x
  here_id = ranked here.0.id.0 x Equal (sym here.2)

  gap : IsEntryGap x (remove es i) i
  gap = gap_of_removed entry_order (λ f. nat_cmp f.id.0 x) es i here.0 here.1 rise
      (λ f less. subst (λ y. nat_cmp f.id.0 y ≡ Less) here_id less)
      (λ f less. nat_cmp_total.antisymm f.id.0 x ∙ ap ordering_reverse (subst (λ y. nat_cmp y f.id.0 ≡ Less) here_id less))

  pub present : (d : Entry) → get_or es i d ≡ entry_of x (get_or es i d).node
  present d = ap (λ y. entry_of y (get_or es i d).node) (ap (λ e. e.id.0) (get_or_from_slice_get es i here.0 d here.1) ∙ here_id)

  pub there : (d : Entry) → map.get (nodes_of es) x ≡ Some (get_or es i d).node
  there d = (held es rise).each (entry_of x (get_or es i d).node) (subst (λ e. IsIn e es) (present d) (nth_in es i d (slice_get_within es i here.0 here.1)))

  pub someone : (m : Nodes) → nodes_of es ≡ m → IsThere m x
  someone m view = ((get_or es i here.0).node, ap (λ k. map.get k x) (sym view) ∙ there here.0)

  module _ (n : Node) where
    over_set : set es i (entry_of x n) ≡ insert (remove es i) i (entry_of x n)
    over_set = set_is es i (entry_of x n) (slice_get_within es i here.0 here.1)

    pub over_rises : IsRising (set es i (entry_of x n))
    over_rises = subst IsRising (sym over_set) (new_rises (remove es i) (less_rises es rise i here.0 here.1) x n i gap)

    pub over_is : nodes_of (set es i (entry_of x n)) ≡ map.insert (nodes_of es) x n
    over_is =
        ap nodes_of over_set
        ∙ new_is (remove es i) (less_rises es rise i here.0 here.1) x n i gap
        ∙ ap (λ k. map.insert k x n) (less_is es rise i here.0 here.1)
        ∙ ap (λ y. map.insert (map.remove (nodes_of es) y) x n) here_id
        ∙ put_of_cut (nodes_of es) x n

length_pairs : (es : List Entry) → length (pairs es) ≡ length es
length_pairs [] = refl
length_pairs (e ∷ es) = ap suc (length_pairs es)

nth_pair : (es : List Entry) (i : ℕ) → slice_get (map (λ p. p.0) (pairs es)) i ≡ option_map (λ e. e.id.0) (slice_get es i)
nth_pair [] i = refl
nth_pair (e ∷ es) zero = refl
nth_pair (e ∷ es) (suc i) = nth_pair es i

pub len_is : (es : List Entry) → IsRising es → map.len (nodes_of es) ≡ length es
len_is es r = len-entries (nodes_of es) ∙ ap length (entries-from_sorted nat_cmp (pairs es) (sorted es r)) ∙ length_pairs es

pub nth_is : (es : List Entry) (i : ℕ) → IsRising es → slice_get (map.keys (nodes_of es)) i ≡ option_map (λ e. e.id.0) (slice_get es i)
nth_is es i r = ap (λ l. slice_get (map (λ p. p.0) l) i) (entries-from_sorted nat_cmp (pairs es) (sorted es r)) ∙ nth_pair es i
