-- The changes of a list, one after another: where all are ready, every order is legal and gives one tree.
use Rattle.std.proofs.Common.{◌≡◌, ◌≢◌, ◌⊎◌, ◌==◌, ℕ, zero, suc, List, [], ◌∷◌, map, AllPairs, IsPermutation, refl, sym, ap, subst, ◌∙◌, inl, inr, arith}
use Rattle.std.specs.FinMap.{get}
use Rattle.std.proofs.lemmas.Bool.Decides.{eqb_tells, Decides-eqb}
use Rattle.std.proofs.lemmas.List.{length-map, get_or-map}
use Rattle.std.proofs.lemmas.List.Sorted.{IsPermutation-map, IsPermutation-sym, Contains-permutation}
use Rattle.std.proofs.lemmas.Map.Keys.{IsDistinct-IsPermutation}
use Rattle.std.proofs.lemmas.Map.Made.{AllPairs-from_IsDistinct, IsDistinct-from_AllPairs}
use Rattle.nuc_base.specs.Changes.{node_after, changed, IsLegal}
use Rattle.nuc_base.specs.Ready.{AllReady, Without, OneOf, NoneTwice, all_changed, LegalInTurn}
use Rattle.nuc_base.specs.Trees.{Nodes, WellFormed}
use Rattle.nuc_base.specs.declared.change.Change.{Change}
use Rattle.nuc_base.specs.declared.change.Change.TheVariants.{Keep}
use Rattle.nuc_base.proofs.Maps.{same_or_not, same_nodes}
use Rattle.nuc_base.proofs.Changed.{get_changed_at, get_changed_other, tree_after}
use Rattle.nuc_base.proofs.Ready.{ready_after, ready_fewer}

one_first : (p : ℕ × Change) (cs : List (ℕ × Change)) → OneOf (p ∷ cs) p.0 p.1
one_first p cs = (0, omega arith, refl)

one_later : (p : ℕ × Change) (cs : List (ℕ × Change)) (x : ℕ) (c : Change) → OneOf cs x c → OneOf (p ∷ cs) x c
one_later p cs x c (k, below, at) = (suc k, omega (arith, below), at)

one_of : (p : ℕ × Change) (cs : List (ℕ × Change)) (x : ℕ) (c : Change) → OneOf (p ∷ cs) x c → (p ≡ (x, c)) ⊎ OneOf cs x c
one_of p cs x c (zero, below, at) = inl at
one_of p cs x c (suc k, below, at) = inr (k, omega (arith, below), at)

none_twice_later : (p : ℕ × Change) (cs : List (ℕ × Change)) → NoneTwice (p ∷ cs) → NoneTwice cs
none_twice_later p cs single i j d less below = single (suc i) (suc j) d (omega (arith, less)) (omega (arith, below))

none_twice_first : (p : ℕ × Change) (cs : List (ℕ × Change)) (x : ℕ) (c : Change) → NoneTwice (p ∷ cs) → OneOf cs x c → x ≢ p.0
none_twice_first p cs x c single (k, below, at) e = single 0 (suc k) (x, c) (omega arith) (omega (arith, below)) (sym e ∙ sym (ap (λ (q : ℕ × Change). q.0) at))

-- the changes of a list are legal one after another, and keep the tree well formed
pub ready_in_turn : (m : Nodes) (cs : List (ℕ × Change)) → WellFormed m → NoneTwice cs → AllReady m (OneOf cs)
    → LegalInTurn m cs × WellFormed (all_changed m cs)
ready_in_turn m [] form single ready = (tt, form)
ready_in_turn m (p ∷ cs) form single ready =
    let mine : OneOf (p ∷ cs) p.0 p.1 = one_first p cs in
    let legal : IsLegal m p.0 p.1 = ready.legal p.0 p.1 mine in
    let after : AllReady (changed m p.0 p.1) (Without (OneOf (p ∷ cs)) p.0) = ready_after m (OneOf (p ∷ cs)) p.0 p.1 form ready mine in
    let rest = ready_in_turn (changed m p.0 p.1) cs (tree_after m p.0 p.1 form (ready.below p.0 p.1 mine) (ready.fits p.0 p.1 mine) legal) (none_twice_later p cs single)
    (ready_fewer (changed m p.0 p.1) (Without (OneOf (p ∷ cs)) p.0) (OneOf cs) (λ y d its. (one_later p cs y d its, none_twice_first p cs y d single its)) after) in
    ((legal, rest.0), rest.1)

-- an identity that has no change keeps its node
pub get_unchanged : (m : Nodes) (cs : List (ℕ × Change)) (x : ℕ) → ((c : Change) → ¬ (OneOf cs x c)) → get (all_changed m cs) x ≡ get m x
get_unchanged m [] x none = refl
get_unchanged m (p ∷ cs) x none =
    let other : x ≢ p.0 = λ e. none p.1 (subst (λ z. OneOf (p ∷ cs) z p.1) (sym e) (one_first p cs)) in
    get_unchanged (changed m p.0 p.1) cs x (λ c its. none c (one_later p cs x c its)) ∙ get_changed_other m p.0 p.1 x other

-- and one that has a change has the node after it
pub get_all_changed : (m : Nodes) (cs : List (ℕ × Change)) (x : ℕ) (c : Change) → NoneTwice cs → OneOf cs x c → get (all_changed m cs) x ≡ node_after c (get m x)
get_all_changed m [] x c single (k, below, at) = absurd (omega (arith, below))
get_all_changed m (p ∷ cs) x c single its = elim (one_of p cs x c its) [
  | inl s ↦
      let first : x ≡ p.0 = ap (λ (q : ℕ × Change). q.0) (sym s) in
      get_unchanged (changed m p.0 p.1) cs x (λ d other. none_twice_first p cs x d single other first)
      ∙ get_changed_at m p.0 p.1 x first ∙ ap (λ (q : ℕ × Change). node_after q.1 (get m x)) s
  | inr later ↦
      get_all_changed (changed m p.0 p.1) cs x c (none_twice_later p cs single) later
      ∙ ap (node_after c) (get_changed_other m p.0 p.1 x (none_twice_first p cs x c single later))
]

-- an identity has a change in a list, or none
pub change_or_none : (cs : List (ℕ × Change)) (x : ℕ) → ((c : Change) × OneOf cs x c) ⊎ ((c : Change) → ¬ (OneOf cs x c))
change_or_none [] x = inr (λ c its. absurd (omega (arith, its.1)))
change_or_none (p ∷ cs) x = elim (same_or_not x p.0) [
  | inl s ↦ inl (p.1, subst (λ z. OneOf (p ∷ cs) z p.1) (sym s) (one_first p cs))
  | inr other ↦ elim (change_or_none cs x) [
    | inl (c, its) ↦ inl (c, one_later p cs x c its)
    | inr none ↦ inr (λ c its. elim (one_of p cs x c its) [
      | inl s ↦ other (ap (λ (q : ℕ × Change). q.0) (sym s))
      | inr later ↦ none c later
    ])
  ]
]

-- two lists of the same changes, none twice, make one tree
pub orders_agree : (m : Nodes) (cs ds : List (ℕ × Change)) → NoneTwice cs → NoneTwice ds
    → ((x : ℕ) (c : Change) → OneOf cs x c → OneOf ds x c) → ((x : ℕ) (c : Change) → OneOf ds x c → OneOf cs x c)
    → all_changed m cs ≡ all_changed m ds
orders_agree m cs ds single too there back = same_nodes (all_changed m cs) (all_changed m ds) at
  where
    at : (x : ℕ) → get (all_changed m cs) x ≡ get (all_changed m ds) x
    at x = elim (change_or_none cs x) [
      | inl (c, its) ↦ get_all_changed m cs x c single its ∙ sym (get_all_changed m ds x c too (there x c its))
      | inr none ↦ get_unchanged m cs x none ∙ sym (get_unchanged m ds x (λ c its. none c (back x c its)))
    ]

flips : (x y : ℕ) → (x == y) ≡ (y == x)
flips x y = elim (eqb_tells x y) [
  | inl (t, e) ↦ elim (eqb_tells y x) [ inl (s, f) ↦ t ∙ sym s | inr (s, apart) ↦ absurd (apart (sym e)) ]
  | inr (t, apart) ↦ elim (eqb_tells y x) [ inl (s, f) ↦ absurd (apart (sym f)) | inr (s, other) ↦ t ∙ sym s ]
]

ids : List (ℕ × Change) → List ℕ
ids cs = map (λ p. p.0) cs

distinct_ids : (cs : List (ℕ × Change)) → NoneTwice cs → AllPairs (λ x y. x ≢ y) (ids cs)
unfolding ids
distinct_ids cs single i j d less below e =
    let long = length-map cs (λ (p : ℕ × Change). p.0) in
    single i j (d, Keep) less (omega (arith, long, below))
    (sym (get_or-map (λ (p : ℕ × Change). p.0) cs i (d, Keep) d (omega (arith, long, less, below))) ∙ e
    ∙ get_or-map (λ (p : ℕ × Change). p.0) cs j (d, Keep) d (omega (arith, long, below)))

of_distinct_ids : (cs : List (ℕ × Change)) → AllPairs (λ x y. x ≢ y) (ids cs) → NoneTwice cs
unfolding ids
of_distinct_ids cs apart i j d less below e =
    let long = length-map cs (λ (p : ℕ × Change). p.0) in
    apart i j d.0 less (omega (arith, long, below))
    (get_or-map (λ (p : ℕ × Change). p.0) cs i d d.0 (omega (arith, less, below)) ∙ e
    ∙ sym (get_or-map (λ (p : ℕ × Change). p.0) cs j d d.0 below))

-- another order has no identity twice either
pub none_twice_shuffled : (cs ds : List (ℕ × Change)) → IsPermutation cs ds → NoneTwice cs → NoneTwice ds
unfolding ids
none_twice_shuffled cs ds order single =
    of_distinct_ids ds (AllPairs-from_IsDistinct Decides-eqb (ids ds)
    (IsDistinct-IsPermutation ◌==◌ flips (ids cs) (ids ds) (IsPermutation-map (λ p. p.0) cs ds order) (IsDistinct-from_AllPairs Decides-eqb (ids cs) (distinct_ids cs single))))

-- in every order they are legal one after another, and the tree at the end is one
pub every_order : (m : Nodes) (cs ds : List (ℕ × Change)) → WellFormed m → NoneTwice cs → AllReady m (OneOf cs) → IsPermutation cs ds
    → LegalInTurn m ds × WellFormed (all_changed m ds) × (all_changed m ds ≡ all_changed m cs)
every_order m cs ds form single ready order =
    let too : NoneTwice ds = none_twice_shuffled cs ds order single in
    let back : IsPermutation ds cs = IsPermutation-sym cs ds order in
    let turn = ready_in_turn m ds form too (ready_fewer m (OneOf cs) (OneOf ds) (λ x c its. Contains-permutation ds cs (x, c) back its) ready) in
    (turn.0, turn.1, orders_agree m ds cs too single (λ x c its. Contains-permutation ds cs (x, c) back its) (λ x c its. Contains-permutation cs ds (x, c) order its))
