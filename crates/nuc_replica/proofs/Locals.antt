-- What a client has observed stays sound: just the identities of its tree have a key.
use Rattle.std.proofs.Common.{◌≡◌, ◌≢◌, ◌≤◌, ◌∙◌, ℕ, Option, None, Some, IsSomeAnd, option_map, refl, sym, ap, subst, inl, inr, arith}
use Rattle.std.specs.FinMap.{get, insert, remove, empty, get-empty}
use Rattle.std.specs.Ordering.{nat_cmp}
use Rattle.nuc_base.proofs.Maps.{get_cut_other, get_cut_same, get_put_other, get_put_same, same_or_not}
use Rattle.nuc_base.specs.Renamed.{IsRenamed, child_renamed}
use Rattle.nuc_base.specs.Trees.{IsThere, Nodes, WellFormed}
use Rattle.nuc_base.specs.declared.node.Node.{Node}
use Rattle.nuc_lookup.proofs.Maps as numbers
use Rattle.nuc_observe.specs.Keys.{AreKeys, KeyMap}
use Rattle.nuc_lookup.specs.State.{UndoLookupState}
use Rattle.nuc_lookup.specs.State as keys
use Rattle.nuc_replica.specs.Local.{AreLocal, EarlierState, HasKey, HaveKeys, IsLocal, LocalStates, locals_of, settled_by, spare_by}
use Rattle.nuc_undo.specs.Laid.{with_node}
use Rattle.nuc_undo.specs.State.{UndoState}
use Rattle.nuc_undo.specs.State as undo

-- WHAT HAS A KEY
any_node : (n k : Node) (key : Option ℕ) → HasKey (Some k) key → HasKey (Some n) key
any_node n k None has = has
any_node n k (Some j) has = has

keys_over : (m : Nodes) (ks : KeyMap) (x : ℕ) (node : Option Node) → IsThere m x → HaveKeys m ks → HaveKeys (with_node m x node) ks
keys_over m ks x None there have = have
keys_over m ks x (Some n) (k, at) have = λ y. elim (same_or_not y x) [
  | inl same ↦ subst (λ z. HasKey (get (insert m x n) z) (get ks z)) (sym same)
      (subst (λ o. HasKey o (get ks x)) (sym (get_put_same m x n)) (any_node n k (get ks x) (subst (λ o. HasKey o (get ks x)) at (have x))))
  | inr apart ↦ rw (get_put_other m x n y apart) (have y)
]

keys_with : (m : Nodes) (ks : KeyMap) (x k : ℕ) (node : Option Node) (P : Node → Type 0) → IsSomeAnd node P → HaveKeys m ks
    → HaveKeys (with_node m x node) (insert ks x k)
keys_with m ks x k None P lies have = absurd lies
keys_with m ks x k (Some n) P lies have = λ y. elim (same_or_not y x) [
  | inl same ↦ subst (λ z. HasKey (get (insert m x n) z) (get (insert ks x k) z)) (sym same) (rw (get_put_same m x n, numbers.get_put_same ks x k) tt)
  | inr apart ↦ rw (get_put_other m x n y apart, numbers.get_put_other ks x k y apart) (have y)
]

keys_without : (m : Nodes) (ks : KeyMap) (x : ℕ) → HaveKeys m ks → HaveKeys (remove m x) (remove ks x)
keys_without m ks x have y = elim (same_or_not y x) [
  | inl same ↦ subst (λ z. HasKey (get (remove m x) z) (get (remove ks x) z)) (sym same) (rw (get_cut_same m x, numbers.get_cut_same ks x) tt)
  | inr apart ↦ rw (get_cut_other m x y apart, numbers.get_cut_other ks x y apart) (have y)
]

any_other : (f : Node → Node) (o : Option Node) (key : Option ℕ) → HasKey o key → HasKey (option_map f o) key
any_other f None None has = has
any_other f None (Some k) has = has
any_other f (Some n) None has = has
any_other f (Some n) (Some k) has = has

-- x comes in place of y, with its key
pub keys_renamed : (m k : Nodes) (ks : KeyMap) (y x key : ℕ) (node : Node) → IsRenamed m y x node k → HaveKeys m ks → HaveKeys k (insert (remove ks y) x key)
keys_renamed m k ks y x key node is have w = elim (same_or_not w x) [
  | inl same ↦ subst (λ z. HasKey (get k z) (get (insert (remove ks y) x key) z)) (sym same) (rw (is.came, numbers.get_put_same (remove ks y) x key) tt)
  | inr off ↦ elim (same_or_not w y) [
    | inl same ↦ subst (λ z. HasKey (get k z) (get (insert (remove ks y) x key) z)) (sym same)
        (subst (λ o. HasKey (get k y) o) (sym (numbers.get_put_other (remove ks y) x key y (λ e. off (same ∙ e)) ∙ numbers.get_cut_same ks y))
        (subst (λ o. HasKey o None) (sym is.gone) tt))
    | inr apart ↦ subst (λ o. HasKey (get k w) o) (sym (numbers.get_put_other (remove ks y) x key w off ∙ numbers.get_cut_other ks y w apart))
        (subst (λ o. HasKey o (get ks w)) (sym (is.others w off apart)) (any_other (child_renamed y x) (get m w) (get ks w) (have w)))
  ]
]

pub no_keys : (m : Nodes) (ks : KeyMap) → m ≡ empty → ks ≡ empty → HaveKeys m ks
no_keys m ks none no_key x =
    subst (λ (o : Option Node). HasKey o (get ks x)) (sym (ap (λ (n : Nodes). get n x) none ∙ get-empty nat_cmp x))
    (subst (λ (o : Option ℕ). HasKey None o) (sym (ap (λ (n : KeyMap). get n x) no_key ∙ get-empty nat_cmp x)) tt)

-- the first to come has a key
pub first_key : (m : Nodes) (ks : KeyMap) (x k : ℕ) (n : Node) → m ≡ insert empty x n → ks ≡ insert empty x k → HaveKeys m ks
first_key m ks x k n is key =
    subst (λ (j : Nodes). HaveKeys j ks) (sym is)
    (subst (λ (j : KeyMap). HaveKeys (insert empty x n) j) (sym key) (keys_with empty empty x k (Some n) (λ _. Unit {0}) tt (no_keys empty empty refl refl)))

-- x comes with a key, and another goes with its own
moved : (ks : KeyMap) (x z k : ℕ) → x ≢ z → remove (insert ks z k) x ≡ insert (remove ks x) z k
moved ks x z k apart = numbers.same_numbers _ _ (λ y. elim (same_or_not y x) [
  | inl same ↦ subst (λ v. get (remove (insert ks z k) x) v ≡ get (insert (remove ks x) z k) v) (sym same)
      (numbers.get_cut_same (insert ks z k) x ∙ sym (numbers.get_put_other (remove ks x) z k x apart ∙ numbers.get_cut_same ks x))
  | inr other ↦ numbers.get_cut_other (insert ks z k) x y other ∙ elim (same_or_not y z) [
    | inl same ↦ subst (λ v. get (insert ks z k) v ≡ get (insert (remove ks x) z k) v) (sym same)
        (numbers.get_put_same ks z k ∙ sym (numbers.get_put_same (remove ks x) z k))
    | inr off ↦ numbers.get_put_other ks z k y off ∙ sym (numbers.get_put_other (remove ks x) z k y off ∙ numbers.get_cut_other ks x y other)
  ]
])

there_before : (m : Nodes) (z x : ℕ) (node : Option Node) → x ≢ z → IsThere (with_node m z node) x → IsThere m x
there_before m z x None apart there = there
there_before m z x (Some n) apart (k, at) = (k, sym (get_put_other m z n x apart) ∙ at)

keyless : (m : Nodes) (ks : KeyMap) (x : ℕ) → HaveKeys m ks → IsThere m x → None ≡ get ks x → ⊥
keyless m ks x have (n, at) none = subst (λ o. HasKey (Some n) o) (sym none) (subst (λ o. HasKey o (get ks x)) at (have x))

-- WHAT IS SEEN FROM OUTSIDE
module _ (u : UndoState) (ks : UndoLookupState) (before : Option EarlierState) (s : LocalStates) (view : locals_of u ks before ≡ s) where
  pub laid_inside : (number : ℕ) (P : Node → Type 0) → IsSomeAnd (get s.laid number) P → IsSomeAnd (get u.laid number) P
  laid_inside number P = subst (λ (t : LocalStates). IsSomeAnd (get t.laid number) P) (sym view)

  pub there_inside : (x : ℕ) → IsThere s.now.tree x → IsThere u.now x
  there_inside x = subst (λ (t : LocalStates). IsThere t.now.tree x) (sym view)

  -- who goes once another came has a key
  pub has_key : HaveKeys u.now ks.now → (x z number : ℕ) → x ≢ z → IsThere (with_node s.now.tree z (get s.laid number)) x → None ≡ get ks.now x → ⊥
  has_key have x z number apart there none =
      let inside = subst (λ (t : LocalStates). IsThere (with_node t.now.tree z (get t.laid number)) x) (sym view) there in
      keyless u.now ks.now x have (there_before u.now z x (get u.laid number) apart inside) none

-- taking back leads to no less room
pub spare_rises : (before : Option EarlierState) (few more : ℕ) → few ≤ more → spare_by before few ≤ spare_by before more
spare_rises None few more le = le
spare_rises (Some e) few more le = omega arith

-- ONE CHANGE
module _ (u : UndoState) (ks : UndoLookupState) (before : Option EarlierState) (was : AreLocal (locals_of u ks before)) where
  -- it leads back to the same, and is sound now
  pub sound : (t : UndoState) (js : UndoLookupState) → WellFormed t.now → AreKeys js.now → HaveKeys t.now js.now → undo.settled_of t ≡ undo.settled_of u
      → keys.settled_of js ≡ keys.settled_of ks → AreLocal (locals_of t js before)
  sound t js form are have tree key = record {
    now = record { form = form; keys = are; follow = have };
    settled = (let same : (locals_of t js before).settled ≡ (locals_of u ks before).settled = λ i. settled_by before (record { tree = tree i; keys = key i }) in
        subst IsLocal (sym same) was.settled);
  }

  pub sound_over : (t : UndoState) (x : ℕ) (node : Option Node) → IsThere u.now x → t.now ≡ with_node u.now x node → WellFormed t.now
      → undo.settled_of t ≡ undo.settled_of u → AreLocal (locals_of t ks before)
  sound_over t x node there is form tree =
      sound t ks form was.now.keys (subst (λ (m : Nodes). HaveKeys m ks.now) (sym is) (keys_over u.now ks.now x node there was.now.follow)) tree refl

  module _ (t : UndoState) (js : UndoLookupState) (form : WellFormed t.now) (are : AreKeys js.now) (tree : undo.settled_of t ≡ undo.settled_of u)
      (key : keys.settled_of js ≡ keys.settled_of ks) where
    follows : (m : Nodes) (k : KeyMap) → t.now ≡ m → js.now ≡ k → HaveKeys m k → AreLocal (locals_of t js before)
    follows m k is have_key have =
        sound t js form are (subst (λ (n : Nodes). HaveKeys n js.now) (sym is) (subst (λ (j : KeyMap). HaveKeys m j) (sym have_key) have)) tree key

    pub sound_with : (x k : ℕ) (node : Option Node) (P : Node → Type 0) → IsSomeAnd node P → t.now ≡ with_node u.now x node → js.now ≡ insert ks.now x k
        → AreLocal (locals_of t js before)
    sound_with x k node P lies is given = follows _ _ is given (keys_with u.now ks.now x k node P lies was.now.follow)

    pub sound_without : (x : ℕ) → t.now ≡ remove u.now x → js.now ≡ remove ks.now x → AreLocal (locals_of t js before)
    sound_without x is taken = follows _ _ is taken (keys_without u.now ks.now x was.now.follow)

    pub sound_moved : (x z k : ℕ) (node : Option Node) (P : Node → Type 0) → IsSomeAnd node P → x ≢ z → t.now ≡ remove (with_node u.now z node) x
        → js.now ≡ insert (remove ks.now x) z k → AreLocal (locals_of t js before)
    sound_moved x z k node P lies apart is given = follows _ _ is (given ∙ sym (moved ks.now x z k apart))
        (keys_without (with_node u.now z node) (insert ks.now z k) x (keys_with u.now ks.now z k node P lies was.now.follow))

    pub sound_renamed : (y x k : ℕ) (node : Node) → IsRenamed u.now y x node t.now → js.now ≡ insert (remove ks.now y) x k → AreLocal (locals_of t js before)
    sound_renamed y x k node is given = follows t.now _ refl given (keys_renamed u.now t.now ks.now y x k node is was.now.follow)
