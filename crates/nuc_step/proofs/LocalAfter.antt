-- The folder as it was last observed, after an operation has landed: its tree is well formed, and just what is there has a key.
use Rattle.std.proofs.Common.{◌≡◌, ◌≢◌, ◌∙◌, ◌<◌, ℕ, zero, suc, Bool, true, false, cond, [], ◌∷◌, Option, None, Some, refl, sym, ap, subst, inl, inr, arith}
use Rattle.std.specs.FinMap.{get, insert, remove}
use Rattle.nuc_base.specs.Changes.{changed}
use Rattle.nuc_base.specs.Legal.{LegalCut}
use Rattle.nuc_base.specs.Ready.{LegalInTurn, all_changed}
use Rattle.nuc_base.specs.Renamed.{IsRenamed}
use Rattle.nuc_base.specs.Trees.{Nodes, WellFormed}
use Rattle.nuc_base.specs.declared.change.Change.{Change}
use Rattle.nuc_base.specs.declared.change.Change.TheVariants.{Keep, Put, Cut}
use Rattle.nuc_base.specs.declared.node.Node.{Node}
use Rattle.nuc_base.proofs.Changed.{tree_after}
use Rattle.nuc_base.proofs.Commute.{same_after}
use Rattle.nuc_base.proofs.Maps.{get_cut_other, get_cut_same, get_put_other, get_put_same, not_both, same_or_not}
use Rattle.nuc_class.specs.declared.op.Op.{Op}
use Rattle.nuc_folder.specs.Outcome.{is_success}
use Rattle.nuc_folder.specs.declared.outcome.Outcome.{Outcome}
use Rattle.nuc_folder.specs.declared.outcome.Outcome.TheVariants as outcome
use Rattle.nuc_lookup.proofs.Maps as numbers
use Rattle.nuc_observe.specs.Keys.{AreKeys, IsUnheld, KeyMap}
use Rattle.nuc_replica.proofs.Locals.{keys_renamed}
use Rattle.nuc_replica.specs.Local.{HasKey, HaveKeys, IsLocal, LocalState, moved_key}
use Rattle.nuc_step.specs.Sound.{FitsOutcome, HasOther, MayFly, makes, makes_new}
use Rattle.nuc_step.specs.Steps.{KeyIsFree, LocalReady, is_split, keys_with, local_after, split_changes}
use Rattle.nuc_step.specs.Watching.{CanTurn, turned}
use Rattle.nuc_step.specs.declared.watched.Turn.{Turn}
use Rattle.nuc_step.specs.declared.watched.Turn.TheVariants as turn
use Rattle.nuc_step.proofs.Leading.{sound_at}

-- KEYS ARE KEYS
key_comes : (ks : KeyMap) (x k : ℕ) → AreKeys ks → 0 < x → 0 < k → IsUnheld ks k → AreKeys (insert ks x k)
key_comes ks x k are some key free =
    let other : (y : ℕ) → y ≢ x → get (insert ks x k) y ≡ get ks y = λ y apart. numbers.get_put_other ks x k y apart in
    let here : get (insert ks x k) x ≡ Some k = numbers.get_put_same ks x k in
    let held : (y j : ℕ) → y ≡ x → get (insert ks x k) y ≡ Some j → j ≡ k =
    λ y j same at. numbers.one_number (get (insert ks x k) x) j k (subst (λ z. get (insert ks x k) z ≡ Some j) same at) here in
    record {
      no_root = other 0 (λ same. absurd (omega (arith, same, some))) ∙ are.no_root;
      no_zero = λ y at. elim (same_or_not y x) [
        | inl same ↦ absurd (omega (arith, held y 0 same at, key))
        | inr apart ↦ are.no_zero y (sym (other y apart) ∙ at)
      ];
      one_to_one = λ y z j at at_too. elim (same_or_not y x) [
        | inl y_same ↦ elim (same_or_not z x) [
          | inl z_same ↦ y_same ∙ sym z_same
          | inr z_apart ↦ absurd (free z (sym (other z z_apart) ∙ at_too ∙ ap Some (held y j y_same at)))
        ]
        | inr y_apart ↦ elim (same_or_not z x) [
          | inl z_same ↦ absurd (free y (sym (other y y_apart) ∙ at ∙ ap Some (held z j z_same at_too)))
          | inr z_apart ↦ are.one_to_one y z j (sym (other y y_apart) ∙ at) (sym (other z z_apart) ∙ at_too)
        ]
      ];
    }

pub key_before : (ks : KeyMap) (x y k : ℕ) → get (remove ks x) y ≡ Some k → (y ≢ x) × (get ks y ≡ Some k)
key_before ks x y k at = elim (same_or_not y x) [
  | inl same ↦ absurd (numbers.not_both (get (remove ks x) x) k (numbers.get_cut_same ks x) (subst (λ z. get (remove ks x) z ≡ Some k) same at))
  | inr apart ↦ (apart, sym (numbers.get_cut_other ks x y apart) ∙ at)
]

key_goes : (ks : KeyMap) (x : ℕ) → AreKeys ks → 0 < x → AreKeys (remove ks x)
key_goes ks x are some = record {
  no_root = numbers.get_cut_other ks x 0 (λ same. absurd (omega (arith, same, some))) ∙ are.no_root;
  no_zero = λ y at. are.no_zero y (key_before ks x y 0 at).1;
  one_to_one = λ y z k at at_too. are.one_to_one y z k (key_before ks x y k at).1 (key_before ks x z k at_too).1;
}

-- THEY FOLLOW THE TREE
follow_put : (m : Nodes) (ks : KeyMap) (x k : ℕ) (n : Node) → HaveKeys m ks → HaveKeys (insert m x n) (insert ks x k)
follow_put m ks x k n have y = elim (same_or_not y x) [
  | inl same ↦ subst (λ z. HasKey (get (insert m x n) z) (get (insert ks x k) z)) (sym same) (rw (get_put_same m x n, numbers.get_put_same ks x k) tt)
  | inr apart ↦ rw (get_put_other m x n y apart, numbers.get_put_other ks x k y apart) (have y)
]

any_node : (n k : Node) (key : Option ℕ) → HasKey (Some k) key → HasKey (Some n) key
any_node n k None has = has
any_node n k (Some j) has = has

follow_over : (m : Nodes) (ks : KeyMap) (x : ℕ) (n k : Node) → get m x ≡ Some k → HaveKeys m ks → HaveKeys (insert m x n) ks
follow_over m ks x n k there have y = elim (same_or_not y x) [
  | inl same ↦ subst (λ z. HasKey (get (insert m x n) z) (get ks z)) (sym same)
      (rw (get_put_same m x n) (any_node n k (get ks x) (subst (λ o. HasKey o (get ks x)) there (have x))))
  | inr apart ↦ rw (get_put_other m x n y apart) (have y)
]

follow_cut : (m : Nodes) (ks : KeyMap) (x : ℕ) → HaveKeys m ks → HaveKeys (remove m x) (remove ks x)
follow_cut m ks x have y = elim (same_or_not y x) [
  | inl same ↦ subst (λ z. HasKey (get (remove m x) z) (get (remove ks x) z)) (sym same) (rw (get_cut_same m x, numbers.get_cut_same ks x) tt)
  | inr apart ↦ rw (get_cut_other m x y apart, numbers.get_cut_other ks x y apart) (have y)
]

-- what is made has a key, and what comes is made
abbrev pub FitsMade : Bool → Outcome → Type 0
FitsMade new outcome.Ok = new ≡ false
FitsMade new (outcome.Made k) = 0 < k.0
FitsMade new _ = Unit {0}

fits_made : (op : Op) (o : Outcome) → FitsOutcome op o → FitsMade (makes_new op) o
fits_made op outcome.Ok fits = fits
fits_made op (outcome.Made k) fits = fits.1
fits_made op outcome.Changed fits = tt
fits_made op outcome.Taken fits = tt
fits_made op outcome.NotEmpty fits = tt
fits_made op outcome.Failed fits = tt
fits_made op outcome.Memory fits = tt

module _ (m : Nodes) (ks : KeyMap) (are : AreKeys ks) (have : HaveKeys m ks) where
  abbrev Sound : Nodes → KeyMap → Type 0
  Sound k js = AreKeys js × HaveKeys k js

  -- ONE CHANGE
  one_sound : (x : ℕ) (was : Option Node) (c : Change) (o : Outcome) → 0 < x → get m x ≡ was → FitsMade (makes false was c) o → KeyIsFree ks o → is_success o ≡ true
      → Sound (changed m x c) (keys_with was c o x ks)
  one_sound x None Keep o some old fits free success = (are, have)
  one_sound x (Some k) Keep o some old fits free success = (are, have)
  one_sound x None (Put n) (outcome.Made k) some old fits free success = (key_comes ks x k.0 are some fits free, follow_put m ks x k.0 n have)
  one_sound x None (Put n) outcome.Ok some old fits free success = cc
  one_sound x None (Put n) outcome.Changed some old fits free success = cc
  one_sound x None (Put n) outcome.Taken some old fits free success = cc
  one_sound x None (Put n) outcome.NotEmpty some old fits free success = cc
  one_sound x None (Put n) outcome.Failed some old fits free success = cc
  one_sound x None (Put n) outcome.Memory some old fits free success = cc
  one_sound x (Some k) (Put n) o some old fits free success = (are, follow_over m ks x n k old have)
  one_sound x None Cut o some old fits free success = (key_goes ks x are some, follow_cut m ks x have)
  one_sound x (Some k) Cut o some old fits free success = (key_goes ks x are some, follow_cut m ks x have)

  -- A SPLIT: the key of x goes to z
  key_some : (x k : ℕ) → get ks x ≡ Some k → 0 < k
  key_some x zero at = absurd (are.no_zero x at)
  key_some x (suc k) at = omega arith

  module _ (x z : ℕ) (some : 0 < x) (other : 0 < z) (apart : x ≢ z) (n before : Node) (there : get m x ≡ Some before) where
    hand_over : (key : Option ℕ) → get ks x ≡ key → Sound (remove (insert m z n) x) (moved_key ks x z key)
    hand_over None at = absurd (subst (λ o. HasKey (Some before) o) at (subst (λ o. HasKey o (get ks x)) there (have x)))
    hand_over (Some k) at = (
      key_comes (remove ks x) z k (key_goes ks x are some) other (key_some x k at)
          (λ y held. let was = key_before ks x y k held in was.0 (are.one_to_one y x k was.1 at)),
      subst (λ t. HaveKeys t (insert (remove ks x) z k)) (sym (same_after m z x (Put n) Cut (λ same. apart (sym same))))
          (follow_put (remove m x) (remove ks x) z k n (follow_cut m ks x have)),
    )

  split_sound : (x z : ℕ) (c : Change) → 0 < x → HasOther true x z c → LegalCut (changed m z c) x → Sound (remove (changed m z c) x) (moved_key ks x z (get ks x))
  split_sound x z Keep some other cut = absurd other.2
  split_sound x z (Put n) some other cut =
      hand_over x z some other.0 other.1 n cut.there.0 (sym (get_put_other m z n x other.1) ∙ cut.there.1) (get ks x) refl
  split_sound x z Cut some other cut = absurd other.2

-- WHAT LANDS
module _ (op : Op) (o : Outcome) (l : LocalState) (is : IsLocal l) (may : MayFly op) where
  keys_sound : (split : Bool) → HasOther split op.id.0 op.other.0 op.local → FitsMade (makes split op.old_local op.local) o → is_success o ≡ true
      → get l.tree op.id.0 ≡ op.old_local → KeyIsFree l.keys o → LegalInTurn l.tree (cond split (split_changes op) ((op.id.0, op.local) ∷ []))
      → Sound l.tree l.keys is.keys is.follow (all_changed l.tree (cond split (split_changes op) ((op.id.0, op.local) ∷ [])))
      (cond split (moved_key l.keys op.id.0 op.other.0 (get l.keys op.id.0)) (keys_with op.old_local op.local o op.id.0 l.keys))
  keys_sound true other fits success old free legal = split_sound l.tree l.keys is.keys is.follow op.id.0 op.other.0 op.local may.id other legal.1.0
  keys_sound false other fits success old free legal = one_sound l.tree l.keys is.keys is.follow op.id.0 op.old_local op.local o may.id old fits free success

  form_sound : (split : Bool) → HasOther split op.id.0 op.other.0 op.local → LegalInTurn l.tree (cond split (split_changes op) ((op.id.0, op.local) ∷ []))
      → WellFormed (all_changed l.tree (cond split (split_changes op) ((op.id.0, op.local) ∷ [])))
  form_sound true other legal =
      tree_after (changed l.tree op.other.0 op.local) op.id.0 Cut (tree_after l.tree op.other.0 op.local is.form other.0 may.fits.local legal.0) may.id tt legal.1.0
  form_sound false other legal = tree_after l.tree op.id.0 op.local is.form may.id may.fits.local legal.0

  pub local_sound : FitsOutcome op o → is_success o ≡ true → LocalReady l op o → IsLocal (local_after op o l)
  local_sound fits success ready =
      let keys = keys_sound (is_split op.verb) may.other (fits_made op o fits) success ready.old ready.key ready.legal in
      record { form = form_sound (is_split op.verb) may.other ready.legal; keys = keys.0; follow = keys.1 }

-- ONE COMES IN PLACE OF ANOTHER, with its key
module _ (l : LocalState) (y x : ℕ) (node own : Node) (k : Nodes) (is : IsLocal l) (some : 0 < x) (there : get l.tree y ≡ Some own)
    (renamed : IsRenamed l.tree y x node k) where
  some_y : 0 < y
  some_y = elim (same_or_not y 0) [
    | inl e ↦ absurd (not_both l.tree 0 own is.form.no_root (subst (λ z. get l.tree z ≡ Some own) e there))
    | inr off ↦ omega (arith, off)
  ]

  keys_adopted : (key : Option ℕ) → get l.keys y ≡ key → AreKeys (moved_key l.keys y x key) × HaveKeys k (moved_key l.keys y x key)
  keys_adopted None at = absurd (subst (λ o. HasKey (Some own) o) at (subst (λ o. HasKey o (get l.keys y)) there (is.follow y)))
  keys_adopted (Some j) at = (
    key_comes (remove l.keys y) x j (key_goes l.keys y is.keys some_y) some (key_some l.tree l.keys is.keys is.follow y j at)
        (λ z held. let was = key_before l.keys y z j held in was.0 (is.keys.one_to_one z y j was.1 at)),
    keys_renamed l.tree k l.keys y x j node renamed is.follow,
  )

  pub adopted_sound : WellFormed k → IsLocal (record { tree = k; keys = moved_key l.keys y x (get l.keys y) })
  adopted_sound form = let keys = keys_adopted (get l.keys y) refl in record { form = form; keys = keys.0; follow = keys.1 }

-- A WATCHED CHANGE
pub turned_sound : (l : LocalState) (x : ℕ) (t : Turn) → IsLocal l → CanTurn l x t → IsLocal (turned l x t)
turned_sound l x (turn.Add key node) is can = record {
  form = tree_after l.tree x (Put node) is.form can.some can.fits can.legal;
  keys = key_comes l.keys x key.0 is.keys can.some can.keyed can.free;
  follow = follow_put l.tree l.keys x key.0 node is.follow;
}
turned_sound l x (turn.Put node) is can =
    let (n, at) = can.there in
    record {
      form = tree_after l.tree x (Put node) is.form (sound_at l.tree x n is.form at).0 can.fits can.legal;
      keys = is.keys;
      follow = follow_over l.tree l.keys x node n at is.follow;
    }
turned_sound l x turn.Cut is can =
    let (n, at) = can.there in
    let some = (sound_at l.tree x n is.form at).0 in
    record {
      form = tree_after l.tree x Cut is.form some tt can;
      keys = key_goes l.keys x is.keys some;
      follow = follow_cut l.tree l.keys x is.follow;
    }
