-- Local stays Local where something new comes with a key, where something goes with its key, and where a key is handed on.
use Rattle.std.proofs.Common.{◌≡◌, ◌≢◌, ◌∙◌, ◌<◌, ℕ, zero, suc, Some, sym, ap, subst, inl, inr, arith}
use Rattle.std.specs.FinMap.{get, insert, remove}
use Rattle.nuc_base.specs.Kinds.{FitsKind}
use Rattle.nuc_base.specs.Legal.{LegalCut, LegalPut}
use Rattle.nuc_base.specs.Trees.{Nodes}
use Rattle.nuc_base.specs.declared.change.Change.TheVariants.{Put, Cut}
use Rattle.nuc_base.specs.declared.node.Node.{Node}
use Rattle.nuc_base.proofs.Commute.{same_after}
use Rattle.nuc_base.proofs.Forms.{cut_keeps, put_keeps}
use Rattle.nuc_base.proofs.Maps.{get_cut_other, get_cut_same, get_put_other, get_put_same, same_or_not}
use Rattle.nuc_follow.specs.Follows.{cut, made, split}
use Rattle.nuc_follow.proofs.Cutting.{key_before}
use Rattle.nuc_follow.proofs.Putting.{over_root}
use Rattle.nuc_lookup.proofs.Maps as numbers
use Rattle.nuc_observe.specs.Keys.{AreKeys, IsUnheld, KeyMap}
use Rattle.nuc_replica.specs.Local.{HasKey, HaveKeys, IsLocal, LocalState}

-- KEYS ARE KEYS
key_comes : (ks : KeyMap) (x k : ℕ) → AreKeys ks → 0 < x → 0 < k → IsUnheld ks k → AreKeys (insert ks x k)
key_comes ks x k are some key free =
    let other : (y : ℕ) → y ≢ x → get (insert ks x k) y ≡ get ks y = λ y apart. numbers.get_put_other ks x k y apart in
    let here : get (insert ks x k) x ≡ Some k = numbers.get_put_same ks x k in
    let held : (y j : ℕ) → y ≡ x → get (insert ks x k) y ≡ Some j → j ≡ k =
    λ y j same at. numbers.one_number (get (insert ks x k) x) j k (subst (λ z. get (insert ks x k) z ≡ Some j) same at) here in
    record {
      no_root = other 0 (λ same. absurd (omega (arith, same, some))) ∙ are.no_root;
      no_zero = λ y at. elim (same_or_not y x) [
        | inl same ↦ absurd (omega (arith, held y 0 same at, key))
        | inr apart ↦ are.no_zero y (sym (other y apart) ∙ at)
      ];
      one_to_one = λ y z j at at_too. elim (same_or_not y x) [
        | inl y_same ↦ elim (same_or_not z x) [
          | inl z_same ↦ y_same ∙ sym z_same
          | inr z_apart ↦ absurd (free z (sym (other z z_apart) ∙ at_too ∙ ap Some (held y j y_same at)))
        ]
        | inr y_apart ↦ elim (same_or_not z x) [
          | inl z_same ↦ absurd (free y (sym (other y y_apart) ∙ at ∙ ap Some (held z j z_same at_too)))
          | inr z_apart ↦ are.one_to_one y z j (sym (other y y_apart) ∙ at) (sym (other z z_apart) ∙ at_too)
        ]
      ];
    }

key_goes : (ks : KeyMap) (x : ℕ) → AreKeys ks → 0 < x → AreKeys (remove ks x)
key_goes ks x are some = record {
  no_root = numbers.get_cut_other ks x 0 (λ same. absurd (omega (arith, same, some))) ∙ are.no_root;
  no_zero = λ y at. are.no_zero y (key_before ks x y 0 at).1;
  one_to_one = λ y z k at at_too. are.one_to_one y z k (key_before ks x y k at).1 (key_before ks x z k at_too).1;
}

-- THEY FOLLOW THE TREE
follow_put : (m : Nodes) (ks : KeyMap) (x k : ℕ) (n : Node) → HaveKeys m ks → HaveKeys (insert m x n) (insert ks x k)
follow_put m ks x k n have y = elim (same_or_not y x) [
  | inl same ↦ subst (λ z. HasKey (get (insert m x n) z) (get (insert ks x k) z)) (sym same) (rw (get_put_same m x n, numbers.get_put_same ks x k) tt)
  | inr apart ↦ rw (get_put_other m x n y apart, numbers.get_put_other ks x k y apart) (have y)
]

follow_cut : (m : Nodes) (ks : KeyMap) (x : ℕ) → HaveKeys m ks → HaveKeys (remove m x) (remove ks x)
follow_cut m ks x have y = elim (same_or_not y x) [
  | inl same ↦ subst (λ z. HasKey (get (remove m x) z) (get (remove ks x) z)) (sym same) (rw (get_cut_same m x, numbers.get_cut_same ks x) tt)
  | inr apart ↦ rw (get_cut_other m x y apart, numbers.get_cut_other ks x y apart) (have y)
]

key_some : (ks : KeyMap) (x k : ℕ) → AreKeys ks → get ks x ≡ Some k → 0 < k
key_some ks x zero are at = absurd (are.no_zero x at)
key_some ks x (suc k) are at = omega arith

-- LOCAL
pub cut_local : (l : LocalState) (x : ℕ) (old : Node) → IsLocal l → get l.tree x ≡ Some old → LegalCut l.tree x → IsLocal (cut l x)
cut_local l x old is at legal = record {
  form = cut_keeps l.tree x is.form legal;
  keys = key_goes l.keys x is.keys (over_root l.tree x old is.form at);
  follow = follow_cut l.tree l.keys x is.follow;
}

pub made_local : (l : LocalState) (x k : ℕ) (n : Node) → IsLocal l → 0 < x → LegalPut l.tree x n → FitsKind n → 0 < k → IsUnheld l.keys k → IsLocal (made l x n k)
made_local l x k n is some legal fits above free = record {
  form = put_keeps l.tree x n is.form legal some fits;
  keys = key_comes l.keys x k is.keys some above free;
  follow = follow_put l.tree l.keys x k n is.follow;
}

pub split_local : (l : LocalState) (x z k : ℕ) (old copy : Node) → IsLocal l → 0 < z → x ≢ z → get l.tree x ≡ Some old → get l.keys x ≡ Some k
    → LegalPut l.tree z copy → FitsKind copy → LegalCut (insert l.tree z copy) x → IsLocal (split l x z copy k)
split_local l x z k old copy is some apart at key legal fits legal_cut = record {
  form = cut_keeps (insert l.tree z copy) x (put_keeps l.tree z copy is.form legal some fits) legal_cut;
  keys = key_comes (remove l.keys x) z k (key_goes l.keys x is.keys (over_root l.tree x old is.form at)) some (key_some l.keys x k is.keys key)
      (λ y held. let was = key_before l.keys x y k held in was.0 (is.keys.one_to_one y x k was.1 key));
  follow = subst (λ t. HaveKeys t (insert (remove l.keys x) z k)) (sym (same_after l.tree z x (Put copy) Cut (λ same. apart (sym same))))
      (follow_put (remove l.tree x) (remove l.keys x) z k copy (follow_cut l.tree l.keys x is.follow));
}
