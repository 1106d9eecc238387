-- A node that is put in place of another of one kind: it is legal where the place stays, and Local stays Local.
use Rattle.std.proofs.Common.{◌≡◌, ◌≢◌, ◌<◌, ◌∙◌, ℕ, zero, suc, List, Option, None, Some, refl, sym, ap, subst, inl, inr, arith}
use Rattle.std.specs.FinMap.{get, insert}
use Rattle.nuc_base.specs.Kinds.{FitsKind}
use Rattle.nuc_base.specs.Legal.{LegalPut}
use Rattle.nuc_base.specs.SamePlace.{SamePlace}
use Rattle.nuc_base.specs.Trees.{IsFolder, IsUnder, Nodes, WellFormed}
use Rattle.nuc_base.specs.declared.node.Node.{Node}
use Rattle.nuc_base.specs.declared.node.Place.{Place}
use Rattle.nuc_base.proofs.Chains.{under_before_put}
use Rattle.nuc_base.proofs.Depths.{no_loop}
use Rattle.nuc_base.proofs.Forms.{folder_put, put_keeps}
use Rattle.nuc_base.proofs.Maps.{after_put, get_put_other, get_put_same, one_node, not_both, same_nodes, same_or_not}
use Rattle.nuc_edits.specs.declared.edit.Edit.{Edit}
use Rattle.nuc_filework.specs.Calls.{key_place}
use Rattle.nuc_folder.specs.State.{FolderState}
use Rattle.nuc_folder.specs.declared.key_place.KeyPlace.{KeyPlace}
use Rattle.nuc_follow.specs.Matches.{HasContent, Matches, held_as}
use Rattle.nuc_follow.specs.Follows.{over}
use Rattle.nuc_follow.proofs.Matched.{matched_with}
use Rattle.nuc_replica.specs.Local.{HasKey, IsLocal, LocalState}

-- LEGAL
pub legal_in_place : (m : Nodes) (x : ℕ) (old n : Node) → WellFormed m → get m x ≡ Some old → n.place ≡ old.place → n.kind ≡ old.kind → LegalPut m x n
legal_in_place m x old n form at place kind = record {
  kind = λ k e. ap (λ (h : Node). h.kind) (one_node m x k old e at) ∙ sym kind;
  parent = subst (λ (p : Place). IsFolder m p.parent.0) (sym place) (form.parents x old at);
  free = λ y k e s. form.places y x k old e at (subst (λ p. SamePlace k.place p) place s);
  no_cycle = subst (λ (p : Place). ¬ (IsUnder m p.parent.0 x)) (sym place) (no_loop m x old form at);
}

-- what was legal stays so, after another node came to x
pub legal_again : (m : Nodes) (x : ℕ) (old mid n : Node) → get m x ≡ Some old → mid.kind ≡ old.kind → LegalPut m x n → LegalPut (insert m x mid) x n
legal_again m x old mid n at kind legal =
    let same : n.kind ≡ mid.kind = sym (legal.kind old at) ∙ sym kind in
    record {
      kind = λ k e. ap (λ (h : Node). h.kind) (one_node (insert m x mid) x k mid e (get_put_same m x mid)) ∙ sym same;
      parent = folder_put m x mid n.place.parent.0 (λ k e. ap (λ (h : Node). h.kind) (one_node m x k old e at) ∙ sym kind) legal.parent;
      free = λ y k e s. elim (after_put m x mid y k e) [
        | inl (own, is) ↦ own
        | inr (apart, was) ↦ legal.free y k was s
      ];
      no_cycle = λ u. elim (under_before_put m x mid x n.place.parent.0 u) [ inl v ↦ legal.no_cycle v | inr v ↦ legal.no_cycle v ];
    }

-- of two nodes that are put at x, the second stays
pub put_twice : (m : Nodes) (x : ℕ) (a b : Node) → insert (insert m x a) x b ≡ insert m x b
put_twice m x a b = same_nodes (insert (insert m x a) x b) (insert m x b) (λ y. elim (same_or_not y x) [
  | inl same ↦ rw same (get_put_same (insert m x a) x b ∙ sym (get_put_same m x b))
  | inr apart ↦ get_put_other (insert m x a) x b y apart ∙ get_put_other m x a y apart ∙ sym (get_put_other m x b y apart)
])

-- LOCAL
pub over_root : (m : Nodes) (x : ℕ) (n : Node) → WellFormed m → get m x ≡ Some n → 0 < x
over_root m zero n form at = absurd (not_both m 0 n form.no_root at)
over_root m (suc x) n form at = omega arith

any_node : (n k : Node) (key : Option ℕ) → HasKey (Some k) key → HasKey (Some n) key
any_node n k None has = has
any_node n k (Some j) has = has

pub over_local : (l : LocalState) (x : ℕ) (old n : Node) → IsLocal l → get l.tree x ≡ Some old → LegalPut l.tree x n → FitsKind n → IsLocal (over l x n)
over_local l x old n is at legal fits = record {
  form = put_keeps l.tree x n is.form legal (over_root l.tree x old is.form at) fits;
  keys = is.keys;
  follow = λ y. elim (same_or_not y x) [
    | inl same ↦ subst (λ z. HasKey (get (insert l.tree x n) z) (get l.keys z)) (sym same)
        (rw (get_put_same l.tree x n) (any_node n old (get l.keys x) (subst (λ o. HasKey o (get l.keys x)) at (is.follow x))))
    | inr apart ↦ rw (get_put_other l.tree x n y apart) (is.follow y)
  ];
}

-- what the folder has under x's key is the new node: the two match again
pub over_matches : (es : List Edit) (l : LocalState) (s t : FolderState) (x k : ℕ) (old n : Node) (q : KeyPlace) → Matches es l s → get l.tree x ≡ Some old
    → get l.keys x ≡ Some k → LegalPut l.tree x n → FitsKind n → key_place l.keys n.place ≡ Some q → get t.tree k ≡ Some (held_as q n) → HasContent es n.kind n.ver.0 (get t.bytes k)
    → ((j : ℕ) → j ≢ k → get t.tree j ≡ get s.tree j) → ((j : ℕ) → j ≢ k → get t.bytes j ≡ get s.bytes j) → Matches es (over l x n) t
over_matches es l s t x k old n q is at key legal fits known node content tree bytes =
    matched_with es l (over l x n) s t is (over_local l x old n is.local at legal fits) x k
    (λ y j h apart keyed there. (keyed, sym (get_put_other l.tree x n y apart) ∙ there, refl)) (λ y j apart keyed. keyed) tree bytes
    n (get_put_same l.tree x n) key (record { place = q; known = known; node = node; bytes = content })
