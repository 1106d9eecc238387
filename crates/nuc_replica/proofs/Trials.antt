-- Facts of the tests of the folder's side.
use Rattle.std.proofs.Common.{◌≡◌, ◌≢◌, ℕ, Option, None, Some, IfSome, IsSomeAnd, sym, ◌∙◌, ap, subst, inl, inr}
use Rattle.std.specs.Ordering.{nat_cmp}
use Rattle.std.specs.FinMap.{empty, get, get-empty, insert}
use Rattle.nuc_base.specs.Legal.{LegalCut, LegalPut}
use Rattle.nuc_base.specs.Trees.{Nodes}
use Rattle.nuc_base.specs.declared.node.Node.{Node}
use Rattle.nuc_base.proofs.Maps.{after_put, get_put_other, get_put_same, same_or_not}
use Rattle.nuc_lookup.proofs.Maps as numbers
use Rattle.nuc_observe.specs.Keys.{KeyMap}
use Rattle.nuc_replica.specs.Local.{HasKey, HaveKeys}
use Rattle.nuc_undo.specs.Laid.{Laid, with_node}

may_go_after : (m : Nodes) (x z : ℕ) (node : Node) → x ≢ z → node.place.parent.0 ≢ x → LegalCut m x → LegalCut (insert m z node) x
may_go_after m x z node other apart legal = record {
  there = (legal.there.0, get_put_other m z node x other ∙ legal.there.1);
  empty = λ y n at below. elim (after_put m z node y n at) [
    | inl (here_is, same) ↦ apart (sym (ap (λ (k : Node). k.place.parent.0) same) ∙ below)
    | inr (other_is, old) ↦ legal.empty y n old below
  ];
}

-- x may go once z has what is laid by
pub may_go_then : (m : Nodes) (x z p : ℕ) (o : Option Node) → x ≢ z → p ≢ x → IfSome o (λ n. n.place.parent.0 ≡ p) → LegalCut m x → LegalCut (with_node m z o) x
may_go_then m x z p None other apart parent legal = legal
may_go_then m x z p (Some n) other apart parent legal = may_go_after m x z n other (λ same. apart (sym parent ∙ same)) legal

-- what was laid by may come to x, and has this parent
pub laid_legal : (m k : Nodes) (laid after : Laid) (i x : ℕ) (n : Node) → after ≡ insert laid i n → k ≡ m → LegalPut m x n → IsSomeAnd (get after i) (λ node. LegalPut k x node)
laid_legal m k laid after i x n same tree legal =
    let there = ap (λ l. get l i) same ∙ get_put_same laid i n in
    subst (λ (o : Option Node). IsSomeAnd o (λ node. LegalPut k x node)) (sym there) (subst (λ t. LegalPut t x n) (sym tree) legal)

pub laid_parent : (laid after : Laid) (i p : ℕ) (n : Node) → after ≡ insert laid i n → n.place.parent.0 ≡ p → IfSome (get after i) (λ node. node.place.parent.0 ≡ p)
laid_parent laid after i p n same parent =
    let there = ap (λ l. get l i) same ∙ get_put_same laid i n in
    subst (λ (o : Option Node). IfSome o (λ node. node.place.parent.0 ≡ p)) (sym there) parent

pub none_have_keys : (m : Nodes) (keys : KeyMap) → m ≡ empty → keys ≡ empty → HaveKeys m keys
none_have_keys m keys tree none x =
    let node : get m x ≡ None = ap (λ k. get k x) tree ∙ get-empty nat_cmp x in
    let key : get keys x ≡ None = ap (λ k. get k x) none ∙ get-empty nat_cmp x in
    subst (λ n. HasKey n (get keys x)) (sym node) (subst (λ r. HasKey None r) (sym key) tt)

-- x has come with a key
with_one_more : (m : Nodes) (keys : KeyMap) (x k : ℕ) (n : Node) → HaveKeys m keys → HaveKeys (insert m x n) (insert keys x k)
with_one_more m keys x k n have = λ y. elim (same_or_not y x) [
  | inl same ↦ subst (λ z. HasKey (get (insert m x n) z) (get (insert keys x k) z)) (sym same) (rw (get_put_same m x n, numbers.get_put_same keys x k) tt)
  | inr apart ↦ rw (get_put_other m x n y apart, numbers.get_put_other keys x k y apart) (have y)
]

pub have_keys_more : (m t : Nodes) (keys js : KeyMap) (x k : ℕ) (n : Node) → t ≡ insert m x n → js ≡ insert keys x k → HaveKeys m keys → HaveKeys t js
have_keys_more m t keys js x k n tree key have =
    subst (λ (u : Nodes). HaveKeys u js) (sym tree) (subst (λ (ks : KeyMap). HaveKeys (insert m x n) ks) (sym key) (with_one_more m keys x k n have))
