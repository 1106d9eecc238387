-- Legal changes leave a shelf.
use Rattle.std.proofs.Common.{◌≡◌, ◌≢◌, ℕ, Bool, List, Option, Some, None, refl, sym, ap, subst, ◌∙◌, inl, inr}
use Rattle.std.specs.Prelude.{IsSome, is_some}
use Rattle.std.specs.FinMap as map
use Rattle.std.specs.FinMap.{get, insert, remove, get-empty}
use Rattle.std.specs.Ordering.{nat_cmp}
use Rattle.nuc_base.specs.Legal.{LegalPut, SameKind}
use Rattle.nuc_base.specs.SamePlace.{SamePlace}
use Rattle.nuc_base.specs.Trees.{Nodes, WellFormed}
use Rattle.nuc_base.specs.declared.node.Kind.TheVariants.{Folder, File}
use Rattle.nuc_base.specs.declared.node.Node.{Node}
use Rattle.nuc_base.specs.declared.node.Place.{Place}
use Rattle.nuc_base.proofs.Depths.{no_loop}
use Rattle.nuc_base.proofs.Forms.{empty_form}
use Rattle.nuc_base.proofs.Maps.{same_or_not, not_both, one_node, get_put_same, get_put_other, get_cut_same, get_cut_other, after_put, after_cut}
use Rattle.nuc_shelf.specs.Shelf.{Bytes, IsFile, IsShelf, ShelfState, changed, empty_shelf, placed, refilled, with_bit, without}
use Rattle.nuc_shelf.proofs.Bytes.{led_same, led_other}

not_none : (o : Option (List ℕ)) → o ≡ None → IsSome o → ⊥
not_none o none some = let e : IsSome {T = List ℕ} None = subst IsSome none some in cc

some_is : (o : Option (List ℕ)) (bytes : List ℕ) → o ≡ Some bytes → IsSome o
some_is o bytes some = ap is_some some

pub empty_is : IsShelf empty_shelf
empty_is = record {
  form = empty_form;
  versions = λ x n e file. absurd (not_both map.empty x n (get-empty nat_cmp x) e);
  filled = λ x (n, e, file). absurd (not_both map.empty x n (get-empty nat_cmp x) e);
  files = λ x some. absurd (not_none (get empty_shelf.bytes x) (get-empty nat_cmp x) some);
}

file_stays : (m : Nodes) (x : ℕ) (n : Node) (y : ℕ) → SameKind m x n.kind → IsFile m y → IsFile (insert m x n) y
file_stays m x n y kind (k, e, file) = elim (same_or_not y x) [
  | inl s ↦ (n, subst (λ z. get (insert m x n) z ≡ Some n) (sym s) (get_put_same m x n), sym (kind k (subst (λ z. get m z ≡ Some k) s e)) ∙ file)
  | inr apart ↦ (k, get_put_other m x n y apart ∙ e, file)
]

module _ (s : ShelfState) (x : ℕ) (n : Node) (shelf : IsShelf s) (form : WellFormed (insert s.tree x n)) (ver : n.kind ≡ File → n.ver.0 ≡ 1) where
  versions_put : (y : ℕ) (k : Node) → get (insert s.tree x n) y ≡ Some k → k.kind ≡ File → k.ver.0 ≡ 1
  versions_put y k e file = elim (after_put s.tree x n y k e) [
    | inl (a, same) ↦ subst (λ (h : Node). h.ver.0 ≡ 1) (sym same) (ver (ap (λ (h : Node). h.kind) (sym same) ∙ file))
    | inr (apart, f) ↦ shelf.versions y k f file
  ]

  -- where a file was put, one stood before
  pub put_node : SameKind s.tree x n.kind → (n.kind ≡ File → IsFile s.tree x) → IsShelf (record { tree = insert s.tree x n; bytes = s.bytes })
  put_node kind was = record {
    form = form;
    versions = versions_put;
    filled = λ y (k, e, file). elim (after_put s.tree x n y k e) [
      | inl (a, same) ↦ subst (λ z. IsSome (get s.bytes z)) (sym a) (shelf.filled x (was (ap (λ (h : Node). h.kind) (sym same) ∙ file)))
      | inr (apart, f) ↦ shelf.filled y (k, f, file)
    ];
    files = λ y some. file_stays s.tree x n y kind (shelf.files y some);
  }

  pub put_file : (bytes : List ℕ) → n.kind ≡ File → SameKind s.tree x n.kind → IsShelf (record { tree = insert s.tree x n; bytes = insert s.bytes x bytes })
  put_file bytes file kind = record {
    form = form;
    versions = versions_put;
    filled = λ y (k, e, is). elim (after_put s.tree x n y k e) [
      | inl (a, same) ↦ subst (λ z. IsSome (get (insert s.bytes x bytes) z)) (sym a) (some_is _ bytes (led_same s.bytes x (Some bytes)))
      | inr (apart, f) ↦ subst IsSome (sym (led_other s.bytes x (Some bytes) y apart)) (shelf.filled y (k, f, is))
    ];
    files = λ y some. elim (same_or_not y x) [
      | inl a ↦ (n, subst (λ z. get (insert s.tree x n) z ≡ Some n) (sym a) (get_put_same s.tree x n), file)
      | inr apart ↦ file_stays s.tree x n y kind (shelf.files y (subst IsSome (led_other s.bytes x (Some bytes) y apart) some))
    ];
  }

pub refilled_is : (s : ShelfState) (x : ℕ) (bytes : List ℕ) → IsShelf s → IsFile s.tree x → IsShelf (refilled s x bytes)
refilled_is s x bytes shelf there = record {
  form = shelf.form;
  versions = shelf.versions;
  filled = λ y file. elim (same_or_not y x) [
    | inl a ↦ subst (λ z. IsSome (get (insert s.bytes x bytes) z)) (sym a) (some_is _ bytes (led_same s.bytes x (Some bytes)))
    | inr apart ↦ subst IsSome (sym (led_other s.bytes x (Some bytes) y apart)) (shelf.filled y file)
  ];
  files = λ y some. elim (same_or_not y x) [
    | inl a ↦ subst (IsFile s.tree) (sym a) there
    | inr apart ↦ shelf.files y (subst IsSome (led_other s.bytes x (Some bytes) y apart) some)
  ];
}

pub without_is : (s : ShelfState) (x : ℕ) → IsShelf s → WellFormed (remove s.tree x) → IsShelf (without s x)
without_is s x shelf form = record {
  form = form;
  versions = λ y k e. shelf.versions y k (after_cut s.tree x y k e).1;
  filled = λ y (k, e, file).
      let (apart, f) = after_cut s.tree x y k e in
      subst IsSome (sym (led_other s.bytes x None y apart)) (shelf.filled y (k, f, file));
  files = λ y some. elim (same_or_not y x) [
    | inl a ↦ absurd (not_none _ (led_same s.bytes x None) (subst (λ z. IsSome (get (remove s.bytes x) z)) a some))
    | inr apart ↦
        let (k, e, file) = shelf.files y (subst IsSome (led_other s.bytes x None y apart) some) in
        (k, get_cut_other s.tree x y apart ∙ e, file)
  ];
}

-- a state is a shelf where what it is made of is that of one
pub shelf_at : (m t : Nodes) (b k : Bytes) → t ≡ m → k ≡ b → IsShelf (record { tree = m; bytes = b }) → IsShelf (record { tree = t; bytes = k })
shelf_at m t b k tree bytes is = subst (λ n. IsShelf (record { tree = n; bytes = k })) (sym tree) (subst (λ c. IsShelf (record { tree = m; bytes = c })) (sym bytes) is)

-- ONE NODE
-- a node may be put again where it stands, with another bit
pub mark_legal : (m : Nodes) (x : ℕ) (n : Node) (bit : Bool) → WellFormed m → get m x ≡ Some n → LegalPut m x (with_bit bit n)
mark_legal m x n bit form at = record {
  kind = λ k e. ap (λ (h : Node). h.kind) (one_node m x k n e at);
  parent = form.parents x n at;
  free = λ y k e s. form.places y x k n e at s;
  no_cycle = no_loop m x n form at;
}

-- what x is changed to, where its node is known
pub changed_is : (m : Nodes) (x : ℕ) (f : Node → Node) (n : Node) (o : Option Node) → o ≡ Some n → changed m x f o ≡ insert m x (f n)
changed_is m x f n o e = ap (changed m x f) e
