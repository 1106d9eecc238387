-- Operations any two of which are together: a batch, which can be carried out in every order.
use Rattle.std.proofs.Common.{◌≡◌, ◌≢◌, ◌<◌, ℕ, zero, suc, List, [], ◌∷◌, length, map, slice_index_or, All, AllPairs, IsPermutation, sym, ap, subst, ◌∙◌, refl, inl, inr, arith}
use Rattle.std.proofs.lemmas.Bool.{cases_lt}
use Rattle.std.proofs.lemmas.List.{get_or_default, get_or-map, length-map}
use Rattle.std.proofs.lemmas.List.Elements.{All-contains, All-nil, All-weaker}
use Rattle.std.proofs.lemmas.List.Sorted.{IsPermutation-map}
use Rattle.nuc_base.specs.Changes.{Apart, FitsChange, IsLegal}
use Rattle.nuc_base.specs.Ready.{AllReady, NoneTwice, OneOf}
use Rattle.nuc_base.specs.Trees.{Nodes, WellFormed}
use Rattle.nuc_base.specs.declared.change.Change.{Change}
use Rattle.nuc_base.proofs.InTurn.{every_order}
use Rattle.nuc_class.specs.declared.op.Op.{Op}
use Rattle.nuc_safety.specs.Batch.{EndsAs, InEveryOrder, IsBatch, IsPossible}
use Rattle.nuc_safety.specs.FirstFit.{FirstFit}
use Rattle.nuc_safety.specs.Together.{Together}
use Rattle.nuc_safety.proofs.Pairs.{together-sym}
use Rattle.nuc_safety.proofs.Taking.{each_taken, pairs}

-- a change of the list is that of an operation
pub whose : (f : Op → Change) (ops : List Op) (x : ℕ) (c : Change) → OneOf (map (λ op. (op.id.0, f op)) ops) x c
    → (k : ℕ) × (op : Op) × (k < length ops) × (slice_index_or ops k op ≡ op) × (op.id.0 ≡ x) × (f op ≡ c)
whose f [] x c (k, below, at) = absurd (omega (arith, below))
whose f (op ∷ ops) x c (zero, below, at) = (zero, op, omega arith, refl, ap (λ (q : ℕ × Change). q.0) at, ap (λ (q : ℕ × Change). q.1) at)
whose f (op ∷ ops) x c (suc k, below, at) =
    let rest = whose f ops x c (k, omega (arith, below), at) in
    (suc rest.0, rest.1, omega (arith, rest.2), rest.3, rest.4, rest.5)

-- a relation of any two, whichever comes first, where it holds both ways
any_two : (R : Op → Op → Type 0) → ((a b : Op) → R a b → R b a) → (ops : List Op) → AllPairs R ops → (i j : ℕ) (a b : Op)
    → i < length ops → j < length ops → slice_index_or ops i a ≡ a → slice_index_or ops j b ≡ b → a.id.0 ≢ b.id.0 → R a b
any_two R flips ops all i j a b i_below j_below at_i at_j other = elim (cases_lt i j) [
  | inl less ↦
      let pair : R (slice_index_or ops i a) (slice_index_or ops j a) = all i j a less j_below in
      subst (λ o. R o b) at_i (subst (λ o. R (slice_index_or ops i a) o) (get_or_default ops j a b j_below ∙ at_j) pair)
  | inr le ↦ elim (cases_lt j i) [
    | inl less ↦
        let pair : R (slice_index_or ops j b) (slice_index_or ops i b) = all j i b less i_below in
        flips b a (subst (λ o. R o a) at_j (subst (λ o. R (slice_index_or ops j b) o) (get_or_default ops i b a i_below ∙ at_i) pair))
    | inr ge ↦
        let same : i ≡ j = omega (arith, le, ge) in
        absurd (other (ap (λ (o : Op). o.id.0) (sym at_i ∙ get_or_default ops i a b i_below ∙ ap (λ k. slice_index_or ops k b) same ∙ at_j)))
  ]
]

-- in one tree: the changes that operations make there are ready, where each is possible and any two are together
ready_in : (m : Nodes) (f : Op → Change) (R : Op → Op → Type 0) → ((a b : Op) → R a b → R b a) → (ops : List Op) → AllPairs R ops
    → ((a b : Op) → R a b → Apart m a.id.0 (f a) b.id.0 (f b))
    → All (λ op. (0 < op.id.0) × FitsChange (f op) × IsLegal m op.id.0 (f op)) ops
    → AllReady m (OneOf (map (λ op. (op.id.0, f op)) ops))
ready_in m f R flips ops all apart each = record {
  below = λ x c its. (of x c its).0;
  fits = λ x c its. (of x c its).1;
  legal = λ x c its. (of x c its).2;
  apart = λ x y c d its other x_y.
      let a = whose f ops x c its in
      let b = whose f ops y d other in
      let differ : (a.1).id.0 ≢ (b.1).id.0 = λ e. x_y (sym a.4 ∙ e ∙ b.4) in
      let both = apart a.1 b.1 (any_two R flips ops all a.0 b.0 a.1 b.1 a.2 b.2 a.3 b.3 differ) in
      moved (a.1).id.0 x (f a.1) c (b.1).id.0 y (f b.1) d a.4 a.5 b.4 b.5 both;
}
  where
    moved : (x x' : ℕ) (c c' : Change) (y y' : ℕ) (d d' : Change) → x ≡ x' → c ≡ c' → y ≡ y' → d ≡ d' → Apart m x c y d → Apart m x' c' y' d'
    moved x x' c c' y y' d d' e f g h both =
        subst (λ q. Apart m q c' y' d') e (subst (λ q. Apart m x q y' d') f (subst (λ q. Apart m x c q d') g (subst (λ q. Apart m x c y q) h both)))

    of : (x : ℕ) (c : Change) → OneOf (map (λ op. (op.id.0, f op)) ops) x c → (0 < x) × FitsChange c × IsLegal m x c
    of x c its =
        let its_op = whose f ops x c its in
        let fact = All-contains (λ op. (0 < op.id.0) × FitsChange (f op) × IsLegal m op.id.0 (f op)) ops its_op.1 each (its_op.0, its_op.2, its_op.3) in
        subst (λ y. (0 < y) × FitsChange c × IsLegal m y c) its_op.4
        (subst (λ d. (0 < (its_op.1).id.0) × FitsChange d × IsLegal m (its_op.1).id.0 d) its_op.5 fact)

pub is_batch : (r l s : Nodes) (ops : List Op) → All (IsPossible r l s) ops → AllPairs (Together r l s) ops → IsBatch r l s ops
is_batch r l s ops possible all = record {
  ids = λ i j d less below. (all i j d less below).ids;
  remote = ready_in r (λ op. op.remote) (Together r l s) (together-sym r l s) ops all (λ a b both. both.remote)
      (All-weaker (IsPossible r l s) (λ op. (0 < op.id.0) × FitsChange op.remote × IsLegal r op.id.0 op.remote) (λ op is. (is.id, is.fits.remote, is.legal.remote)) ops possible);
  local = ready_in l (λ op. op.local) (Together r l s) (together-sym r l s) ops all (λ a b both. both.local)
      (All-weaker (IsPossible r l s) (λ op. (0 < op.id.0) × FitsChange op.local × IsLegal l op.id.0 op.local) (λ op is. (is.id, is.fits.local, is.legal.local)) ops possible);
  synced = ready_in s (λ op. op.synced) (Together r l s) (together-sym r l s) ops all (λ a b both. both.synced)
      (All-weaker (IsPossible r l s) (λ op. (0 < op.id.0) × FitsChange op.synced × IsLegal s op.id.0 op.synced) (λ op is. (is.id, is.fits.synced, is.legal.synced)) ops possible);
}

pub first_fit_batch : (r l s : Nodes) (due batch : List Op) → All (IsPossible r l s) due → FirstFit r l s due batch → IsBatch r l s batch
first_fit_batch r l s due batch possible fit =
    is_batch r l s batch (each_taken r l s (IsPossible r l s) [] due batch (All-nil (IsPossible r l s)) possible fit)
    (pairs r l s [] due batch (λ i j d less below. absurd (omega (arith, below))) fit)

-- no identity of the changes comes twice
none_twice : (f : Op → Change) (ops : List Op) → AllPairs (λ a b. a.id.0 ≢ b.id.0) ops → NoneTwice (map (λ op. (op.id.0, f op)) ops)
none_twice f [] apart i j d less below e = absurd (omega (arith, below))
none_twice f (o ∷ ops) apart i j d less below e =
    let g : Op → ℕ × Change = λ op. (op.id.0, f op) in
    let long = length-map (o ∷ ops) g in
    let at_i = get_or-map g (o ∷ ops) i o d (omega (arith, long, less, below)) in
    let at_j = get_or-map g (o ∷ ops) j o d (omega (arith, long, below)) in
    apart i j o less (omega (arith, long, below)) (sym (ap (λ (q : ℕ × Change). q.0) at_i) ∙ e ∙ ap (λ (q : ℕ × Change). q.0) at_j)

ends_as : (m : Nodes) (f : Op → Change) (ops order : List Op) → WellFormed m → AllPairs (λ a b. a.id.0 ≢ b.id.0) ops
    → AllReady m (OneOf (map (λ op. (op.id.0, f op)) ops)) → IsPermutation ops order
    → EndsAs m (map (λ op. (op.id.0, f op)) order) (map (λ op. (op.id.0, f op)) ops)
ends_as m f ops order form ids ready shuffled =
    let g : Op → ℕ × Change = λ op. (op.id.0, f op) in
    let all = every_order m (map g ops) (map g order) form (none_twice f ops ids) ready (IsPermutation-map g ops order shuffled) in
    record { legal = all.0; form = all.1; end = all.2 }

pub in_every_order : (r l s : Nodes) (ops : List Op) → WellFormed r → WellFormed l → WellFormed s → IsBatch r l s ops → InEveryOrder r l s ops
in_every_order r l s ops remote local synced batch order shuffled = record {
  remote = ends_as r (λ op. op.remote) ops order remote batch.ids batch.remote shuffled;
  local = ends_as l (λ op. op.local) ops order local batch.ids batch.local shuffled;
  synced = ends_as s (λ op. op.synced) ops order synced batch.ids batch.synced shuffled;
}
