-- Sums of a function at the numbers below a bound.
use Rattle.std.proofs.Common.{◌≡◌, ◌≢◌, ◌⊎◌, ◌<◌, ◌≤◌, ◌+◌, ◌*◌, ℕ, zero, suc, true, false, cond, eqb, List, [], ◌∷◌, length, All, AllPairs, refl, sym, ap, ◌∙◌, inl, inr, arith}
use Rattle.std.specs.Prelude.{slice_index_or}
use Rattle.std.proofs.lemmas.Bool.{cases_eq, eq-eqb, ne_eqb}
use Rattle.nuc_measure.specs.Totals.{total}

pub total_le : (n : ℕ) (f g : ℕ → ℕ) → ((x : ℕ) → x < n → f x ≤ g x) → total n f ≤ total n g
total_le zero f g le = omega arith
total_le (suc n) f g le =
    let below : total n f ≤ total n g = total_le n f g (λ x h. le x (omega (arith, h))) in
    let last : f n ≤ g n = le n (omega arith) in
    omega (arith, below, last)

pub total_same : (n : ℕ) (f g : ℕ → ℕ) → ((x : ℕ) → x < n → f x ≡ g x) → total n f ≡ total n g
total_same zero f g same = refl
total_same (suc n) f g same =
    let below : total n f ≡ total n g = total_same n f g (λ x h. same x (omega (arith, h))) in
    let last : f n ≡ g n = same n (omega arith) in
    omega (arith, below, last)

pub total_less : (n x : ℕ) (f g : ℕ → ℕ) → x < n → f x < g x → ((y : ℕ) → y < n → f y ≤ g y) → total n f < total n g
total_less zero x f g h less le = absurd (omega (arith, h))
total_less (suc n) x f g h less le = by (total_le n f g below) (le n (omega arith)) (λ k. total_less n x f g k less below) (cases_eq x n)
  where
    below : (y : ℕ) → y < n → f y ≤ g y
    below y k = le y (omega (arith, k))

    by : total n f ≤ total n g → f n ≤ g n → (x < n → total n f < total n g) → (x ≡ n) ⊎ (x ≡ n → ⊥) → total n f + f n < total n g + g n
    by sums last early (inl e) =
        let less_last : f n < g n = rw (← e) less in
        omega (arith, sums, less_last)
    by sums last early (inr e) =
        let at : x < n = omega (arith, h, e) in
        let less_below : total n f < total n g = early at in
        omega (arith, less_below, last)

-- f with 0 at x
abbrev pub without : ℕ → (ℕ → ℕ) → ℕ → ℕ
without x f y = cond (eqb y x) 0 (f y)

pub total_outside : (n x : ℕ) (f : ℕ → ℕ) → n ≤ x → total n (without x f) ≡ total n f
total_outside zero x f h = refl
total_outside (suc n) x f h =
    let other : eqb n x ≡ false = ne_eqb n x (λ e. omega (arith, h, e)) in
    let below : total n (without x f) ≡ total n f = total_outside n x f (omega (arith, h)) in
    rw (below, other) refl

pub total_split : (n x : ℕ) (f : ℕ → ℕ) → x < n → total n f ≡ total n (without x f) + f x
total_split zero x f h = absurd (omega (arith, h))
total_split (suc n) x f h = by (λ k. total_split n x f k) (cases_eq n x)
  where
    by : (x < n → total n f ≡ total n (without x f) + f x) → (n ≡ x) ⊎ (n ≡ x → ⊥) → total n f + f n ≡ (total n (without x f) + cond (eqb n x) 0 (f n)) + f x
    by early (inl e) =
        let same : eqb n x ≡ true = eq-eqb n x e in
        let outside : total n (without x f) ≡ total n f = total_outside n x f (omega (arith, e)) in
        let at_x : f n ≡ f x = ap f e in
        rw (same, outside) (omega (arith, at_x))
    by early (inr e) =
        let other : eqb n x ≡ false = ne_eqb n x e in
        let at : x < n = omega (arith, h, e) in
        let below : total n f ≡ total n (without x f) + f x = early at in
        rw other (omega (arith, below))

-- what two numbers gain together
pub total_pair : (n x z : ℕ) (f g : ℕ → ℕ) → x < n → z < n → x ≢ z → f x + f z < g x + g z
    → ((y : ℕ) → y < n → y ≢ x → y ≢ z → f y ≤ g y) → total n f < total n g
total_pair n x z f g hx hz apart less le =
    let z_other : eqb z x ≡ false = ne_eqb z x (λ e. apart (sym e)) in
    let f1 : total n f ≡ total n (without x f) + f x = total_split n x f hx in
    let g1 : total n g ≡ total n (without x g) + g x = total_split n x g hx in
    let f2 : total n (without x f) ≡ total n (without z (without x f)) + without x f z = total_split n z (without x f) hz in
    let g2 : total n (without x g) ≡ total n (without z (without x g)) + without x g z = total_split n z (without x g) hz in
    let fz : without x f z ≡ f z = rw z_other refl in
    let gz : without x g z ≡ g z = rw z_other refl in
    let rest : total n (without z (without x f)) ≤ total n (without z (without x g)) =
    total_le n (without z (without x f)) (without z (without x g)) (λ y h. others y h (cases_eq y z) (cases_eq y x)) in
    omega (arith, f1, g1, f2, g2, fz, gz, rest, less)
  where
    others : (y : ℕ) → y < n → (y ≡ z) ⊎ (y ≡ z → ⊥) → (y ≡ x) ⊎ (y ≡ x → ⊥) → without z (without x f) y ≤ without z (without x g) y
    others y h (inl e) b = rw (eq-eqb y z e) (omega arith)
    others y h (inr e) (inl k) = rw (ne_eqb y z e, eq-eqb y x k) (omega arith)
    others y h (inr e) (inr k) = rw (ne_eqb y z e, ne_eqb y x k) (le y h k e)

pub total_scale : (n c : ℕ) (f g : ℕ → ℕ) → ((x : ℕ) → x < n → f x ≤ c * g x) → total n f ≤ c * total n g
total_scale zero c f g le = omega arith
total_scale (suc n) c f g le =
    let below : total n f ≤ c * total n g = total_scale n c f g (λ x h. le x (omega (arith, h))) in
    let last : f n ≤ c * g n = le n (omega arith) in
    grind (arith, below, last)

pub total_more : (n k : ℕ) (f : ℕ → ℕ) → ((x : ℕ) → n ≤ x → x < k + n → f x ≡ 0) → total (k + n) f ≡ total n f
total_more n zero f zeros = ap (λ m. total m f) (omega arith)
total_more n (suc k) f zeros =
    let at : f (k + n) ≡ 0 = zeros (k + n) (omega arith) (omega arith) in
    let below : total (k + n) f ≡ total n f = total_more n k f (λ x low high. zeros x low (omega (arith, high))) in
    let shape : suc k + n ≡ suc (k + n) = omega arith in
    rw shape (omega (arith, at, below))

-- the same with both bounds
pub total_gap : (n m : ℕ) (f : ℕ → ℕ) → n ≤ m → ((x : ℕ) → n ≤ x → x < m → f x ≡ 0) → total m f ≡ total n f
total_gap n m f le zeros =
    let (k, shape) = gap n m le in
    ap (λ t. total t f) shape ∙ total_more n k f (λ x low high. zeros x low (omega (arith, high, shape)))
  where
    gap : (n m : ℕ) → n ≤ m → (k : ℕ) × (m ≡ k + n)
    gap zero m h = (m, omega arith)
    gap (suc n) zero h = absurd (omega (arith, h))
    gap (suc n) (suc m) h = let (k, shape) = gap n m (omega (arith, h)) in (k, omega (arith, shape))

-- zeros alone, and a sum that is none
pub total_zeros : (n : ℕ) (f : ℕ → ℕ) → ((x : ℕ) → x < n → f x ≡ 0) → total n f ≡ 0
total_zeros zero f zeros = refl
total_zeros (suc n) f zeros =
    let below : total n f ≡ 0 = total_zeros n f (λ x h. zeros x (omega (arith, h))) in
    let last : f n ≡ 0 = zeros n (omega arith) in
    omega (arith, below, last)

pub total_one : (n x : ℕ) (f : ℕ → ℕ) → x < n → f x ≤ total n f
total_one n x f h = let split : total n f ≡ total n (without x f) + f x = total_split n x f h in omega (arith, split)

-- of numbers that are 1 at most, and 0 at the root
pub total_few : (n : ℕ) (f : ℕ → ℕ) → f 0 ≡ 0 → ((x : ℕ) → f x ≤ 1) → total (suc n) f ≤ n
total_few zero f root few = omega (arith, root)
total_few (suc n) f root few =
    let below : total (suc n) f ≤ n = total_few n f root few in
    let last : f (suc n) ≤ 1 = few (suc n) in
    omega (arith, below, last)

-- different numbers, each of which counts
pub total_count : (n : ℕ) (f : ℕ → ℕ) (xs : List ℕ) → AllPairs (λ x y. x ≢ y) xs → All (λ x. (x < n) × (1 ≤ f x)) xs → length xs ≤ total n f
total_count n f [] apart each = omega arith
total_count n f (x ∷ xs) apart each =
    let (below, counts) = each 0 x (omega arith) in
    let split : total n f ≡ total n (without x f) + f x = total_split n x f below in
    let rest : length xs ≤ total n (without x f) = total_count n (without x f) xs
    (λ i j d less within. apart (suc i) (suc j) d (omega (arith, less)) (omega (arith, within)))
    (λ k d within. others (slice_index_or xs k d) (apart 0 (suc k) d (omega arith) (omega (arith, within))) (each (suc k) d (omega (arith, within)))) in
    omega (arith, split, rest, counts)
  where
    others : (y : ℕ) → x ≢ y → (y < n) × (1 ≤ f y) → (y < n) × (1 ≤ without x f y)
    others y other (less, some) = (less, rw (ne_eqb y x (λ e. other (sym e))) some)
