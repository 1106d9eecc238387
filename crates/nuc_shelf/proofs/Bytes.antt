-- What changes of the bytes of files come to, and that they are taken back.
use Rattle.std.proofs.Common.{◌≡◌, ◌≢◌, ◌==◌, ℕ, List, [], ◌∷◌, ◌++◌, true, false, cond, nat_eq, Option, Some, None, refl, sym, ap, ◌∙◌, inl, inr}
use Rattle.std.proofs.lemmas.Bool.Decides.{eqb_tells}
use Rattle.std.proofs.lemmas.Cmp.{nat_cmp_total}
use Rattle.std.specs.Cmp.{unsigned_tied}
use Rattle.std.specs.FinMap.{get, insert, remove, get-empty, get-insert, get-remove, same_map, nat_cmp-IsAntisymmetric}
use Rattle.std.specs.Map.{lookup}
use Rattle.std.specs.Ordering.{nat_cmp}
use Rattle.nuc_base.proofs.Maps.{same_or_not}
use Rattle.nuc_shelf.specs.Files.{bytes_of, first_of, led}
use Rattle.nuc_shelf.specs.Shelf.{Bytes}
use Rattle.nuc_shelf.specs.declared.files.Undo.{Undo}

yes : (x : ℕ) → (x == x) ≡ true
yes x = elim (eqb_tells x x) [ inl (t, e) ↦ t | inr (t, e) ↦ absurd (e refl) ]

no : (x y : ℕ) → x ≢ y → (x == y) ≡ false
no x y apart = elim (eqb_tells x y) [ inl (t, e) ↦ absurd (apart e) | inr (t, e) ↦ t ]

turned : (x y : ℕ) → (x == y) ≡ (y == x)
turned x y = elim (same_or_not x y) [
  | inl e ↦ rw e refl
  | inr apart ↦ no x y apart ∙ sym (no y x (λ e. apart (sym e)))
]

pub same_bytes : (m k : Bytes) → ((x : ℕ) → get m x ≡ get k x) → m ≡ k
same_bytes m k same = same_map nat_cmp_total nat_cmp-IsAntisymmetric m k same

pub get_led : (m : Bytes) (x : ℕ) (to : Option (List ℕ)) (q : ℕ) → get (led m x to) q ≡ cond (q == x) to (get m q)
get_led m x None q = get-remove nat_cmp_total m x q ∙ ap (λ b. cond b None (get m q)) (unsigned_tied q x)
get_led m x (Some bytes) q = get-insert nat_cmp_total m x bytes q ∙ ap (λ b. cond b (Some bytes) (get m q)) (unsigned_tied q x)

pub led_same : (m : Bytes) (x : ℕ) (to : Option (List ℕ)) → get (led m x to) x ≡ to
led_same m x to = get_led m x to x ∙ ap (λ b. cond b to (get m x)) (yes x)

pub led_other : (m : Bytes) (x : ℕ) (to : Option (List ℕ)) (q : ℕ) → q ≢ x → get (led m x to) q ≡ get m q
led_other m x to q apart = get_led m x to q ∙ ap (λ b. cond b to (get m q)) (no q x apart)

-- THE ENTRIES
pub says : (entries : List (ℕ × List ℕ)) (x : ℕ) → get (bytes_of entries) x ≡ lookup (nat_eq x) entries
says [] x = get-empty nat_cmp x
says (e ∷ entries) x = get-insert nat_cmp_total (bytes_of entries) e.0 e.1 x ∙ (λ i. cond (unsigned_tied x e.0 i) (Some e.1) (says entries x i))

pub updated : (before after : List (ℕ × List ℕ)) (x : ℕ) (to : Option (List ℕ))
    → ((q : ℕ) → lookup (nat_eq q) after ≡ cond (x == q) to (lookup (nat_eq q) before)) → bytes_of after ≡ led (bytes_of before) x to
updated before after x to is = same_bytes _ _ (λ q. says after q ∙ is q ∙ (λ i. cond (turned x q i) to (sym (says before q) i)) ∙ sym (get_led (bytes_of before) x to q))

-- WHAT WAS NOTED
taken_back : (m : Bytes) (x : ℕ) (to before : Option (List ℕ)) → before ≡ get m x → led (led m x to) x before ≡ m
taken_back m x to before had = same_bytes _ m (λ q. elim (same_or_not q x) [
  | inl same ↦ rw same (led_same (led m x to) x before ∙ had)
  | inr other ↦ led_other (led m x to) x before q other ∙ led_other m x to q other
])

pub first_push : (m : Bytes) (us : List Undo) (u : Undo) → first_of m (us ++ u ∷ []) ≡ first_of (led m u.key u.before) us
first_push m [] u = refl
first_push m (v ∷ us) u = ap (λ k. led k v.key v.before) (first_push m us u)

-- a change that is noted leaves what there was before the first
pub first_stays : (m k : Bytes) (us vs : List Undo) (u : Undo) (to : Option (List ℕ)) → k ≡ led m u.key to → u.before ≡ get m u.key → vs ≡ us ++ u ∷ []
    → first_of k vs ≡ first_of m us
first_stays m k us vs u to is had noted =
    ap (first_of k) noted ∙ first_push k us u ∙ ap (λ n. first_of (led n u.key u.before) us) is ∙ ap (λ n. first_of n us) (taken_back m u.key to u.before had)
