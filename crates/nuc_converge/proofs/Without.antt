-- What a list of flights is without one of them.
use Rattle.std.specs.Prelude.{Contains, IsTrue}
use Rattle.std.proofs.Common.{◌≡◌, ◌≢◌, ◌⊎◌, ◌<◌, ◌≤◌, ◌+◌, ◌==◌, ℕ, zero, suc, Bool, true, false, cond, List, [], ◌∷◌, Option, None, Some, refl, sym, ap, subst, ◌∙◌, inl, inr, eq-eqb, arith}
use Rattle.std.proofs.lemmas.Bool.{cases_Bool, eqb-true}
use Rattle.std.proofs.lemmas.List.Elements.{All-contains, All-contains_itself}
use Rattle.std.proofs.lemmas.List.Folds.{Any-from_list_any, list_any_at}
use Rattle.std.specs.FinMap.{get}
use Rattle.nuc_base.specs.Trees.{Nodes}
use Rattle.nuc_flights.specs.Flights.{Flight, flight_of, without}
use Rattle.nuc_measure.specs.Cost.{cost}
use Rattle.nuc_measure.specs.Differing.{differs}
use Rattle.nuc_measure.specs.Pays.{FliesBelow, Keeps, NoMoreFlies}
use Rattle.nuc_measure.specs.Potential.{marks}
use Rattle.nuc_measure.proofs.Carried.{spares_keeps}
use Rattle.nuc_step.specs.Sound.{AreNumbered}
use Rattle.nuc_step.proofs.Flying.{all_without, flight_in, number_of, others_without}
use Rattle.nuc_converge.proofs.InFlight.{flies}

-- WHO FLIES. The one with the number is one of the flights
pub in_flight : (n : ℕ) (fs : List Flight) (f : Flight) → flight_of n fs ≡ Some f → Contains fs f
in_flight n fs f there = flight_in (Contains fs) n fs f there (All-contains_itself fs)

-- and so is each of the others
pub still_in : (n : ℕ) (fs : List Flight) (g : Flight) → Contains (without n fs) g → Contains fs g
still_in n fs g stays = All-contains (Contains fs) (without n fs) g (all_without (Contains fs) n fs (All-contains_itself fs)) stays

pub first_or_later : (h : Flight) (fs : List Flight) (g : Flight) → Contains (h ∷ fs) g → (h ≡ g) ⊎ Contains fs g
first_or_later h fs g (zero, less, is) = inl is
first_or_later h fs g (suc k, less, is) = inr (k, omega (arith, less), is)

later : (h : Flight) (fs : List Flight) (g : Flight) → Contains fs g → Contains (h ∷ fs) g
later h fs g (k, less, is) = (suc k, omega (arith, less), is)

-- each flight is the one with the number, or stays
pub gone_or_stays : (n : ℕ) (fs : List Flight) (f g : Flight) → flight_of n fs ≡ Some f → Contains fs g → (g ≡ f) ⊎ Contains (without n fs) g
gone_or_stays n [] f g there within = cc
gone_or_stays n (h ∷ fs) f g there within =
    elim (h.op.number == n) as (λ b. cond b (Some h) (flight_of n fs) ≡ Some f → (g ≡ f) ⊎ Contains (cond b fs (h ∷ without n fs)) g) [
      | true ↦ λ is. let it : h ≡ f = cc in elim (first_or_later h fs g within) [ inl e ↦ inl (sym e ∙ it) | inr more ↦ inr more ]
      | false ↦ λ rest. elim (first_or_later h fs g within) [
        | inl e ↦ inr (zero, omega arith, e)
        | inr more ↦ elim (gone_or_stays n fs f g rest more) [ inl e ↦ inl e | inr stays ↦ inr (later h (without n fs) g stays) ]
      ]
    ] there

-- where there is one flight alone, nothing flies without it
pub one_gone : (n : ℕ) (f g : Flight) → flight_of n (f ∷ []) ≡ Some g → (g ≡ f) × (without n (f ∷ []) ≡ [])
one_gone n f g there = elim (f.op.number == n) as (λ b. ◌≡◌ {A = Option Flight} (cond b (Some f) None) (Some g) → (g ≡ f) × (cond b [] (f ∷ []) ≡ [])) [
  | true ↦ λ is. (let it : g ≡ f = cc in it, refl)
  | false ↦ λ is. cc
] there

pub nobody : (g : Flight) → Contains [] g → ⊥
nobody g (k, less, is) = omega (arith, less)

-- IDENTITIES. Which fly, as a test
pub flies_of : (fs : List Flight) (f : Flight) → Contains fs f → IsTrue (flies fs f.op.id.0)
flies_of fs f (k, less, is) =
    list_any_at (λ (g : Flight). g.op.id.0 == f.op.id.0) fs k f less (ap (λ (g : Flight). g.op.id.0 == f.op.id.0) is ∙ eq-eqb f.op.id.0 f.op.id.0 refl)

pub flown_by : (fs : List Flight) (x : ℕ) → IsTrue (flies fs x) → (f : Flight) × Contains fs f × (f.op.id.0 ≡ x)
flown_by fs x up =
    let (k, f, less, is, hit) = Any-from_list_any (λ (g : Flight). g.op.id.0 == x) fs up in
    (f, (k, less, is), eqb-true f.op.id.0 x hit)

pub fewer_fly : (n : ℕ) (fs : List Flight) → NoMoreFlies (flies fs) (flies (without n fs))
fewer_fly n fs x up =
    let (f, within, is) = flown_by (without n fs) x up in
    subst (λ y. IsTrue (flies fs y)) is (flies_of fs f (still_in n fs f within))

-- all that fly have a bound
one_below : (f : Flight) (fs : List Flight) (m : ℕ) → FliesBelow (flies fs) m → (x : ℕ)
    → (g : Flight) × Contains (f ∷ fs) g × (g.op.id.0 ≡ x) → x < m + (f.op.id.0 + 1)
one_below f fs m below x (g, within, is) = elim (first_or_later f fs g within) [
  | inl e ↦ let same : f.op.id.0 ≡ x = ap (λ (h : Flight). h.op.id.0) e ∙ is in omega (arith, same)
  | inr more ↦ let less : g.op.id.0 < m = below g.op.id.0 (flies_of fs g more) in omega (arith, less, is)
]

pub flies_bound : (fs : List Flight) → (m : ℕ) × FliesBelow (flies fs) m
flies_bound [] = (0, λ x up. absurd (nobody (flown_by [] x up).0 (flown_by [] x up).1))
flies_bound (f ∷ fs) = let rest = flies_bound fs in (rest.0 + (f.op.id.0 + 1), λ x up. one_below f fs rest.0 rest.1 x (flown_by (f ∷ fs) x up))

-- of different identities, the one that ends flies no more
module _ (n : ℕ) (fs : List Flight) (next : ℕ) (f : Flight) (are : AreNumbered fs next) (there : flight_of n fs ≡ Some f)
    (one : (g h : Flight) → Contains fs g → Contains fs h → g.op.id.0 ≡ h.op.id.0 → g ≡ h) where
  pub other_id : (g : Flight) → Contains (without n fs) g → g.op.id.0 ≢ f.op.id.0
  other_id g stays is =
      let it : g ≡ f = one g f (still_in n fs g stays) (in_flight n fs f there) is in
      All-contains (λ h. h.op.number ≢ n) (without n fs) g (others_without n fs next are) stays (ap (λ (h : Flight). h.op.number) it ∙ number_of n fs f there)

  pub flies_no_more : flies (without n fs) f.op.id.0 ≡ false
  flies_no_more = elim (cases_Bool (flies (without n fs) f.op.id.0)) [
    | inl up ↦ let (g, stays, is) = flown_by (without n fs) f.op.id.0 up in absurd (other_id g stays is)
    | inr down ↦ down
  ]

-- WHAT IS CARRIED isn't more where fewer fly
fewer_by : (d up now : Bool) (k : ℕ) → (IsTrue now → IsTrue up) → cond d k (cond now 1 0) ≤ cond d k (cond up 1 0)
fewer_by true up now k flew = omega arith
fewer_by false true true k flew = omega arith
fewer_by false true false k flew = omega arith
fewer_by false false true k flew = absurd (let clash : false ≡ true = flew refl in cc)
fewer_by false false false k flew = omega arith

pub fewer_keep : (same : ℕ → ℕ → Bool) (fly now : ℕ → Bool) (r l s : Nodes) → NoMoreFlies fly now → Keeps same fly r l s now r l s
fewer_keep same fly now r l s flew = spares_keeps same fly now flew r l s r l s (λ y.
    fewer_by (differs (get r y) (get l y) (get s y)) (fly y) (now y) (cost same (get r y) (get l y) (get s y) + marks r l s y) (flew y))
