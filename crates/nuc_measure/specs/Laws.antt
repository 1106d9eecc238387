-- What follows of the measures of three trees.
use Rattle.std.specs.Prelude.{◌≡◌, ◌≢◌, ◌<◌, ◌≤◌, ◌*◌, ◌↔◌, ℕ, Bool, false, IsTrue, List, All, AllPairs, Contains, length}
use Rattle.std.specs.FinMap.{get}
use Rattle.nuc_base.specs.Trees.{Nodes}
use Rattle.nuc_base.specs.declared.change.Change.TheVariants.{Keep}
use Rattle.nuc_class.specs.declared.op.Op.{Op}
use Rattle.nuc_conflict.specs.After.{AreAfter}
use Rattle.nuc_conflict.specs.Facts.{MendFacts}
use Rattle.nuc_conflict.specs.FitTogether.{FitBelow, FitTogether}
use Rattle.nuc_measure.specs.Differing.{IsDiffering}
use Rattle.nuc_measure.specs.Pays.{FliesBelow, Keeps, Lowers, NoMoreFlies}
use Rattle.nuc_measure.specs.Potential.{IsCarried, IsPotential, no_flight}
use Rattle.nuc_measure.specs.Steps.{Comes, Ends}
use Rattle.nuc_plan.specs.Plans.{IsPlan, operations}
use Rattle.nuc_plan.specs.declared.plans.Plan.{Plan}

-- there is one number of identities that differ, and it is 0 exactly where the trees are equal
pub record IsOneCount (r l s : Nodes) : Type 0 where
  pub some : (k : ℕ) × IsDiffering r l s k
  pub one : (a b : ℕ) → IsDiffering r l s a → IsDiffering r l s b → a ≡ b
  pub none : IsDiffering r l s 0 ↔ ((r ≡ l) × (l ≡ s))

abbrev pub OneCount : Type 0
OneCount = (r l s : Nodes) → IsOneCount r l s

-- there is one potential, it is 0 exactly where the trees are equal, and it is at most 6 for each identity that differs
pub record IsOnePotential (same : ℕ → ℕ → Bool) (r l s : Nodes) : Type 0 where
  pub some : (k : ℕ) × IsPotential same r l s k
  pub one : (a b : ℕ) → IsPotential same r l s a → IsPotential same r l s b → a ≡ b
  pub none : IsPotential same r l s 0 ↔ ((r ≡ l) × (l ≡ s))
  pub few : (k d : ℕ) → IsPotential same r l s k → IsDiffering r l s d → k ≤ 6 * d

abbrev pub OnePotential : Type 0
OnePotential = (same : ℕ → ℕ → Bool) (r l s : Nodes) → IsOnePotential same r l s

-- one number is carried, as long as what is in flight has a bound, and it is the potential where nothing is
pub record IsOneCarried (same : ℕ → ℕ → Bool) (fly : ℕ → Bool) (r l s : Nodes) (m : ℕ) : Type 0 where
  pub some : (k : ℕ) × IsCarried same fly r l s k
  pub one : (a b : ℕ) → IsCarried same fly r l s a → IsCarried same fly r l s b → a ≡ b
  pub more : (a b : ℕ) → IsPotential same r l s a → IsCarried same fly r l s b → a ≤ b
  pub landed : (k : ℕ) → IsCarried same no_flight r l s k ↔ IsPotential same r l s k

abbrev pub OneCarried : Type 0
OneCarried = (same : ℕ → ℕ → Bool) (fly : ℕ → Bool) (r l s : Nodes) (m : ℕ) → FliesBelow fly m → IsOneCarried same fly r l s m

-- the end of an operation lowers what is carried
abbrev pub EndsLower : Type 0
EndsLower = (same : ℕ → ℕ → Bool) (fly now : ℕ → Bool) (r l s : Nodes) (x : ℕ) (nr nl ns : Nodes) → FitTogether r l s → 0 < x
    → NoMoreFlies fly now → now x ≡ false → Ends same fly r l s x nr nl ns → Lowers same fly r l s now nr nl ns

-- no entry of an own commit raises it
abbrev pub EntriesKeep : Type 0
EntriesKeep = (same : ℕ → ℕ → Bool) (fly now : ℕ → Bool) (r l s : Nodes) (x : ℕ) (nr : Nodes) → FitTogether r l s → 0 < x
    → NoMoreFlies fly now → Comes r l s x nr → Keeps same fly r l s now nr l s

-- a mend lowers it. Where it writes Remote, Synced has to have the same node
abbrev pub MendsLower : Type 0
MendsLower = (same : ℕ → ℕ → Bool) (fly now : ℕ → Bool) (r l s nr nl ns : Nodes) (next : ℕ) (op : Op) → FitBelow r l s next
    → NoMoreFlies fly now → now op.id.0 ≡ false → MendFacts same r l s next op → (op.remote ≢ Keep → get s op.id.0 ≡ get r op.id.0)
    → AreAfter r l s op nr nl ns → Lowers same fly r l s now nr nl ns

-- as many operations as are in flight, of different identities, are carried at least
abbrev pub FlightsCount : Type 0
FlightsCount = (same : ℕ → ℕ → Bool) (fly : ℕ → Bool) (r l s : Nodes) (m k : ℕ) (xs : List ℕ) → FliesBelow fly m → AllPairs (λ x y. x ≢ y) xs
    → All (λ x. IsTrue (fly x)) xs → IsCarried same fly r l s k → length xs ≤ k

-- each operation of a plan, carried out alone, lowers the potential
abbrev pub PlansLower : Type 0
PlansLower = (same : ℕ → ℕ → Bool) (r l s nr nl ns : Nodes) (next : ℕ) (p : Plan) (op : Op) (a b : ℕ) → FitBelow r l s next
    → IsPlan same r l s next p → Contains (operations p) op → AreAfter r l s op nr nl ns
    → IsPotential same r l s a → IsPotential same nr nl ns b → b < a
