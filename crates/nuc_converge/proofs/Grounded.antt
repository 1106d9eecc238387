-- A client of which nothing is in flight, and what takes place there at once.
use Rattle.std.specs.Prelude.{All, AllPairs, Contains}
use Rattle.std.proofs.Common.{◌≡◌, ◌<◌, ℕ, Bool, true, false, List, [], ◌∷◌, length, drop, sym, ap, subst, ◌∙◌, arith}
use Rattle.std.proofs.lemmas.List.Elements.{All-nil}
use Rattle.nuc_base.specs.Trees.{Nodes}
use Rattle.nuc_flights.specs.Flights.{Flight}
use Rattle.nuc_journal.specs.declared.entry.Entry.{Entry}
use Rattle.nuc_measure.specs.Potential.{IsCarried, IsPotential}
use Rattle.nuc_replica.specs.Remote.{RemoteState}
use Rattle.nuc_step.specs.Client.{ClientState}
use Rattle.nuc_step.specs.Order.{AreSeparate, IsReady, KeyStands, MayLand}
use Rattle.nuc_step.specs.declared.answers.Planned.{Planned}
use Rattle.nuc_converge.specs.Counts.{applied_by, planned_by}
use Rattle.nuc_converge.proofs.InFlight.{IsAlone, IsBatch, flies}
use Rattle.nuc_converge.proofs.InFlight.IsAlone.{batch, mend}
use Rattle.nuc_converge.proofs.Parts.{Carries, HasPlanned}

-- nothing is in an empty list
pub nobody : {X : Type 0} (x : X) → Contains [] x → ⊥
nobody x (k, within, is) = omega (arith, within)

module _ (same : ℕ → ℕ → Bool) (entries : List Entry) where
  -- no entry is ahead of the cursor
  abbrev pub NoneAhead : ℕ → Type 0
  NoneAhead cursor = (e : Entry) → Contains (drop cursor entries) e → ⊥

  pub none_ahead : (c : ClientState) → c.flights ≡ [] → IsAlone same entries c → NoneAhead c.remote.cursor
  none_ahead c idle (batch is) e ahead = let own = is.news e ahead in nobody own.f (subst (λ fs. Contains fs own.f) idle own.flies)
  none_ahead c idle (mend f one is) e ahead = let clash : [] ≡ f ∷ [] = sym idle ∙ one in cc

  grounded_batch : (r l s : Nodes) (cursor : ℕ) → NoneAhead cursor → IsBatch same r l s cursor entries []
  grounded_batch r l s cursor none = record {
    means = λ f flying. absurd (nobody f flying);
    one_id = λ f g flying too one. absurd (nobody f flying);
    one_revision = λ f g rev flying too at at_too. absurd (nobody f flying);
    ready = record {
      below = λ x c its. absurd (nobody its.f its.flies);
      fits = λ x c its. absurd (nobody its.f its.flies);
      legal = λ x c its. absurd (nobody its.f its.flies);
      apart = λ x y c d its other apart. absurd (nobody its.f its.flies);
    };
    news = λ e ahead. absurd (none e ahead);
  }

  -- what changes neither Remote nor what flies leaves it alone
  pub grounded_alone : (c d : ClientState) → c.flights ≡ [] → IsAlone same entries c → d.flights ≡ [] → d.remote ≡ c.remote → IsAlone same entries d
  grounded_alone c d idle is landed remote =
      batch (subst (IsBatch same d.remote.tree d.local.tree d.synced d.remote.cursor entries) (sym landed)
      (grounded_batch d.remote.tree d.local.tree d.synced d.remote.cursor
      (λ e ahead. none_ahead c idle is e (subst (λ (m : RemoteState). Contains (drop m.cursor entries) e) remote ahead))))

pub grounded_ready : (c : ClientState) → c.flights ≡ [] → IsReady c
grounded_ready c idle = record {
  each = subst (All (MayLand c)) (sym idle) (All-nil (MayLand c));
  keys = subst (All (λ f. KeyStands c.local.keys f.stage)) (sym idle) (All-nil (λ (f : Flight). KeyStands c.local.keys f.stage));
  pairs = subst (AllPairs (AreSeparate c)) (sym idle) (λ i j f less within. absurd (omega (arith, within)));
}

-- it carries its potential
pub grounded_carries : (same : ℕ → ℕ → Bool) (c : ClientState) (k : ℕ) → c.flights ≡ [] → Carries same c k
    → IsPotential same c.remote.tree c.local.tree c.synced k
grounded_carries same c k idle is n in_n =
    subst (λ fs. IsCarried same (flies fs) c.remote.tree c.local.tree c.synced k) idle is n in_n (λ x up. absurd (let clash : false ≡ true = up in cc))

-- WHAT TAKES PLACE AT ONCE, and lowers the potential
abbrev pub Falls : (ℕ → ℕ → Bool) → ClientState → ClientState → Type 0
Falls same c d = (a b : ℕ) → IsPotential same c.remote.tree c.local.tree c.synced a → IsPotential same d.remote.tree d.local.tree d.synced b → b < a

pub at_once_alone : (same : ℕ → ℕ → Bool) (entries : List Entry) (c d : ClientState) (answer : Planned) → c.flights ≡ [] → IsAlone same entries c
    → d.flights ≡ c.flights → d.remote ≡ c.remote → planned_by answer ≡ 1 → applied_by answer ≡ 1 → Falls same c d → HasPlanned same entries c d answer
at_once_alone same entries c d answer idle is landed remote one once falls =
    let idle_too : d.flights ≡ [] = landed ∙ idle in record {
      alone = grounded_alone same entries c d idle is idle_too remote;
      ready = grounded_ready d idle_too;
      pays = λ a b is_a is_b. let less = falls a b (grounded_carries same c a idle is_a) (grounded_carries same d b idle_too is_b) in omega (arith, less, once);
      counts = let alike : length d.flights ≡ length c.flights = ap length landed in omega (arith, alike, one, once);
    }
