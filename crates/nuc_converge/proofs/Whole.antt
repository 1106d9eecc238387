-- The whole of a part of a log in which a client is left alone.
use Rattle.std.specs.Prelude.{All, AllPairs, Contains, IsTrue}
use Rattle.std.proofs.Common.{◌≡◌, ◌≢◌, ◌≤◌, ◌++◌, ◌==◌, ℕ, suc, Bool, true, false, List, [], ◌∷◌, length, map, drop, Some, refl, sym, ◌∙◌, ap, subst, arith, eq-eqb, get_or}
use Rattle.std.proofs.Math.Seq.{drop-length}
use Rattle.std.proofs.lemmas.List.{append-nil, length-map}
use Rattle.std.proofs.lemmas.List.Elements.{All-map}
use Rattle.std.proofs.lemmas.List.Folds.{list_any_at}
use Rattle.std.proofs.lemmas.List.Kept.{AllPairs-cons}
use Rattle.std.proofs.lemmas.Option.{same_Some}
use Rattle.nuc_edits.specs.Edits.{same_hash}
use Rattle.nuc_flights.specs.Flights.{Flight}
use Rattle.nuc_journal.specs.declared.entry.Entry.{Entry}
use Rattle.nuc_log.specs.declared.log.LogEntry.{LogEntry}
use Rattle.nuc_measure.specs.Potential.{IsCarried, IsPotential, no_flight}
use Rattle.nuc_measure.proofs.Carried.{carried_of, flights_count, potential_of}
use Rattle.nuc_step.specs.Client.{ClientState}
use Rattle.nuc_step.specs.Order.{AreSeparate, IsReady, KeyStands, MayLand}
use Rattle.nuc_world.specs.Runs.{Reaches}
use Rattle.nuc_world.specs.State.{MemberState, WorldState, member_of}
use Rattle.nuc_converge.specs.Alone.{IsRested, LeftAlone}
use Rattle.nuc_converge.specs.Alone.LeftAlone.{begins, goes}
use Rattle.nuc_converge.specs.Laws.{EachLowersIt, FewArePlanned, HasPotential}
use Rattle.nuc_converge.proofs.InFlight.{IsBatch, flies}
use Rattle.nuc_converge.proofs.InFlight.IsAlone.{batch as of_batch}
use Rattle.nuc_converge.proofs.Parts.{Carries, DonesStayAlone, PlansStayAlone}
use Rattle.nuc_converge.proofs.Point.{IsPoint}
use Rattle.nuc_converge.proofs.Starting.{flies_bound, some_carries}
use Rattle.nuc_converge.proofs.Stepping.{member_stays, next_point}

-- WHERE IT BEGINS nothing flies, and no entry is behind the cursor
none_in : {X : Type 0} (x : X) → Contains [] x → ⊥
none_in x (k, below, at) = omega (arith, below)

batch_of_none : (same : ℕ → ℕ → Bool) (c : ClientState) (entries : List Entry) → c.remote.cursor ≡ length entries
    → IsBatch same c.remote.tree c.local.tree c.synced c.remote.cursor entries []
batch_of_none same c entries latest =
    let behind : drop c.remote.cursor entries ≡ [] = ap (λ k. drop k entries) latest ∙ drop-length entries in
    record {
      means = λ f within. absurd (none_in f within);
      one_id = λ f g in_f in_g e. absurd (none_in f in_f);
      one_revision = λ f g rev in_f in_g first second. absurd (none_in f in_f);
      ready = record {
        below = λ x d to. absurd (none_in to.f to.flies);
        fits = λ x d to. absurd (none_in to.f to.flies);
        legal = λ x d to. absurd (none_in to.f to.flies);
        apart = λ x y d e to too. absurd (none_in to.f to.flies);
      };
      news = λ e within. absurd (none_in e (subst (λ es. Contains es e) behind within));
    }

none_ready : (c : ClientState) → c.flights ≡ [] → IsReady c
none_ready c none = record {
  each = subst (All (MayLand c)) (sym none) (λ k d below. absurd (omega (arith, below)));
  keys = subst (All (λ f. KeyStands c.local.keys f.stage)) (sym none) (λ k d below. absurd (omega (arith, below)));
  pairs = subst (AllPairs (AreSeparate c)) (sym none) (λ i j d less below. absurd (omega (arith, below)));
}

module _ (c : ℕ) (before : List LogEntry) (w : WorldState) (m : MemberState) (a : ℕ) (reaches : Reaches before w) (rested : IsRested c w m)
    (potential : HasPotential w.shared m a) where
  -- what is carried is the potential then
  first_pays : (b : ℕ) → Carries (same_hash w.shared.edits.edits) m.client b → b ≡ a
  first_pays b is =
      let same = same_hash w.shared.edits.edits in
      let none : IsCarried same no_flight m.client.remote.tree m.client.local.tree m.client.synced b =
      subst (λ fs. IsCarried same (flies fs) m.client.remote.tree m.client.local.tree m.client.synced b) rested.landed is in
      let landed = (carried_of same no_flight m.client.remote.tree m.client.local.tree m.client.synced 0 (λ x up. absurd (let clash : false ≡ true = up in cc))).landed b in
      (potential_of same m.client.remote.tree m.client.local.tree m.client.synced).one b a (landed.0 none) potential

  first_point : (n : MemberState) → member_of c w.members ≡ Some n → IsPoint c before [] w w a n
  first_point n there =
      let one : m ≡ n = same_Some m n (sym rested.was ∙ there) in
      subst (IsPoint c before [] w w a) one (record {
        was = rested.was;
        reaches = subst (λ log. Reaches log w) (sym (append-nil before)) reaches;
        edits = refl;
        alone = of_batch (subst (IsBatch (same_hash w.shared.edits.edits) m.client.remote.tree m.client.local.tree m.client.synced m.client.remote.cursor w.shared.entries)
            (sym rested.landed) (batch_of_none (same_hash w.shared.edits.edits) m.client w.shared.entries rested.latest));
        ready = none_ready m.client rested.landed;
        pays = λ b is. let e = first_pays b is in omega (arith, e);
        counts = let none : length m.client.flights ≡ 0 = ap (λ (fs : List Flight). length fs) rested.landed in omega (arith, none);
      })

  module _ (plans : PlansStayAlone) (dones : DonesStayAlone) where
    -- AT EACH POINT
    pub each_point : (part : List LogEntry) (v : WorldState) → LeftAlone c before w part v → (n : MemberState) → member_of c v.members ≡ Some n
        → IsPoint c before part w v a n
    each_point _ _ begins n there = first_point n there
    each_point _ _ (goes part u e r v left step is) n there =
        next_point plans dones c before part w u v a (λ k was. each_point part u left k was) e r n step is there

-- THE CLIENT IS THERE as long as the part lasts
pub still_there : (c : ℕ) (before : List LogEntry) (w : WorldState) (m : MemberState) → IsRested c w m → (part : List LogEntry) (v : WorldState)
    → LeftAlone c before w part v → (n : MemberState) × (member_of c v.members ≡ Some n)
still_there c before w m rested _ _ begins = (m, rested.was)
still_there c before w m rested _ _ (goes part u e r v left step is) =
    let (k, was) = still_there c before w m rested part u left in
    member_stays c (before ++ part) u e r v k step is was

-- each operation counts: the potential is no more than what is carried
pub each_lowers_it : PlansStayAlone → DonesStayAlone → EachLowersIt
each_lowers_it plans dones c before part w v m n a b reaches rested left there first last =
    let point = each_point c before w m a reaches rested first plans dones part v left n there in
    let same = same_hash w.shared.edits.edits in
    let now = subst (λ edits. IsPotential (same_hash edits) n.client.remote.tree n.client.local.tree n.client.synced b) point.edits last in
    let (k, is_k) = some_carries same n.client in
    let bound = flies_bound n.client.flights in
    let more = (carried_of same (flies n.client.flights) n.client.remote.tree n.client.local.tree n.client.synced bound.0 bound.1).more b k now is_k in
    let pays = point.pays k is_k in
    omega (arith, more, pays)

-- AS MANY FLY as are carried at most: they have different identities
-- each of them flies
all_fly : (fs : List Flight) → All (λ f. IsTrue (flies fs f.op.id.0)) fs
all_fly fs k d below =
    list_any_at (λ g. g.op.id.0 == (get_or fs k d).op.id.0) fs k d below (eq-eqb (get_or fs k d).op.id.0 (get_or fs k d).op.id.0 refl)

apart_ids : (fs : List Flight) → AllPairs (λ f g. f.op.id.0 ≢ g.op.id.0) fs → AllPairs (λ x y. x ≢ y) (map (λ (f : Flight). f.op.id.0) fs)
apart_ids [] all = λ i j d less below. absurd (omega (arith, below))
apart_ids (f ∷ fs) all =
    AllPairs-cons (λ x y. x ≢ y) f.op.id.0 (map (λ (g : Flight). g.op.id.0) fs)
    (All-map (λ y. f.op.id.0 ≢ y) (λ (g : Flight). g.op.id.0) fs (λ k d below. all 0 (suc k) d (omega arith) (omega (arith, below))))
    (apart_ids fs (λ i j d less below. all (suc i) (suc j) d (omega (arith, less)) (omega (arith, below))))

few_fly : (same : ℕ → ℕ → Bool) (c : ClientState) (k : ℕ) → IsReady c → Carries same c k → length c.flights ≤ k
few_fly same c k ready is =
    let ids = map (λ (f : Flight). f.op.id.0) c.flights in
    let bound = flies_bound c.flights in
    let long : length ids ≡ length c.flights = length-map c.flights (λ (f : Flight). f.op.id.0) in
    let few : length ids ≤ k = flights_count same (flies c.flights) c.remote.tree c.local.tree c.synced bound.0 k ids bound.1
    (apart_ids c.flights (λ i j d less below. (ready.pairs i j d less below).ids))
    (All-map (λ x. IsTrue (flies c.flights x)) (λ (f : Flight). f.op.id.0) c.flights (all_fly c.flights)) is in
    omega (arith, few, long)

pub few_are_planned : PlansStayAlone → DonesStayAlone → FewArePlanned
few_are_planned plans dones c before part w v m d reaches rested left differ =
    let same = same_hash w.shared.edits.edits in
    let one = potential_of same m.client.remote.tree m.client.local.tree m.client.synced in
    let (a, is_a) = one.some in
    let few = one.few a d is_a differ in
    let (n, there) = still_there c before w m rested part v left in
    let point = each_point c before w m a reaches rested is_a plans dones part v left n there in
    let (k, is_k) = some_carries same n.client in
    let pays = point.pays k is_k in
    let fly = few_fly same n.client k point.ready is_k in
    let counts = point.counts in
    omega (arith, few, pays, fly, counts)
