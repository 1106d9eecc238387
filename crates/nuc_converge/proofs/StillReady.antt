-- What is ready stays so while one operation is started or taken.
use Rattle.std.specs.Prelude.{All, AllPairs}
use Rattle.std.proofs.Common.{◌==◌, ℕ, suc, true, false, cond, List, [], ◌∷◌, arith}
use Rattle.std.proofs.lemmas.List.Elements.{All-head, All-tail}
use Rattle.std.proofs.lemmas.List.Kept.{AllPairs-cons}
use Rattle.nuc_flights.specs.Flights.{Flight, Stage, staged, started, taken}
use Rattle.nuc_flights.specs.declared.taken.Taken.TheVariants as came
use Rattle.nuc_folder.specs.declared.outcome.Outcome.TheVariants as outcome
use Rattle.nuc_replica.specs.Remote.{RemoteState}
use Rattle.nuc_step.specs.Client.{ClientState}
use Rattle.nuc_step.specs.Order.{AreSeparate, IsReady, KeyStands, MayLand, OtherKeys}
use Rattle.nuc_step.proofs.Flying.{all_staged}
use Rattle.nuc_converge.proofs.Staged.{at_stage}

pairs_first : {X : Type 0} (R : X → X → Type 0) (x : X) (xs : List X) → AllPairs R (x ∷ xs) → All (R x) xs
pairs_first R x xs all k d below = all 0 (suc k) d (omega arith) (omega (arith, below))

pairs_rest : {X : Type 0} (R : X → X → Type 0) (x : X) (xs : List X) → AllPairs R (x ∷ xs) → AllPairs R xs
pairs_rest R x xs all i j d less below = all (suc i) (suc j) d (omega (arith, less)) (omega (arith, below))

-- the keys of a flight and of a stage are apart
abbrev pub AreOther : Stage → Flight → Type 0
AreOther st f = OtherKeys f.stage st × OtherKeys st f.stage

pub none_started : (st : Stage) → OtherKeys st started
none_started (taken (came.Folder (outcome.Made k))) = tt
none_started st = tt

module _ (c : ClientState) (n : ℕ) (st : Stage) where
  pairs_staged : (fs : List Flight) → All (AreOther st) fs → AllPairs (AreSeparate c) fs → AllPairs (AreSeparate c) (staged n st fs)
  pairs_staged [] each all = all
  pairs_staged (f ∷ fs) each all =
      elim (f.op.number == n) as (λ b. AllPairs (AreSeparate c) (cond b (at_stage st f ∷ fs) (f ∷ staged n st fs))) [
        | true ↦ AllPairs-cons (AreSeparate c) (at_stage st f) fs
            (λ k d below.
            let apart = pairs_first (AreSeparate c) f fs all k d below in
            record {
              ids = apart.ids;
              one = apart.one;
              other_one = apart.other_one;
              local = apart.local;
              synced = apart.synced;
              keys = (All-tail (AreOther st) f fs each k d below).1;
            })
            (pairs_rest (AreSeparate c) f fs all)
        | false ↦ AllPairs-cons (AreSeparate c) f (staged n st fs)
            (all_staged (AreSeparate c f) n st fs (λ g _ apart. record {
              ids = apart.ids;
              one = apart.one;
              other_one = apart.other_one;
              local = apart.local;
              synced = apart.synced;
              keys = (All-head (AreOther st) f fs each).0;
            }) (pairs_first (AreSeparate c) f fs all))
            (pairs_staged fs (All-tail (AreOther st) f fs each) (pairs_rest (AreSeparate c) f fs all))
      ]

  -- whatever the client hears of the server meanwhile
  pub ready_then : (remote : RemoteState) → IsReady c → KeyStands c.local.keys st → All (AreOther st) c.flights
      → IsReady (record c { flights = staged n st c.flights; remote = remote })
  ready_then remote ready stands new =
      let pairs = pairs_staged c.flights new ready.pairs in
      record {
        each = all_staged (MayLand c) n st c.flights (λ f _ lands. lands) ready.each;
        keys = all_staged (λ f. KeyStands c.local.keys f.stage) n st c.flights (λ f _ _. stands) ready.keys;
        pairs = λ i j d less below.
            let apart = pairs i j d less below in
            record { ids = apart.ids; one = apart.one; other_one = apart.other_one; local = apart.local; synced = apart.synced; keys = apart.keys };
      }
