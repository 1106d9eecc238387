-- A client with its folder keeps to the kinds of the keys, and does so when new keys get their kinds.
use Rattle.std.specs.Prelude.{All}
use Rattle.std.proofs.Common.{◌≡◌, ◌==◌, ℕ, true, false, cond, List, [], ◌∷◌, Option, Some, None, sym, ◌∙◌, subst}
use Rattle.nuc_base.specs.declared.change.Change.{Change}
use Rattle.nuc_base.specs.declared.change.Change.TheVariants.{Keep, Put, Cut}
use Rattle.nuc_flights.specs.Flights.{Flight, Stage, flight_of, planned, staged, started, taken, without}
use Rattle.nuc_flights.specs.declared.taken.Taken.{Taken}
use Rattle.nuc_flights.specs.declared.taken.Taken.TheVariants as came
use Rattle.nuc_folder.specs.declared.noticed.Noticed.{Noticed}
use Rattle.nuc_folder.specs.declared.noticed.Noticed.TheVariants as noticed
use Rattle.nuc_folder.specs.declared.outcome.Outcome.{Outcome}
use Rattle.nuc_folder.specs.declared.outcome.Outcome.TheVariants as outcome
use Rattle.nuc_replica.specs.Local.{LocalState}
use Rattle.nuc_step.specs.Client.{ClientState}
use Rattle.nuc_step.specs.Held.{HeldData}
use Rattle.nuc_world.specs.Form.{AreGiven, IsListedBelow, IsMadeBelow, IsNoticeBelow, IsStageBelow, IsTakenBelow}
use Rattle.nuc_world.specs.Starts.{with_client}
use Rattle.nuc_world.specs.State.{MemberState}
use Rattle.nuc_world.proofs.Items.{all_first, all_front, all_rest}
use Rattle.nuc_fit.proofs.KindsForm.{Agree, AreHeld, AreNamed, IsFlightOf, IsListedOf, IsMadeOf, IsNoticeOf, IsStageOf, IsTakenOf, Kinds, PutsKind}

-- ALL THAT KEEPS to kinds
pub record AreAlike (kinds : Kinds) (m : MemberState) : Type 0 where
  pub held : AreHeld kinds m.folder.held.tree
  pub pending : All (IsNoticeOf kinds) m.folder.pending
  pub listed : IsListedOf kinds m.listing
  pub local : AreNamed kinds m.client.local
  pub flights : All (IsFlightOf kinds) m.client.flights

-- what of a client does
pub record OfClient (kinds : Kinds) (c : ClientState) : Type 0 where
  pub local : AreNamed kinds c.local
  pub flights : All (IsFlightOf kinds) c.flights

pub record HasKinds (m : MemberState) : Type 0 where
  pub kinds : Kinds
  pub are : AreAlike kinds m

pub of_client : (kinds : Kinds) (m : MemberState) → AreAlike kinds m → OfClient kinds m.client
of_client kinds m are = record { local = are.local; flights = are.flights }

-- with another client that does, and the same folder and listing
pub client_alike : (kinds : Kinds) (m u : MemberState) (c : ClientState) → u ≡ with_client c m → OfClient kinds c → AreAlike kinds m → AreAlike kinds u
client_alike kinds m u c now of are = subst (AreAlike kinds) (sym now)
    (record { held = are.held; pending = are.pending; listed = are.listed; local = of.local; flights = of.flights })

-- LATER KINDS, the same of keys below the next: what was given keeps to them
module _ (next : ℕ) (kinds later : Kinds) (agree : Agree next kinds later) where
  notice_later : (notice : Noticed) → IsNoticeBelow next notice → IsNoticeOf kinds notice → IsNoticeOf later notice
  notice_later (noticed.Made item) below is = is ∙ sym (agree item.key.0 below)
  notice_later (noticed.Written key content) below is = tt
  notice_later (noticed.Moved key place) below is = tt
  notice_later (noticed.Removed key) below is = tt
  notice_later (noticed.Bit key bit) below is = tt

  pub notices_later : (notices : List Noticed) → All (IsNoticeBelow next) notices → All (IsNoticeOf kinds) notices → All (IsNoticeOf later) notices
  notices_later notices below are k d within = notice_later _ (below k d within) (are k d within)

  pub listed_later : (listing : Option HeldData) → IsListedBelow next listing → IsListedOf kinds listing → IsListedOf later listing
  listed_later None below are = tt
  listed_later (Some listing) below are = λ k d within. are k d within ∙ sym (agree _ (below k d within))

  pub named_later : (l : LocalState) → AreGiven l.keys next → AreNamed kinds l → AreNamed later l
  named_later l given are x k n key at = are x k n key at ∙ sym (agree k (given x k key))

  puts_later : (c : Change) (key : ℕ) → kinds key ≡ later key → PutsKind c (kinds key) → PutsKind c (later key)
  puts_later Keep key same is = tt
  puts_later (Put n) key same is = is ∙ same
  puts_later Cut key same is = tt

  made_later : (c : Change) (o : Outcome) → IsMadeBelow next o → IsMadeOf kinds c o → IsMadeOf later c o
  made_later c (outcome.Made key) below is = puts_later c key.0 (sym (agree key.0 below)) is
  made_later c outcome.Ok below is = tt
  made_later c outcome.NotEmpty below is = tt
  made_later c outcome.Changed below is = tt
  made_later c outcome.Taken below is = tt
  made_later c outcome.Failed below is = tt
  made_later c outcome.Memory below is = tt

  taken_later : (c : Change) (t : Taken) → IsTakenBelow next t → IsTakenOf kinds c t → IsTakenOf later c t
  taken_later c (came.Folder o) below is = made_later c o below is
  taken_later c (came.Accepted rev) below is = tt
  taken_later c (came.Refused why) below is = tt

  stage_later : (c : Change) (stage : Stage) → IsStageBelow next stage → IsStageOf kinds c stage → IsStageOf later c stage
  stage_later c planned below is = tt
  stage_later c started below is = tt
  stage_later c (taken t) below is = taken_later c t below is

  flight_later : (f : Flight) → IsStageBelow next f.stage → IsFlightOf kinds f → IsFlightOf later f
  flight_later f below is = record { copy = is.copy; stage = stage_later f.op.local f.stage below is.stage }

  pub flights_later : (fs : List Flight) → All (λ f. IsStageBelow next f.stage) fs → All (IsFlightOf kinds) fs → All (IsFlightOf later) fs
  flights_later fs below are k d within = flight_later _ (below k d within) (are k d within)

-- FLIGHTS at another stage, or without one of them
module _ (P : Flight → Type 0) where
  pub all_staged : (n : ℕ) (st : Stage) → ((f : Flight) → P f → P (record f { stage = st })) → (fs : List Flight) → All P fs → All P (staged n st fs)
  all_staged n st each [] all = all
  all_staged n st each (f ∷ fs) all = elim (f.op.number == n) as (λ b. All P (cond b (record f { stage = st } ∷ fs) (f ∷ staged n st fs))) [
    | true ↦ all_front P (record f { stage = st }) fs (each f (all_first P f fs all)) (all_rest P f fs all)
    | false ↦ all_front P f (staged n st fs) (all_first P f fs all) (all_staged n st each fs (all_rest P f fs all))
  ]

  -- it is the flight under the number
  pub one_staged : (n : ℕ) (st : Stage) (f : Flight) (fs : List Flight) → flight_of n fs ≡ Some f → P (record f { stage = st }) → All P fs → All P (staged n st fs)
  one_staged n st f [] there its all = all
  one_staged n st f (g ∷ fs) there its all =
      elim (g.op.number == n) as (λ b. cond b (Some g) (flight_of n fs) ≡ Some f → All P (cond b (record g { stage = st } ∷ fs) (g ∷ staged n st fs))) [
        | true ↦ λ same. let it : g ≡ f = cc in
            all_front P (record g { stage = st }) fs (subst (λ (h : Flight). P (record h { stage = st })) (sym it) its) (all_rest P g fs all)
        | false ↦ λ later. all_front P g (staged n st fs) (all_first P g fs all) (one_staged n st f fs later its (all_rest P g fs all))
      ] there

  pub all_without : (n : ℕ) (fs : List Flight) → All P fs → All P (without n fs)
  all_without n [] all = all
  all_without n (f ∷ fs) all = elim (f.op.number == n) as (λ b. All P (cond b fs (f ∷ without n fs))) [
    | true ↦ all_rest P f fs all
    | false ↦ all_front P f (without n fs) (all_first P f fs all) (all_without n fs (all_rest P f fs all))
  ]

  pub flight_all : (n : ℕ) (fs : List Flight) (f : Flight) → flight_of n fs ≡ Some f → All P fs → P f
  flight_all n [] f there all = cc
  flight_all n (g ∷ fs) f there all = elim (g.op.number == n) as (λ b. cond b (Some g) (flight_of n fs) ≡ Some f → P f) [
    | true ↦ λ same. let it : g ≡ f = cc in subst P it (all_first P g fs all)
    | false ↦ λ later. flight_all n fs f later (all_rest P g fs all)
  ] there
