-- What holds of a world in front of each task of a sync.
use Rattle.std.proofs.Common.{◌≡◌, ◌≢◌, ◌++◌, ℕ, Bool, List, [], ◌∷◌, Some}
use Rattle.nuc_converge.proofs.Starting.{IsPlannedAs}
use Rattle.nuc_flights.specs.declared.taken.Taken.TheVariants as came
use Rattle.nuc_log.specs.declared.event.Event.{Event}
use Rattle.nuc_log.specs.declared.event.Event.TheVariants as event
use Rattle.nuc_log.specs.declared.log.LogEntry.TheVariants as entry
use Rattle.nuc_log.specs.declared.reply.Reply.{Reply}
use Rattle.nuc_server.specs.declared.commit.Refusal.{Refusal}
use Rattle.nuc_sync.specs.Tasks.{Task, begins, ends, fails, once, plans, pulls, restarts, takes}
use Rattle.nuc_world.specs.Marks.{IsQuiet}
use Rattle.nuc_world.specs.Runs.{Reaches}
use Rattle.nuc_world.specs.State.{MemberState, member_of}
use Rattle.nuc_world.specs.Step.{IsStep}
use Rattle.nuc_world.specs.World.{WorldData}
use Rattle.nuc_quiet.specs.Fit.{FolderIsFit}
use Rattle.nuc_quiet.specs.Laws.{EndsQuiet, FolderMatches, NothingFails}
use Rattle.nuc_quiet.proofs.Numbers.{WaitBehind}
use Rattle.nuc_quiet.proofs.Parts.{HasStarted, HasTaken}
use Rattle.nuc_quiet.proofs.Points.{IsSyncing}

-- BEFORE IT IS RESTED. At first
pub record AtFirst (c : ℕ) (w : WorldData) : Type 0 where
  pub member : MemberState
  pub reached : Reaches w.log w.now
  pub was : member_of c w.now.members ≡ Some member
  pub nothing_fails : NothingFails member

-- nothing is in flight any more
pub record AtList (c : ℕ) (w : WorldData) : Type 0 where
  pub first : AtFirst c w
  pub landed : first.member.client.flights ≡ []

-- with nothing in the folder that a scan must refuse
abbrev pub FitFirst : ℕ → WorldData → Type 0
FitFirst c w = (at : AtFirst c w) × FolderIsFit at.member

abbrev pub FitList : ℕ → WorldData → Type 0
FitList c w = (at : AtList c w) × FolderIsFit at.first.member

-- and a listing was asked for
pub record AtScan (c : ℕ) (w : WorldData) : Type 0 where
  pub before : WorldData
  pub list : AtList c before
  pub fit : FolderIsFit list.first.member
  pub reply : Reply
  pub step : IsStep before.log before.now (event.List c) reply w.now
  pub log : w.log ≡ before.log ++ entry.Stepped (event.List c) reply ∷ []

-- the folder matches
pub record AtPull (c : ℕ) (w : WorldData) : Type 0 where
  pub list : AtList c w
  pub matches : FolderMatches w.now.shared list.first.member

-- SINCE IT RESTED. Nothing is in flight
pub record AtPlan (c : ℕ) (w : WorldData) : Type 0 where
  pub member : MemberState
  pub syncing : IsSyncing c w member
  pub matches : FolderMatches w.now.shared member
  pub landed : member.client.flights ≡ []

-- an operation is at work, and those that are left wait
pub record AtStart (c n : ℕ) (left : List ℕ) (w : WorldData) : Type 0 where
  pub member : MemberState
  pub syncing : IsSyncing c w member
  pub matches : FolderMatches w.now.shared member
  pub planned : IsPlannedAs n member.client.flights
  pub wait : WaitBehind n left member.client.flights

pub record AtTake (c n : ℕ) (left : List ℕ) (w : WorldData) : Type 0 where
  pub member : MemberState
  pub syncing : IsSyncing c w member
  pub started : HasStarted c n w.log w.now member
  pub wait : WaitBehind n left member.client.flights

pub record AtDone (c n : ℕ) (left : List ℕ) (w : WorldData) : Type 0 where
  pub member : MemberState
  pub syncing : IsSyncing c w member
  pub taken : HasTaken n w.now member
  pub accepted : (why : Refusal) → taken.came_so ≢ came.Refused why
  pub wait : WaitBehind n left member.client.flights

-- the client is quiet
pub record AtMark (c : ℕ) (w : WorldData) : Type 0 where
  pub member : MemberState
  pub was : member_of c w.now.members ≡ Some member
  pub quiet : IsQuiet member.client
  pub matches : FolderMatches w.now.shared member

-- WHAT IS TO BE DONE THEN
abbrev pub marking : ℕ → List Task
marking c = once (event.Mark c) ∷ []

abbrev pub planning : ℕ → Bool → List Task
planning c b = plans c b ∷ marking c

abbrev pub pulling : ℕ → Bool → List Task
pulling c b = pulls c ∷ planning c b

abbrev pub scanning : ℕ → Bool → List Task
scanning c b = once (event.Scan c) ∷ pulling c b

abbrev pub listing : ℕ → Bool → List Task
listing c b = once (event.List c) ∷ scanning c b

-- of the client c, with these tasks
abbrev pub HoldsOnce : ℕ → Bool → WorldData → Event → List Task → Type 0
HoldsOnce c b w (event.Restart d) ts = (d ≡ c) × (ts ≡ listing c b) × FitFirst c w
HoldsOnce c b w (event.List d) ts = (d ≡ c) × (ts ≡ scanning c b) × FitList c w
HoldsOnce c b w (event.Scan d) ts = (d ≡ c) × (ts ≡ pulling c b) × AtScan c w
HoldsOnce c b w (event.Mark d) ts = (d ≡ c) × (ts ≡ []) × AtMark c w
HoldsOnce c b w e ts = ⊥

abbrev pub Holds : ℕ → Bool → WorldData → List Task → Type 0
Holds c b w [] = EndsQuiet c w
Holds c b w (once e ∷ ts) = HoldsOnce c b w e ts
Holds c b w (fails d call ∷ ts) = ⊥
Holds c b w (restarts d ∷ ts) = (d ≡ c) × (ts ≡ listing c b) × FitFirst c w
Holds c b w (pulls d ∷ ts) = (d ≡ c) × (ts ≡ planning c b) × AtPull c w
Holds c b w (plans d a ∷ ts) = (d ≡ c) × (ts ≡ marking c) × AtPlan c w
Holds c b w (begins d a n left applied ∷ ts) = (d ≡ c) × (ts ≡ marking c) × AtStart c n left w
Holds c b w (takes d a n left applied ∷ ts) = (d ≡ c) × (ts ≡ marking c) × AtTake c n left w
Holds c b w (ends d a n left applied ∷ ts) = (d ≡ c) × (ts ≡ marking c) × AtDone c n left w
