-- A folder in memory none of whose calls fails: what it is after a call, and what it answers where nothing is in the way.
use Rattle.std.proofs.Common.{◌≡◌, ◌≢◌, ◌⊎◌, ◌∙◌, ◌==◌, ℕ, true, false, List, [], ◌∷◌, Option, None, Some, refl, sym, ap, subst, inl, inr}
use Rattle.std.specs.Prelude.{MatchBool}
use Rattle.std.specs.List.{list_any}
use Rattle.nuc_base.specs.Legal.{IsFree}
use Rattle.nuc_base.specs.Trees.{IsFolder, IsVacant, NoChild}
use Rattle.nuc_base.specs.declared.node.Place.{Place}
use Rattle.nuc_base.proofs.Places.{held-not_free}
use Rattle.nuc_filework.specs.Runs.{CallAnswers, Called, FolderView, Runs}
use Rattle.nuc_filework.specs.Runs.Runs.{over, stops, goes_on}
use Rattle.nuc_filework.specs.declared.call.Call.{Call}
use Rattle.nuc_folder.specs.Answers.{AlterAnswers, CanMove, IsSeen, MakeAnswers, MoveAnswers, RemoveAnswers, Told}
use Rattle.nuc_folder.specs.Beside.{Beside, Counts, InMemory}
use Rattle.nuc_folder.specs.Memory.{GivesKey}
use Rattle.nuc_folder.specs.Outcome.{is_success}
use Rattle.nuc_folder.specs.State.{FolderState, IsTold}
use Rattle.nuc_folder.specs.declared.item.Key.{Key}
use Rattle.nuc_folder.specs.declared.outcome.Outcome.{Outcome}
use Rattle.nuc_folder.specs.declared.outcome.Outcome.TheVariants as outcome
use Rattle.nuc_folder.specs.declared.seen.Seen.{Seen}
use Rattle.nuc_follow.specs.Steady.{IsSteady}
use Rattle.nuc_io.specs.Calls.{CallsData, is_to_fail, one_more}
use Rattle.nuc_shelf.specs.Shelf.{moved, without}

-- AFTER A CALL
told_after : (R : FolderState → FolderState → Type 0) (s : FolderState) (before after : Option FolderState) → before ≡ Some s → Told R before after
    → (t : FolderState) × (after ≡ Some t) × R s t
told_after R s None None is told = cc
told_after R s None (Some t) is told = absurd told
told_after R s (Some a) None is told = absurd told
told_after R s (Some a) (Some t) is told = let same : a ≡ s = cc in (t, refl, subst (λ b. R b t) same told)

beside_after : (answer : Outcome) (b : Beside) (before after : Option Beside) (n later : ℕ) → before ≡ Some b → InMemory answer before n after later
    → (c : Beside) × (after ≡ Some c) × Counts answer b c × GivesKey answer n later
beside_after answer b None None n later is memory = cc
beside_after answer b None (Some c) n later is memory = absurd memory
beside_after answer b (Some a) None n later is memory = absurd memory
beside_after answer b (Some a) (Some c) n later is memory =
    let same : a ≡ b = cc in (c, refl, subst (λ d. Counts answer d c) same memory.0, memory.1)

none_fails : (calls : CallsData) → calls.failing ≡ [] → is_to_fail calls ≡ false
none_fails calls none = ap (λ ks. list_any (λ k. k == one_more calls.made) ks) none

-- what the folder holds then, and that it did not fail
pub record IsAnswered (bytes : List ℕ) (call : Call) (v : FolderView) (s : FolderState) (answer : Outcome) (u : FolderView) : Type 0 where
  pub held : FolderState
  pub steady : IsSteady u held
  pub answers : CallAnswers bytes call s answer held
  pub well : answer ≢ outcome.Failed
  pub key : GivesKey answer v.next u.next

pub answered : (bytes : List ℕ) (call : Call) (v : FolderView) (s : FolderState) (answer : Outcome) (u : FolderView) → IsSteady v s → Called bytes call v answer u
    → IsAnswered bytes call v s answer u
answered bytes call v s answer u steady is =
    let (t, told, answers) = told_after (λ old new. CallAnswers bytes call old answer new) s v.told u.told steady.told is.told in
    let (c, has, counts, key) = beside_after answer steady.beside v.beside u.beside v.next u.next steady.has is.memory in
    let form : IsTold u.next (Some t) = subst (IsTold u.next) told is.form in
    record {
      held = t;
      steady = record { told = told; shelf = form.0; below = form.1; beside = c; has = has; none = ap (λ (d : Beside). d.calls.failing) counts.0 ∙ steady.none };
      answers = answers;
      well = subst (λ b. MatchBool b (answer ≡ outcome.Failed) (¬ (answer ≡ outcome.Failed))) (none_fails steady.beside.calls steady.none) counts.1;
      key = key;
    }

-- WHAT IT ANSWERS
pub altered : (E : Type 0) (after old : FolderState) (answer : Outcome) (new : FolderState) → AlterAnswers E after old answer new → E
    → answer ≢ outcome.Failed → answer ≢ outcome.Memory → (answer ≡ outcome.Ok) × (new ≡ after)
altered E after old outcome.Ok new is can well room = (refl, is.1)
altered E after old outcome.Changed new is can well room = absurd (is.0 can)
altered E after old outcome.Failed new is can well room = absurd (well refl)
altered E after old outcome.Memory new is can well room = absurd (room refl)
altered E after old (outcome.Made key) new is can well room = absurd is
altered E after old outcome.Taken new is can well room = absurd is
altered E after old outcome.NotEmpty new is can well room = absurd is

pub moved_to : (x : ℕ) (from to : Place) (old : FolderState) (answer : Outcome) (new : FolderState) → MoveAnswers x from to old answer new → CanMove x from to old → IsFree old.tree x to
    → answer ≢ outcome.Failed → answer ≢ outcome.Memory → (answer ≡ outcome.Ok) × (new ≡ moved old x to)
moved_to x from to old outcome.Ok new is can free well room = (refl, is.2)
moved_to x from to old outcome.Changed new is can free well room = absurd (is.0 can)
moved_to x from to old outcome.Taken new is can free well room = absurd (held-not_free old.tree x to is.1 free)
moved_to x from to old outcome.Failed new is can free well room = absurd (well refl)
moved_to x from to old outcome.Memory new is can free well room = absurd (room refl)
moved_to x from to old (outcome.Made key) new is can free well room = absurd is
moved_to x from to old outcome.NotEmpty new is can free well room = absurd is

pub removed : (x : ℕ) (seen : Seen) (old : FolderState) (answer : Outcome) (new : FolderState) → RemoveAnswers x seen old answer new → IsSeen x seen old → NoChild old.tree x
    → answer ≢ outcome.Failed → answer ≢ outcome.Memory → (answer ≡ outcome.Ok) × (new ≡ without old x)
removed x seen old outcome.Ok new is can none well room = (refl, is.2)
removed x seen old outcome.Changed new is can none well room = absurd (is.0 can)
removed x seen old outcome.NotEmpty new is can none well room = let (y, n, at, child) = is.1 in absurd (none y n at child)
removed x seen old outcome.Failed new is can none well room = absurd (well refl)
removed x seen old outcome.Memory new is can none well room = absurd (room refl)
removed x seen old (outcome.Made key) new is can none well room = absurd is
removed x seen old outcome.Taken new is can none well room = absurd is

pub made_at : (p : Place) (made : ℕ → FolderState → FolderState) (old : FolderState) (answer : Outcome) (new : FolderState) → MakeAnswers p made old answer new
    → IsFolder old.tree p.parent.0 → IsVacant old.tree p → answer ≢ outcome.Failed → answer ≢ outcome.Memory → (k : Key) × (answer ≡ outcome.Made k) × (new ≡ made k.0 old)
made_at p made old (outcome.Made key) new is folder vacant well room = (key, refl, is.2)
made_at p made old outcome.Changed new is folder vacant well room = absurd (is.0 folder)
made_at p made old outcome.Taken new is folder vacant well room = absurd (vacant is.1.0 is.1.1.0 is.1.1.1 is.1.1.2)
made_at p made old outcome.Failed new is folder vacant well room = absurd (well refl)
made_at p made old outcome.Memory new is folder vacant well room = absurd (room refl)
made_at p made old outcome.Ok new is folder vacant well room = absurd is
made_at p made old outcome.NotEmpty new is folder vacant well room = absurd is

-- SEVERAL CALLS
-- the first of them was answered, and either it ends there, or the others follow
pub record HasFirst (bytes : List ℕ) (call : Call) (calls : List Call) (v : FolderView) (final : Outcome) (w : FolderView) : Type 0 where
  pub answer : Outcome
  pub view : FolderView
  pub called : Called bytes call v answer view
  pub goes : ((is_success answer ≡ false) × (final ≡ answer)) ⊎ ((is_success answer ≡ true) × (made : ℕ) × Runs bytes answer calls view final made w)

pub first_of : (bytes : List ℕ) (last : Outcome) (all : List Call) (v : FolderView) (final : Outcome) (made : ℕ) (w : FolderView) → Runs bytes last all v final made w
    → (call : Call) (calls : List Call) → all ≡ call ∷ calls → HasFirst bytes call calls v final w
first_of bytes last all v final made w (over a b) call calls e = cc
first_of bytes last all v final made w (stops a first rest c answer d is failed) call calls e =
    let same : first ≡ call = cc in
    record { answer = answer; view = d; called = subst (λ x. Called bytes x v answer d) same is; goes = inl (failed, refl) }
first_of bytes last all v final made w (goes_on a first rest c answer u d count f is success more) call calls e =
    let same : first ≡ call = cc in
    let others : rest ≡ calls = cc in
    record {
      answer = answer;
      view = u;
      called = subst (λ x. Called bytes x v answer u) same is;
      goes = inr (success, count, subst (λ xs. Runs bytes answer xs u final count w) others more);
    }

pub none_left : (bytes : List ℕ) (last : Outcome) (all : List Call) (v : FolderView) (final : Outcome) (made : ℕ) (w : FolderView) → Runs bytes last all v final made w → all ≡ []
    → (final ≡ last) × (w ≡ v)
none_left bytes last all v final made w (over a b) e = (refl, refl)
none_left bytes last all v final made w (stops a first rest c answer d is failed) e = cc
none_left bytes last all v final made w (goes_on a first rest c answer u d count f is success more) e = cc

-- where memory doesn't lack at the end, it lacks at no call
pub room_first : (bytes : List ℕ) (call : Call) (calls : List Call) (v : FolderView) (final : Outcome) (w : FolderView) → final ≢ outcome.Memory
    → (first : HasFirst bytes call calls v final w) → first.answer ≢ outcome.Memory
room_first bytes call calls v final w room first e = elim first.goes [
  | inl (failed, same) ↦ room (same ∙ e)
  | inr (success, made, more) ↦ let wrong : false ≡ true = ap is_success (sym e) ∙ success in cc
]
