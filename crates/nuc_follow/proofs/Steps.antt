-- An operation's calls, one after the other: each leads from a folder that matches Local to one that matches it after a change.
use Rattle.std.proofs.Common.{◌≡◌, ◌≢◌, ◌∙◌, ℕ, true, false, List, [], ◌∷◌, ◌++◌, Option, None, Some, refl, sym, ap, subst, inl, inr}
use Rattle.nuc_edits.specs.declared.edit.Edit.{Edit}
use Rattle.nuc_filework.specs.Calls.{in_order, listed}
use Rattle.nuc_filework.specs.Runs.{Accepts, CallAnswers, FolderView, Runs, RunsOp}
use Rattle.nuc_filework.specs.Runs.Runs.{over}
use Rattle.nuc_filework.specs.declared.call.Call.{Call}
use Rattle.nuc_folder.specs.Outcome.{is_success}
use Rattle.nuc_folder.specs.State.{FolderState}
use Rattle.nuc_folder.specs.declared.outcome.Outcome.{Outcome}
use Rattle.nuc_folder.specs.declared.outcome.Outcome.TheVariants as outcome
use Rattle.nuc_folder.specs.declared.ran.RanOp.{RanOp}
use Rattle.nuc_follow.specs.Follows.{IsFollowed}
use Rattle.nuc_follow.specs.Matches.{Matches}
use Rattle.nuc_follow.specs.Steady.{IsSteady}
use Rattle.nuc_follow.proofs.Calling.{answered, first_of, none_left, room_first}
use Rattle.nuc_observe.specs.Keys.{KeyMap}
use Rattle.nuc_replica.specs.Local.{LocalState}
use Rattle.nuc_shelf.specs.Shelf.{IsShelf}

-- without a call the folder matches the new Local as it is; a call is answered with Ok, and then it does
abbrev pub Does : List Edit → List ℕ → FolderState → LocalState → Option Call → Type 0
Does es bytes s l None = Matches es l s
Does es bytes s l (Some call) = (answer : Outcome) (t : FolderState) → CallAnswers bytes call s answer t → answer ≢ outcome.Failed → answer ≢ outcome.Memory
    → (answer ≡ outcome.Ok) × Matches es l t

abbrev pub Leads : List Edit → List ℕ → LocalState → LocalState → Option Call → Type 0
Leads es bytes l m call = (s : FolderState) → Matches es l s → IsShelf s → Does es bytes s m call

-- some calls were made, and the rest is left
pub record IsLeft (es : List Edit) (bytes : List ℕ) (l : LocalState) (rest : List Call) (final : Outcome) (w : FolderView) : Type 0 where
  pub view : FolderView
  pub held : FolderState
  pub made : ℕ
  pub steady : IsSteady view held
  pub matches : Matches es l held
  pub runs : Runs bytes outcome.Ok rest view final made w

module _ (es : List Edit) (bytes : List ℕ) where
  one_called : (l : LocalState) (call : Call) (rest : List Call) (v : FolderView) (s : FolderState) (final : Outcome) (made : ℕ) (w : FolderView) → IsSteady v s
      → Does es bytes s l (Some call) → Runs bytes outcome.Ok (call ∷ rest) v final made w → final ≢ outcome.Memory → IsLeft es bytes l rest final w
  one_called l call rest v s final made w steady does runs room =
      let first = first_of bytes outcome.Ok (call ∷ rest) v final made w runs call rest refl in
      let is = answered bytes call v s first.answer first.view steady first.called in
      let (ok, matches) = does first.answer is.held is.answers is.well (room_first bytes call rest v final w room first) in
      elim first.goes [
        | inl (failed, same) ↦ let wrong : true ≡ false = ap is_success (sym ok) ∙ failed in cc
        | inr (success, count, more) ↦ record {
          view = first.view;
          held = is.held;
          made = count;
          steady = is.steady;
          matches = matches;
          runs = subst (λ a. Runs bytes a rest first.view final count w) ok more;
        }
      ]

  pub one_step : (l : LocalState) (call : Option Call) (rest : List Call) (v : FolderView) (s : FolderState) (final : Outcome) (made : ℕ) (w : FolderView) → IsSteady v s
      → Does es bytes s l call → Runs bytes outcome.Ok (listed call ++ rest) v final made w → final ≢ outcome.Memory → IsLeft es bytes l rest final w
  one_step l None rest v s final made w steady does runs room = record { view = v; held = s; made = made; steady = steady; matches = does; runs = runs }
  one_step l (Some call) rest v s final made w steady does runs room = one_called l call rest v s final made w steady does runs room

  pub all_made : (own : KeyMap) (l : LocalState) (final : Outcome) (ran : RanOp) (w : FolderView) → IsLeft es bytes l [] final w → Accepts own final ran.outcome → IsFollowed es l ran w
  all_made own l final ran w left accepts =
      let (last, same) = none_left bytes outcome.Ok [] left.view final left.made w left.runs refl in
      record {
        ok = subst (λ a. Accepts own a ran.outcome) last accepts;
        held = left.held;
        steady = subst (λ u. IsSteady u left.held) (sym same) left.steady;
        matches = left.matches;
      }

  pub record HasRun (own : KeyMap) (calls : List Call) (v : FolderView) (ran : RanOp) (w : FolderView) : Type 0 where
    pub last : Outcome
    pub made : ℕ
    pub runs : Runs bytes outcome.Ok calls v last made w
    pub answer : Accepts own last ran.outcome
    pub room : last ≢ outcome.Memory

  not_memory : (own : KeyMap) (last answer : Outcome) → Accepts own last answer → answer ≢ outcome.Memory → last ≢ outcome.Memory
  not_memory own last answer accepts room e = room (subst (λ a. Accepts own a answer) e accepts)

  -- where memory doesn't lack, the calls were made
  pub has_run : (own : KeyMap) (calls : List Call) (v : FolderView) (ran : RanOp) (w : FolderView) → RunsOp own bytes (Some calls) v ran w → ran.outcome ≢ outcome.Memory
      → HasRun own calls v ran w
  has_run own [] v ran w (is, same) room = record {
    last = outcome.Ok;
    made = 0;
    runs = subst (λ u. Runs bytes outcome.Ok [] v outcome.Ok 0 u) (sym same) (over outcome.Ok v);
    answer = ap (λ (r : RanOp). r.outcome) is;
    room = λ e. cc;
  }
  has_run own (call ∷ calls) v ran w (inl run) room =
      record { last = run.last; made = ran.made; runs = run.runs; answer = run.answer; room = not_memory own run.last ran.outcome run.answer room }
  has_run own (call ∷ calls) v ran w (inr (is, same)) room = absurd (room (ap (λ (r : RanOp). r.outcome) is))

  -- one call
  pub followed_once : (own : KeyMap) (m : LocalState) (call : Call) (v : FolderView) (s : FolderState) (ran : RanOp) (w : FolderView) → IsSteady v s
      → Does es bytes s m (Some call) → RunsOp own bytes (Some (call ∷ [])) v ran w → ran.outcome ≢ outcome.Memory → IsFollowed es m ran w
  followed_once own m call v s ran w steady does runs room =
      let run = has_run own (call ∷ []) v ran w runs room in
      all_made own m run.last ran w (one_called m call [] v s run.last run.made w steady does run.runs run.room) run.answer

  -- three steps
  pub followed_thrice : (own : KeyMap) (l a b c : LocalState) (first second third : Option Call) (v : FolderView) (s : FolderState) (ran : RanOp) (w : FolderView)
      → IsSteady v s → Matches es l s → Leads es bytes l a first → Leads es bytes a b second → Leads es bytes b c third
      → RunsOp own bytes (in_order (Some first) (Some second) (Some third)) v ran w → ran.outcome ≢ outcome.Memory → IsFollowed es c ran w
  followed_thrice own l a b c first second third v s ran w steady is one two three runs room =
      let run = has_run own (listed first ++ (listed second ++ listed third)) v ran w runs room in
      let after = one_step a first (listed second ++ listed third) v s run.last run.made w steady (one s is steady.shelf) run.runs run.room in
      let then = one_step b second (listed third) after.view after.held run.last after.made w after.steady (two after.held after.matches after.steady.shelf) after.runs run.room in
      let last = one_step c third [] then.view then.held run.last then.made w then.steady (three then.held then.matches then.steady.shelf)
      (subst (λ cs. Runs bytes outcome.Ok cs then.view run.last then.made w) (ends third) then.runs) run.room in
      all_made own c run.last ran w last run.answer
    where
      ends : (call : Option Call) → listed call ≡ listed call ++ []
      ends None = refl
      ends (Some call) = refl
