-- A key that the folder makes for an operation is new to the client, and to all else that flies.
use Rattle.std.specs.Prelude.{All}
use Rattle.std.proofs.Common.{◌≤◌, ℕ, List, [], ◌∷◌, Option, None, Some, sym, ap, subst, inl, inr, arith}
use Rattle.nuc_filework.specs.Runs.{Accepts, FolderView, IsNotRun, Runs, RunsOp, Succeeds, over, stops, goes_on}
use Rattle.nuc_filework.specs.declared.call.Call.{Call}
use Rattle.nuc_filework.specs.declared.call.Call.TheVariants.{MakeDir, WriteNew, Replace, SetBit, MoveTo, Remove}
use Rattle.nuc_flights.specs.Flights.{Flight, Stage, taken}
use Rattle.nuc_flights.specs.declared.taken.Taken.{Taken}
use Rattle.nuc_flights.specs.declared.taken.Taken.TheVariants as came
use Rattle.nuc_folder.specs.Answers.{Changes, Makes}
use Rattle.nuc_folder.specs.declared.item.Key.{Key}
use Rattle.nuc_folder.specs.declared.outcome.Outcome.{Outcome}
use Rattle.nuc_folder.specs.declared.outcome.Outcome.TheVariants as outcome
use Rattle.nuc_folder.specs.declared.ran.RanOp.{RanOp}
use Rattle.nuc_observe.specs.Keys.{KeyMap}
use Rattle.nuc_step.specs.Order.{KeyStands, OtherKeys}
use Rattle.nuc_world.specs.Form.{AreGiven, IsStageBelow}
use Rattle.nuc_converge.proofs.StillReady.{AreOther}

-- WHAT WAS MADE has a key from n on
abbrev pub IsMadeFrom : ℕ → Outcome → Type 0
IsMadeFrom n (outcome.Made key) = n ≤ key.0
IsMadeFrom n _ = Unit {0}

module _ (n : ℕ) where
  makes_from : (answer : Outcome) (before after : ℕ) → n ≤ before → Makes answer before after → (before ≤ after) × IsMadeFrom n answer
  makes_from (outcome.Made key) before after from (some, above, below) = (omega (arith, above, below), omega (arith, from, above))
  makes_from outcome.Ok before after from is = absurd is
  makes_from outcome.NotEmpty before after from is = absurd is
  makes_from outcome.Changed before after from is = (is, tt)
  makes_from outcome.Taken before after from is = (is, tt)
  makes_from outcome.Failed before after from is = (is, tt)
  makes_from outcome.Memory before after from is = (is, tt)

  changes_from : (answer : Outcome) (before after : ℕ) → Changes answer before after → (before ≤ after) × IsMadeFrom n answer
  changes_from (outcome.Made key) before after is = absurd is
  changes_from outcome.Ok before after is = (is, tt)
  changes_from outcome.NotEmpty before after is = (is, tt)
  changes_from outcome.Changed before after is = (is, tt)
  changes_from outcome.Taken before after is = (is, tt)
  changes_from outcome.Failed before after is = (is, tt)
  changes_from outcome.Memory before after is = (is, tt)

  succeeds_from : (call : Call) (answer : Outcome) (before after : ℕ) → n ≤ before → Succeeds call answer before after → (before ≤ after) × IsMadeFrom n answer
  succeeds_from (MakeDir place) answer before after from is = makes_from answer before after from is
  succeeds_from (WriteNew place bit) answer before after from is = makes_from answer before after from is
  succeeds_from (Replace key expected) answer before after from is = changes_from answer before after is
  succeeds_from (SetBit key expected bit) answer before after from is = changes_from answer before after is
  succeeds_from (MoveTo key expected place) answer before after from is = changes_from answer before after is
  succeeds_from (Remove key expected) answer before after from is = changes_from answer before after is

  runs_from : (bytes : List ℕ) (last : Outcome) (calls : List Call) (v : FolderView) (final : Outcome) (made : ℕ) (w : FolderView)
      → Runs bytes last calls v final made w → n ≤ v.next → IsMadeFrom n last → IsMadeFrom n final
  runs_from bytes last calls v final made w (over a b) from made_from = made_from
  runs_from bytes last calls v final made w (stops a call rest x answer d is failed) from made_from = (succeeds_from call answer v.next w.next from is.keys).1
  runs_from bytes last calls v final made w (goes_on a call rest x answer u d count f is success more) from made_from =
      let (later, first) = succeeds_from call answer v.next u.next from is.keys in
      runs_from bytes answer rest u final count w more (omega (arith, from, later)) first

  accepts_from : (m : KeyMap) (last answer : Outcome) → Accepts m last answer → IsMadeFrom n last → IsMadeFrom n answer
  accepts_from m (outcome.Made key) (outcome.Made other) (same, some, unheld) from = subst (λ (k : _). n ≤ k.0) (sym same) from
  accepts_from m (outcome.Made key) outcome.Changed is from = tt
  accepts_from m (outcome.Made key) outcome.Ok is from = absurd is
  accepts_from m (outcome.Made key) outcome.Taken is from = absurd is
  accepts_from m (outcome.Made key) outcome.NotEmpty is from = absurd is
  accepts_from m (outcome.Made key) outcome.Failed is from = absurd is
  accepts_from m (outcome.Made key) outcome.Memory is from = absurd is
  accepts_from m outcome.Ok answer is from = subst (IsMadeFrom n) (sym is) tt
  accepts_from m outcome.Changed answer is from = subst (IsMadeFrom n) (sym is) tt
  accepts_from m outcome.Taken answer is from = subst (IsMadeFrom n) (sym is) tt
  accepts_from m outcome.NotEmpty answer is from = subst (IsMadeFrom n) (sym is) tt
  accepts_from m outcome.Failed answer is from = subst (IsMadeFrom n) (sym is) tt
  accepts_from m outcome.Memory answer is from = subst (IsMadeFrom n) (sym is) tt

not_run_from : (n : ℕ) (v : FolderView) (answer : Outcome) (ran : RanOp) (w : FolderView) → IsMadeFrom n answer → IsNotRun v answer ran w → IsMadeFrom n ran.outcome
not_run_from n v answer ran w from (is, same) = subst (IsMadeFrom n) (sym (ap (λ (r : RanOp). r.outcome) is)) from

-- what an operation makes is the folder's next at least
pub op_from : (m : KeyMap) (bytes : List ℕ) (calls : Option (List Call)) (v : FolderView) (ran : RanOp) (w : FolderView) → RunsOp m bytes calls v ran w
    → IsMadeFrom v.next ran.outcome
op_from m bytes None v ran w (inl changed) = not_run_from v.next v outcome.Changed ran w tt changed
op_from m bytes None v ran w (inr memory) = not_run_from v.next v outcome.Memory ran w tt memory
op_from m bytes (Some []) v ran w none = not_run_from v.next v outcome.Ok ran w tt none
op_from m bytes (Some (call ∷ calls)) v ran w (inl run) =
    accepts_from v.next m run.last ran.outcome run.answer
    (runs_from v.next bytes outcome.Ok (call ∷ calls) v run.last ran.made w run.runs (omega arith) tt)
op_from m bytes (Some (call ∷ calls)) v ran w (inr memory) = not_run_from v.next v outcome.Memory ran w tt memory

-- SO IT IS NEW. What makes nothing has no key
abbrev pub MakesNone : Taken → Type 0
MakesNone (came.Folder (outcome.Made key)) = ⊥
MakesNone _ = Unit {0}

none_after : (st : Stage) (t : Taken) → MakesNone t → OtherKeys st (taken t)
none_after (taken (came.Folder (outcome.Made j))) (came.Folder (outcome.Made k)) none = absurd none
none_after st t none = tt

none_before : (t : Taken) (st : Stage) → MakesNone t → OtherKeys (taken t) st
none_before (came.Folder (outcome.Made k)) st none = absurd none
none_before t st none = tt

pub none_other : (t : Taken) (fs : List Flight) → MakesNone t → All (AreOther (taken t)) fs
none_other t fs none k d below = (none_after _ t none, none_before t _ none)

module _ (next : ℕ) where
  made_other : (k : Key) (st : Stage) → next ≤ k.0 → IsStageBelow next st
      → OtherKeys st (taken (came.Folder (outcome.Made k))) × OtherKeys (taken (came.Folder (outcome.Made k))) st
  made_other k (taken (came.Folder (outcome.Made j))) from below = (λ e. absurd (omega (arith, from, below, e)), λ e. absurd (omega (arith, from, below, e)))
  made_other k st from below = (tt, tt)

  pub keys_stand : (keys : KeyMap) (o : Outcome) → AreGiven keys next → IsMadeFrom next o → KeyStands keys (taken (came.Folder o))
  keys_stand keys (outcome.Made k) given from = λ x at. let below = given x k.0 at in absurd (omega (arith, from, below))
  keys_stand keys o given from = tt

  pub keys_other : (fs : List Flight) (o : Outcome) → All (λ f. IsStageBelow next f.stage) fs → IsMadeFrom next o → All (AreOther (taken (came.Folder o))) fs
  keys_other fs (outcome.Made k) made from = λ i d below. made_other k _ from (made i d below)
  keys_other fs outcome.Ok made from = none_other (came.Folder outcome.Ok) fs tt
  keys_other fs outcome.Changed made from = none_other (came.Folder outcome.Changed) fs tt
  keys_other fs outcome.Taken made from = none_other (came.Folder outcome.Taken) fs tt
  keys_other fs outcome.NotEmpty made from = none_other (came.Folder outcome.NotEmpty) fs tt
  keys_other fs outcome.Failed made from = none_other (came.Folder outcome.Failed) fs tt
  keys_other fs outcome.Memory made from = none_other (came.Folder outcome.Memory) fs tt
