-- What comes of the calls of an operation: its outcome is one that it can have, and the folder's next key doesn't fall.
use Rattle.std.proofs.Common.{◌≡◌, ◌≢◌, ◌<◌, ◌≤◌, ◌++◌, ℕ, Bool, true, false, List, [], ◌∷◌, Option, Some, None, refl, sym, ap, subst, inl, inr, arith}
use Rattle.std.specs.Prelude.{if◌then◌else◌}
use Rattle.std.specs.Bool.{beq}
use Rattle.std.specs.FinMap.{get}
use Rattle.std.specs.Str.{bytes_eq}
use Rattle.nuc_base.specs.declared.change.Change.{Change}
use Rattle.nuc_base.specs.declared.change.Change.TheVariants.{Keep, Put, Cut}
use Rattle.nuc_base.specs.declared.node.Kind.{Kind}
use Rattle.nuc_base.specs.declared.node.Kind.TheVariants.{Folder, File}
use Rattle.nuc_base.specs.declared.node.Node.{Node}
use Rattle.nuc_class.specs.Equal.{place_eq}
use Rattle.nuc_class.specs.declared.op.Op.{Op}
use Rattle.nuc_class.specs.declared.op.Verb.{Verb}
use Rattle.nuc_class.specs.declared.op.Verb.TheVariants as verb
use Rattle.nuc_filework.specs.Calls.{bit_step, called, calls_by, calls_of, changing, in_order, key_place, listed, making, move_step, moving, only, removing, replace_step, replacing, seen_hash, splitting, switching}
use Rattle.nuc_filework.specs.Runs.{Accepts, FolderView, IsNotRun, IsRun, Runs, RunsOp, Succeeds}
use Rattle.nuc_filework.specs.Runs.Runs.{over, stops, goes_on}
use Rattle.nuc_filework.specs.declared.call.Call.{Call}
use Rattle.nuc_filework.specs.declared.call.Call.TheVariants.{MakeDir, WriteNew, Replace, SetBit, MoveTo, Remove}
use Rattle.nuc_folder.specs.Answers.{Changes, Makes}
use Rattle.nuc_folder.specs.State.{FolderState, IsTold, KeysBelow}
use Rattle.nuc_folder.specs.declared.key_place.KeyPlace.{KeyPlace}
use Rattle.nuc_folder.specs.declared.outcome.Outcome.{Outcome}
use Rattle.nuc_folder.specs.declared.outcome.Outcome.TheVariants as outcome
use Rattle.nuc_folder.specs.declared.ran.RanOp.{RanOp}
use Rattle.nuc_hash.specs.Content.{ContentData}
use Rattle.nuc_hash.specs.declared.digest.Digest.{Digest}
use Rattle.nuc_observe.specs.Keys.{KeyMap}
use Rattle.nuc_step.specs.Sound.{FitsOutcome, makes, makes_new}
use Rattle.nuc_step.specs.Steps.{is_split}
use Rattle.nuc_world.specs.Form.{IsMadeBelow}

-- THE NEXT KEY after a call
makes_later : (answer : Outcome) (before after : ℕ) → Makes answer before after → before ≤ after
makes_later (outcome.Made key) before after (some, above, below) = omega (arith, above, below)
makes_later outcome.Ok before after is = absurd is
makes_later outcome.NotEmpty before after is = absurd is
makes_later outcome.Changed before after is = is
makes_later outcome.Taken before after is = is
makes_later outcome.Failed before after is = is
makes_later outcome.Memory before after is = is

changes_later : (answer : Outcome) (before after : ℕ) → Changes answer before after → before ≤ after
changes_later (outcome.Made key) before after is = absurd is
changes_later outcome.Ok before after is = is
changes_later outcome.NotEmpty before after is = is
changes_later outcome.Changed before after is = is
changes_later outcome.Taken before after is = is
changes_later outcome.Failed before after is = is
changes_later outcome.Memory before after is = is

makes_below : (answer : Outcome) (before after : ℕ) → Makes answer before after → IsMadeBelow after answer
makes_below (outcome.Made key) before after (some, above, below) = below
makes_below outcome.Ok before after is = tt
makes_below outcome.NotEmpty before after is = tt
makes_below outcome.Changed before after is = tt
makes_below outcome.Taken before after is = tt
makes_below outcome.Failed before after is = tt
makes_below outcome.Memory before after is = tt

-- an outcome that made nothing
abbrev NotMade : Outcome → Type 0
NotMade (outcome.Made key) = ⊥
NotMade _ = Unit {0}

-- one that made something, or failed
abbrev MadeOrNot : Outcome → Type 0
MadeOrNot outcome.Ok = ⊥
MadeOrNot (outcome.Made key) = 0 < key.0
MadeOrNot _ = Unit {0}

changes_not_made : (answer : Outcome) (before after : ℕ) → Changes answer before after → NotMade answer
changes_not_made (outcome.Made key) before after is = absurd is
changes_not_made outcome.Ok before after is = tt
changes_not_made outcome.NotEmpty before after is = tt
changes_not_made outcome.Changed before after is = tt
changes_not_made outcome.Taken before after is = tt
changes_not_made outcome.Failed before after is = tt
changes_not_made outcome.Memory before after is = tt

not_made_below : (answer : Outcome) (next : ℕ) → NotMade answer → IsMadeBelow next answer
not_made_below (outcome.Made key) next is = absurd is
not_made_below outcome.Ok next is = tt
not_made_below outcome.NotEmpty next is = tt
not_made_below outcome.Changed next is = tt
not_made_below outcome.Taken next is = tt
not_made_below outcome.Failed next is = tt
not_made_below outcome.Memory next is = tt

makes_made : (answer : Outcome) (before after : ℕ) → Makes answer before after → MadeOrNot answer
makes_made (outcome.Made key) before after (some, above, below) = some
makes_made outcome.Ok before after is = absurd is
makes_made outcome.NotEmpty before after is = tt
makes_made outcome.Changed before after is = tt
makes_made outcome.Taken before after is = tt
makes_made outcome.Failed before after is = tt
makes_made outcome.Memory before after is = tt

-- a call that makes, and one that changes what is there
abbrev IsMaking : Call → Type 0
IsMaking (MakeDir place) = Unit {0}
IsMaking (WriteNew place bit) = Unit {0}
IsMaking _ = ⊥

abbrev IsChange : Call → Type 0
IsChange (MakeDir place) = ⊥
IsChange (WriteNew place bit) = ⊥
IsChange _ = Unit {0}

abbrev AreChanges : List Call → Type 0
AreChanges [] = Unit {0}
AreChanges (call ∷ calls) = IsChange call × AreChanges calls

module _ (answer : Outcome) (before after : ℕ) where
  succeeds_later : (call : Call) → Succeeds call answer before after → before ≤ after
  succeeds_later (MakeDir place) is = makes_later answer before after is
  succeeds_later (WriteNew place bit) is = makes_later answer before after is
  succeeds_later (Replace key expected) is = changes_later answer before after is
  succeeds_later (SetBit key expected bit) is = changes_later answer before after is
  succeeds_later (MoveTo key expected place) is = changes_later answer before after is
  succeeds_later (Remove key expected) is = changes_later answer before after is

  change_not_made : (call : Call) → IsChange call → Succeeds call answer before after → NotMade answer
  change_not_made (MakeDir place) change is = absurd change
  change_not_made (WriteNew place bit) change is = absurd change
  change_not_made (Replace key expected) change is = changes_not_made answer before after is
  change_not_made (SetBit key expected bit) change is = changes_not_made answer before after is
  change_not_made (MoveTo key expected place) change is = changes_not_made answer before after is
  change_not_made (Remove key expected) change is = changes_not_made answer before after is

  making_made : (call : Call) → IsMaking call → Succeeds call answer before after → MadeOrNot answer
  making_made (MakeDir place) making is = makes_made answer before after is
  making_made (WriteNew place bit) making is = makes_made answer before after is
  making_made (Replace key expected) making is = absurd making
  making_made (SetBit key expected bit) making is = absurd making
  making_made (MoveTo key expected place) making is = absurd making
  making_made (Remove key expected) making is = absurd making

  succeeds_below : (call : Call) → Succeeds call answer before after → IsMadeBelow after answer
  succeeds_below (MakeDir place) is = makes_below answer before after is
  succeeds_below (WriteNew place bit) is = makes_below answer before after is
  succeeds_below (Replace key expected) is = not_made_below answer after (changes_not_made answer before after is)
  succeeds_below (SetBit key expected bit) is = not_made_below answer after (changes_not_made answer before after is)
  succeeds_below (MoveTo key expected place) is = not_made_below answer after (changes_not_made answer before after is)
  succeeds_below (Remove key expected) is = not_made_below answer after (changes_not_made answer before after is)

-- ALL CALLS of a list
-- WHAT IS TOLD
abbrev pub ToldBelow : ℕ → Option FolderState → Type 0
ToldBelow n None = Unit {0}
ToldBelow n (Some s) = KeysBelow n s

told_below : (n : ℕ) (o : Option FolderState) → IsTold n o → ToldBelow n o
told_below n None is = tt
told_below n (Some s) is = is.1

module _ (bytes : List ℕ) where
  runs_later : (last : Outcome) (calls : List Call) (v : FolderView) (final : Outcome) (made : ℕ) (w : FolderView) → Runs bytes last calls v final made w → v.next ≤ w.next
  runs_later last calls v final made w (over a b) = omega arith
  runs_later last calls v final made w (stops a call rest c answer d is failed) = succeeds_later answer v.next w.next call is.keys
  runs_later last calls v final made w (goes_on a call rest c answer u d count f is success more) =
      let first = succeeds_later answer v.next u.next call is.keys in
      let later = runs_later answer rest u final count w more in
      omega (arith, first, later)

  runs_below : (last : Outcome) (calls : List Call) (v : FolderView) (final : Outcome) (made : ℕ) (w : FolderView) → Runs bytes last calls v final made w
      → IsMadeBelow v.next last → IsMadeBelow w.next final
  runs_below last calls v final made w (over a b) below = below
  runs_below last calls v final made w (stops a call rest c answer d is failed) below = succeeds_below answer v.next w.next call is.keys
  runs_below last calls v final made w (goes_on a call rest c answer u d count f is success more) below =
      runs_below answer rest u final count w more (succeeds_below answer v.next u.next call is.keys)

  runs_change : (last : Outcome) (calls : List Call) (v : FolderView) (final : Outcome) (made : ℕ) (w : FolderView) → Runs bytes last calls v final made w
      → AreChanges calls → NotMade last → NotMade final
  runs_change last calls v final made w (over a b) changes before = before
  runs_change last calls v final made w (stops a call rest c answer d is failed) changes before = change_not_made answer v.next w.next call changes.0 is.keys
  runs_change last calls v final made w (goes_on a call rest c answer u d count f is success more) changes before =
      runs_change answer rest u final count w more changes.1 (change_not_made answer v.next u.next call changes.0 is.keys)

  runs_none : (last : Outcome) (calls : List Call) (v : FolderView) (final : Outcome) (made : ℕ) (w : FolderView) → Runs bytes last calls v final made w → calls ≡ [] → final ≡ last
  runs_none last calls v final made w (over a b) none = refl
  runs_none last calls v final made w (stops a call rest c answer d is failed) none = cc
  runs_none last calls v final made w (goes_on a call rest c answer u d count f is success more) none = cc

  runs_making : (last : Outcome) (calls : List Call) (v : FolderView) (final : Outcome) (made : ℕ) (w : FolderView) (call : Call) → Runs bytes last calls v final made w
      → calls ≡ call ∷ [] → IsMaking call → MadeOrNot final
  runs_making last calls v final made w call (over a b) one making = cc
  runs_making last calls v final made w call (stops a first rest c answer d is failed) one making =
      let same : first ≡ call = cc in making_made answer v.next w.next first (subst IsMaking (sym same) making) is.keys
  runs_making last calls v final made w call (goes_on a first rest c answer u d count f is success more) one making =
      let same : first ≡ call = cc in
      let none : rest ≡ [] = cc in
      subst MadeOrNot (sym (runs_none answer rest u final count w more none)) (making_made answer v.next u.next first (subst IsMaking (sym same) making) is.keys)

  -- what the folder tells has keys below the next
  runs_told : (last : Outcome) (calls : List Call) (v : FolderView) (final : Outcome) (made : ℕ) (w : FolderView) → Runs bytes last calls v final made w
      → ToldBelow v.next v.told → ToldBelow w.next w.told
  runs_told last calls v final made w (over a b) below = below
  runs_told last calls v final made w (stops a call rest c answer d is failed) below = told_below w.next w.told is.form
  runs_told last calls v final made w (goes_on a call rest c answer u d count f is success more) below =
      runs_told answer rest u final count w more (told_below u.next u.told is.form)

-- WHAT IS ACCEPTED of the last answer
module _ (m : KeyMap) (next : ℕ) where
  accepts_below : (last answer : Outcome) → Accepts m last answer → IsMadeBelow next last → IsMadeBelow next answer
  accepts_below (outcome.Made key) (outcome.Made other) (same, some, unheld) below = subst (λ (k : _). k.0 < next) (sym same) below
  accepts_below (outcome.Made key) outcome.Changed is below = tt
  accepts_below (outcome.Made key) outcome.Ok is below = absurd is
  accepts_below (outcome.Made key) outcome.Taken is below = absurd is
  accepts_below (outcome.Made key) outcome.NotEmpty is below = absurd is
  accepts_below (outcome.Made key) outcome.Failed is below = absurd is
  accepts_below (outcome.Made key) outcome.Memory is below = absurd is
  accepts_below outcome.Ok answer is below = subst (IsMadeBelow next) (sym is) tt
  accepts_below outcome.Changed answer is below = subst (IsMadeBelow next) (sym is) tt
  accepts_below outcome.Taken answer is below = subst (IsMadeBelow next) (sym is) tt
  accepts_below outcome.NotEmpty answer is below = subst (IsMadeBelow next) (sym is) tt
  accepts_below outcome.Failed answer is below = subst (IsMadeBelow next) (sym is) tt
  accepts_below outcome.Memory answer is below = subst (IsMadeBelow next) (sym is) tt

module _ (m : KeyMap) (op : Op) where
  accepts_old : makes_new op ≡ false → (last answer : Outcome) → Accepts m last answer → NotMade last → FitsOutcome op answer
  accepts_old old (outcome.Made key) answer is none = absurd none
  accepts_old old outcome.Ok answer is none = subst (FitsOutcome op) (sym is) old
  accepts_old old outcome.Changed answer is none = subst (FitsOutcome op) (sym is) tt
  accepts_old old outcome.Taken answer is none = subst (FitsOutcome op) (sym is) tt
  accepts_old old outcome.NotEmpty answer is none = subst (FitsOutcome op) (sym is) tt
  accepts_old old outcome.Failed answer is none = subst (FitsOutcome op) (sym is) tt
  accepts_old old outcome.Memory answer is none = subst (FitsOutcome op) (sym is) tt

  accepts_new : makes_new op ≡ true → (last answer : Outcome) → Accepts m last answer → MadeOrNot last → FitsOutcome op answer
  accepts_new new (outcome.Made key) (outcome.Made other) (same, some, unheld) made = (new, subst (λ (k : _). 0 < k.0) (sym same) some)
  accepts_new new (outcome.Made key) outcome.Changed is made = tt
  accepts_new new (outcome.Made key) outcome.Ok is made = absurd is
  accepts_new new (outcome.Made key) outcome.Taken is made = absurd is
  accepts_new new (outcome.Made key) outcome.NotEmpty is made = absurd is
  accepts_new new (outcome.Made key) outcome.Failed is made = absurd is
  accepts_new new (outcome.Made key) outcome.Memory is made = absurd is
  accepts_new new outcome.Ok answer is made = absurd made
  accepts_new new outcome.Changed answer is made = subst (FitsOutcome op) (sym is) tt
  accepts_new new outcome.Taken answer is made = subst (FitsOutcome op) (sym is) tt
  accepts_new new outcome.NotEmpty answer is made = subst (FitsOutcome op) (sym is) tt
  accepts_new new outcome.Failed answer is made = subst (FitsOutcome op) (sym is) tt
  accepts_new new outcome.Memory answer is made = subst (FitsOutcome op) (sym is) tt

-- WHICH CALLS an operation has: the one that makes, where it makes something new, else such as change what is there
abbrev CallsFit : Bool → List Call → Type 0
CallsFit true calls = (call : Call) × (calls ≡ call ∷ []) × IsMaking call
CallsFit false calls = AreChanges calls

abbrev FitAll : Bool → Option (List Call) → Type 0
FitAll new None = Unit {0}
FitAll new (Some calls) = CallsFit new calls

abbrev FitStep : Option (Option Call) → Type 0
FitStep None = Unit {0}
FitStep (Some None) = Unit {0}
FitStep (Some (Some call)) = IsChange call

listed_fit : (a : Option Call) → FitStep (Some a) → (calls : List Call) → AreChanges calls → AreChanges (listed a ++ calls)
listed_fit None fit calls rest = rest
listed_fit (Some call) fit calls rest = (fit, rest)

listed_last : (a : Option Call) → FitStep (Some a) → AreChanges (listed a)
listed_last None fit = tt
listed_last (Some call) fit = (fit, tt)

order_fit : (a b c : Option (Option Call)) → FitStep a → FitStep b → FitStep c → FitAll false (in_order a b c)
order_fit (Some a) (Some b) (Some c) one two three = listed_fit a one (listed b ++ listed c) (listed_fit b two (listed c) (listed_last c three))
order_fit (Some a) (Some b) None one two three = tt
order_fit (Some a) None c one two three = tt
order_fit None b c one two three = tt

replacing_fit : (key : Option ℕ) (old : Digest) (given : Bool) → FitStep (called (replacing key old given))
replacing_fit (Some k) old true = tt
replacing_fit (Some k) old false = tt
replacing_fit None old given = tt

switching_fit : (key : Option ℕ) (old new : Bool) → FitStep (called (switching key old new))
switching_fit (Some k) old new = tt
switching_fit None old new = tt

moving_fit : (key : Option ℕ) (from to : Option KeyPlace) → FitStep (called (moving key from to))
moving_fit (Some k) (Some from) (Some to) = tt
moving_fit (Some k) (Some from) None = tt
moving_fit (Some k) None to = tt
moving_fit None from to = tt

moving_only : (key : Option ℕ) (from to : Option KeyPlace) → FitAll false (only (moving key from to))
moving_only (Some k) (Some from) (Some to) = (tt, tt)
moving_only (Some k) (Some from) None = tt
moving_only (Some k) None to = tt
moving_only None from to = tt

removing_only : (key : Option ℕ) (p : Option KeyPlace) (hash : Option Digest) → FitAll false (only (removing key p hash))
removing_only (Some k) (Some p) hash = (tt, tt)
removing_only (Some k) None hash = tt
removing_only None p hash = tt

making_only : (kind : Kind) (bit given : Bool) (p : Option KeyPlace) → FitAll true (only (making kind bit given p))
making_only Folder bit given (Some p) = (MakeDir p, refl, tt)
making_only Folder bit given None = tt
making_only File bit true (Some p) = (WriteNew p bit, refl, tt)
making_only File bit true None = tt
making_only File bit false p = tt

step_fit : (same : Bool) (o : Option (Option Call)) → FitStep o → FitStep (if same then Some None else o)
step_fit true o fit = tt
step_fit false o fit = fit

changing_fit : (m : KeyMap) (x : ℕ) (old : Option Node) (local : Change) (seen wanted : Digest) (given : Bool)
    → FitAll (makes false old local) (changing m x old local seen wanted given)
changing_fit m x None Keep seen wanted given = tt
changing_fit m x (Some old) Keep seen wanted given = tt
changing_fit m x None Cut seen wanted given = tt
changing_fit m x (Some old) Cut seen wanted given = removing_only (get m x) (key_place m old.place) (seen_hash old.kind seen)
changing_fit m x None (Put new) seen wanted given = making_only new.kind new.bit given (key_place m new.place)
changing_fit m x (Some old) (Put new) seen wanted given =
    order_fit (replace_step (get m x) seen wanted given) (bit_step (get m x) old.bit new.bit) (move_step m (get m x) old.place new.place)
    (step_fit (bytes_eq seen.0 wanted.0) (called (replacing (get m x) seen given)) (replacing_fit (get m x) seen given))
    (step_fit (beq old.bit new.bit) (called (switching (get m x) old.bit new.bit)) (switching_fit (get m x) old.bit new.bit))
    (step_fit (place_eq old.place new.place) (called (moving (get m x) (key_place m old.place) (key_place m new.place)))
    (moving_fit (get m x) (key_place m old.place) (key_place m new.place)))

splitting_fit : (m : KeyMap) (x : ℕ) (old : Option Node) (local : Change) → FitAll false (splitting m x old local)
splitting_fit m x (Some old) (Put copy) = moving_only (get m x) (key_place m old.place) (key_place m copy.place)
splitting_fit m x (Some old) Keep = tt
splitting_fit m x (Some old) Cut = tt
splitting_fit m x None local = tt

calls_fit : (v : Verb) → v ≢ verb.Adopt → (m : KeyMap) (x : ℕ) (old : Option Node) (local : Change) (seen wanted : Digest) (given : Bool)
    → FitAll (makes (is_split v) old local) (calls_by v m x old local seen wanted given)
calls_fit verb.Adopt other m x old local seen wanted given = absurd (other refl)
calls_fit verb.Split other m x old local seen wanted given = splitting_fit m x old local
calls_fit verb.Down other m x old local seen wanted given = changing_fit m x old local seen wanted given
calls_fit verb.Up other m x old local seen wanted given = changing_fit m x old local seen wanted given
calls_fit verb.CutDown other m x old local seen wanted given = changing_fit m x old local seen wanted given
calls_fit verb.CutUp other m x old local seen wanted given = changing_fit m x old local seen wanted given
calls_fit verb.Forget other m x old local seen wanted given = changing_fit m x old local seen wanted given
calls_fit verb.Unmove other m x old local seen wanted given = changing_fit m x old local seen wanted given
calls_fit verb.Revive other m x old local seen wanted given = changing_fit m x old local seen wanted given
calls_fit verb.Evict other m x old local seen wanted given = changing_fit m x old local seen wanted given

-- WHAT COMES OF AN OPERATION
pub record IsSound (op : Op) (v : FolderView) (ran : RanOp) (w : FolderView) : Type 0 where
  pub later : v.next ≤ w.next
  pub below : IsMadeBelow w.next ran.outcome
  pub fits : FitsOutcome op ran.outcome
  pub told : ToldBelow v.next v.told → ToldBelow w.next w.told

module _ (m : KeyMap) (bytes : List ℕ) (op : Op) (v : FolderView) (ran : RanOp) (w : FolderView) where
  not_run : (answer : Outcome) → IsMadeBelow v.next answer → FitsOutcome op answer → IsNotRun v answer ran w → IsSound op v ran w
  not_run answer below fits (is, same) =
      let next : w.next ≡ v.next = ap (λ (u : FolderView). u.next) same in
      let out : ran.outcome ≡ answer = ap (λ (r : RanOp). r.outcome) is in
      record {
        later = omega (arith, next);
        below = subst (λ n. IsMadeBelow n ran.outcome) (sym next) (subst (IsMadeBelow v.next) (sym out) below);
        fits = subst (FitsOutcome op) (sym out) fits;
        told = λ was. subst (λ (u : FolderView). ToldBelow u.next u.told) (sym same) was;
      }

  run_fits : (new : Bool) → makes_new op ≡ new → (calls : List Call) → CallsFit new calls → (run : IsRun m bytes calls v ran w) → FitsOutcome op ran.outcome
  run_fits true new calls (call, one, making) run = accepts_new m op new run.last ran.outcome run.answer (runs_making bytes outcome.Ok calls v run.last ran.made w call run.runs one making)
  run_fits false old calls changes run = accepts_old m op old run.last ran.outcome run.answer (runs_change bytes outcome.Ok calls v run.last ran.made w run.runs changes tt)

  no_calls_old : (new : Bool) → makes_new op ≡ new → CallsFit new [] → makes_new op ≡ false
  no_calls_old true new (call, one, making) = cc
  no_calls_old false old fit = old

  ran_by : (calls : Option (List Call)) → FitAll (makes_new op) calls → RunsOp m bytes calls v ran w → IsSound op v ran w
  ran_by None fit (inl changed) = not_run outcome.Changed tt tt changed
  ran_by None fit (inr memory) = not_run outcome.Memory tt tt memory
  ran_by (Some []) fit none = not_run outcome.Ok tt (no_calls_old (makes_new op) refl fit) none
  ran_by (Some (call ∷ calls)) fit (inl run) = record {
    later = runs_later bytes outcome.Ok (call ∷ calls) v run.last ran.made w run.runs;
    below = accepts_below m w.next run.last ran.outcome run.answer (runs_below bytes outcome.Ok (call ∷ calls) v run.last ran.made w run.runs tt);
    fits = run_fits (makes_new op) refl (call ∷ calls) fit run;
    told = λ was. runs_told bytes outcome.Ok (call ∷ calls) v run.last ran.made w run.runs was;
  }
  ran_by (Some (call ∷ calls)) fit (inr memory) = not_run outcome.Memory tt tt memory

  pub runs_sound : op.verb ≢ verb.Adopt → (seen wanted : ContentData) (given : Bool) → RunsOp m bytes (calls_of m op seen wanted given) v ran w → IsSound op v ran w
  runs_sound other seen wanted given runs =
      ran_by (calls_of m op seen wanted given) (calls_fit op.verb other m op.id.0 op.old_local op.local seen.hash wanted.hash given) runs
