-- What the calls of an operation leave in a folder has names.
use Rattle.std.proofs.Common.{◌≡◌, ℕ, List, [], ◌∷◌, Option, Some, None, refl, sym, subst, inl, inr}
use Rattle.std.specs.FinMap.{get}
use Rattle.nuc_base.specs.Names.{IsName}
use Rattle.nuc_base.specs.declared.node.Place.{Place}
use Rattle.nuc_filework.specs.Runs.{CallAnswers, FolderView, Runs, RunsOp}
use Rattle.nuc_filework.specs.Runs.Runs.{over, stops, goes_on}
use Rattle.nuc_filework.specs.declared.call.Call.{Call}
use Rattle.nuc_filework.specs.declared.call.Call.TheVariants.{MakeDir, WriteNew, Replace, SetBit, MoveTo, Remove}
use Rattle.nuc_folder.specs.Answers.{AlterAnswers, MakeAnswers, MoveAnswers, RemoveAnswers, Told}
use Rattle.nuc_folder.specs.State.{FolderState, place_of}
use Rattle.nuc_folder.specs.declared.outcome.Outcome.{Outcome}
use Rattle.nuc_folder.specs.declared.outcome.Outcome.TheVariants as outcome
use Rattle.nuc_folder.specs.declared.ran.RanOp.{RanOp}
use Rattle.nuc_folder.specs.declared.seen.Seen.{Seen}
use Rattle.nuc_observe.specs.Keys.{KeyMap}
use Rattle.nuc_shelf.specs.Shelf.{file_at, folder_at, marked, refilled, with_file, with_folder}
use Rattle.nuc_fit.proofs.NamesCalls.{NamedAll, NamedCall, NamedCalls}
use Rattle.nuc_fit.proofs.NamesFolder.{marked_named, moved_named, same_named}
use Rattle.nuc_fit.proofs.NamesForm.{Named}
use Rattle.nuc_fit.proofs.NamesTrees.{cut_named, put_named}

-- EACH CALL, by its answer
makes_named : (p : Place) (made : ℕ → FolderState → FolderState) (old new : FolderState) (answer : Outcome) → ((x : ℕ) → Named (made x old).tree) → Named old.tree
    → MakeAnswers p made old answer new → Named new.tree
makes_named p made old new (outcome.Made key) after named (folder, vacant, is) = same_named _ new is (after key.0)
makes_named p made old new outcome.Changed after named (why, is) = same_named old new is named
makes_named p made old new outcome.Taken after named (folder, why, is) = same_named old new is named
makes_named p made old new outcome.Failed after named is = same_named old new is named
makes_named p made old new outcome.Memory after named is = same_named old new is named
makes_named p made old new outcome.Ok after named is = absurd is
makes_named p made old new outcome.NotEmpty after named is = absurd is

alters_named : (E : Type 0) (after old new : FolderState) (answer : Outcome) → Named after.tree → Named old.tree → AlterAnswers E after old answer new → Named new.tree
alters_named E after old new outcome.Ok altered named (expected, is) = same_named after new is altered
alters_named E after old new outcome.Changed altered named (why, is) = same_named old new is named
alters_named E after old new outcome.Failed altered named is = same_named old new is named
alters_named E after old new outcome.Memory altered named is = same_named old new is named
alters_named E after old new (outcome.Made key) altered named is = absurd is
alters_named E after old new outcome.Taken altered named is = absurd is
alters_named E after old new outcome.NotEmpty altered named is = absurd is

moves_named : (x : ℕ) (expected p : Place) (old new : FolderState) (answer : Outcome) → IsName p.name → Named old.tree → MoveAnswers x expected p old answer new → Named new.tree
moves_named x expected p old new outcome.Ok its named (can, free, is) = same_named _ new is (moved_named old.tree x p (get old.tree x) its named)
moves_named x expected p old new outcome.Changed its named (why, is) = same_named old new is named
moves_named x expected p old new outcome.Taken its named (can, held, is) = same_named old new is named
moves_named x expected p old new outcome.Failed its named is = same_named old new is named
moves_named x expected p old new outcome.Memory its named is = same_named old new is named
moves_named x expected p old new (outcome.Made key) its named is = absurd is
moves_named x expected p old new outcome.NotEmpty its named is = absurd is

removes_named : (x : ℕ) (seen : Seen) (old new : FolderState) (answer : Outcome) → Named old.tree → RemoveAnswers x seen old answer new → Named new.tree
removes_named x seen old new outcome.Ok named (is_seen, none, is) = same_named _ new is (cut_named old.tree x named)
removes_named x seen old new outcome.Changed named (why, is) = same_named old new is named
removes_named x seen old new outcome.NotEmpty named (is_seen, some, is) = same_named old new is named
removes_named x seen old new outcome.Failed named is = same_named old new is named
removes_named x seen old new outcome.Memory named is = same_named old new is named
removes_named x seen old new (outcome.Made key) named is = absurd is
removes_named x seen old new outcome.Taken named is = absurd is

module _ (bytes : List ℕ) where
  call_named : (call : Call) (old new : FolderState) (answer : Outcome) → NamedCall call → Named old.tree → CallAnswers bytes call old answer new → Named new.tree
  call_named (MakeDir place) old new answer its named is =
      makes_named (place_of place) (λ x s. with_folder s x (place_of place)) old new answer (λ x. put_named old.tree x (folder_at (place_of place)) its named) named is
  call_named (WriteNew place bit) old new answer its named is =
      makes_named (place_of place) (λ x s. with_file s x (place_of place) bit bytes) old new answer (λ x. put_named old.tree x (file_at (place_of place) bit) its named) named is
  call_named (Replace key expected) old new answer its named is = alters_named _ (refilled old key.0 bytes) old new answer named named is
  call_named (SetBit key expected bit) old new answer its named is =
      alters_named _ (marked old key.0 bit) old new answer (marked_named old.tree key.0 bit (get old.tree key.0) refl named) named is
  call_named (MoveTo key expected place) old new answer its named is = moves_named key.0 (place_of expected) (place_of place) old new answer its named is
  call_named (Remove key expected) old new answer its named is = removes_named key.0 expected old new answer named is

  -- as far as it is told
  abbrev pub NamedTold : Option FolderState → Type 0
  NamedTold None = Unit {0}
  NamedTold (Some s) = Named s.tree

  told_named : (call : Call) (answer : Outcome) (a b : Option FolderState) → NamedCall call → NamedTold a → Told (λ old new. CallAnswers bytes call old answer new) a b → NamedTold b
  told_named call answer None None its named is = tt
  told_named call answer None (Some new) its named is = absurd is
  told_named call answer (Some old) None its named is = absurd is
  told_named call answer (Some old) (Some new) its named is = call_named call old new answer its named is

  -- ONE AFTER THE OTHER
  runs_named : (last : Outcome) (calls : List Call) (v : FolderView) (final : Outcome) (made : ℕ) (w : FolderView) → Runs bytes last calls v final made w
      → NamedCalls calls → NamedTold v.told → NamedTold w.told
  runs_named last calls v final made w (over a b) its named = named
  runs_named last calls v final made w (stops a call rest c answer d is failed) its named = told_named call answer v.told w.told its.0 named is.told
  runs_named last calls v final made w (goes_on a call rest c answer u d count f is success more) its named =
      runs_named answer rest u final count w more its.1 (told_named call answer v.told u.told its.0 named is.told)

  same_view : (v w : FolderView) → w ≡ v → NamedTold v.told → NamedTold w.told
  same_view v w same named = subst (λ (x : FolderView). NamedTold x.told) (sym same) named

  pub op_named : (m : KeyMap) (o : Option (List Call)) (v : FolderView) (ran : RanOp) (w : FolderView) → RunsOp m bytes o v ran w → NamedAll o → NamedTold v.told → NamedTold w.told
  op_named m None v ran w (inl (is, same)) its named = same_view v w same named
  op_named m None v ran w (inr (is, same)) its named = same_view v w same named
  op_named m (Some []) v ran w (is, same) its named = same_view v w same named
  op_named m (Some (call ∷ calls)) v ran w (inl run) its named = runs_named outcome.Ok (call ∷ calls) v run.last ran.made w run.runs its named
  op_named m (Some (call ∷ calls)) v ran w (inr (is, same)) its named = same_view v w same named
