-- The calls of an operation leave the files of a folder short, where the bytes that they write are.
use Rattle.std.proofs.Common.{◌≡◌, ℕ, List, [], ◌∷◌, Option, Some, None, refl, sym, subst, inl, inr}
use Rattle.nuc_base.specs.declared.node.Place.{Place}
use Rattle.nuc_filework.specs.Runs.{CallAnswers, FolderView, Runs, RunsOp}
use Rattle.nuc_filework.specs.Runs.Runs.{over, stops, goes_on}
use Rattle.nuc_filework.specs.declared.call.Call.{Call}
use Rattle.nuc_filework.specs.declared.call.Call.TheVariants.{MakeDir, WriteNew, Replace, SetBit, MoveTo, Remove}
use Rattle.nuc_folder.specs.Answers.{AlterAnswers, HasBit, HasHash, MakeAnswers, MoveAnswers, RemoveAnswers, Told}
use Rattle.nuc_folder.specs.State.{FolderState, place_of}
use Rattle.nuc_folder.specs.declared.outcome.Outcome.{Outcome}
use Rattle.nuc_folder.specs.declared.outcome.Outcome.TheVariants as outcome
use Rattle.nuc_folder.specs.declared.ran.RanOp.{RanOp}
use Rattle.nuc_folder.specs.declared.seen.Seen.{Seen}
use Rattle.nuc_observe.specs.Keys.{KeyMap}
use Rattle.nuc_shelf.specs.Shelf.{marked, moved, refilled, with_file, with_folder}
use Rattle.std.specs.FinMap.{get}
use Rattle.nuc_fit.proofs.SizesFolder.{same_short, without_short, written_short}
use Rattle.nuc_fit.proofs.SizesShort.{AreFew, FilesAreShort}

-- BY THE ANSWER: what was made or altered is short, or all is as before
made_short : (p : Place) (made : ℕ → FolderState → FolderState) (s : FolderState) (a : Outcome) (t : FolderState)
    → ((x : ℕ) → FilesAreShort (made x s)) → FilesAreShort s → MakeAnswers p made s a t → FilesAreShort t
made_short p made s (outcome.Made key) t new old (folder, vacant, is) = same_short (made key.0 s) t is (new key.0)
made_short p made s outcome.Changed t new old (none, is) = same_short s t is old
made_short p made s outcome.Taken t new old (folder, taken, is) = same_short s t is old
made_short p made s outcome.Failed t new old is = same_short s t is old
made_short p made s outcome.Memory t new old is = same_short s t is old
made_short p made s outcome.Ok t new old is = absurd is
made_short p made s outcome.NotEmpty t new old is = absurd is

altered_short : (E : Type 0) (after s : FolderState) (a : Outcome) (t : FolderState) → FilesAreShort after → FilesAreShort s → AlterAnswers E after s a t → FilesAreShort t
altered_short E after s outcome.Ok t new old (expected, is) = same_short after t is new
altered_short E after s outcome.Changed t new old (other, is) = same_short s t is old
altered_short E after s outcome.Failed t new old is = same_short s t is old
altered_short E after s outcome.Memory t new old is = same_short s t is old
altered_short E after s (outcome.Made key) t new old is = absurd is
altered_short E after s outcome.Taken t new old is = absurd is
altered_short E after s outcome.NotEmpty t new old is = absurd is

moved_short : (x : ℕ) (expected p : Place) (s : FolderState) (a : Outcome) (t : FolderState) → FilesAreShort s → MoveAnswers x expected p s a t → FilesAreShort t
moved_short x expected p s outcome.Ok t old (can, free, is) = same_short (moved s x p) t is old
moved_short x expected p s outcome.Changed t old (cannot, is) = same_short s t is old
moved_short x expected p s outcome.Taken t old (can, held, is) = same_short s t is old
moved_short x expected p s outcome.Failed t old is = same_short s t is old
moved_short x expected p s outcome.Memory t old is = same_short s t is old
moved_short x expected p s (outcome.Made key) t old is = absurd is
moved_short x expected p s outcome.NotEmpty t old is = absurd is

removed_short : (x : ℕ) (seen : Seen) (s : FolderState) (a : Outcome) (t : FolderState) → FilesAreShort s → RemoveAnswers x seen s a t → FilesAreShort t
removed_short x seen s outcome.Ok t old (is_seen, alone, is) = same_short _ t is (without_short s x old)
removed_short x seen s outcome.Changed t old (other, is) = same_short s t is old
removed_short x seen s outcome.NotEmpty t old (is_seen, child, is) = same_short s t is old
removed_short x seen s outcome.Failed t old is = same_short s t is old
removed_short x seen s outcome.Memory t old is = same_short s t is old
removed_short x seen s (outcome.Made key) t old is = absurd is
removed_short x seen s outcome.Taken t old is = absurd is

-- where a folder tells what it holds
abbrev pub ToldShort : Option FolderState → Type 0
ToldShort None = Unit {0}
ToldShort (Some s) = FilesAreShort s

module _ (bytes : List ℕ) (few : AreFew bytes) where
  call_short : (call : Call) (s : FolderState) (a : Outcome) (t : FolderState) → FilesAreShort s → CallAnswers bytes call s a t → FilesAreShort t
  call_short (MakeDir place) s a t old is = made_short (place_of place) (λ x u. with_folder u x (place_of place)) s a t (λ x. old) old is
  call_short (WriteNew place bit) s a t old is =
      made_short (place_of place) (λ x u. with_file u x (place_of place) bit bytes) s a t
      (λ x. written_short s (with_file s x (place_of place) bit bytes) x bytes refl old few) old is
  call_short (Replace key expected) s a t old is =
      altered_short (HasHash (get s.bytes key.0) expected) (refilled s key.0 bytes) s a t (written_short s (refilled s key.0 bytes) key.0 bytes refl old few) old is
  call_short (SetBit key expected bit) s a t old is = altered_short (HasBit (get s.tree key.0) expected) (marked s key.0 bit) s a t old old is
  call_short (MoveTo key expected place) s a t old is = moved_short key.0 (place_of expected) (place_of place) s a t old is
  call_short (Remove key expected) s a t old is = removed_short key.0 expected s a t old is

  told_short : (call : Call) (a : Outcome) (v w : Option FolderState) → Told (λ old new. CallAnswers bytes call old a new) v w → ToldShort v → ToldShort w
  told_short call a None None is old = tt
  told_short call a None (Some t) is old = absurd is
  told_short call a (Some s) None is old = absurd is
  told_short call a (Some s) (Some t) is old = call_short call s a t old is

  runs_short : (last : Outcome) (calls : List Call) (v : FolderView) (final : Outcome) (made : ℕ) (w : FolderView) → Runs bytes last calls v final made w
      → ToldShort v.told → ToldShort w.told
  runs_short last calls v final made w (over a b) old = old
  runs_short last calls v final made w (stops a call rest c answer d is failed) old = told_short call answer v.told w.told is.told old
  runs_short last calls v final made w (goes_on a call rest c answer u d count f is success more) old =
      runs_short answer rest u final count w more (told_short call answer v.told u.told is.told old)

  not_run : (v w : FolderView) → w ≡ v → ToldShort v.told → ToldShort w.told
  not_run v w is old = subst (λ (u : FolderView). ToldShort u.told) (sym is) old

  pub op_short : (m : KeyMap) (calls : Option (List Call)) (v : FolderView) (ran : RanOp) (w : FolderView) → RunsOp m bytes calls v ran w → ToldShort v.told → ToldShort w.told
  op_short m None v ran w (inl none) old = not_run v w none.1 old
  op_short m None v ran w (inr none) old = not_run v w none.1 old
  op_short m (Some []) v ran w none old = not_run v w none.1 old
  op_short m (Some (call ∷ calls)) v ran w (inl run) old = runs_short outcome.Ok (call ∷ calls) v run.last ran.made w run.runs old
  op_short m (Some (call ∷ calls)) v ran w (inr none) old = not_run v w none.1 old
