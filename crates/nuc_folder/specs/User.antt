-- How what a user does is answered, of what a folder is before, and what it is then.
use Rattle.std.specs.Prelude.{◌≡◌, List, [], ◌∷◌, ◌++◌}
use Rattle.nuc_folder.specs.Memory.{MemState}
use Rattle.nuc_folder.specs.Removals.{Removes}
use Rattle.nuc_folder.specs.UserEdits.{Does, Refused, next_after}
use Rattle.nuc_folder.specs.declared.noticed.Noticed.{Noticed}
use Rattle.nuc_folder.specs.declared.user_edit.UserEdit.{UserEdit}
use Rattle.nuc_folder.specs.declared.user_edit.UserEdit.TheVariants as edit
use Rattle.nuc_folder.specs.declared.user_edit.UserReply.{UserReply}
use Rattle.nuc_folder.specs.declared.user_edit.UserReply.TheVariants as reply

-- one change, and its notice is the newest that is pending
abbrev pub ChangesOnce : UserEdit → MemState → MemState → Type 0
ChangesOnce e s t = (notice : Noticed) × Does e s.next s.held notice t.held × (t.next ≡ next_after notice s.next) × (t.pending ≡ s.pending ++ notice ∷ [])

-- what was done is the newest that is pending
abbrev pub IsDone : UserEdit → MemState → MemState → Type 0
IsDone (edit.Remove path) s t = (notices : List Noticed) × Removes s.held path.names notices t.held × (t.next ≡ s.next) × (t.pending ≡ s.pending ++ notices)
IsDone (edit.Mkdir path) s t = ChangesOnce (edit.Mkdir path) s t
IsDone (edit.Write path filling) s t = ChangesOnce (edit.Write path filling) s t
IsDone (edit.Move from to) s t = ChangesOnce (edit.Move from to) s t
IsDone (edit.Bit path bit) s t = ChangesOnce (edit.Bit path bit) s t

abbrev pub UserAnswers : UserEdit → MemState → UserReply → MemState → Type 0
UserAnswers e s reply.Ok t = IsDone e s t
UserAnswers e s reply.NoSuch t = Refused e s.held.tree reply.NoSuch × (t ≡ s)
UserAnswers e s reply.NoParent t = Refused e s.held.tree reply.NoParent × (t ≡ s)
UserAnswers e s reply.Kind t = Refused e s.held.tree reply.Kind × (t ≡ s)
UserAnswers e s reply.Taken t = Refused e s.held.tree reply.Taken × (t ≡ s)
UserAnswers e s reply.Cycle t = Refused e s.held.tree reply.Cycle × (t ≡ s)
UserAnswers e s reply.Memory t = Refused e s.held.tree reply.Memory × (t ≡ s)
