-- What a user does brings a folder the names of the edit's paths, and no other.
use Rattle.std.specs.Prelude.{All}
use Rattle.std.proofs.Common.{◌≡◌, ℕ, Bool, List, [], ◌∷◌, reverse, false, Option, Some, None, refl, sym, subst, inl, inr}
use Rattle.std.specs.FinMap.{get}
use Rattle.nuc_base.specs.Names.{IsName}
use Rattle.nuc_base.specs.Trees.{Nodes}
use Rattle.nuc_base.specs.declared.node.Node.{Node}
use Rattle.nuc_base.specs.declared.node.Place.{Place}
use Rattle.nuc_folder.specs.Memory.{MemState}
use Rattle.nuc_folder.specs.Removals.{all_cut, removed}
use Rattle.nuc_folder.specs.User.{ChangesOnce, IsDone, UserAnswers}
use Rattle.nuc_folder.specs.UserEdits.{Does}
use Rattle.nuc_folder.specs.declared.noticed.Noticed.{Noticed}
use Rattle.nuc_folder.specs.declared.user_edit.UserEdit.{UserEdit}
use Rattle.nuc_folder.specs.declared.user_edit.UserEdit.TheVariants as edit
use Rattle.nuc_folder.specs.declared.user_edit.UserReply.{UserReply}
use Rattle.nuc_folder.specs.declared.user_edit.UserReply.TheVariants as reply
use Rattle.nuc_script.specs.Fitting.{FitsEdit}
use Rattle.nuc_shelf.specs.Shelf.{ShelfState, changed, file_at, folder_at, placed, with_bit, without}
use Rattle.nuc_fit.proofs.NamesForm.{Named, NamedFolder, NamedNotice}
use Rattle.nuc_fit.proofs.NamesLists.{all_append, all_front, all_none}
use Rattle.nuc_fit.proofs.NamesPaths.{leads_named}
use Rattle.nuc_fit.proofs.NamesTrees.{cut_named, put_named}

-- CHANGES OF WHAT IS HELD
pub same_named : (s t : ShelfState) → t ≡ s → Named s.tree → Named t.tree
same_named s t same named = subst (λ (v : ShelfState). Named v.tree) (sym same) named

pub moved_named : (m : Nodes) (x : ℕ) (place : Place) (o : Option Node) → IsName place.name → Named m → Named (changed m x (placed place) o)
moved_named m x place None its named = named
moved_named m x place (Some n) its named = put_named m x (placed place n) its named

pub marked_named : (m : Nodes) (x : ℕ) (bit : Bool) (o : Option Node) → get m x ≡ o → Named m → Named (changed m x (with_bit bit) o)
marked_named m x bit None at named = named
marked_named m x bit (Some n) at named = put_named m x (with_bit bit n) (named x n at) named

all_cut_named : (s : ShelfState) (keys : List ℕ) → Named s.tree → Named (all_cut s keys).tree
all_cut_named s [] named = named
all_cut_named s (x ∷ keys) named = all_cut_named (without s x) keys (cut_named s.tree x named)

-- ONE CHANGE
does_named : (e : UserEdit) (key : ℕ) (s : ShelfState) (notice : Noticed) (t : ShelfState) → FitsEdit e → Does e key s notice t → Named s.tree → Named t.tree
does_named (edit.Mkdir path) key s notice t fits (place, finds, is, told) named =
    same_named _ t is (put_named s.tree key (folder_at place) (leads_named s.tree 0 path.names place fits.1 finds.0) named)
does_named (edit.Write path filling) key s notice t fits (inl (place, finds, (is, told))) named =
    same_named _ t is (put_named s.tree key (file_at place false) (leads_named s.tree 0 path.names place fits.0.1 finds.0) named)
does_named (edit.Write path filling) key s notice t fits (inr (x, n, finds, file, (is, told))) named = same_named _ t is named
does_named (edit.Move from to) key s notice t fits (x, n, place, finds, free, apart, is, told) named =
    same_named _ t is (moved_named s.tree x place (get s.tree x) (leads_named s.tree 0 to.names place fits.1.1 free.0) named)
does_named (edit.Bit path bit) key s notice t fits (x, n, finds, file, is, told) named = same_named _ t is (marked_named s.tree x bit (get s.tree x) refl named)
does_named (edit.Remove path) key s notice t fits none named = absurd none

does_told : (e : UserEdit) (key : ℕ) (s : ShelfState) (notice : Noticed) (t : ShelfState) → FitsEdit e → Does e key s notice t → NamedNotice notice
does_told (edit.Mkdir path) key s notice t fits (place, finds, is, told) = subst NamedNotice (sym told) tt
does_told (edit.Write path filling) key s notice t fits (inl (place, finds, (is, told))) = subst NamedNotice (sym told) tt
does_told (edit.Write path filling) key s notice t fits (inr (x, n, finds, file, (is, told))) = subst NamedNotice (sym told) tt
does_told (edit.Move from to) key s notice t fits (x, n, place, finds, free, apart, is, told) =
    subst NamedNotice (sym told) (leads_named s.tree 0 to.names place fits.1.1 free.0)
does_told (edit.Bit path bit) key s notice t fits (x, n, finds, file, is, told) = subst NamedNotice (sym told) tt
does_told (edit.Remove path) key s notice t fits none = absurd none

removed_told : (keys : List ℕ) → All NamedNotice (removed keys)
removed_told [] = all_none NamedNotice
removed_told (x ∷ keys) = all_front NamedNotice _ (removed keys) tt (removed_told keys)

-- ALL OF IT
once_named : (e : UserEdit) (s t : MemState) → FitsEdit e → ChangesOnce e s t → NamedFolder s → NamedFolder t
once_named e s t fits (notice, does, next, pending) named = record {
  held = does_named e s.next s.held notice t.held fits does named.held;
  pending = subst (All NamedNotice) (sym pending) (all_append NamedNotice s.pending (notice ∷ []) named.pending
      (all_front NamedNotice notice [] (does_told e s.next s.held notice t.held fits does) (all_none NamedNotice)));
}

done_named : (e : UserEdit) (s t : MemState) → FitsEdit e → IsDone e s t → NamedFolder s → NamedFolder t
done_named (edit.Remove path) s t fits (notices, (keys, finds, cut, told), next, pending) named = record {
  held = same_named _ t.held cut (all_cut_named s.held (reverse keys) named.held);
  pending = subst (All NamedNotice) (sym pending) (all_append NamedNotice s.pending notices named.pending
      (subst (All NamedNotice) (sym told) (removed_told (reverse keys))));
}
done_named (edit.Mkdir path) s t fits once named = once_named (edit.Mkdir path) s t fits once named
done_named (edit.Write path filling) s t fits once named = once_named (edit.Write path filling) s t fits once named
done_named (edit.Move from to) s t fits once named = once_named (edit.Move from to) s t fits once named
done_named (edit.Bit path bit) s t fits once named = once_named (edit.Bit path bit) s t fits once named

stays : (s t : MemState) → t ≡ s → NamedFolder s → NamedFolder t
stays s t same named = subst NamedFolder (sym same) named

pub user_named : (e : UserEdit) (s : MemState) (r : UserReply) (t : MemState) → FitsEdit e → UserAnswers e s r t → NamedFolder s → NamedFolder t
user_named e s reply.Ok t fits done named = done_named e s t fits done named
user_named e s reply.NoSuch t fits (why, same) named = stays s t same named
user_named e s reply.NoParent t fits (why, same) named = stays s t same named
user_named e s reply.Kind t fits (why, same) named = stays s t same named
user_named e s reply.Taken t fits (why, same) named = stays s t same named
user_named e s reply.Cycle t fits (why, same) named = stays s t same named
user_named e s reply.Memory t fits (why, same) named = stays s t same named
