-- No two files or folders of a client's folder have one place, whatever a user does in it.
use Rattle.std.proofs.Common.{◌≡◌, ℕ, List, [], ◌∷◌, reverse, false, Bool, Option, None, Some, refl, sym, ◌∙◌, subst, inl, inr}
use Rattle.std.specs.FinMap.{get, insert, remove}
use Rattle.nuc_base.specs.Legal.{IsFree}
use Rattle.nuc_base.specs.SamePlace.{SamePlace, same_place-sym, same_place-trans}
use Rattle.nuc_base.specs.Trees.{Nodes, IsVacant, StandsAt}
use Rattle.nuc_base.specs.declared.node.Node.{Node}
use Rattle.nuc_base.specs.declared.node.Place.{Place}
use Rattle.nuc_base.proofs.Maps.{after_cut, after_put}
use Rattle.nuc_folder.specs.Memory.{MemState}
use Rattle.nuc_folder.specs.Removals.{all_cut}
use Rattle.nuc_folder.specs.User.{ChangesOnce, IsDone, UserAnswers}
use Rattle.nuc_folder.specs.UserEdits.{Does}
use Rattle.nuc_folder.specs.declared.noticed.Noticed.{Noticed}
use Rattle.nuc_folder.specs.declared.user_edit.UserEdit.{UserEdit}
use Rattle.nuc_folder.specs.declared.user_edit.UserEdit.TheVariants as edit
use Rattle.nuc_folder.specs.declared.user_edit.UserReply.{UserReply}
use Rattle.nuc_folder.specs.declared.user_edit.UserReply.TheVariants as reply
use Rattle.nuc_shelf.specs.Shelf.{ShelfState, changed, file_at, folder_at, placed, with_bit, without}

abbrev pub PlacesDiffer : Nodes → Type 0
PlacesDiffer m = (x y : ℕ) (n k : Node) → get m x ≡ Some n → get m y ≡ Some k → SamePlace n.place k.place → x ≡ y

-- a place has one holder
pub holder_one : (m : Nodes) (y z : ℕ) (p : Place) → PlacesDiffer m → StandsAt m y p → StandsAt m z p → y ≡ z
holder_one m y z p differ (n, e, s) (k, f, t) = differ y z n k e f (same_place-trans n.place p k.place s (same_place-sym k.place p t))

-- CHANGES OF A TREE
put_differ : (m : Nodes) (x : ℕ) (node : Node) → IsFree m x node.place → PlacesDiffer m → PlacesDiffer (insert m x node)
put_differ m x node free differ = λ a b n k at there same. elim (after_put m x node a n at) [
  | inl (one, is) ↦ elim (after_put m x node b k there) [
    | inl (other, was) ↦ one ∙ sym other
    | inr (apart, stood) ↦ one ∙ sym (free b k stood (same_place-sym node.place k.place (subst (λ (v : Node). SamePlace v.place k.place) is same)))
  ]
  | inr (apart, stood) ↦ elim (after_put m x node b k there) [
    | inl (other, was) ↦ free a n stood (subst (λ (v : Node). SamePlace n.place v.place) was same) ∙ sym other
    | inr (off, was) ↦ differ a b n k stood was same
  ]
]

put_vacant : (m : Nodes) (x : ℕ) (node : Node) → IsVacant m node.place → PlacesDiffer m → PlacesDiffer (insert m x node)
put_vacant m x node vacant differ = put_differ m x node (λ y n at same. absurd (vacant y n at same)) differ

cut_differ : (m : Nodes) (x : ℕ) → PlacesDiffer m → PlacesDiffer (remove m x)
cut_differ m x differ = λ a b n k at there same. differ a b n k (after_cut m x a n at).1 (after_cut m x b k there).1 same

moved_differ : (m : Nodes) (x : ℕ) (place : Place) (o : Option Node) → IsVacant m place → PlacesDiffer m → PlacesDiffer (changed m x (placed place) o)
moved_differ m x place None vacant differ = differ
moved_differ m x place (Some n) vacant differ = put_vacant m x (placed place n) vacant differ

marked_differ : (m : Nodes) (x : ℕ) (bit : Bool) (o : Option Node) → get m x ≡ o → PlacesDiffer m → PlacesDiffer (changed m x (with_bit bit) o)
marked_differ m x bit None at differ = differ
marked_differ m x bit (Some n) at differ = put_differ m x (with_bit bit n) (λ y k there same. differ y x k n there at same) differ

all_cut_differ : (s : ShelfState) (keys : List ℕ) → PlacesDiffer s.tree → PlacesDiffer (all_cut s keys).tree
all_cut_differ s [] differ = differ
all_cut_differ s (x ∷ keys) differ = all_cut_differ (without s x) keys (cut_differ s.tree x differ)

-- WHAT A USER DOES
same_differ : (s t : ShelfState) → t ≡ s → PlacesDiffer s.tree → PlacesDiffer t.tree
same_differ s t same differ = subst (λ (v : ShelfState). PlacesDiffer v.tree) (sym same) differ

does_differ : (e : UserEdit) (key : ℕ) (s : ShelfState) (notice : Noticed) (t : ShelfState) → Does e key s notice t → PlacesDiffer s.tree → PlacesDiffer t.tree
does_differ (edit.Mkdir path) key s notice t (place, finds, is, told) differ = same_differ _ t is (put_vacant s.tree key (folder_at place) finds.1 differ)
does_differ (edit.Write path filling) key s notice t (inl (place, finds, (is, told))) differ =
    same_differ _ t is (put_vacant s.tree key (file_at place false) finds.1 differ)
does_differ (edit.Write path filling) key s notice t (inr (x, n, finds, file, (is, told))) differ = same_differ _ t is differ
does_differ (edit.Move from to) key s notice t (x, n, place, finds, free, apart, is, told) differ =
    same_differ _ t is (moved_differ s.tree x place (get s.tree x) free.1 differ)
does_differ (edit.Bit path bit) key s notice t (x, n, finds, file, is, told) differ = same_differ _ t is (marked_differ s.tree x bit (get s.tree x) refl differ)
does_differ (edit.Remove path) key s notice t none differ = absurd none

once_differ : (e : UserEdit) (s t : MemState) → ChangesOnce e s t → PlacesDiffer s.held.tree → PlacesDiffer t.held.tree
once_differ e s t (notice, does, next, pending) differ = does_differ e s.next s.held notice t.held does differ

done_differ : (e : UserEdit) (s t : MemState) → IsDone e s t → PlacesDiffer s.held.tree → PlacesDiffer t.held.tree
done_differ (edit.Remove path) s t (notices, (keys, finds, cut, told), next, pending) differ = same_differ _ t.held cut (all_cut_differ s.held (reverse keys) differ)
done_differ (edit.Mkdir path) s t once differ = once_differ (edit.Mkdir path) s t once differ
done_differ (edit.Write path filling) s t once differ = once_differ (edit.Write path filling) s t once differ
done_differ (edit.Move from to) s t once differ = once_differ (edit.Move from to) s t once differ
done_differ (edit.Bit path bit) s t once differ = once_differ (edit.Bit path bit) s t once differ

stays_differ : (s t : MemState) → t ≡ s → PlacesDiffer s.held.tree → PlacesDiffer t.held.tree
stays_differ s t same differ = subst (λ (v : MemState). PlacesDiffer v.held.tree) (sym same) differ

pub user_differ : (e : UserEdit) (s : MemState) (r : UserReply) (t : MemState) → UserAnswers e s r t → PlacesDiffer s.held.tree → PlacesDiffer t.held.tree
user_differ e s reply.Ok t done differ = done_differ e s t done differ
user_differ e s reply.NoSuch t (why, same) differ = stays_differ s t same differ
user_differ e s reply.NoParent t (why, same) differ = stays_differ s t same differ
user_differ e s reply.Kind t (why, same) differ = stays_differ s t same differ
user_differ e s reply.Taken t (why, same) differ = stays_differ s t same differ
user_differ e s reply.Cycle t (why, same) differ = stays_differ s t same differ
user_differ e s reply.Memory t (why, same) differ = stays_differ s t same differ
