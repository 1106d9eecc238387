-- The keys of a folder in memory stay below the next one when a user changes it.
use Rattle.std.proofs.Common.{Result, Ok, Err, OnOk, OnErr, reverse, ◌++◌, ◌≡◌, ◌<◌, ◌≤◌, ◌+◌, ℕ, false, List, Option, Some, None, refl, sym, subst, inl, inr, arith}
use Rattle.std.specs.FinMap.{get, insert}
use Rattle.nuc_base.specs.Trees.{Nodes}
use Rattle.nuc_base.specs.declared.node.Node.{Node}
use Rattle.nuc_base.proofs.Maps.{after_put}
use Rattle.nuc_shelf.specs.Shelf.{ShelfState, IsShelf, changed, file_at, folder_at, placed, with_bit}
use Rattle.nuc_folder.specs.Memory.{IsKeyed, MemState}
use Rattle.nuc_folder.specs.Removals.{Removes}
use Rattle.nuc_folder.specs.State.{KeysBelow}
use Rattle.nuc_folder.specs.User.{ChangesOnce, IsDone, UserAnswers}
use Rattle.nuc_folder.specs.UserEdits.{Does, next_after}
use Rattle.nuc_folder.specs.declared.noticed.Noticed.{Noticed}
use Rattle.nuc_folder.specs.declared.noticed.Noticed.TheVariants as noticed
use Rattle.nuc_folder.specs.declared.user_edit.UserEdit.{UserEdit}
use Rattle.nuc_folder.specs.declared.user_edit.UserReply.{UserReply}
use Rattle.nuc_folder.specs.declared.user_edit.UserEdit.TheVariants as edit
use Rattle.nuc_folder.specs.declared.user_edit.UserReply.TheVariants as answer
use Rattle.nuc_folder.proofs.Keyed.{TreeBelow}
use Rattle.nuc_folder.proofs.Removing.{cut_below}

new_below : (n : ℕ) (m : Nodes) (v : Node) → TreeBelow n m → TreeBelow (n + 1) (insert m n v)
new_below n m v below = λ y k at. elim (after_put m n v y k at) [
  | inl (same, is) ↦ omega (arith, same)
  | inr (apart, there) ↦ let less = below y k there in omega (arith, less)
]

changed_below : (n x : ℕ) (m : Nodes) (f : Node → Node) (o : Option Node) → get m x ≡ o → TreeBelow n m → TreeBelow n (changed m x f o)
changed_below n x m f None e below = below
changed_below n x m f (Some v) e below = λ y k at. elim (after_put m x (f v) y k at) [
  | inl (same, is) ↦ let less = below x v e in omega (arith, same, less)
  | inr (apart, there) ↦ below y k there
]

-- the notice and what is held then are as said
told_below : (n k : ℕ) (notice h : Noticed) (t u : ShelfState) → next_after h n ≡ k → notice ≡ h → t ≡ u → TreeBelow k u.tree → KeysBelow (next_after notice n) t
told_below n k notice h t u next told is below =
    subst (λ g. KeysBelow (next_after g n) t) (sym told) (subst (λ j. KeysBelow j t) (sym next) (subst (λ (s : ShelfState). TreeBelow k s.tree) (sym is) below))

does_below : (e : UserEdit) (n : ℕ) (s : ShelfState) (notice : Noticed) (t : ShelfState) → KeysBelow n s → Does e n s notice t → KeysBelow (next_after notice n) t
does_below (edit.Mkdir path) n s notice t below (place, finds, is, told) =
    told_below n (n + 1) notice _ t _ refl told is (new_below n s.tree (folder_at place) below)
does_below (edit.Write path filling) n s notice t below (inl (place, finds, (is, told))) =
    told_below n (n + 1) notice _ t _ refl told is (new_below n s.tree (file_at place false) below)
does_below (edit.Write path filling) n s notice t below (inr (x, k, finds, file, (is, told))) = told_below n n notice _ t _ refl told is below
does_below (edit.Move from to) n s notice t below (x, k, place, finds, free, apart, is, told) =
    told_below n n notice _ t _ refl told is (changed_below n x s.tree (placed place) (get s.tree x) refl below)
does_below (edit.Bit path bit) n s notice t below (x, k, finds, file, is, told) =
    told_below n n notice _ t _ refl told is (changed_below n x s.tree (with_bit bit) (get s.tree x) refl below)
does_below (edit.Remove path) n s notice t below none = absurd none

-- so are they after whatever a user does
once_below : (e : UserEdit) (s t : MemState) → KeysBelow s.next s.held → ChangesOnce e s t → KeysBelow t.next t.held
once_below e s t below (notice, does, next, pending) = subst (λ n. KeysBelow n t.held) (sym next) (does_below e s.next s.held notice t.held below does)

done_below : (e : UserEdit) (s t : MemState) → KeysBelow s.next s.held → IsDone e s t → KeysBelow t.next t.held
done_below (edit.Remove path) s t below (notices, (keys, finds, cut, told), next, pending) =
    subst (λ n. KeysBelow n t.held) (sym next) (subst (KeysBelow s.next) (sym cut) (cut_below s.next s.held (reverse keys) below))
done_below (edit.Mkdir path) s t below once = once_below (edit.Mkdir path) s t below once
done_below (edit.Write path filling) s t below once = once_below (edit.Write path filling) s t below once
done_below (edit.Move from to) s t below once = once_below (edit.Move from to) s t below once
done_below (edit.Bit path bit) s t below once = once_below (edit.Bit path bit) s t below once

stays_below : (s t : MemState) → t ≡ s → KeysBelow s.next s.held → KeysBelow t.next t.held
stays_below s t same below = subst (λ (m : MemState). KeysBelow m.next m.held) (sym same) below

pub user_below : (e : UserEdit) (s : MemState) (reply : UserReply) (t : MemState) → KeysBelow s.next s.held → UserAnswers e s reply t → KeysBelow t.next t.held
user_below e s answer.Ok t below done = done_below e s t below done
user_below e s answer.NoSuch t below (why, same) = stays_below s t same below
user_below e s answer.NoParent t below (why, same) = stays_below s t same below
user_below e s answer.Kind t below (why, same) = stays_below s t same below
user_below e s answer.Taken t below (why, same) = stays_below s t same below
user_below e s answer.Cycle t below (why, same) = stays_below s t same below
user_below e s answer.Memory t below (why, same) = stays_below s t same below

next_some : (notice : Noticed) (n : ℕ) → n ≤ next_after notice n
next_some (noticed.Made item) n = omega arith
next_some (noticed.Written key content) n = omega arith
next_some (noticed.Moved key place) n = omega arith
next_some (noticed.Removed key) n = omega arith
next_some (noticed.Bit key bit) n = omega arith

pub keyed_after : (e : UserEdit) (s : MemState) (notice : Noticed) (t : ShelfState) (next : ℕ) (pending : List Noticed) → IsKeyed s → IsShelf t → Does e s.next s.held notice t
    → next ≡ next_after notice s.next → IsKeyed (record { held = t; next = next; pending = pending })
keyed_after e s notice t next pending was shelf does is = record {
  shelf = shelf;
  below = subst (λ n. KeysBelow n t) (sym is) (does_below e s.next s.held notice t was.below does);
  some = let some = was.some in let more = next_some notice s.next in omega (arith, is, some, more);
}

-- what is pending says nothing of the keys
pub keyed_at : (held then : ShelfState) (next : ℕ) (pending told : List Noticed) → then ≡ held
    → IsKeyed (record { held = held; next = next; pending = pending }) → IsKeyed (record { held = then; next = next; pending = told })
keyed_at held then next pending told is was = record {
  shelf = subst IsShelf (sym is) was.shelf;
  below = subst (KeysBelow next) (sym is) was.below;
  some = was.some;
}

-- a removal leaves keys that were there, and where it fails all
pub keyed_removed : (r : Result (Unit {0}) UserReply) (s t : ShelfState) (names : List (List ℕ)) (next : ℕ) (before pending : List Noticed)
    → OnOk r ((told : List Noticed) × Removes s names told t × (pending ≡ before ++ told)) → OnErr r ((t ≡ s) × (pending ≡ before)) → IsShelf t
    → IsKeyed (record { held = s; next = next; pending = before }) → IsKeyed (record { held = t; next = next; pending = pending })
keyed_removed (Ok done) s t names next before pending (told, removes, is) err shelf was =
    let (keys, finds, cut, notices) = removes in
    record {
      shelf = shelf;
      below = subst (KeysBelow next) (sym cut) (cut_below next s (reverse keys) was.below);
      some = was.some;
    }
keyed_removed (Err reply) s t names next before pending ok (same, is) shelf was = keyed_at s t next before pending same was
