-- What is listed, noticed or recorded is the content of some bytes.
use Rattle.std.specs.Prelude.{All, IfSome, option_map, reverse}
use Rattle.std.proofs.Common.{◌≡◌, ◌+◌, ◌++◌, ℕ, List, [], ◌∷◌, Option, Some, None, refl, sym, subst, inl, inr}
use Rattle.std.specs.FinMap.{get}
use Rattle.nuc_base.specs.declared.node.Kind.{Kind}
use Rattle.nuc_base.specs.declared.node.Node.{Node}
use Rattle.nuc_folder.specs.Listing.{AreInside, IsIn, IsItemAt, IsListing, Unfolds}
use Rattle.nuc_folder.specs.Listing.Unfolds.{none, next}
use Rattle.nuc_folder.specs.Memory.{MemState}
use Rattle.nuc_folder.specs.Removals.{removed}
use Rattle.nuc_folder.specs.State.{FolderState}
use Rattle.nuc_folder.specs.User.{ChangesOnce, IsDone, UserAnswers}
use Rattle.nuc_folder.specs.UserEdits.{Does}
use Rattle.nuc_folder.specs.declared.item.Item.{Item}
use Rattle.nuc_folder.specs.declared.noticed.Noticed.{Noticed}
use Rattle.nuc_folder.specs.declared.noticed.Noticed.TheVariants as noticed
use Rattle.nuc_folder.specs.declared.user_edit.UserEdit.{UserEdit}
use Rattle.nuc_folder.specs.declared.user_edit.UserEdit.TheVariants as edit
use Rattle.nuc_folder.specs.declared.user_edit.UserReply.{UserReply}
use Rattle.nuc_folder.specs.declared.user_edit.UserReply.TheVariants as reply
use Rattle.nuc_hash.specs.Content.{ContentData, content_of}
use Rattle.nuc_hash.specs.Filling.{filling_bytes}
use Rattle.nuc_step.specs.Held.{HeldData}
use Rattle.nuc_world.specs.State.{MemberState}
use Rattle.nuc_world.proofs.Items.{all_append, all_first, all_front, all_map, all_none, all_rest}

pub record IsOfBytes (content : ContentData) : Type 0 where
  pub bytes : List ℕ
  pub is : content ≡ content_of bytes

pub of_bytes : (bytes : List ℕ) → IsOfBytes (content_of bytes)
of_bytes bytes = record { bytes = bytes; is = refl }

-- a folder has no content
abbrev pub IsItemOf : Item → Type 0
IsItemOf item = IfSome item.content IsOfBytes

abbrev pub IsNoticeOf : Noticed → Type 0
IsNoticeOf (noticed.Made item) = IsItemOf item
IsNoticeOf (noticed.Written key content) = IsOfBytes content
IsNoticeOf _ = Unit {0}

abbrev pub IsListedOf : Option HeldData → Type 0
IsListedOf None = Unit {0}
IsListedOf (Some listing) = All IsItemOf listing.items

-- of a member: what its folder tells, and what it has listed
pub record HasContents (m : MemberState) : Type 0 where
  pub pending : All IsNoticeOf m.folder.pending
  pub listed : IsListedOf m.listing

-- WHAT A USER DOES
of_option : (o : Option (List ℕ)) → IfSome (option_map content_of o) IsOfBytes
of_option None = tt
of_option (Some bytes) = of_bytes bytes

does_of : (e : UserEdit) (key : ℕ) (s : FolderState) (notice : Noticed) (t : FolderState) → Does e key s notice t → IsNoticeOf notice
does_of (edit.Mkdir path) key s notice t (place, finds, is, told) = subst IsNoticeOf (sym told) tt
does_of (edit.Write path filling) key s notice t (inl (place, finds, (is, told))) = subst IsNoticeOf (sym told) (of_bytes (filling_bytes filling))
does_of (edit.Write path filling) key s notice t (inr (x, n, finds, file, (is, told))) = subst IsNoticeOf (sym told) (of_bytes (filling_bytes filling))
does_of (edit.Move from to) key s notice t (x, n, place, finds, free, apart, is, told) = subst IsNoticeOf (sym told) tt
does_of (edit.Bit path bit) key s notice t (x, n, finds, file, is, told) = subst IsNoticeOf (sym told) tt
does_of (edit.Remove path) key s notice t is = absurd is

removed_of : (gone : List ℕ) → All IsNoticeOf (removed gone)
removed_of [] = all_none IsNoticeOf
removed_of (x ∷ gone) = all_front IsNoticeOf _ (removed gone) tt (removed_of gone)

behind : (s t : MemState) (notices : List Noticed) → All IsNoticeOf s.pending → All IsNoticeOf notices → t.pending ≡ s.pending ++ notices → All IsNoticeOf t.pending
behind s t notices was new is = subst (All IsNoticeOf) (sym is) (all_append IsNoticeOf s.pending notices was new)

once_of : (e : UserEdit) (s t : MemState) → All IsNoticeOf s.pending → ChangesOnce e s t → All IsNoticeOf t.pending
once_of e s t was (notice, does, later, pending) =
    behind s t (notice ∷ []) was (all_front IsNoticeOf notice [] (does_of e s.next s.held notice t.held does) (all_none IsNoticeOf)) pending

done_of : (e : UserEdit) (s t : MemState) → All IsNoticeOf s.pending → IsDone e s t → All IsNoticeOf t.pending
done_of (edit.Remove path) s t was (notices, (gone, finds, cut, told), later, pending) =
    behind s t notices was (subst (All IsNoticeOf) (sym told) (removed_of (reverse gone))) pending
done_of (edit.Mkdir path) s t was once = once_of (edit.Mkdir path) s t was once
done_of (edit.Write path filling) s t was once = once_of (edit.Write path filling) s t was once
done_of (edit.Move from to) s t was once = once_of (edit.Move from to) s t was once
done_of (edit.Bit path bit) s t was once = once_of (edit.Bit path bit) s t was once

same_of : (s t : MemState) → t ≡ s → All IsNoticeOf s.pending → All IsNoticeOf t.pending
same_of s t same was = subst (λ (m : MemState). All IsNoticeOf m.pending) (sym same) was

pub user_of : (e : UserEdit) (s : MemState) (answer : UserReply) (t : MemState) → All IsNoticeOf s.pending → UserAnswers e s answer t → All IsNoticeOf t.pending
user_of e s reply.Ok t was done = done_of e s t was done
user_of e s reply.NoSuch t was (why, same) = same_of s t same was
user_of e s reply.NoParent t was (why, same) = same_of s t same was
user_of e s reply.Kind t was (why, same) = same_of s t same was
user_of e s reply.Taken t was (why, same) = same_of s t same was
user_of e s reply.Cycle t was (why, same) = same_of s t same was
user_of e s reply.Memory t was (why, same) = same_of s t same was

-- A LISTING
item_by : (x : ℕ) (o : Option Node) (bytes : Option (List ℕ)) (item : Item) → IsItemAt x o bytes item → IsItemOf item
item_by x None bytes item is = absurd is
item_by x (Some n) bytes item is = subst IsItemOf (sym is) (of_option bytes)

inside_of : (s : FolderState) (x : ℕ) (items : List Item) → AreInside s x items → All IsItemOf items
inside_of s x items inside =
    all_map (IsIn s x) IsItemOf (λ item is. item_by item.key.0 (get s.tree item.key.0) (get s.bytes item.key.0) item is.0) items inside.each

unfolded_of : (s : FolderState) (top all : List Item) → All IsItemOf top → Unfolds s top all → All IsItemOf all
unfolded_of s _ _ of none = all_none IsItemOf
unfolded_of s _ _ of (next item inside tops under rest is unfolds more) =
    all_front IsItemOf item (under ++ rest) (all_first IsItemOf item tops of)
    (all_append IsItemOf under rest (unfolded_of s inside under (inside_of s item.key.0 inside is) unfolds) (unfolded_of s tops rest (all_rest IsItemOf item tops of) more))

pub listing_of : (s : FolderState) (items : List Item) → IsListing s items → All IsItemOf items
listing_of s items listing = unfolded_of s listing.top items (inside_of s 0 listing.top listing.inside) listing.unfolds
