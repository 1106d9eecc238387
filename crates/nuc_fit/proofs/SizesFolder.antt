-- What a user does in a folder, and what is listed: files stay short, and what is told of them has few blocks.
use Rattle.std.specs.Prelude.{All, IfSome, reverse}
use Rattle.std.proofs.Common.{◌≡◌, ◌==◌, ◌++◌, ℕ, true, false, cond, List, [], ◌∷◌, Option, Some, None, refl, sym, ◌∙◌, subst, inl, inr}
use Rattle.std.proofs.lemmas.List.Elements.{All-append, All-cons, All-head, All-nil, All-tail, All-weaker}
use Rattle.std.specs.FinMap.{get}
use Rattle.nuc_base.specs.declared.node.Node.{Node}
use Rattle.nuc_folder.specs.Listing.{AreInside, IsIn, IsItemAt, IsListing, Unfolds}
use Rattle.nuc_folder.specs.Listing.Unfolds.{none, next}
use Rattle.nuc_folder.specs.Memory.{MemState}
use Rattle.nuc_folder.specs.Removals.{all_cut, removed}
use Rattle.nuc_folder.specs.State.{FolderState}
use Rattle.nuc_folder.specs.User.{ChangesOnce, IsDone, UserAnswers}
use Rattle.nuc_folder.specs.UserEdits.{Does}
use Rattle.nuc_folder.specs.declared.item.Item.{Item}
use Rattle.nuc_folder.specs.declared.noticed.Noticed.{Noticed}
use Rattle.nuc_folder.specs.declared.noticed.Noticed.TheVariants as noticed
use Rattle.nuc_folder.specs.declared.user_edit.UserEdit.{UserEdit}
use Rattle.nuc_folder.specs.declared.user_edit.UserEdit.TheVariants as edit
use Rattle.nuc_folder.specs.declared.user_edit.UserReply.{UserReply}
use Rattle.nuc_folder.specs.declared.user_edit.UserReply.TheVariants as reply
use Rattle.nuc_hash.specs.Filling.{filling_bytes}
use Rattle.nuc_script.specs.Fitting.{FitsEdit}
use Rattle.nuc_shelf.specs.Files.{led}
use Rattle.nuc_shelf.specs.Shelf.{Bytes, without}
use Rattle.nuc_shelf.proofs.Bytes.{get_led}
use Rattle.nuc_fit.proofs.SizesShort.{AreFew, FilesAreShort, HasFewBlocks, few_blocks, few_blocks_of}

-- WHAT IS TOLD. A folder has no content
abbrev pub IsFewItem : Item → Type 0
IsFewItem item = IfSome item.content HasFewBlocks

abbrev pub IsFewNotice : Noticed → Type 0
IsFewNotice (noticed.Made item) = IsFewItem item
IsFewNotice (noticed.Written key content) = HasFewBlocks content
IsFewNotice _ = Unit {0}

-- BYTES OF FILES: others come under x, or none
given : (to : Option (List ℕ)) (bytes : List ℕ) → to ≡ Some bytes → IfSome to AreFew → AreFew bytes
given None bytes is few = cc
given (Some b) bytes is few = let same : b ≡ bytes = cc in subst AreFew same few

led_short : (m : Bytes) (x : ℕ) (to : Option (List ℕ)) → ((y : ℕ) (bytes : List ℕ) → get m y ≡ Some bytes → AreFew bytes) → IfSome to AreFew
    → (y : ℕ) (bytes : List ℕ) → get (led m x to) y ≡ Some bytes → AreFew bytes
led_short m x to all few y bytes at = elim (y == x) as (λ b. cond b to (get m y) ≡ Some bytes → AreFew bytes) [
  | true ↦ λ here. given to bytes here few
  | false ↦ λ there. all y bytes there
] (sym (get_led m x to y) ∙ at)

-- a folder with other bytes under x
pub written_short : (s t : FolderState) (x : ℕ) (bytes : List ℕ) → t.bytes ≡ led s.bytes x (Some bytes) → FilesAreShort s → AreFew bytes → FilesAreShort t
written_short s t x bytes is all few =
    subst (λ (m : Bytes). (y : ℕ) (b : List ℕ) → get m y ≡ Some b → AreFew b) (sym is) (led_short s.bytes x (Some bytes) all few)

pub without_short : (s : FolderState) (x : ℕ) → FilesAreShort s → FilesAreShort (without s x)
without_short s x all = led_short s.bytes x None all tt

-- and one with the same
pub same_short : (s t : FolderState) → t ≡ s → FilesAreShort s → FilesAreShort t
same_short s t is all = subst FilesAreShort (sym is) all

all_cut_short : (keys : List ℕ) (s : FolderState) → FilesAreShort s → FilesAreShort (all_cut s keys)
all_cut_short [] s all = all
all_cut_short (x ∷ keys) s all = all_cut_short keys (without s x) (without_short s x all)

-- WHAT A USER DOES
pub record StaysShort (m : MemState) : Type 0 where
  pub held : FilesAreShort m.held
  pub pending : All IsFewNotice m.pending

record Leaves (notice : Noticed) (t : FolderState) : Type 0 where
  held : FilesAreShort t
  told : IsFewNotice notice

leaves : (notice n : Noticed) (t u : FolderState) → t ≡ u → notice ≡ n → FilesAreShort u → IsFewNotice n → Leaves notice t
leaves notice n t u is told held few = record { held = same_short u t is held; told = subst IsFewNotice (sym told) few }

does_short : (e : UserEdit) → FitsEdit e → (key : ℕ) (s : FolderState) (notice : Noticed) (t : FolderState) → FilesAreShort s → Does e key s notice t → Leaves notice t
does_short (edit.Mkdir path) fits key s notice t all (place, finds, is, told) = leaves notice _ t _ is told all tt
does_short (edit.Write path filling) fits key s notice t all (inl (place, finds, (is, told))) =
    leaves notice _ t _ is told (led_short s.bytes key (Some (filling_bytes filling)) all fits.1) (few_blocks (filling_bytes filling) fits.1)
does_short (edit.Write path filling) fits key s notice t all (inr (x, n, finds, file, (is, told))) =
    leaves notice _ t _ is told (led_short s.bytes x (Some (filling_bytes filling)) all fits.1) (few_blocks (filling_bytes filling) fits.1)
does_short (edit.Move from to) fits key s notice t all (x, n, place, finds, free, apart, is, told) = leaves notice _ t _ is told all tt
does_short (edit.Bit path bit) fits key s notice t all (x, n, finds, file, is, told) = leaves notice _ t _ is told all tt
does_short (edit.Remove path) fits key s notice t all is = absurd is

removed_few : (gone : List ℕ) → All IsFewNotice (removed gone)
removed_few [] = All-nil IsFewNotice
removed_few (x ∷ gone) = All-cons IsFewNotice _ (removed gone) tt (removed_few gone)

behind : (s t : MemState) (notices : List Noticed) → All IsFewNotice s.pending → All IsFewNotice notices → t.pending ≡ s.pending ++ notices → All IsFewNotice t.pending
behind s t notices was new is = subst (All IsFewNotice) (sym is) (All-append IsFewNotice s.pending notices was new)

once_short : (e : UserEdit) → FitsEdit e → (s t : MemState) → StaysShort s → ChangesOnce e s t → StaysShort t
once_short e fits s t was (notice, does, later, pending) =
    let its = does_short e fits s.next s.held notice t.held was.held does in
    record {
      held = its.held;
      pending = behind s t (notice ∷ []) was.pending (All-cons IsFewNotice notice [] its.told (All-nil IsFewNotice)) pending;
    }

done_short : (e : UserEdit) → FitsEdit e → (s t : MemState) → StaysShort s → IsDone e s t → StaysShort t
done_short (edit.Remove path) fits s t was (notices, (gone, finds, cut, told), later, pending) = record {
  held = same_short _ t.held cut (all_cut_short (reverse gone) s.held was.held);
  pending = behind s t notices was.pending (subst (All IsFewNotice) (sym told) (removed_few (reverse gone))) pending;
}
done_short (edit.Mkdir path) fits s t was once = once_short (edit.Mkdir path) fits s t was once
done_short (edit.Write path filling) fits s t was once = once_short (edit.Write path filling) fits s t was once
done_short (edit.Move from to) fits s t was once = once_short (edit.Move from to) fits s t was once
done_short (edit.Bit path bit) fits s t was once = once_short (edit.Bit path bit) fits s t was once

unchanged : (s t : MemState) → t ≡ s → StaysShort s → StaysShort t
unchanged s t same was = subst StaysShort (sym same) was

pub user_short : (e : UserEdit) → FitsEdit e → (s : MemState) (answer : UserReply) (t : MemState) → StaysShort s → UserAnswers e s answer t → StaysShort t
user_short e fits s reply.Ok t was done = done_short e fits s t was done
user_short e fits s reply.NoSuch t was (why, same) = unchanged s t same was
user_short e fits s reply.NoParent t was (why, same) = unchanged s t same was
user_short e fits s reply.Kind t was (why, same) = unchanged s t same was
user_short e fits s reply.Taken t was (why, same) = unchanged s t same was
user_short e fits s reply.Cycle t was (why, same) = unchanged s t same was
user_short e fits s reply.Memory t was (why, same) = unchanged s t same was

-- A LISTING
item_few : (x : ℕ) (o : Option Node) (bytes : Option (List ℕ)) (item : Item) → IfSome bytes AreFew → IsItemAt x o bytes item → IsFewItem item
item_few x None bytes item few is = absurd is
item_few x (Some n) bytes item few is = subst IsFewItem (sym is) (few_blocks_of bytes few)

if_there : (o : Option (List ℕ)) → ((bytes : List ℕ) → o ≡ Some bytes → AreFew bytes) → IfSome o AreFew
if_there None each = tt
if_there (Some bytes) each = each bytes refl

module _ (s : FolderState) (all : FilesAreShort s) where
  inside_few : (x : ℕ) (items : List Item) → AreInside s x items → All IsFewItem items
  inside_few x items inside = All-weaker (IsIn s x) IsFewItem
      (λ item is. item_few item.key.0 (get s.tree item.key.0) (get s.bytes item.key.0) item (if_there (get s.bytes item.key.0) (all item.key.0)) is.0) items inside.each

  unfolded_few : (top items : List Item) → All IsFewItem top → Unfolds s top items → All IsFewItem items
  unfolded_few _ _ few none = All-nil IsFewItem
  unfolded_few _ _ few (next item inside tops under rest is unfolds more) =
      All-cons IsFewItem item (under ++ rest) (All-head IsFewItem item tops few)
      (All-append IsFewItem under rest (unfolded_few inside under (inside_few item.key.0 inside is) unfolds) (unfolded_few tops rest (All-tail IsFewItem item tops few) more))

  pub listing_few : (items : List Item) → IsListing s items → All IsFewItem items
  listing_few items listing = unfolded_few listing.top items (inside_few 0 listing.top listing.inside) listing.unfolds
