-- What a user does leaves a shelf with keys below the next.
use Rattle.std.proofs.Common.{◌≡◌, ◌≢◌, ◌<◌, ◌≤◌, ◌++◌, ◌+◌, ℕ, zero, suc, Bool, false, List, [], ◌∷◌, reverse, Option, None, Some, refl, sym, subst, ◌∙◌, inl, inr, arith}
use Rattle.std.proofs.lemmas.List.{reverse-append, reverse-reverse}
use Rattle.std.specs.Prelude.{Contains}
use Rattle.std.specs.FinMap.{get, insert, remove}
use Rattle.nuc_base.specs.Kinds.{Fits, FitsKind}
use Rattle.nuc_base.specs.Legal.{LegalPut}
use Rattle.nuc_base.specs.Trees.{IsUnder, NoChild, Nodes, WellFormed}
use Rattle.nuc_base.specs.declared.node.Kind.{Kind}
use Rattle.nuc_base.specs.declared.node.Kind.TheVariants.{Folder, File}
use Rattle.nuc_base.specs.declared.node.Node.{Node}
use Rattle.nuc_base.specs.declared.node.Place.{Place}
use Rattle.nuc_base.proofs.Forms.{cut_keeps, put_keeps}
use Rattle.nuc_base.proofs.Maps.{after_cut, get_cut_other, get_cut_same, not_both, same_nodes, same_or_not}
use Rattle.nuc_folder.specs.Listing.{AreBelow, Unfolds, keys_of}
use Rattle.nuc_folder.specs.Listing.Unfolds.{none, next}
use Rattle.nuc_folder.specs.Memory.{IsKeyed, MemState}
use Rattle.nuc_folder.specs.Removals.{ChildrenLater, Has, Removes, all_cut}
use Rattle.nuc_folder.specs.State.{FolderState}
use Rattle.nuc_folder.specs.User.{ChangesOnce, IsDone, UserAnswers}
use Rattle.nuc_folder.specs.UserEdits.{Does, FindsPlace, next_after}
use Rattle.nuc_folder.specs.declared.item.Item.{Item}
use Rattle.nuc_folder.specs.declared.noticed.Noticed.{Noticed}
use Rattle.nuc_folder.specs.declared.noticed.Noticed.TheVariants as noticed
use Rattle.nuc_folder.specs.declared.user_edit.UserEdit.{UserEdit}
use Rattle.nuc_folder.specs.declared.user_edit.UserEdit.TheVariants as edit
use Rattle.nuc_folder.specs.declared.user_edit.UserReply.{UserReply}
use Rattle.nuc_folder.specs.declared.user_edit.UserReply.TheVariants as answer
use Rattle.nuc_folder.proofs.UserChanges.{legal_moved, legal_new}
use Rattle.nuc_folder.proofs.UserKeys.{user_below}
use Rattle.nuc_hash.specs.Filling.{filling_bytes}
use Rattle.nuc_paths.proofs.Following.{leads_folder}
use Rattle.nuc_shelf.proofs.Shelves.{changed_is, mark_legal, put_file, put_node, refilled_is, without_is}
use Rattle.nuc_shelf.specs.Shelf.{IsShelf, ShelfState, changed, file_at, folder_at, marked, moved, placed, with_bit, with_file, with_folder, without}

-- A REMOVAL. In a listing what stands in a folder comes later than the folder
has_at : (keys : List ℕ) (x : ℕ) → Contains keys x → Has keys x
has_at [] x (k, within, is) = absurd (omega arith)
has_at (y ∷ keys) x (zero, within, is) = inl is
has_at (y ∷ keys) x (suc k, within, is) = inr (has_at keys x (k, omega arith, is))

has_left : (xs ys : List Item) (x : ℕ) → Has (keys_of xs) x → Has (keys_of (xs ++ ys)) x
has_left [] ys x has = absurd has
has_left (i ∷ xs) ys x (inl is) = inl is
has_left (i ∷ xs) ys x (inr has) = inr (has_left xs ys x has)

has_right : (xs ys : List Item) (x : ℕ) → Has (keys_of ys) x → Has (keys_of (xs ++ ys)) x
has_right [] ys x has = has
has_right (i ∷ xs) ys x has = inr (has_right xs ys x has)

later_joined : (m : Nodes) (xs ys : List Item) → ChildrenLater m (keys_of xs) → ChildrenLater m (keys_of ys) → ChildrenLater m (keys_of (xs ++ ys))
later_joined m [] ys left right = right
later_joined m (i ∷ xs) ys left right = (λ y n at in_it. has_left xs ys y (left.0 y n at in_it), later_joined m xs ys left.1 right)

top_has : (s : FolderState) (top all : List Item) (x : ℕ) → Unfolds s top all → Has (keys_of top) x → Has (keys_of all) x
top_has s top all x none has = absurd has
top_has s top all x (next item inside items below rest its unfolds more) (inl is) = inl is
top_has s top all x (next item inside items below rest its unfolds more) (inr has) = inr (has_right below rest x (top_has s items rest x more has))

unfolds_later : (s : FolderState) (top all : List Item) → Unfolds s top all → ChildrenLater s.tree (keys_of all)
unfolds_later s top all none = tt
unfolds_later s top all (next item inside items below rest its unfolds more) = (
  λ y n at in_it. has_left below rest y (top_has s inside below y unfolds (has_at (keys_of inside) y (its.all y n at in_it))),
  later_joined s.tree below rest (unfolds_later s inside below unfolds) (unfolds_later s items rest more),
)

below_later : (s : FolderState) (x : ℕ) (items : List Item) → AreBelow s x items → ChildrenLater s.tree (x ∷ keys_of items)
below_later s x items below = (
  λ y n at in_it. top_has s below.top items y below.unfolds (has_at (keys_of below.top) y (below.inside.all y n at in_it)),
  unfolds_later s below.top items below.unfolds,
)

-- so the last one is empty, and may go
last_empty : (m : Nodes) (keys : List ℕ) (x : ℕ) → ChildrenLater m (keys ++ x ∷ []) → NoChild m x
last_empty m [] x later = λ y n at in_it. later.0 y n at in_it
last_empty m (z ∷ keys) x later = last_empty m keys x later.1

has_before : (keys : List ℕ) (x y : ℕ) → y ≢ x → Has (keys ++ x ∷ []) y → Has keys y
has_before [] x y apart (inl is) = absurd (apart (sym is))
has_before [] x y apart (inr has) = absurd has
has_before (z ∷ keys) x y apart (inl is) = inl is
has_before (z ∷ keys) x y apart (inr has) = inr (has_before keys x y apart has)

later_before : (m : Nodes) (keys : List ℕ) (x : ℕ) → ChildrenLater m (keys ++ x ∷ []) → ChildrenLater (remove m x) keys
later_before m [] x later = tt
later_before m (z ∷ keys) x later = (
  λ y n at in_it. let (apart, there) = after_cut m x y n at in has_before keys x y apart (later.0 y n there in_it),
  later_before m keys x later.1,
)

-- what isn't there is cut already
tree_cut : (m : Nodes) (x : ℕ) → get m x ≡ None → m ≡ remove m x
tree_cut m x gone = same_nodes m (remove m x) (λ y. elim (same_or_not y x) [
  | inl e ↦ rw e (gone ∙ sym (get_cut_same m x))
  | inr apart ↦ sym (get_cut_other m x y apart)
])

form_cut : (m : Nodes) (x : ℕ) (o : Option Node) → get m x ≡ o → WellFormed m → NoChild m x → WellFormed (remove m x)
form_cut m x None at form empty = subst WellFormed (tree_cut m x at) form
form_cut m x (Some n) at form empty = cut_keeps m x form (record { there = (n, at); empty = empty })

cut_shelf : (s : ShelfState) (keys : List ℕ) → IsShelf s → ChildrenLater s.tree (reverse keys) → IsShelf (all_cut s keys)
cut_shelf s [] shelf later = shelf
cut_shelf s (x ∷ keys) shelf later =
    let last : ChildrenLater s.tree (reverse keys ++ x ∷ []) = subst (ChildrenLater s.tree) (reverse-append (x ∷ []) keys) later in
    cut_shelf (without s x) keys
    (without_is s x shelf (form_cut s.tree x (get s.tree x) refl shelf.form (last_empty s.tree (reverse keys) x last)))
    (later_before s.tree (reverse keys) x last)

removed_shelf : (s t : ShelfState) (names : List (List ℕ)) (notices : List Noticed) → IsShelf s → Removes s names notices t → IsShelf t
removed_shelf s t names notices shelf (keys, (x, n, items, finds, below, are), now, told) =
    let later : ChildrenLater s.tree keys = subst (ChildrenLater s.tree) (sym are) (below_later s x items below) in
    subst IsShelf (sym now) (cut_shelf s (reverse keys) shelf (subst (ChildrenLater s.tree) (sym (reverse-reverse keys)) later))

-- ONE CHANGE
gone : (m : Nodes) (key : ℕ) (o : Option Node) → ((x : ℕ) (n : Node) → get m x ≡ Some n → x < key) → get m key ≡ o → o ≡ None
gone m key None below at = refl
gone m key (Some n) below at = let less : key < key = below key n at in absurd (omega (arith, less))

module _ (s : MemState) (was : IsKeyed s) where
  absent : get s.held.tree s.next ≡ None
  absent = gone s.held.tree s.next (get s.held.tree s.next) was.below refl

  -- something new
  new_legal : (names : List (List ℕ)) (n : Node) → FindsPlace s.held.tree names n.place → LegalPut s.held.tree s.next n
  new_legal names n finds =
      legal_new s.held.tree s.next n was.shelf.form was.some absent (leads_folder s.held.tree 0 names n.place.parent.0 n.place.name finds.0) finds.1

  new_form : (n : Node) → LegalPut s.held.tree s.next n → FitsKind n → WellFormed (insert s.held.tree s.next n)
  new_form n legal fits = put_keeps s.held.tree s.next n was.shelf.form legal was.some fits

  made_shelf : (names : List (List ℕ)) (place : Place) → FindsPlace s.held.tree names place → IsShelf (with_folder s.held s.next place)
  made_shelf names place finds =
      let n : Node = folder_at place in
      let legal = new_legal names n finds in
      put_node s.held s.next n was.shelf (new_form n legal (refl, refl)) (λ e. cc) legal.kind (λ e. cc)

  wrote_shelf : (names : List (List ℕ)) (place : Place) (bytes : List ℕ) → FindsPlace s.held.tree names place
      → IsShelf (with_file s.held s.next place false bytes)
  wrote_shelf names place bytes finds =
      let n : Node = file_at place false in
      let legal = new_legal names n finds in
      put_file s.held s.next n was.shelf (new_form n legal (omega arith)) (λ e. refl) bytes refl legal.kind

  -- what is there
  module _ (x : ℕ) (n : Node) (at : get s.held.tree x ≡ Some n) where
    some_key : (y : ℕ) → x ≡ y → 0 < y
    some_key zero is = absurd (not_both s.held.tree 0 n was.shelf.form.no_root (subst (λ z. get s.held.tree z ≡ Some n) is at))
    some_key (suc y) is = omega arith

    put_again : (new : Node) → LegalPut s.held.tree x new → FitsKind new → new.kind ≡ n.kind → new.ver.0 ≡ n.ver.0
        → IsShelf (record { tree = insert s.held.tree x new; bytes = s.held.bytes })
    put_again new legal fits kind ver =
        put_node s.held x new was.shelf (put_keeps s.held.tree x new was.shelf.form legal (some_key x refl) fits)
        (λ file. ver ∙ was.shelf.versions x n at (sym kind ∙ file)) legal.kind (λ file. (n, at, sym kind ∙ file))

    tree_is : (f : Node → Node) (b : _) → IsShelf (record { tree = insert s.held.tree x (f n); bytes = b })
        → IsShelf (record { tree = changed s.held.tree x f (get s.held.tree x); bytes = b })
    tree_is f b shelf = subst (λ m. IsShelf (record { tree = m; bytes = b })) (sym (changed_is s.held.tree x f n (get s.held.tree x) at)) shelf

    moved_shelf : (names : List (List ℕ)) (place : Place) → FindsPlace s.held.tree names place → ¬ (IsUnder s.held.tree place.parent.0 x)
        → IsShelf (moved s.held x place)
    moved_shelf names place finds apart =
        tree_is (placed place) s.held.bytes (put_again (placed place n)
        (legal_moved s.held.tree x n place at (leads_folder s.held.tree 0 names place.parent.0 place.name finds.0) finds.1 apart)
        (was.shelf.form.fits x n at) refl refl)

    marked_shelf : (bit : Bool) → n.kind ≡ File → IsShelf (marked s.held x bit)
    marked_shelf bit file =
        tree_is (with_bit bit) s.held.bytes (put_again (with_bit bit n) (mark_legal s.held.tree x n bit was.shelf.form at) (fits_bit n.kind file (was.shelf.form.fits x n at)) refl refl)
      where
        fits_bit : (k : Kind) → k ≡ File → Fits k n.ver.0 n.bit → Fits k n.ver.0 bit
        fits_bit Folder file fits = cc
        fits_bit File file fits = fits

  does_shelf : (e : UserEdit) (notice : Noticed) (t : ShelfState) → Does e s.next s.held notice t → IsShelf t
  does_shelf (edit.Mkdir path) notice t (place, finds, now, told) = subst IsShelf (sym now) (made_shelf path.names place finds)
  does_shelf (edit.Write path filling) notice t (inl (place, finds, (now, told))) = subst IsShelf (sym now) (wrote_shelf path.names place (filling_bytes filling) finds)
  does_shelf (edit.Write path filling) notice t (inr (x, n, (place, leads, at, same), file, (now, told))) =
      subst IsShelf (sym now) (refilled_is s.held x (filling_bytes filling) was.shelf (n, at, file))
  does_shelf (edit.Move from to) notice t (x, n, place, (old, leads, at, same), finds, apart, now, told) =
      subst IsShelf (sym now) (moved_shelf x n at to.names place finds apart)
  does_shelf (edit.Bit path bit) notice t (x, n, (place, leads, at, same), file, now, told) = subst IsShelf (sym now) (marked_shelf x n at bit file)
  does_shelf (edit.Remove path) notice t is = absurd is

next_more : (notice : Noticed) (n : ℕ) → n ≤ next_after notice n
next_more (noticed.Made item) n = omega arith
next_more (noticed.Written key content) n = omega arith
next_more (noticed.Moved key place) n = omega arith
next_more (noticed.Removed key) n = omega arith
next_more (noticed.Bit key bit) n = omega arith

-- EACH EDIT
pub record IsShelved (t : MemState) : Type 0 where
  pub shelf : IsShelf t.held
  pub some : 0 < t.next

module _ (s t : MemState) (was : IsKeyed s) where
  once : (e : UserEdit) → ChangesOnce e s t → IsShelved t
  once e (notice, does, later, pending) = record {
    shelf = does_shelf s was e notice t.held does;
    some = let some = was.some in let more = next_more notice s.next in omega (arith, later, some, more);
  }

  done : (e : UserEdit) → IsDone e s t → IsShelved t
  done (edit.Remove path) (notices, removes, later, pending) =
      record { shelf = removed_shelf s.held t.held path.names notices was.shelf removes; some = let some = was.some in omega (arith, later, some) }
  done (edit.Mkdir path) is = once (edit.Mkdir path) is
  done (edit.Write path filling) is = once (edit.Write path filling) is
  done (edit.Move from to) is = once (edit.Move from to) is
  done (edit.Bit path bit) is = once (edit.Bit path bit) is

  stays : t ≡ s → IsShelved t
  stays same = subst IsShelved (sym same) (record { shelf = was.shelf; some = was.some })

  answered : (e : UserEdit) (reply : UserReply) → UserAnswers e s reply t → IsShelved t
  answered e answer.Ok is = done e is
  answered e answer.NoSuch (why, same) = stays same
  answered e answer.NoParent (why, same) = stays same
  answered e answer.Kind (why, same) = stays same
  answered e answer.Taken (why, same) = stays same
  answered e answer.Cycle (why, same) = stays same
  answered e answer.Memory (why, same) = stays same

pub user_keyed : (e : UserEdit) (s : MemState) (reply : UserReply) (t : MemState) → IsKeyed s → UserAnswers e s reply t → IsKeyed t
user_keyed e s reply t was is =
    let so = answered s t was e reply is in record { shelf = so.shelf; below = user_below e s reply t was.below is; some = so.some }
