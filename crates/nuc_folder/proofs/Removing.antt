-- In a listing what stands in a folder comes later than the folder, so that it can be removed from the end.
use Rattle.std.proofs.Common.{◌≡◌, ◌≢◌, ◌<◌, ◌++◌, ◌+◌, ℕ, zero, suc, Bool, true, false, List, [], ◌∷◌, length, map, reverse, Option, None, Some, refl, sym, ap, subst, ◌∙◌, inl, inr, arith, append_assoc, is_some}
use Rattle.std.proofs.lemmas.List.{reverse-append}
use Rattle.std.specs.Prelude.{Contains}
use Rattle.std.specs.FinMap.{get, remove}
use Rattle.nuc_base.specs.Trees.{Nodes, NoChild}
use Rattle.nuc_base.specs.declared.node.Node.{Node}
use Rattle.nuc_base.proofs.Maps.{after_cut, get_cut_same, get_cut_other, not_both, same_nodes, same_or_not}
use Rattle.nuc_folder.specs.Listing.{AreBelow, AreInside, Unfolds, keys_of}
use Rattle.nuc_folder.specs.Listing.Unfolds.{none, next}
use Rattle.nuc_shelf.proofs.Bytes.{led_same, led_other, same_bytes}
use Rattle.nuc_shelf.specs.Files.{led}
use Rattle.nuc_shelf.specs.Shelf.{IsShelf, ShelfState, without}
use Rattle.nuc_folder.specs.Removals.{ChildrenLater, Has, all_cut, removed}
use Rattle.nuc_folder.specs.State.{FolderState, KeysBelow}
use Rattle.nuc_folder.specs.declared.item.Item.{Item}
use Rattle.nuc_folder.specs.declared.noticed.Noticed.{Noticed}
use Rattle.nuc_folder.specs.declared.noticed.Noticed.TheVariants as noticed

has_at : (keys : List ℕ) (x : ℕ) → Contains keys x → Has keys x
has_at [] x (k, within, is) = absurd (omega arith)
has_at (y ∷ keys) x (zero, within, is) = inl is
has_at (y ∷ keys) x (suc k, within, is) = inr (has_at keys x (k, omega arith, is))

has_left : (xs ys : List Item) (x : ℕ) → Has (keys_of xs) x → Has (keys_of (xs ++ ys)) x
has_left [] ys x has = absurd has
has_left (i ∷ xs) ys x (inl is) = inl is
has_left (i ∷ xs) ys x (inr has) = inr (has_left xs ys x has)

has_right : (xs ys : List Item) (x : ℕ) → Has (keys_of ys) x → Has (keys_of (xs ++ ys)) x
has_right [] ys x has = has
has_right (i ∷ xs) ys x has = inr (has_right xs ys x has)

later_joined : (m : Nodes) (xs ys : List Item) → ChildrenLater m (keys_of xs) → ChildrenLater m (keys_of ys) → ChildrenLater m (keys_of (xs ++ ys))
later_joined m [] ys left right = right
later_joined m (i ∷ xs) ys left right = (λ y n at in_it. has_left xs ys y (left.0 y n at in_it), later_joined m xs ys left.1 right)

top_has : (s : FolderState) (top all : List Item) (x : ℕ) → Unfolds s top all → Has (keys_of top) x → Has (keys_of all) x
top_has s top all x none has = absurd has
top_has s top all x (next item inside items below rest its unfolds more) (inl is) = inl is
top_has s top all x (next item inside items below rest its unfolds more) (inr has) = inr (has_right below rest x (top_has s items rest x more has))

unfolds_later : (s : FolderState) (top all : List Item) → Unfolds s top all → ChildrenLater s.tree (keys_of all)
unfolds_later s top all none = tt
unfolds_later s top all (next item inside items below rest its unfolds more) = (
  λ y n at in_it. has_left below rest y (top_has s inside below y unfolds (has_at (keys_of inside) y (its.all y n at in_it))),
  later_joined s.tree below rest (unfolds_later s inside below unfolds) (unfolds_later s items rest more),
)

-- x, and what is below it
pub below_later : (s : FolderState) (x : ℕ) (items : List Item) → AreBelow s x items → ChildrenLater s.tree (x ∷ keys_of items)
below_later s x items below = (
  λ y n at in_it. top_has s below.top items y below.unfolds (has_at (keys_of below.top) y (below.inside.all y n at in_it)),
  unfolds_later s below.top items below.unfolds,
)

-- FROM THE END
pub last_empty : (m : Nodes) (keys : List ℕ) (x : ℕ) → ChildrenLater m (keys ++ x ∷ []) → NoChild m x
last_empty m [] x later = λ y n at in_it. later.0 y n at in_it
last_empty m (z ∷ keys) x later = last_empty m keys x later.1

has_before : (keys : List ℕ) (x y : ℕ) → y ≢ x → Has (keys ++ x ∷ []) y → Has keys y
has_before [] x y apart (inl is) = absurd (apart (sym is))
has_before [] x y apart (inr has) = absurd has
has_before (z ∷ keys) x y apart (inl is) = inl is
has_before (z ∷ keys) x y apart (inr has) = inr (has_before keys x y apart has)

pub later_before : (m : Nodes) (keys : List ℕ) (x : ℕ) → ChildrenLater m (keys ++ x ∷ []) → ChildrenLater (remove m x) keys
later_before m [] x later = tt
later_before m (z ∷ keys) x later = (
  λ y n at in_it. let (apart, there) = after_cut m x y n at in has_before keys x y apart (later.0 y n there in_it),
  later_before m keys x later.1,
)

-- ONE STEP
reversed : {A : Type 0} (xs : List A) (x : A) → reverse (xs ++ x ∷ []) ≡ x ∷ reverse xs
reversed xs x = reverse-append xs (x ∷ [])

pub step_now : (s t : ShelfState) (keys rest : List ℕ) (x : ℕ) → keys ≡ rest ++ x ∷ [] → t ≡ without s x → all_cut t (reverse rest) ≡ all_cut s (reverse keys)
step_now s t keys rest x is cut =
    ap (λ (u : ShelfState). all_cut u (reverse rest)) cut ∙ sym (ap (all_cut s) (ap reverse is ∙ reversed rest x))

pub step_told : (before after : List Noticed) (keys rest : List ℕ) (x : ℕ) → keys ≡ rest ++ x ∷ [] → after ≡ before ++ noticed.Removed (record { 0 = x }) ∷ []
    → after ++ removed (reverse rest) ≡ before ++ removed (reverse keys)
step_told before after keys rest x is told =
    ap (λ l. l ++ removed (reverse rest)) told ∙ append_assoc before (noticed.Removed (record { 0 = x }) ∷ []) (removed (reverse rest))
    ∙ sym (ap (λ l. before ++ removed l) (ap reverse is ∙ reversed rest x))

-- what isn't there is cut already
no_bytes : (s : ShelfState) (x : ℕ) (o : Option (List ℕ)) → IsShelf s → get s.tree x ≡ None → get s.bytes x ≡ o → o ≡ None
no_bytes s x None shelf gone is = refl
no_bytes s x (Some bytes) shelf gone is =
    let (n, there, file) = shelf.files x (ap is_some is) in absurd (not_both s.tree x n gone there)

pub cut_already : (s : ShelfState) (x : ℕ) → IsShelf s → get s.tree x ≡ None → s ≡ without s x
cut_already s x shelf gone =
    let tree = same_nodes s.tree (remove s.tree x) (λ y. elim (same_or_not y x) [
      | inl e ↦ rw e (gone ∙ sym (get_cut_same s.tree x))
      | inr apart ↦ sym (get_cut_other s.tree x y apart)
    ]) in
    let bytes = same_bytes s.bytes (led s.bytes x None) (λ y. elim (same_or_not y x) [
      | inl e ↦ rw e (no_bytes s x (get s.bytes x) shelf gone refl ∙ sym (led_same s.bytes x None))
      | inr apart ↦ sym (led_other s.bytes x None y apart)
    ]) in
    λ i. record { tree = tree i; bytes = bytes i }

-- and keys stay below the next
pub cut_below : (n : ℕ) (s : ShelfState) (keys : List ℕ) → KeysBelow n s → KeysBelow n (all_cut s keys)
cut_below n s [] below = below
cut_below n s (x ∷ keys) below = cut_below n (without s x) keys (λ y k at. below y k (after_cut s.tree x y k at).1)
