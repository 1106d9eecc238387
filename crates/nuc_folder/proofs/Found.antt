-- The items of what is in a folder, found child by child.
use Rattle.std.proofs.Common.{◌≡◌, ◌≤◌, ◌+◌, ℕ, zero, suc, List, [], ◌∷◌, ◌++◌, length, take, get_or, Option, Some, None, All, refl, sym, subst, ap, ◌∙◌, inl, inr, arith}
use Rattle.std.specs.List.{slice_get}
use Rattle.std.specs.FinMap.{get}
use Rattle.std.proofs.lemmas.List.{map-append, take_more}
use Rattle.std.proofs.lemmas.List.Elements.{All-append, All-cons, All-nil}
use Rattle.std.proofs.lemmas.Option.{get_or_from_slice_get}
use Rattle.nuc_base.specs.Trees.{IsThere, Nodes, children}
use Rattle.nuc_base.specs.declared.node.Node.{Node}
use Rattle.nuc_base.proofs.Children.{child_below, child_there}
use Rattle.nuc_folder.specs.Listing.{AreFound, IsIn, IsItem, IsItemAt, item_of, keys_of}
use Rattle.nuc_folder.specs.State.{FolderState}
use Rattle.nuc_folder.specs.declared.item.Item.{Item}

pub item_in : (s : FolderState) (x y : ℕ) (n : Node) (item : Item) → get s.tree y ≡ Some n → n.place.parent.0 ≡ x → IsItemAt y (get s.tree y) (get s.bytes y) item
    → IsIn s x item × (item.key.0 ≡ y)
item_in s x y n item at parent it =
    let is : item ≡ item_of y n (get s.bytes y) = subst (λ o. IsItemAt y o (get s.bytes y) item) at it in
    let key : item.key.0 ≡ y = ap (λ (i : Item). i.key.0) is in
    let own : IsItem s item = subst (λ z. IsItemAt z (get s.tree z) (get s.bytes z) item) (sym key) it in
    ((own, ap (λ (i : Item). i.parent.0) is ∙ parent), key)

pub child_is_there : (m k : Nodes) (x i y : ℕ) → k ≡ m → slice_get (children k x) i ≡ Some y → IsThere m y
child_is_there m k x i y same at =
    let row = child_there m x i y (subst (λ t. slice_get (children t x) i ≡ Some y) same at) in
    (row.0, row.1)

-- an item for one more child
pub record Rows (s : FolderState) (x i : ℕ) (items : List Item) : Type 0 where
  pub each : All (IsIn s x) items
  pub keys : keys_of items ≡ take i (children s.tree x)

take_all : (xs : List ℕ) (i : ℕ) → length xs ≤ i → take i xs ≡ xs
take_all [] zero below = refl
take_all [] (suc i) below = refl
take_all (x ∷ xs) zero below = absurd (omega (arith, below))
take_all (x ∷ xs) (suc i) below = ap (λ (l : List ℕ). x ∷ l) (take_all xs i (omega (arith, below)))

pub one_more_found : (s : FolderState) (k : Nodes) (x i y : ℕ) (items new : List Item) (item : Item) → k ≡ s.tree → slice_get (children k x) i ≡ Some y
    → IsItemAt y (get s.tree y) (get s.bytes y) item → new ≡ items ++ item ∷ [] → All (IsIn s x) items → keys_of items ≡ take i (children s.tree x) → Rows s x (i + 1) new
one_more_found s k x i y items new item same at it grown each keys =
    let here : slice_get (children s.tree x) i ≡ Some y = subst (λ t. slice_get (children t x) i ≡ Some y) same at in
    let row = child_there s.tree x i y here in
    let is = item_in s x y row.0 item row.1 row.2 it in
    let below = child_below s.tree x i y here in
    let kids = children s.tree x in
    let one : get_or kids i y ≡ y = get_or_from_slice_get kids i y y here in
    let more : take (i + 1) kids ≡ take i kids ++ y ∷ [] = take_more kids i y below ∙ ap (λ z. take i kids ++ z ∷ []) one in
    subst (Rows s x (i + 1)) (sym grown) (record {
      each = All-append (IsIn s x) items (item ∷ []) each (All-cons (IsIn s x) item [] is.0 (All-nil (IsIn s x)));
      keys = map-append (λ (i : Item). i.key.0) items (item ∷ []) ∙ ap (λ (l : List ℕ). l ++ item.key.0 ∷ []) keys ∙ ap (λ z. take i kids ++ z ∷ []) is.1 ∙ sym more;
    })

-- all children have been there
pub all_found : (s : FolderState) (x i : ℕ) (items : List Item) → All (IsIn s x) items → keys_of items ≡ take i (children s.tree x) → length (children s.tree x) ≤ i
    → AreFound s x items
all_found s x i items each keys all = record { each = each; keys = keys ∙ take_all (children s.tree x) i all }
