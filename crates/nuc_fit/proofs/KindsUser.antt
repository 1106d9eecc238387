-- What a user does keeps to the kinds of the keys: what is new has a key that was never used.
use Rattle.std.specs.Prelude.{All}
use Rattle.std.proofs.Common.{◌≡◌, ◌<◌, ◌++◌, ℕ, false, List, [], ◌∷◌, reverse, Option, None, Some, refl, sym, ◌∙◌, ap, subst, inl, inr, arith}
use Rattle.std.proofs.lemmas.List.{append-nil}
use Rattle.std.proofs.lemmas.List.Elements.{All-cons, All-nil}
use Rattle.std.specs.FinMap.{get, insert}
use Rattle.nuc_base.specs.Trees.{Nodes}
use Rattle.nuc_base.specs.declared.node.Node.{Node}
use Rattle.nuc_base.proofs.Maps.{after_cut, after_put}
use Rattle.nuc_folder.specs.Memory.{MemState}
use Rattle.nuc_folder.specs.Removals.{all_cut, removed}
use Rattle.nuc_folder.specs.State.{KeysBelow}
use Rattle.nuc_folder.specs.User.{ChangesOnce, IsDone, UserAnswers}
use Rattle.nuc_folder.specs.UserEdits.{Does}
use Rattle.nuc_folder.specs.declared.item.Item.{Item}
use Rattle.nuc_folder.specs.declared.noticed.Noticed.{Noticed}
use Rattle.nuc_folder.specs.declared.noticed.Noticed.TheVariants as noticed
use Rattle.nuc_folder.specs.declared.user_edit.UserEdit.{UserEdit}
use Rattle.nuc_folder.specs.declared.user_edit.UserEdit.TheVariants as edit
use Rattle.nuc_folder.specs.declared.user_edit.UserReply.{UserReply}
use Rattle.nuc_folder.specs.declared.user_edit.UserReply.TheVariants as answer
use Rattle.nuc_observe.specs.Listing.{kind_of}
use Rattle.nuc_shelf.specs.Shelf.{ShelfState, changed, file_at, folder_at, placed, with_bit, without}
use Rattle.nuc_fit.proofs.KindsForm.{Agree, AreHeld, IsNoticeOf, Kinds, with_kind, with_kind_other, with_kind_own}

-- A TREE keeps to them after a change
-- a new key may have any kind, where those below it keep theirs
pub held_new : (kinds later : Kinds) (next key : ℕ) (m : Nodes) (n : Node) → ((k : ℕ) (h : Node) → get m k ≡ Some h → k < next) → Agree next kinds later → n.kind ≡ later key
    → AreHeld kinds m → AreHeld later (insert m key n)
held_new kinds later next key m n below agree is held k h at = elim (after_put m key n k h at) [
  | inl (same, one) ↦ ap (λ (g : Node). g.kind) one ∙ is ∙ ap later (sym same)
  | inr (apart, was) ↦ held k h was ∙ sym (agree k (below k h was))
]

pub held_changed : (kinds : Kinds) (m : Nodes) (x : ℕ) (f : Node → Node) (o : Option Node) → get m x ≡ o → ((n : Node) → (f n).kind ≡ n.kind) → AreHeld kinds m
    → AreHeld kinds (changed m x f o)
held_changed kinds m x f None at same held k h there = held k h there
held_changed kinds m x f (Some n) at same held k h there = elim (after_put m x (f n) k h there) [
  | inl (here, one) ↦ ap (λ (g : Node). g.kind) one ∙ same n ∙ held x n at ∙ ap kinds (sym here)
  | inr (apart, was) ↦ held k h was
]

held_cut : (kinds : Kinds) (s : ShelfState) (keys : List ℕ) → AreHeld kinds s.tree → AreHeld kinds (all_cut s keys).tree
held_cut kinds s [] held = held
held_cut kinds s (x ∷ keys) held = held_cut kinds (without s x) keys (λ k h at. held k h (after_cut s.tree x k h at).1)

-- WHAT IS NEW gets a kind: of a change that leads to this tree, with these notices
record Given (kinds : Kinds) (next : ℕ) (notices : List Noticed) (t : Nodes) : Type 0 where
  later : Kinds
  agree : Agree next kinds later
  held : AreHeld later t
  told : All (IsNoticeOf later) notices

-- nothing is new
nothing_given : (kinds : Kinds) (next : ℕ) (notices : List Noticed) (t : Nodes) → AreHeld kinds t → All (IsNoticeOf kinds) notices → Given kinds next notices t
nothing_given kinds next notices t held told = record { later = kinds; agree = λ k below. refl; held = held; told = told }

one_told : (kinds : Kinds) (notice : Noticed) → IsNoticeOf kinds notice → All (IsNoticeOf kinds) (notice ∷ [])
one_told kinds notice its = All-cons (IsNoticeOf kinds) notice [] its (All-nil (IsNoticeOf kinds))

removed_told : (kinds : Kinds) (keys : List ℕ) → All (IsNoticeOf kinds) (removed keys)
removed_told kinds [] = All-nil (IsNoticeOf kinds)
removed_told kinds (x ∷ keys) = All-cons (IsNoticeOf kinds) (noticed.Removed (record { 0 = x })) (removed keys) tt (removed_told kinds keys)

module _ (kinds : Kinds) (next : ℕ) (s : ShelfState) (below : KeysBelow next s) (held : AreHeld kinds s.tree) where
  -- one thing that is new, of a kind
  new_given : (n : Node) (item : Item) → item.key.0 ≡ next → kind_of item.content ≡ n.kind → Given kinds next (noticed.Made item ∷ []) (insert s.tree next n)
  new_given n item key kind =
      let later = with_kind kinds next n.kind in
      let agree : Agree next kinds later = λ k less. with_kind_other kinds next n.kind k (λ same. absurd (omega (arith, less, same))) in
      record {
        later = later;
        agree = agree;
        held = held_new kinds later next next s.tree n below agree (sym (with_kind_own kinds next n.kind)) held;
        told = one_told later (noticed.Made item) (kind ∙ sym (with_kind_own kinds next n.kind) ∙ ap later (sym key));
      }

  -- of the notice and the tree that are told of
  given_so : (notice told : Noticed) (t u : ShelfState) → notice ≡ told → t ≡ u → Given kinds next (told ∷ []) u.tree → Given kinds next (notice ∷ []) t.tree
  given_so notice told t u same is its =
      subst (λ g. Given kinds next (g ∷ []) t.tree) (sym same) (subst (λ (v : ShelfState). Given kinds next (told ∷ []) v.tree) (sym is) its)

  does_given : (e : UserEdit) (notice : Noticed) (t : ShelfState) → Does e next s notice t → Given kinds next (notice ∷ []) t.tree
  does_given (edit.Mkdir path) notice t (place, finds, is, told) = given_so notice _ t _ told is (new_given (folder_at place) _ refl refl)
  does_given (edit.Write path filling) notice t (inl (place, finds, (is, told))) = given_so notice _ t _ told is (new_given (file_at place false) _ refl refl)
  does_given (edit.Write path filling) notice t (inr (x, n, finds, file, (is, told))) =
      given_so notice _ t _ told is (nothing_given kinds next _ s.tree held (one_told kinds _ tt))
  does_given (edit.Move from to) notice t (x, n, place, finds, free, apart, is, told) =
      given_so notice _ t _ told is (nothing_given kinds next _ _ (held_changed kinds s.tree x (placed place) (get s.tree x) refl (λ h. refl) held) (one_told kinds _ tt))
  does_given (edit.Bit path bit) notice t (x, n, finds, file, is, told) =
      given_so notice _ t _ told is (nothing_given kinds next _ _ (held_changed kinds s.tree x (with_bit bit) (get s.tree x) refl (λ h. refl) held) (one_told kinds _ tt))
  does_given (edit.Remove path) notice t none = absurd none

-- A FOLDER after it: what is held and what is told of it keep to such kinds
pub record Goes (kinds : Kinds) (s t : MemState) : Type 0 where
  pub later : Kinds
  pub agree : Agree s.next kinds later
  pub held : AreHeld later t.held.tree
  pub new : List Noticed
  pub pending : t.pending ≡ s.pending ++ new
  pub told : All (IsNoticeOf later) new

module _ (kinds : Kinds) (s t : MemState) (below : KeysBelow s.next s.held) (held : AreHeld kinds s.held.tree) where
  goes_by : (notices : List Noticed) → t.pending ≡ s.pending ++ notices → Given kinds s.next notices t.held.tree → Goes kinds s t
  goes_by notices pending its = record { later = its.later; agree = its.agree; held = its.held; new = notices; pending = pending; told = its.told }

  once : (e : UserEdit) → ChangesOnce e s t → Goes kinds s t
  once e (notice, does, next, pending) = goes_by (notice ∷ []) pending (does_given kinds s.next s.held below held e notice t.held does)

  done : (e : UserEdit) → IsDone e s t → Goes kinds s t
  done (edit.Remove path) (notices, (keys, finds, cut, told), next, pending) =
      goes_by notices pending (nothing_given kinds s.next notices t.held.tree
      (subst (λ (u : ShelfState). AreHeld kinds u.tree) (sym cut) (held_cut kinds s.held (reverse keys) held))
      (subst (All (IsNoticeOf kinds)) (sym told) (removed_told kinds (reverse keys))))
  done (edit.Mkdir path) is = once (edit.Mkdir path) is
  done (edit.Write path filling) is = once (edit.Write path filling) is
  done (edit.Move from to) is = once (edit.Move from to) is
  done (edit.Bit path bit) is = once (edit.Bit path bit) is

  stays : t ≡ s → Goes kinds s t
  stays same = record {
    later = kinds;
    agree = λ k less. refl;
    held = subst (λ (u : MemState). AreHeld kinds u.held.tree) (sym same) held;
    new = [];
    pending = ap (λ (u : MemState). u.pending) same ∙ sym (append-nil s.pending);
    told = All-nil (IsNoticeOf kinds);
  }

  pub user_goes : (e : UserEdit) (reply : UserReply) → UserAnswers e s reply t → Goes kinds s t
  user_goes e answer.Ok is = done e is
  user_goes e answer.NoSuch (why, same) = stays same
  user_goes e answer.NoParent (why, same) = stays same
  user_goes e answer.Kind (why, same) = stays same
  user_goes e answer.Taken (why, same) = stays same
  user_goes e answer.Cycle (why, same) = stays same
  user_goes e answer.Memory (why, same) = stays same
