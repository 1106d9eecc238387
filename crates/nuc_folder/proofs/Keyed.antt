-- The keys of a folder in memory stay below the next one.
use Rattle.std.proofs.Common.{◌≡◌, ◌≢◌, ◌<◌, ◌≤◌, ◌+◌, ℕ, Bool, true, false, List, Option, Some, None, refl, sym, subst, ap, ◌∙◌, inl, inr, arith}
use Rattle.std.specs.FinMap.{empty, get, insert, remove, get-empty}
use Rattle.std.specs.Ordering.{nat_cmp}
use Rattle.nuc_base.specs.Trees.{Nodes}
use Rattle.nuc_base.specs.declared.node.Node.{Node}
use Rattle.nuc_base.specs.declared.node.Place.{Place}
use Rattle.nuc_base.proofs.Maps.{after_cut, after_put, not_both}
use Rattle.nuc_shelf.proofs.Shelves.{empty_is}
use Rattle.nuc_shelf.specs.Shelf.{changed, empty_shelf, marked, moved, placed, with_bit, without}
use Rattle.nuc_folder.specs.Answers.{AlterAnswers, MadeAs, MakeAnswers, MoveAnswers, RemoveAnswers, SetBitAnswers}
use Rattle.nuc_folder.specs.Memory.{IsKeyed, MemState}
use Rattle.nuc_folder.specs.Outcome.{is_success}
use Rattle.nuc_folder.specs.State.{FolderState, KeysBelow}
use Rattle.nuc_folder.specs.declared.noticed.Noticed.{Noticed}
use Rattle.nuc_folder.specs.declared.outcome.Outcome.{Outcome}
use Rattle.nuc_folder.specs.declared.outcome.Outcome.TheVariants as outcome
use Rattle.nuc_folder.specs.declared.seen.Seen.{Seen}

abbrev pub TreeBelow : ℕ → Nodes → Type 0
TreeBelow n m = (x : ℕ) (k : Node) → get m x ≡ Some k → x < n

pub empty_at : (held : FolderState) (pending : List Noticed) → held ≡ empty_shelf → IsKeyed (record { held = held; next = 1; pending = pending })
empty_at held pending e = subst (λ (s : FolderState). IsKeyed (record { held = s; next = 1; pending = pending })) (sym e) (record {
  shelf = empty_is;
  below = λ x n at. absurd (not_both empty x n (get-empty nat_cmp x) at);
  some = omega arith;
})

absent_of : (o : Option Node) → ((n : Node) → o ≡ Some n → ⊥) → o ≡ None
absent_of None none = refl
absent_of (Some n) none = absurd (none n refl)

-- the next key is nobody's
pub next_absent : (n : ℕ) (s : FolderState) → KeysBelow n s → get s.tree n ≡ None
next_absent n s below = absent_of (get s.tree n) (λ k at. let less = below n k at in omega (arith, less))

-- a state that holds the same
pub keyed_held : (s : MemState) (held : FolderState) → held ≡ s.held → IsKeyed s → IsKeyed (record { held = held; next = s.next; pending = s.pending })
keyed_held s held e keyed = subst (λ (h : FolderState). IsKeyed (record { held = h; next = s.next; pending = s.pending })) (sym e) keyed

below_at : (n : ℕ) (s t : FolderState) → t ≡ s → KeysBelow n s → KeysBelow n t
below_at n s t e below = subst (KeysBelow n) (sym e) below

module _ (n x : ℕ) (m : Nodes) (f : Node → Node) (below : TreeBelow n m) where
  put_below : (o : Option Node) → get m x ≡ o → TreeBelow n (changed m x f o)
  put_below None e = below
  put_below (Some v) e = λ y k at. elim (after_put m x (f v) y k at) [
    | inl (same, is) ↦ let less = below x v e in omega (arith, same, less)
    | inr (apart, there) ↦ below y k there
  ]

  changed_below : TreeBelow n (changed m x f (get m x))
  changed_below = put_below (get m x) refl

pub set_bit_below : (n x : ℕ) (expected bit : Bool) (old : FolderState) (answer : Outcome) (new : FolderState) → KeysBelow n old → SetBitAnswers x expected bit old answer new → KeysBelow n new
set_bit_below n x expected bit old outcome.Ok new below (e, is) = below_at n (marked old x bit) new is (changed_below n x old.tree (with_bit bit) below)
set_bit_below n x expected bit old outcome.Changed new below (e, is) = below_at n old new is below
set_bit_below n x expected bit old outcome.Failed new below is = below_at n old new is below
set_bit_below n x expected bit old outcome.Memory new below is = below_at n old new is below
set_bit_below n x expected bit old (outcome.Made key) new below none = absurd none
set_bit_below n x expected bit old outcome.Taken new below none = absurd none
set_bit_below n x expected bit old outcome.NotEmpty new below none = absurd none

pub move_below : (n x : ℕ) (expected p : Place) (old : FolderState) (answer : Outcome) (new : FolderState) → KeysBelow n old → MoveAnswers x expected p old answer new → KeysBelow n new
move_below n x expected p old outcome.Ok new below (e, free, is) = below_at n (moved old x p) new is (changed_below n x old.tree (placed p) below)
move_below n x expected p old outcome.Changed new below (e, is) = below_at n old new is below
move_below n x expected p old outcome.Taken new below (e, held, is) = below_at n old new is below
move_below n x expected p old outcome.Failed new below is = below_at n old new is below
move_below n x expected p old outcome.Memory new below is = below_at n old new is below
move_below n x expected p old (outcome.Made key) new below none = absurd none
move_below n x expected p old outcome.NotEmpty new below none = absurd none

pub remove_below : (n x : ℕ) (seen : Seen) (old : FolderState) (answer : Outcome) (new : FolderState) → KeysBelow n old → RemoveAnswers x seen old answer new → KeysBelow n new
remove_below n x seen old outcome.Ok new below (e, empty, is) = below_at n (without old x) new is (λ y k at. below y k (after_cut old.tree x y k at).1)
remove_below n x seen old outcome.Changed new below (e, is) = below_at n old new is below
remove_below n x seen old outcome.NotEmpty new below (e, more, is) = below_at n old new is below
remove_below n x seen old outcome.Failed new below is = below_at n old new is below
remove_below n x seen old outcome.Memory new below is = below_at n old new is below
remove_below n x seen old (outcome.Made key) new below none = absurd none
remove_below n x seen old outcome.Taken new below none = absurd none

-- the tree with a node under the next key
new_below : (n next : ℕ) (m : Nodes) (v : Node) → next ≡ n + 1 → TreeBelow n m → TreeBelow next (insert m n v)
new_below n next m v e below = λ y k at. elim (after_put m n v y k at) [
  | inl (same, is) ↦ omega (arith, same, e)
  | inr (apart, there) ↦ let less = below y k there in omega (arith, less, e)
]

pub make_below : (n next : ℕ) (p : Place) (made : ℕ → FolderState → FolderState) (v : Node) (old : FolderState) (answer : Outcome) (new : FolderState) → next ≡ n + 1
    → KeysBelow n old → (made n old).tree ≡ insert old.tree n v → MakeAnswers p made old answer new → MadeAs answer n → is_success answer ≡ true → KeysBelow next new
make_below n next p made v old (outcome.Made key) new e below tree (folder, vacant, is) same ok =
    let here : new ≡ made n old = is ∙ ap (λ z. made z old) same in
    below_at next (made n old) new here (subst (TreeBelow next) (sym tree) (new_below n next old.tree v e below))
make_below n next p made v old outcome.Ok new e below tree none same ok = absurd none
make_below n next p made v old outcome.NotEmpty new e below tree none same ok = absurd none
make_below n next p made v old outcome.Changed new e below tree is same ok = let clash : false ≡ true = ok in cc
make_below n next p made v old outcome.Taken new e below tree is same ok = let clash : false ≡ true = ok in cc
make_below n next p made v old outcome.Failed new e below tree is same ok = let clash : false ≡ true = ok in cc
make_below n next p made v old outcome.Memory new e below tree is same ok = let clash : false ≡ true = ok in cc
