-- The table of wishes: exactly one row applies, and which operation it has.
use Rattle.std.proofs.Common.{◌≡◌, ◌≢◌, ◌⊎◌, ℕ, Bool, true, false, Option, None, Some, refl, sym, subst, ◌∙◌, inl, inr, rules}
use Rattle.std.specs.FinMap.{get}
use Rattle.std.proofs.lemmas.Bool.{cases_Bool}
use Rattle.std.proofs.lemmas.Option.{none-some, same_Some}
use Rattle.nuc_base.specs.Trees.{Nodes}
use Rattle.nuc_base.specs.declared.node.Node.{Node}
use Rattle.nuc_class.specs.Due.{IsLegalOp, NothingDue}
use Rattle.nuc_class.specs.Laws.{OneWish, SomeWish, NothingWhereEqual, WishHasOperation, DownKeepsEdits}
use Rattle.nuc_class.specs.Op.{operation}
use Rattle.nuc_class.specs.Split.{needs_split}
use Rattle.nuc_class.specs.Wishes.{Applies, IsWish}
use Rattle.nuc_class.specs.declared.op.Op.{Op}
use Rattle.nuc_class.specs.declared.wishes.Wish.{Wish}
use Rattle.nuc_class.specs.declared.wishes.Wish.TheVariants as wish
use Rattle.nuc_class.proofs.Decided.{going_local_or_not, going_remote_or_not}
use Rattle.nuc_class.proofs.Tells.{value_or_not}

pub one_wish : OneWish
one_wish = search rules

pub nothing_where_equal : NothingWhereEqual
nothing_where_equal = search rules

pub down_keeps_edits : DownKeepsEdits
down_keeps_edits = search rules

module _ (same : ℕ → ℕ → Bool) (GoesLocal GoesRemote : Type 0) where
  abbrev Has : Option Node → Option Node → Option Node → Type 0
  Has r l s = (w : Wish) × Applies same GoesLocal GoesRemote r l s w

  has_of_both : (r l : Node) (s : Option Node) → (needs_split same (Some r) (Some l) s ≡ true) ⊎ (needs_split same (Some r) (Some l) s ≡ false)
      → (s ≡ Some r) ⊎ (s ≢ Some r) → (s ≡ Some l) ⊎ (s ≢ Some l) → Has (Some r) (Some l) s
  has_of_both r l s (inl split) _ _ = (wish.Split, split)
  has_of_both r l s (inr whole) (inr changed) _ = (wish.Down, (whole, changed))
  has_of_both r l s (inr whole) (inl kept) (inr changed) = (wish.Up, (kept, changed))
  has_of_both r l s (inr whole) (inl kept) (inl kept_too) = (wish.Nothing, (sym kept ∙ kept_too, sym kept_too))

  has_wish : GoesLocal ⊎ ¬ GoesLocal → GoesRemote ⊎ ¬ GoesRemote → (r l s : Option Node) → Has r l s
  has_wish local remote (Some r) (Some l) s =
      has_of_both r l s (cases_Bool (needs_split same (Some r) (Some l) s)) (value_or_not s (Some r)) (value_or_not s (Some l))
  has_wish local (inl goes) (Some r) None s = (wish.CutUp, goes)
  has_wish local (inr stays) (Some r) None s = (wish.Down, stays)
  has_wish local remote None (Some l) None = (wish.Up, tt)
  has_wish (inl goes) remote None (Some l) (Some s) = (wish.CutDown, goes)
  has_wish (inr stays) remote None (Some l) (Some s) = (wish.Up, stays)
  has_wish local remote None None (Some s) = (wish.Forget, tt)
  has_wish local remote None None None = (wish.Nothing, (refl, refl))

  has_operation : (w : Wish) (x : ℕ) (r l s : Option Node) → Applies same GoesLocal GoesRemote r l s w → w ≢ wish.Split → w ≢ wish.Nothing
      → (op : Op) × (operation same w x r l s ≡ Some op)
  has_operation wish.Split x r l s applies whole some = absurd (whole refl)
  has_operation wish.Down x (Some r) l s applies whole some = (_, refl)
  has_operation wish.Down x None l s applies whole some = absurd applies
  has_operation wish.Up x r (Some l) s applies whole some = (_, refl)
  has_operation wish.Up x (Some r) None s applies whole some = absurd applies
  has_operation wish.Up x None None s applies whole some = absurd applies
  has_operation wish.CutDown x r l s applies whole some = (_, refl)
  has_operation wish.CutUp x r l s applies whole some = (_, refl)
  has_operation wish.Forget x r l s applies whole some = (_, refl)
  has_operation wish.Nothing x r l s applies whole some = absurd (some refl)

pub some_wish : SomeWish
some_wish same r l s x form form_too =
    has_wish same _ _ (going_local_or_not r l s x form_too) (going_remote_or_not r l s x form) (get r x) (get l x) (get s x)

pub wish_has_operation : WishHasOperation
wish_has_operation same r l s x w wished whole some = has_operation same _ _ w x (get r x) (get l x) (get s x) wished whole some

-- what is due is the operation of the one wish
pub none_due : (same : ℕ → ℕ → Bool) (r l s : Nodes) (x : ℕ) (w : Wish) → IsWish same r l s x w
    → operation same w x (get r x) (get l x) (get s x) ≡ None → NothingDue same r l s x
none_due same r l s x w wished none op due =
    let planned = subst (λ v. operation same v x (get r x) (get l x) (get s x) ≡ Some op) (one_wish same r l s x due.wish w due.wished wished) due.planned in
    none-some op (sym none ∙ planned)

pub not_legal_not_due : (same : ℕ → ℕ → Bool) (r l s : Nodes) (x : ℕ) (w : Wish) (op : Op) → IsWish same r l s x w
    → operation same w x (get r x) (get l x) (get s x) ≡ Some op → ¬ (IsLegalOp r l s op) → NothingDue same r l s x
not_legal_not_due same r l s x w op wished is stuck other due =
    let planned = subst (λ v. operation same v x (get r x) (get l x) (get s x) ≡ Some other) (one_wish same r l s x due.wish w due.wished wished) due.planned in
    stuck (subst (λ o. IsLegalOp r l s o) (same_Some other op (sym planned ∙ is)) due.legal)
