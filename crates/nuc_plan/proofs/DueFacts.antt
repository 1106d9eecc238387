-- What is due at an identity: one operation, of a node that stands in one of the trees.
use Rattle.std.proofs.Common.{◌≡◌, ◌≢◌, ◌⊎◌, ◌<◌, ℕ, zero, suc, Bool, Option, None, Some, refl, sym, ap, subst, ◌∙◌, inl, inr, arith}
use Rattle.std.proofs.lemmas.Option.{none-some, same_Some}
use Rattle.std.specs.FinMap.{get}
use Rattle.nuc_base.specs.Trees.{Nodes, IsThere, OneKind, WellFormed}
use Rattle.nuc_base.specs.declared.change.Change.TheVariants.{Keep, Put, Cut}
use Rattle.nuc_base.specs.declared.node.Node.{Node}
use Rattle.nuc_base.proofs.Maps.{not_both}
use Rattle.nuc_class.specs.Due.{IsDue}
use Rattle.nuc_class.specs.Op.{operation}
use Rattle.nuc_class.specs.Wishes.{IsWish}
use Rattle.nuc_class.specs.declared.op.Effect.TheVariants.{Nothing, Disk, Commit}
use Rattle.nuc_class.specs.declared.op.Op.{Op}
use Rattle.nuc_class.specs.declared.op.Verb.TheVariants as verb
use Rattle.nuc_class.specs.declared.wishes.Wish.{Wish}
use Rattle.nuc_class.specs.declared.wishes.Wish.TheVariants as wish
use Rattle.nuc_class.proofs.Fits.{operation_id}
use Rattle.nuc_class.proofs.Rows.{nothing_where_equal, one_wish}
use Rattle.nuc_plan.specs.Walk.{IsAnywhere}
use Rattle.nuc_safety.specs.Batch.{IsPossible}
use Rattle.nuc_safety.proofs.Pairs.{due_possible}

-- the operation of a wish is over the values of Local and Synced, and isn't numbered; it isn't a split; and where it is
-- carried out nowhere, it leaves Remote as it is
pub record Parts (l s : Option Node) (op : Op) : Type 0 where
  pub old_local : op.old_local ≡ l
  pub old_synced : op.old_synced ≡ s
  pub number : op.number ≡ 0
  pub base : op.base ≡ 0
  pub whole : op.verb ≢ verb.Split
  pub remote : op.effect ≡ Nothing → op.remote ≡ Keep

pub parts : (same : ℕ → ℕ → Bool) (w : Wish) (x : ℕ) (r l s : Option Node) (op : Op) → operation same w x r l s ≡ Some op → Parts l s op
parts same wish.Split x r l s op e = absurd (none-some op e)
parts same wish.Nothing x r l s op e = absurd (none-some op e)
parts same wish.Down x None l s op e = absurd (none-some op e)
parts same wish.Down x (Some r) l s op e = subst (Parts l s) (same_Some _ op e)
    (record { old_local = refl; old_synced = refl; number = refl; base = refl; whole = λ v. cc; remote = λ n. refl })
parts same wish.Up x r None s op e = absurd (none-some op e)
parts same wish.Up x r (Some l) s op e = subst (Parts (Some l) s) (same_Some _ op e)
    (record { old_local = refl; old_synced = refl; number = refl; base = refl; whole = λ v. cc; remote = λ n. absurd (cc) })
parts same wish.CutDown x r l s op e = subst (Parts l s) (same_Some _ op e)
    (record { old_local = refl; old_synced = refl; number = refl; base = refl; whole = λ v. cc; remote = λ n. refl })
parts same wish.CutUp x r l s op e = subst (Parts l s) (same_Some _ op e)
    (record { old_local = refl; old_synced = refl; number = refl; base = refl; whole = λ v. cc; remote = λ n. absurd (cc) })
parts same wish.Forget x r l s op e = subst (Parts l s) (same_Some _ op e)
    (record { old_local = refl; old_synced = refl; number = refl; base = refl; whole = λ v. cc; remote = λ n. refl })

module _ (same : ℕ → ℕ → Bool) (r l s : Nodes) where
  pub due_id : (x : ℕ) (op : Op) → IsDue same r l s x op → op.id.0 ≡ x
  due_id x op due = operation_id same due.wish x (get r x) (get l x) (get s x) op due.planned

  -- the same operation, at its own identity
  pub due_here : (x : ℕ) (op : Op) → IsDue same r l s x op → IsDue same r l s op.id.0 op
  due_here x op due = subst (λ y. IsDue same r l s y op) (sym (due_id x op due)) due

  pub one_due : (x : ℕ) (a b : Op) → IsDue same r l s x a → IsDue same r l s x b → a ≡ b
  one_due x a b first second =
      let one : second.wish ≡ first.wish = one_wish same r l s x second.wish first.wish second.wished first.wished in
      let planned = subst (λ w. operation same w x (get r x) (get l x) (get s x) ≡ Some b) one second.planned in
      same_Some a b (sym first.planned ∙ planned)

  -- nothing is due where nothing is wished
  pub not_due : (x : ℕ) (op : Op) → IsWish same r l s x wish.Nothing → ¬ (IsDue same r l s x op)
  not_due x op none due =
      let one : due.wish ≡ wish.Nothing = one_wish same r l s x due.wish wish.Nothing due.wished none in
      none-some op (subst (λ w. operation same w x (get r x) (get l x) (get s x) ≡ Some op) one due.planned)

  there_or_not : (m : Nodes) (x : ℕ) (o : Option Node) → get m x ≡ o → IsThere m x ⊎ (get m x ≡ None)
  there_or_not m x None e = inr e
  there_or_not m x (Some n) e = inl (n, e)

  -- what is due is due at an identity that stands in one of the trees
  pub due_anywhere : (x : ℕ) (op : Op) → IsDue same r l s x op → IsAnywhere r l s x
  due_anywhere x op due = elim (there_or_not r x (get r x) refl) [
    | inl there ↦ inl there
    | inr no_r ↦ elim (there_or_not l x (get l x) refl) [
      | inl there ↦ inr (inl there)
      | inr no_l ↦ elim (there_or_not s x (get s x) refl) [
        | inl there ↦ inr (inr there)
        | inr no_s ↦ absurd (not_due x op (no_r ∙ sym no_l, no_l ∙ sym no_s) due)
      ]
    ]
  ]

  -- which isn't the root
  pub above_root : (x : ℕ) → WellFormed r → WellFormed l → WellFormed s → IsAnywhere r l s x → 0 < x
  above_root zero remote local synced anywhere = elim anywhere [
    | inl (n, e) ↦ absurd (not_both r 0 n remote.no_root e)
    | inr other ↦ elim other [
      | inl (n, e) ↦ absurd (not_both l 0 n local.no_root e)
      | inr (n, e) ↦ absurd (not_both s 0 n synced.no_root e)
    ]
  ]
  above_root (suc x) remote local synced anywhere = omega arith

  pub due_can : (x : ℕ) (op : Op) → WellFormed r → WellFormed l → WellFormed s → OneKind r l → IsDue same r l s x op → IsPossible r l s op
  due_can x op remote local synced kinds due =
      due_possible same r l s x op remote local kinds (above_root x remote local synced (due_anywhere x op due)) due
