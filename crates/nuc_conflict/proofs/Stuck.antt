-- Trees in which nothing is due and the first two rules don't apply, and what an operation would be that is due.
use Rattle.std.proofs.Common.{◌≡◌, ℕ, Bool, Some, refl, sym, subst}
use Rattle.std.specs.FinMap.{get}
use Rattle.nuc_base.specs.Legal.{LegalPut, LegalCut}
use Rattle.nuc_base.specs.Trees.{Nodes, OneKind, WellFormed}
use Rattle.nuc_base.specs.declared.node.Node.{Node}
use Rattle.nuc_class.specs.Due.{NothingDue}
use Rattle.nuc_class.specs.Merge.{target}
use Rattle.nuc_class.specs.Op.{operation}
use Rattle.nuc_class.specs.Wishes.{IsWish}
use Rattle.nuc_class.specs.declared.wishes.Wish.TheVariants as wish
use Rattle.nuc_conflict.specs.Remedies.{IsDownClear}
use Rattle.nuc_conflict.specs.Topmost.{NoSplit}

pub record Stuck (same : ℕ → ℕ → Bool) (r l s : Nodes) : Type 0 where
  pub remote : WellFormed r
  pub local : WellFormed l
  pub synced : WellFormed s
  pub remote_local : OneKind r l
  pub remote_synced : OneKind r s
  pub local_synced : OneKind l s
  pub nothing : (x : ℕ) → NothingDue same r l s x
  pub split : NoSplit same r l s
  pub down : IsDownClear same r l s

module _ (same : ℕ → ℕ → Bool) (r l s : Nodes) (st : Stuck same r l s) (x : ℕ) where
  pub not_down : (n : Node) → get r x ≡ Some n → IsWish same r l s x wish.Down → LegalPut l x (target n (get l x) (get s x)) → ¬ (LegalPut s x n)
  not_down n at wished local synced = st.nothing x _ (record {
    wish = wish.Down;
    wished = wished;
    planned = subst (λ o. operation same wish.Down x o (get l x) (get s x) ≡ operation same wish.Down x (Some n) (get l x) (get s x)) (sym at) refl;
    legal = record { remote = tt; local = local; synced = synced };
  })

  pub not_up : (n : Node) → get l x ≡ Some n → IsWish same r l s x wish.Up → LegalPut r x n → ¬ (LegalPut s x n)
  not_up n at wished remote synced = st.nothing x _ (record {
    wish = wish.Up;
    wished = wished;
    planned = subst (λ o. operation same wish.Up x (get r x) o (get s x) ≡ operation same wish.Up x (get r x) (Some n) (get s x)) (sym at) refl;
    legal = record { remote = remote; local = tt; synced = synced };
  })

  pub not_cut_down : IsWish same r l s x wish.CutDown → LegalCut l x → ¬ (LegalCut s x)
  not_cut_down wished local synced = st.nothing x _ (record {
    wish = wish.CutDown;
    wished = wished;
    planned = refl;
    legal = record { remote = tt; local = local; synced = synced };
  })

  pub not_cut_up : IsWish same r l s x wish.CutUp → LegalCut r x → ¬ (LegalCut s x)
  not_cut_up wished remote synced = st.nothing x _ (record {
    wish = wish.CutUp;
    wished = wished;
    planned = refl;
    legal = record { remote = remote; local = tt; synced = synced };
  })

  pub not_forget : IsWish same r l s x wish.Forget → ¬ (LegalCut s x)
  not_forget wished synced = st.nothing x _ (record {
    wish = wish.Forget;
    wished = wished;
    planned = refl;
    legal = record { remote = tt; local = tt; synced = synced };
  })
