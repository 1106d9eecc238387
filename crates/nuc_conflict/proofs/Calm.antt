-- What stands in Remote and wishes neither Down nor a split: Synced has it so.
use Rattle.std.proofs.Common.{◌≡◌, ℕ, Bool, Option, None, Some, refl, sym, subst, ◌∙◌}
use Rattle.std.specs.FinMap.{get}
use Rattle.nuc_base.specs.Trees.{Nodes, IsUnder, WellFormed}
use Rattle.nuc_base.specs.declared.node.Node.{Node}
use Rattle.nuc_base.proofs.Depths.{above_first}
use Rattle.nuc_base.proofs.Maps.{one_node, not_both}
use Rattle.nuc_class.specs.Going.{GoingLocal, GoingRemote}
use Rattle.nuc_class.specs.Wishes.{IsWish, WantsUp, OnlySynced}
use Rattle.nuc_class.specs.declared.wishes.Wish.{Wish}
use Rattle.nuc_class.specs.declared.wishes.Wish.TheVariants as wish
use Rattle.nuc_class.proofs.Rows.{some_wish}
use Rattle.nuc_class.proofs.Walk.{kept_parts, going-kept}
use Rattle.nuc_conflict.specs.Topmost.{NoSplit, IsTopmost}

-- what wishes Up and stands in Remote is in Synced as it is in Remote, and stands in Local
pub up_values : (Goes : Type 0) (r l s : Option Node) (n : Node) → r ≡ Some n → WantsUp Goes r l s → (s ≡ Some n) × ((own : Node) × (l ≡ Some own))
up_values Goes (Some r) (Some l) s n at wants = (wants.0 ∙ at, (l, refl))
up_values Goes (Some r) None s n at wants = absurd wants
up_values Goes None l s n at wants = absurd (let no : None ≡ Some n = at in cc)

pub not_only_synced : (r l s : Option Node) → OnlySynced r l s → (r ≡ None) × (l ≡ None) × ((n : Node) × (s ≡ Some n))
not_only_synced None None (Some s) only = (refl, refl, (s, refl))
not_only_synced None None None only = absurd only
not_only_synced None (Some l) s only = absurd only
not_only_synced (Some r) l s only = absurd only

module _ (same : ℕ → ℕ → Bool) (r l s : Nodes) where
  pub going_local_parts : (x : ℕ) → GoingLocal r l s x → (get r x ≡ None) × (n : Node) × (get l x ≡ Some n) × (get s x ≡ Some n)
  going_local_parts x cut = kept_parts (get r x) (get l x) (get s x) (going-kept r l s _ x cut)

  pub going_remote_parts : (x : ℕ) → GoingRemote r l s x → (get l x ≡ None) × (n : Node) × (get r x ≡ Some n) × (get s x ≡ Some n)
  going_remote_parts x cut = kept_parts (get l x) (get r x) (get s x) (going-kept l r s _ x cut)

module _ (same : ℕ → ℕ → Bool) (r l s : Nodes) (remote : WellFormed r) (local : WellFormed l) (whole : NoSplit same r l s) where
  -- it stands in Local, or goes
  pub data Calm (x : ℕ) (n : Node) : Type 0 where
    stands : (own : Node) → get s x ≡ Some n → get l x ≡ Some own → Calm x n
    goes : get s x ≡ Some n → GoingRemote r l s x → Calm x n

  calm_by : (x : ℕ) (n : Node) → get r x ≡ Some n → ¬ (IsWish same r l s x wish.Down) → (w : Wish) → IsWish same r l s x w → Calm x n
  calm_by x n at no_down wish.Split wished = absurd (whole x wished)
  calm_by x n at no_down wish.Down wished = absurd (no_down wished)
  calm_by x n at no_down wish.Up wished = let values = up_values _ (get r x) (get l x) (get s x) n at wished in stands values.1.0 values.0 values.1.1
  calm_by x n at no_down wish.CutDown wished = absurd (not_both r x n (going_local_parts same r l s x wished).0 at)
  calm_by x n at no_down wish.CutUp wished =
      let parts = going_remote_parts same r l s x wished in
      goes (subst (λ (h : Node). get s x ≡ Some h) (one_node r x parts.1 n parts.2 at) parts.3) wished
  calm_by x n at no_down wish.Forget wished = absurd (not_both r x n (not_only_synced (get r x) (get l x) (get s x) wished).0 at)
  calm_by x n at no_down wish.Nothing wished = stands n (sym wished.1 ∙ sym wished.0 ∙ at) (sym wished.0 ∙ at)

  pub calm_of : (x : ℕ) (n : Node) → get r x ≡ Some n → ¬ (IsWish same r l s x wish.Down) → Calm x n
  calm_of x n at no_down = let w = some_wish same r l s x remote local in calm_by x n at no_down w.0 w.1

  pub calm_synced : (x : ℕ) (n : Node) → Calm x n → get s x ≡ Some n
  calm_synced x n (stands own synced in_local) = synced
  calm_synced x n (goes synced cut) = synced

  -- so is all that is above the topmost that wishes Down
  pub calm_above : (x : ℕ) (n : Node) → get r x ≡ Some n → IsTopmost same r l s r wish.Down x
      → (a : ℕ) (h : Node) → IsUnder r n.place.parent.0 a → get r a ≡ Some h → Calm a h
  calm_above x n at top a h under there = calm_of a h there (λ wished. above_first r a x remote (n, at, under) (top.first a wished))

  pub above_synced : (x : ℕ) (n : Node) → get r x ≡ Some n → IsTopmost same r l s r wish.Down x
      → (a : ℕ) (h : Node) → IsUnder r n.place.parent.0 a → get r a ≡ Some h → get s a ≡ Some h
  above_synced x n at top a h under there = calm_synced a h (calm_above x n at top a h under there)
