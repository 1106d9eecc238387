-- What the three rules give, from what stands in the way.
use Rattle.std.proofs.Common.{◌≡◌, ◌≢◌, ℕ, Bool, Option, Some, None, MatchOption, IfSome, subst}
use Rattle.std.specs.FinMap.{get}
use Rattle.nuc_base.specs.Legal.{IsFree}
use Rattle.nuc_base.specs.Trees.{Nodes, IsThere, IsVacant, StandsAt, WellFormed}
use Rattle.nuc_base.specs.declared.node.Node.{Node}
use Rattle.nuc_base.specs.declared.node.NodeId.{NodeId}
use Rattle.nuc_base.specs.declared.node.Place.{Place}
use Rattle.nuc_base.proofs.Maps.{one_node}
use Rattle.nuc_base.proofs.Places.{free_of_found}
use Rattle.nuc_class.specs.declared.wishes.Wish.TheVariants as wish
use Rattle.nuc_conflict.specs.Remedies.{ClearsDown, ClearsUp, IsClearDown, IsClearUp, IsDownClear, IsDownRemedy, IsInTheWay, IsUpClear, IsUpRemedy}
use Rattle.nuc_conflict.specs.Search.{IsTopmostThere}
use Rattle.nuc_conflict.specs.Topmost.{IsTopmost}
use Rattle.nuc_conflict.specs.declared.remedy.Remedy.{Remedy}
use Rattle.nuc_conflict.proofs.Search.{one_topmost, topmost_down, topmost_up}

-- who has a place, but for x
pub in_the_way_of : (m : Nodes) (x : ℕ) (p : Place) (found other : Option NodeId) → WellFormed m
    → MatchOption found (IsVacant m p) (λ y. StandsAt m y.0 p) → MatchOption other (IfSome found (λ y. y.0 ≡ x)) (λ y. (found ≡ Some y) × (y.0 ≢ x))
    → MatchOption other (IsFree m x p) (λ y. IsInTheWay m p x y.0)
in_the_way_of m x p found None form at own = free_of_found m x p found form at own
in_the_way_of m x p found (Some y) form at (is, apart) = (subst (λ o. MatchOption o (IsVacant m p) (λ z. StandsAt m z.0 p)) is at, apart)

module _ (same : ℕ → ℕ → Bool) (r l s : Nodes) where
  -- nobody wishes Down
  pub no_down_clear : ((x : ℕ) → IsThere r x → ¬ (IsTopmost same r l s r wish.Down x)) → IsDownClear same r l s
  no_down_clear none x n top at = absurd (none x (n, at) top)

  pub no_up_clear : ((x : ℕ) → IsThere l x → ¬ (IsTopmost same r l s l wish.Up x)) → IsUpClear same r l s
  no_up_clear none x n top at = absurd (none x (n, at) top)

  -- what is in the way of the one topmost
  pub down_rule_of : (x : ℕ) (n : Node) (remedy : Option Remedy) → WellFormed r → IsTopmostThere same r l s r wish.Down x → get r x ≡ Some n
      → MatchOption remedy (IsClearDown l s x n) (ClearsDown same r l s x n) → MatchOption remedy (IsDownClear same r l s) (IsDownRemedy same r l s)
  down_rule_of x n None form top at clear = λ y k other there.
      let one : x ≡ y = one_topmost same r l s r wish.Down x y form top.there (k, there) (topmost_down same r l s x top) other in
      let node : n ≡ k = one_node r y n k (subst (λ z. get r z ≡ Some n) one at) there in
      subst (λ z. IsClearDown l s z k) one (subst (λ (h : Node). IsClearDown l s x h) node clear)
  down_rule_of x n (Some remedy) form top at clears = record { x = x; node = n; topmost = topmost_down same r l s x top; there = at; clears = clears }

  pub up_rule_of : (x : ℕ) (n : Node) (remedy : Option Remedy) → WellFormed l → IsTopmostThere same r l s l wish.Up x → get l x ≡ Some n
      → MatchOption remedy (IsClearUp r s x n) (ClearsUp r s x n) → MatchOption remedy (IsUpClear same r l s) (IsUpRemedy same r l s)
  up_rule_of x n None form top at clear = λ y k other there.
      let one : x ≡ y = one_topmost same r l s l wish.Up x y form top.there (k, there) (topmost_up same r l s x top) other in
      let node : n ≡ k = one_node l y n k (subst (λ z. get l z ≡ Some n) one at) there in
      subst (λ z. IsClearUp r s z k) one (subst (λ (h : Node). IsClearUp r s x h) node clear)
  up_rule_of x n (Some remedy) form top at clears = record { x = x; node = n; topmost = topmost_up same r l s x top; there = at; clears = clears }
