-- A folder comes back to where Remote and Synced have it.
use Rattle.std.proofs.Common.{◌≡◌, ◌≢◌, ℕ, Bool, false, Some, sym, ap, ◌∙◌, inl, inr}
use Rattle.std.specs.FinMap.{get, insert}
use Rattle.nuc_base.specs.SamePlace.{same_place-refl}
use Rattle.nuc_base.specs.Trees.{Nodes}
use Rattle.nuc_base.specs.declared.node.Node.{Node}
use Rattle.nuc_base.proofs.Maps.{get_put_same, one_node}
use Rattle.nuc_conflict.specs.FitTogether.{FitTogether}
use Rattle.nuc_measure.specs.Pays.{NoMoreFlies}
use Rattle.nuc_measure.proofs.Points.{ChangesOne, points_some}
use Rattle.nuc_measure.proofs.Steps.{Pays, agree_put, agree_same, ends_equal, none_some, not_differs, same_as}

module _ (same : ℕ → ℕ → Bool) (fly now : ℕ → Bool) (flies : NoMoreFlies fly now) (r l s : Nodes) (x : ℕ) (fit : FitTogether r l s) where
  pub pay_return : (n : Node) → get r x ≡ Some n → get s x ≡ Some n → get l x ≢ Some n → now x ≡ false → Pays same fly r l s now r (insert l x n) s x
  pay_return n in_r in_s apart landed =
      ends_equal same fly now flies r l s x fit r (insert l x n) s one
      (points_some same fly r l s x (not_differs (get r x) (get l x) (get s x) (λ (first, second). apart (sym first ∙ in_r))))
      (in_r ∙ sym (get_put_same l x n), get_put_same l x n ∙ sym in_s) landed
    where
      one : ChangesOne r l s r (insert l x n) s x
      one = record {
        remote = agree_same r x;
        local = agree_put l x n;
        synced = agree_same s x;
        old_r = λ k there. inl (inl (k, there, same_place-refl k.place));
        old_l = λ k there.
            inl (inl (n, in_r, same_as n.place k.place (ap (λ (h : Node). h.place) (one_node (insert l x n) x n k (get_put_same l x n) there))));
        old_s = λ k there. inl (inr (inr (k, there, same_place-refl k.place)));
        children_r = λ y k there e gone too. none_some n (get (insert l x n) x) gone (get_put_same l x n);
        children_l = λ y k there e gone too. none_some n (get r x) gone in_r;
      }
