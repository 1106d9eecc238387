use Rattle.std.proofs.Common.{sym, ◌∙◌, cond, true, Some}
use Rattle.std.specs.Ordering.{is_eq, nat_cmp}
use Rattle.nuc_observe.specs.Order.{place_order}
use Rattle.nuc_observe.proofs.Grown.{kind_more, place_more}
use Rattle.nuc_observe.proofs.seen.Seen.add.Goals as goal

pub returns : goal.returns
returns c = λ items item seen none key kind place. record {
  kinds = λ q.
      c.in_ok-insert.ensures.updates.0 q
      ∙ (λ i. cond (is_eq (nat_cmp (key i).0 q)) (Some (kind i)) (seen.kinds q i))
      ∙ sym (kind_more items item q none);
  places = λ p.
      c.in_ok-insert-2.ensures.updates.0 p
      ∙ (λ i. cond (is_eq (place_order (place i) p)) true (seen.places p i))
      ∙ sym (place_more items item p);
}
