-- The order of items' places.
use Rattle.std.specs.Cmp.{IsTotalOrder, on_total, then_total, nat_cmp_total}
use Rattle.std.specs.Ordering.{nat_cmp, ordering_then}
use Rattle.std.specs.declared.cmp.Ordering.{Ordering}
use Rattle.nuc_base.specs.SamePlace.{name_order, name_order-total}
use Rattle.nuc_observe.specs.declared.item_place.ItemPlace.{ItemPlace}

-- by the parents' keys, and then by the order of names
abbrev pub place_order : ItemPlace → ItemPlace → Ordering
place_order p q = ordering_then (nat_cmp p.parent q.parent) (name_order p.name q.name)

pub place_order-total : IsTotalOrder place_order
place_order-total = then_total (on_total (λ p. p.parent) nat_cmp_total) (on_total (λ p. p.name) name_order-total)
