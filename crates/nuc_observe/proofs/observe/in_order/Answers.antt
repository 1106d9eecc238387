use Rattle.std.proofs.Common.{rules}
use Rattle.std.proofs.lemmas.List.Sorted.{IsNonDecreasingBy-from_sort_by_key}
use Rattle.nuc_observe.proofs.observe.in_order.Goals as goal

pub returns : goal.returns
returns c =
    let facts = c.sort_unstable_by_key.ensures in
    (facts.permutation, IsNonDecreasingBy-from_sort_by_key (λ node. node.id.0) _ facts.sorted (λ a r g called. search rules))
