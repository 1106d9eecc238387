use Rattle.std.proofs.Common.{rules, refl, arith}
use Rattle.std.proofs.lemmas.List.Sorted.{IsNonDecreasingBy-from_sort_by_key}
use Rattle.nuc_lookup.specs.Rows.{IsRising}
use Rattle.nuc_lookup.proofs.Sorting.{apart_again, rising}
use Rattle.nuc_lookup.proofs.Views.{len_is, sorted_is}
use Rattle.nuc_lookup.proofs.lookup.Lookup.of.Goals as goal

risen : (c : goal.After-sort_unstable_by_key) → IsRising c.sort_unstable_by_key.new.self.items
risen c =
    let facts = c.sort_unstable_by_key.ensures in
    rising _ (IsNonDecreasingBy-from_sort_by_key (λ row. row.from) _ facts.sorted (λ a r g called. search rules)) (apart_again _ _ facts.permutation c.requires)

pub invariant_of-result : goal.invariant_of-result
invariant_of-result c = risen c

pub returns-clause-numbers : goal.returns-clause-numbers
returns-clause-numbers c = sorted_is _ _ c.sort_unstable_by_key.ensures.permutation c.requires (risen c)

pub returns-clause-room : goal.returns-clause-room
returns-clause-room c =
    let rows = c.sort_unstable_by_key.new.self in
    omega (arith, len_is _ rows.items _ refl refl (risen c), rows.ok.0, rows.ok.1)
