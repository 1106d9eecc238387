use Rattle.std.proofs.Common.{rules, refl, subst, sym}
use Rattle.std.specs.Prelude.{IsPermutation}
use Rattle.std.proofs.lemmas.List.Sorted.{IsNonDecreasingBy-from_sort_by_key}
use Rattle.nuc_observe.proofs.identities.sorted_bindings.Goals as goal

pub returns : goal.returns
returns c =
    let facts = c.sort_unstable_by_key.ensures in (
      subst (λ bs. IsPermutation bs c.sort_unstable_by_key.new.self.items) c.in_ok-bindings.ensures facts.permutation,
      IsNonDecreasingBy-from_sort_by_key (λ binding. binding.id.0) _ facts.sorted (λ a r g called. search rules),
    )
