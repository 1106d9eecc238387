use Rattle.std.proofs.Common.{rules}
use Rattle.std.proofs.lemmas.List.Sorted.{answers_always}
use Rattle.nuc_tree.proofs.Search.{searched}
use Rattle.nuc_tree.proofs.entry.position.Goals as goal

pub returns-clause-place : goal.returns-clause-place
returns-clause-place c =
    let facts = c.binary_search_by_key.ensures in
    let by_id = facts.position (λ entry. entry.id.0) (answers_always _ _ _ (λ f a r g called. search rules)) in
    searched _ c.args.id.0 _ c.requires facts.bound by_id
