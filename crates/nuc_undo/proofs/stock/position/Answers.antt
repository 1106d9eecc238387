use Rattle.std.proofs.Common.{rules}
use Rattle.std.proofs.lemmas.List.Sorted.{answers_always}
use Rattle.nuc_undo.proofs.Search.{searched}
use Rattle.nuc_undo.proofs.stock.position.Goals as goal

pub returns-clause-place : goal.returns-clause-place
returns-clause-place c =
    let facts = c.binary_search_by_key.ensures in
    let by_number = facts.position (λ slot. slot.number) (answers_always _ _ _ (λ f a r g called. search rules)) in
    searched c.args.slots.now c.args.number c.binary_search_by_key.result c.requires facts.bound by_number
