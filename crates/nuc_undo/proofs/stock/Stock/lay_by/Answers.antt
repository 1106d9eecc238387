use Rattle.std.proofs.Common.{◌≡◌, ap, subst, sym, ◌∙◌, Some, arith}
use Rattle.std.specs.List.{insert}
use Rattle.std.proofs.lemmas.Grind.{common_steps}
use Rattle.nuc_undo.specs.Stock.{Has, laid_of}
use Rattle.nuc_undo.proofs.Slots.{slot_of}
use Rattle.nuc_undo.proofs.Views.{insert_full, insert_numbers, insert_rises, set_full, set_numbers, set_rises}
use Rattle.nuc_undo.proofs.stock.Stock.lay_by.Goals as goal

pub invariant_of-self : goal.invariant_of-self
invariant_of-self c = set_rises _ _ _ _ c.deref.ensures.value (ap (λ s. s.laid) c.self.view_is) (ap (λ s. s.numbers) c.self.view_is) c.self.invariant _ _ _ c.in-Ok.ensures.place

pub invariant_of-self-in-Err : goal.invariant_of-self-in-Err
invariant_of-self-in-Err c =
    insert_rises _ _ _ _ c.deref.ensures.value (ap (λ s. s.laid) c.self.view_is) (ap (λ s. s.numbers) c.self.view_is) c.self.invariant
    c.args.number c.in-Err.at (Some c.args.node) _ _ c.in-Err.ensures.place c.insert.ensures.items

pub returns-in-Ok-clause-ok : goal.returns-in-Ok-clause-ok
returns-in-Ok-clause-ok c = set_full _ _ _ _ c.deref.ensures.value (ap (λ s. s.laid) c.self.view_is) (ap (λ s. s.numbers) c.self.view_is) c.self.invariant _ _ _ c.in-Ok.ensures.place

pub returns-in-Ok-clause-numbers : goal.returns-in-Ok-clause-numbers
returns-in-Ok-clause-numbers c x has =
    subst (λ ns. Has ns x) (sym (set_numbers _ _ _ _ c.deref.ensures.value (ap (λ s. s.laid) c.self.view_is) (ap (λ s. s.numbers) c.self.view_is) c.self.invariant _ _ (Some c.args.node) c.in-Ok.ensures.place)) has

pub returns-in_ok-insert-in-Err-clause-ok : goal.returns-in_ok-insert-in-Err-clause-ok
returns-in_ok-insert-in-Err-clause-ok c =
    let items : c.insert.new.self.items ≡ insert c.self.inside.slots.items c.in-Err.at (slot_of c.args.number (Some c.args.node)) = grind (arith, common_steps) in
    ap laid_of items ∙ insert_full _ _ _ _ c.deref.ensures.value (ap (λ s. s.laid) c.self.view_is) (ap (λ s. s.numbers) c.self.view_is) c.self.invariant _ _ _ c.in-Err.ensures.place

pub returns-in_ok-insert-in-Err-clause-numbers : goal.returns-in_ok-insert-in-Err-clause-numbers
returns-in_ok-insert-in-Err-clause-numbers c =
    insert_numbers _ _ _ _ c.deref.ensures.value (ap (λ s. s.laid) c.self.view_is) (ap (λ s. s.numbers) c.self.view_is) c.self.invariant
    c.args.number c.in-Err.at (Some c.args.node) _ _ c.insert.ensures.items
