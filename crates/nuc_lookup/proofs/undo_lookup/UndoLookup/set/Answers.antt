use Rattle.std.proofs.Common.{ap, ◌∙◌, arith, ◌++◌, ◌∷◌, []}
use Rattle.nuc_lookup.specs.State.{first_or}
use Rattle.nuc_lookup.specs.declared.undo.Undo.{Undo}
use Rattle.nuc_lookup.proofs.Undoing.{change_kept, change_past, change_room, change_settled}
use Rattle.nuc_lookup.proofs.undo_lookup.UndoLookup.set.Goals as goal

pub set-before-requires : goal.set-before-requires
set-before-requires c =
    let spare = c.in_ok-reserve.ensures.ok in
    let is = ap (λ s. s.spare) c.self.view_is in
    change_room c.self.inside.lookup c.self.inside.undos.items c.self.inside.settled_len c.args.from c.args.to c.self.invariant (omega arith)

pub invariant_of-self : goal.invariant_of-self
invariant_of-self c =
    let spare = c.in_ok-reserve.ensures.ok in
    let is = ap (λ s. s.spare) c.self.view_is in
    let kept = c.set-before.ensures.room in
    let u : Undo = record { from = c.args.from; before = c.set-before.result } in
    change_kept c.self.inside.lookup c.set-before.new.self c.self.inside.undos.items c.push_reserved.new.self.items c.self.inside.settled_len u c.args.to c.self.invariant
    c.set-before.ensures.numbers c.set-before.ensures.before c.push_reserved.ensures.items (omega arith)

pub returns-clause-past : goal.returns-clause-past
returns-clause-past c =
    let u : Undo = record { from = c.args.from; before = c.set-before.result } in
    change_past c.self.inside.lookup.numbers c.set-before.new.self.numbers c.self.inside.undos.items c.push_reserved.new.self.items u c.args.to
    c.set-before.ensures.numbers c.set-before.ensures.before c.push_reserved.ensures.items
    ∙ (λ i. (c.self.view_is i).past ++ (c.self.view_is i).now ∷ [])
    ∙ (λ i. c.in_ok-reserve.ensures.past i ++ c.in_ok-reserve.ensures.now i ∷ [])

pub returns-clause-settled : goal.returns-clause-settled
returns-clause-settled c =
    let u : Undo = record { from = c.args.from; before = c.set-before.result } in
    change_settled c.self.inside.lookup.numbers c.set-before.new.self.numbers c.self.inside.undos.items c.push_reserved.new.self.items u c.args.to
    c.set-before.ensures.numbers c.set-before.ensures.before c.push_reserved.ensures.items
    ∙ (λ i. first_or (c.self.view_is i).past (c.self.view_is i).now)
    ∙ (λ i. first_or (c.in_ok-reserve.ensures.past i) (c.in_ok-reserve.ensures.now i))
