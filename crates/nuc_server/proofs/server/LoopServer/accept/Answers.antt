use Rattle.std.proofs.Common.{◌≡◌, ◌∙◌, [], ◌∷◌, ◌++◌, sym, ap, subst, length, arith, rules, vec_len, vec_capacity}
use Rattle.nuc_journal.specs.declared.entry.Entry.{Entry}
use Rattle.nuc_base.specs.Trees.{WellFormed}
use Rattle.nuc_journal.proofs.Journals.{form_of}
use Rattle.nuc_server.proofs.Undoing.{placed_as, server_push, takes_as}
use Rattle.nuc_server.proofs.server.LoopServer.accept.Goals as goal

pub change-requires-clause-form : goal.change-requires-clause-form
change-requires-clause-form c =
    c.in_ok-reserve-2.ensures.tree (subst WellFormed (sym c.self.invariant.tree) (form_of _ c.self.invariant.journal))

pub invariant_of-self-2 : goal.invariant_of-self-2
invariant_of-self-2 c =
    let tree = c.in_ok-reserve-2.ensures.nodes ∙ c.self.invariant.tree in
    let room = c.in_ok-reserve-2.ensures.ok in
    let spent = c.change.ensures.spare in
    let size : c.len.result ≡ length c.self.inside.undos.items = search rules in
    let entry : Entry = record { rev = c.in_ok-rev.rev; id = c.args.id; value = c.in_ok-entered.entered; by = c.args.by } in
    server_push c.self.inside.journal c.push.new.self c.self.inside.tree c.change.new.tree c.self.inside.undos.items c.push_reserved.new.self.items
    (vec_capacity c.self.inside.undos) (vec_capacity c.push_reserved.new.self) (vec_len c.self.inside.rooms) (vec_len c.copied-2.new.rooms) c.self.inside.ready entry c.in_ok-undo.undo
    c.self.invariant
    (c.in_ok-push.ensures.ok ∙ ap (λ es. es ++ entry ∷ []) c.in_ok-reserve.ensures.now)
    (c.push.ensures.settled ∙ c.in_ok-reserve.ensures.settled)
    c.in_ok-push.ensures.journal
    (placed_as _ _ _ c.args.id.0 c.args.value.now c.in_ok-entered.entered c.in_ok-placed.placed tree c.in_ok-entered.ensures.copy c.in_ok-placed.ensures.copy c.in_ok-undo.ensures.ok)
    (takes_as _ _ c.args.id.0 c.args.value.now c.in_ok-entered.entered c.in_ok-placed.placed c.in_ok-undo.undo tree c.in_ok-entered.ensures.copy c.in_ok-placed.ensures.copy c.in_ok-undo.ensures.undo)
    (search rules)
    (omega arith)
