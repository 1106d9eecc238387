use Rattle.std.proofs.Common.{◌≡◌, ◌<◌, ap, sym, subst, ◌∙◌, Some, arith, vec_len}
use Rattle.std.specs.List.{insert}
use Rattle.std.proofs.lemmas.Grind.{common_steps}
use Rattle.nuc_lookup.specs.Rows.{IsRising, numbers_of}
use Rattle.nuc_lookup.proofs.Rows.{row_of}
use Rattle.nuc_lookup.proofs.Views.{present, absent, set_rises, set_is, insert_rises, insert_is, room_for}
use Rattle.nuc_lookup.proofs.lookup.Lookup.put.Goals as goal

pub invariant_of-self : goal.invariant_of-self
invariant_of-self c = set_rises _ _ _ c.deref.ensures.value (ap (λ s. s.numbers) c.self.view_is) c.self.invariant _ _ _ c.in-Ok.ensures.place

pub returns-in-Ok-clause-numbers : goal.returns-in-Ok-clause-numbers
returns-in-Ok-clause-numbers c = set_is _ _ _ c.deref.ensures.value (ap (λ s. s.numbers) c.self.view_is) c.self.invariant _ _ _ c.in-Ok.ensures.place

pub returns-in-Ok-clause-before : goal.returns-in-Ok-clause-before
returns-in-Ok-clause-before c = ap (λ r. Some r.to) c.index.ensures
    ∙ sym (present _ _ _ c.deref.ensures.value (ap (λ s. s.numbers) c.self.view_is) c.self.invariant _ _ c.index.result.now c.in-Ok.ensures.place)

pub unwrap-requires : goal.unwrap-requires
unwrap-requires c =
    let room = ap (λ s. s.room) c.self.view_is in
    c.insert.ensures.succeeds (subst (λ n. vec_len c.self.inside.rows < n) (sym room)
    (room_for _ _ _ c.deref.ensures.value (ap (λ s. s.numbers) c.self.view_is) c.self.invariant _ c.args.to _ _ _ c.in-Err.ensures.place c.requires c.self.inside.rows.ok.0))

items : (c : goal.After-unwrap) → c.insert.new.self.items ≡ insert c.self.inside.rows.items c.in-Err.at (row_of c.args.from c.args.to)
items c = grind (arith, common_steps)

pub invariant_of-self-in-Err : goal.invariant_of-self-in-Err
invariant_of-self-in-Err c =
    subst IsRising (sym (items c)) (insert_rises _ _ _ c.deref.ensures.value (ap (λ s. s.numbers) c.self.view_is) c.self.invariant _ _ _ c.in-Err.ensures.place)

pub returns-in-Err-clause-numbers : goal.returns-in-Err-clause-numbers
returns-in-Err-clause-numbers c =
    ap numbers_of (items c) ∙ insert_is _ _ _ c.deref.ensures.value (ap (λ s. s.numbers) c.self.view_is) c.self.invariant _ _ _ c.in-Err.ensures.place

pub returns-in-Err-clause-before : goal.returns-in-Err-clause-before
returns-in-Err-clause-before c = sym (absent _ _ _ c.deref.ensures.value (ap (λ s. s.numbers) c.self.view_is) c.self.invariant _ _ c.in-Err.ensures.place)

pub returns-in-Err-clause-room : goal.returns-in-Err-clause-room
returns-in-Err-clause-room c =
    let room = ap (λ s. s.room) c.self.view_is in
    (c.insert.ensures.in_place (subst (λ n. vec_len c.self.inside.rows < n) (sym room)
    (room_for _ _ _ c.deref.ensures.value (ap (λ s. s.numbers) c.self.view_is) c.self.invariant _ c.args.to _ _ _ c.in-Err.ensures.place c.requires c.self.inside.rows.ok.0))).1.0
    ∙ room
