use Rattle.std.proofs.Common.{◌≤◌, ap, ◌∙◌, sym, subst, arith, rules, IfSome}
use Rattle.std.specs.FinMap.{len}
use Rattle.nuc_observe.specs.Inverse.{led_back}
use Rattle.nuc_observe.specs.Keys.{IsFree, KeyMap}
use Rattle.nuc_observe.proofs.Undoing.{change_kept, change_room}
use Rattle.nuc_observe.proofs.keys.Keys.change.Goals as goal

pub lead_back-requires : goal.lead_back-requires
lead_back-requires c =
    let spare = c.in_ok-reserve.ensures.ok in
    let is = ap (λ s. s.spare) c.self.view_is in
    let free = subst (λ (m : KeyMap). IfSome c.args.key (λ k. IsFree m c.args.id.0 k.0)) (sym (ap (λ s. s.now) c.self.view_is ∙ c.in_ok-reserve.ensures.now)) c.requires.free in
    subst (λ old. len (led_back c.self.inside.by_key.numbers c.args.id.0 old c.map-new.result) ≤ c.self.inside.by_key.room) (sym c.get-old.ensures)
    (change_room c.self.inside.by_id c.self.inside.by_key c.self.invariant (omega arith) c.args.id.0 c.args.key c.map-new.result (search rules) c.requires.id c.requires.key free)

pub invariant_of-self-2 : goal.invariant_of-self-2
invariant_of-self-2 c =
    let spare = c.in_ok-reserve.ensures.ok in
    let is = ap (λ s. s.spare) c.self.view_is in
    let free = subst (λ (m : KeyMap). IfSome c.args.key (λ k. IsFree m c.args.id.0 k.0)) (sym (ap (λ s. s.now) c.self.view_is ∙ c.in_ok-reserve.ensures.now)) c.requires.free in
    change_kept c.self.inside.by_id c.self.inside.by_key c.self.invariant (omega arith) c.args.id.0 c.args.key c.map-new.result (search rules) c.requires.id c.requires.key free
    c.set.new.self c.lead_back.new.by_key c.in_ok-set.ensures.now c.in_ok-set.ensures.past c.in_ok-set.ensures.settled
    (c.lead_back.ensures.numbers ∙ ap (λ old. led_back c.self.inside.by_key.numbers c.args.id.0 old c.map-new.result) c.get-old.ensures) c.lead_back.ensures.room
