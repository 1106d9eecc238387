use Rattle.std.proofs.Common.{◌<◌, ◌∷◌, [], ◌∙◌, ap, sym, subst, length, arith}
use Rattle.std.specs.FinMap.{get}
use Rattle.nuc_replica.specs.Ahead.{IsKept, state_now}
use Rattle.nuc_replica.specs.Remote.{Follows, RemoteState, RemoteStates, with_entries}
use Rattle.nuc_replica.proofs.Kept.{Applied, KeepsLookup, Noted, kept_applied, kept_reserved, state_applied, state_reserved}
use Rattle.nuc_replica.proofs.remote.Remote.pull_one.Goals as goal

pub invariant_of-self-2 : goal.invariant_of-self-2
invariant_of-self-2 g c =
    let inside = c.self.inside in
    let entry = c.args.entry.now in
    let room = c.in_ok-reserve-2.ensures in
    let change = c.in_ok-apply.ensures in
    let keeps : KeepsLookup inside.revisions c.reserve-2.new.self = record { now = room.now; past = room.past; spare = room.spare } in
    let applied : Applied c.reserve.new.self entry inside.ahead.applied (length inside.ahead.entries) c.apply.new.tree = record {
      now = change.ok;
      changed = change.changed;
      settled = change.settled;
      later = λ i lt. ap (λ m. get m i) change.laid;
      beyond = λ i le. ap (λ m. get m i) change.laid;
    } in
    let noted : Noted c.reserve-2.new.self entry c.note.new.revisions = record { now = c.note.ensures.now; past = c.note.ensures.past; spare = c.note.ensures.spare; settled = c.note.ensures.settled } in
    let same = ap (λ (s : RemoteStates). s.now) (sym c.self.view_is) ∙ sym (state_reserved inside.tree c.reserve.new.self inside.revisions c.reserve-2.new.self inside.cursor inside.ahead c.in_ok-reserve.ensures.keeps keeps) in
    let follows = subst (λ (s : RemoteState). Follows s (entry ∷ [])) same c.requires in
    let tree_spare : 0 < c.reserve.new.self.spare = omega (arith, c.in_ok-reserve.ensures.ok, c.max-room.ensures) in
    let revisions_spare : 0 < c.reserve-2.new.self.spare = omega (arith, room.ok, c.max-room.ensures) in
    subst (λ a. IsKept c.apply.new.tree c.note.new.revisions entry.rev inside.settled_cursor a) (sym c.pass.ensures)
    (kept_applied c.reserve.new.self c.apply.new.tree c.reserve-2.new.self c.note.new.revisions inside.cursor inside.settled_cursor inside.ahead entry applied noted follows
    (kept_reserved inside.tree c.reserve.new.self inside.revisions c.reserve-2.new.self inside.cursor inside.settled_cursor inside.ahead c.in_ok-reserve.ensures.keeps keeps c.self.invariant)
    tree_spare revisions_spare)

pub returns-clause-ok : goal.returns-clause-ok
returns-clause-ok g c =
    let inside = c.self.inside in
    let entry = c.args.entry.now in
    let room = c.in_ok-reserve-2.ensures in
    let change = c.in_ok-apply.ensures in
    let keeps : KeepsLookup inside.revisions c.reserve-2.new.self = record { now = room.now; past = room.past; spare = room.spare } in
    let applied : Applied c.reserve.new.self entry inside.ahead.applied (length inside.ahead.entries) c.apply.new.tree = record {
      now = change.ok;
      changed = change.changed;
      settled = change.settled;
      later = λ i lt. ap (λ m. get m i) change.laid;
      beyond = λ i le. ap (λ m. get m i) change.laid;
    } in
    let noted : Noted c.reserve-2.new.self entry c.note.new.revisions = record { now = c.note.ensures.now; past = c.note.ensures.past; spare = c.note.ensures.spare; settled = c.note.ensures.settled } in
    let same = state_reserved inside.tree c.reserve.new.self inside.revisions c.reserve-2.new.self inside.cursor inside.ahead c.in_ok-reserve.ensures.keeps keeps ∙ ap (λ (s : RemoteStates). s.now) c.self.view_is in
    let follows = subst (λ (s : RemoteState). Follows s (entry ∷ [])) (sym same) c.requires in
    ap (state_now c.apply.new.tree c.note.new.revisions entry.rev) c.pass.ensures
    ∙ state_applied c.reserve.new.self c.apply.new.tree c.reserve-2.new.self c.note.new.revisions inside.cursor inside.settled_cursor inside.ahead entry applied noted follows
    ∙ ap (λ (s : RemoteState). with_entries s (entry ∷ [])) same
