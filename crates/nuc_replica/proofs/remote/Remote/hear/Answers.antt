use Rattle.std.proofs.Common.{◌∙◌, sym, subst, length, refl, arith}
use Rattle.nuc_replica.specs.Ahead.{AreLaidFrom, IsKept, ahead_now}
use Rattle.nuc_replica.specs.Remote.{Follows, RemoteStates}
use Rattle.nuc_replica.proofs.Heard.{LaidBeyond, kept_heard, new_entries, new_fit}
use Rattle.nuc_replica.proofs.remote.Remote.hear.Goals as goal

pub lay_by-requires-clause-places : goal.lay_by-requires-clause-places
lay_by-requires-clause-places g c = omega (arith, c.deref.type_inv, c.end_place.ensures.bound)

pub lay_by-requires-clause-fit : goal.lay_by-requires-clause-fit
lay_by-requires-clause-fit g c =
    new_fit c.args.self.now.now.cursor c.args.self.now.now.tree c.deref.result.now c.rest.result.now c.args.news.now
    (new_entries c.deref.result.now c.in-Some.more.now c.rest.result.now c.rest.result.now c.args.news.now (c.deref.ensures.value ∙ c.in_ok-more.ensures) c.in-Some.ensures.lookup.0.2 refl)
    c.requires.goes_on

pub invariant_of-self-2 : goal.invariant_of-self-2
invariant_of-self-2 g c =
    let inside = c.self.inside in
    let a = inside.ahead in
    let news = c.args.news.now in
    let more = c.in_ok-more.more.items in
    let room = c.in_ok-reserve-2.ensures in
    let laid = c.in_ok-lay_by.ensures in
    let end = c.end_place.ensures.end in
    let beyond : LaidBeyond c.reserve.new.self (length a.entries) c.lay_by.new.tree = subst (λ n. LaidBeyond c.reserve.new.self n c.lay_by.new.tree) end
    (record { keeps = laid.keeps; before = laid.before; before_then = laid.before_then; untaken = laid.untaken }) in
    let nodes : AreLaidFrom (length a.entries) c.lay_by.new.tree.laid more =
    subst (AreLaidFrom (length a.entries) c.lay_by.new.tree.laid) c.deref.ensures.value (subst (λ n. AreLaidFrom n c.lay_by.new.tree.laid c.deref.result.now) end laid.ok) in
    let new = new_entries more c.in-Some.more.now c.rest.result.now (ahead_now a) news c.in_ok-more.ensures c.in-Some.ensures.lookup.0.2 c.rest.ensures.rest in
    subst (λ b. IsKept c.lay_by.new.tree c.reserve-2.new.self inside.cursor inside.settled_cursor b) (sym c.in_ok-add.ensures.ok)
    (kept_heard inside.tree c.reserve.new.self c.lay_by.new.tree inside.revisions c.reserve-2.new.self inside.cursor inside.settled_cursor a news more c.rest.ensures.places
    c.in_ok-reserve.ensures.keeps (record { now = room.now; past = room.past; spare = room.spare }) beyond new
    (subst (λ (s : RemoteStates). Follows s.now news) (sym c.self.view_is) c.requires) c.in_ok-reserve.ensures.ok room.ok nodes c.self.invariant)
