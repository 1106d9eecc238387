use Rattle.std.specs.Prelude.{All}
use Rattle.std.proofs.Common.{◌≡◌, ◌++◌, [], map, ◌∙◌, ap, refl, subst, sym, arith}
use Rattle.nuc_class.specs.Due.{FitsOp}
use Rattle.nuc_class.specs.declared.op.Op.{Op}
use Rattle.nuc_flights.specs.Flights.{as_planned}
use Rattle.nuc_step.specs.Client.{ClientStates}
use Rattle.nuc_step.specs.Launch.{AreApart, IsFresh, LaidOver}
use Rattle.nuc_step.specs.Sound.{IsLaid}
use Rattle.nuc_step.specs.Steps.{numbered}
use Rattle.nuc_step.proofs.Flying.{numbers_apart}
use Rattle.nuc_step.proofs.Kept.{fits_numbered, fresh_numbered, kept_flights, kept_flying, kept_laid, kept_reserved, over_beyond, same_tree, same_beyond, summed}
use Rattle.nuc_step.proofs.client.Client.launch.Goals as goal

pub lay_local-requires-clause-fits : goal.lay_local-requires-clause-fits
lay_local-requires-clause-fits g c =
    let inside = c.self.inside in
    subst (All FitsOp) (sym (c.deref.ensures.value ∙ c.number_from.ensures)) (fits_numbered inside.counts.next_op inside.remote.now c.args.ops.items c.requires.may)

pub lay_local-requires-clause-apart : goal.lay_local-requires-clause-apart
lay_local-requires-clause-apart g c =
    let inside = c.self.inside in
    subst AreApart (sym (c.deref.ensures.value ∙ c.number_from.ensures)) (numbers_apart inside.counts.next_op inside.remote.now c.args.ops.items)

pub lay_local-requires-clause-fresh : goal.lay_local-requires-clause-fresh
lay_local-requires-clause-fresh g c =
    let inside = c.self.inside in
    let l = c.reserve.new.self in
    subst (All (IsFresh l.laid l.laid_then)) (sym (c.deref.ensures.value ∙ c.number_from.ensures))
    (fresh_numbered inside.local.laid inside.local.laid_then l.laid l.laid_then inside.counts.next_op inside.remote.now c.args.ops.items c.self.invariant.local_untaken
    c.reserve.ensures.laid c.reserve.ensures.laid_then)

pub invariant_of-self-in_err-lay_local : goal.invariant_of-self-in_err-lay_local
invariant_of-self-in_err-lay_local g c =
    let inside = c.self.inside in
    let next = inside.counts.next_op in
    let none : inside.flights.now ≡ [] = ap (λ (s : ClientStates). s.now.flights) c.self.view_is ∙ c.requires.none in
    let l = c.reserve.new.self in
    let s = c.reserve-2.new.self in
    let m = c.lay_local.new.local in
    let over = subst (λ ops. LaidOver ops l.laid l.laid_then m.laid m.laid_then) (c.deref.ensures.value ∙ c.number_from.ensures) c.lay_local.ensures.over in
    kept_laid inside.remote l m s s inside.flights inside.counts inside.settled_counts none c.lay_local.ensures.keeps
    (over_beyond next inside.remote.now c.args.ops.items l.laid l.laid_then m.laid m.laid_then over) (same_tree s) (same_beyond next s.laid s.laid_then s.laid s.laid_then refl refl)
    (kept_reserved inside.remote inside.local l inside.synced s inside.flights inside.counts inside.settled_counts none c.reserve.ensures.keeps c.reserve.ensures.laid c.reserve.ensures.laid_then
    c.reserve-2.ensures.keeps c.self.invariant)

pub lay_synced-requires-clause-fits : goal.lay_synced-requires-clause-fits
lay_synced-requires-clause-fits g c =
    let inside = c.self.inside in
    subst (All FitsOp) (sym (c.deref-2.ensures.value ∙ c.number_from.ensures)) (fits_numbered inside.counts.next_op inside.remote.now c.args.ops.items c.requires.may)

pub lay_synced-requires-clause-apart : goal.lay_synced-requires-clause-apart
lay_synced-requires-clause-apart g c =
    let inside = c.self.inside in
    subst AreApart (sym (c.deref-2.ensures.value ∙ c.number_from.ensures)) (numbers_apart inside.counts.next_op inside.remote.now c.args.ops.items)

pub lay_synced-requires-clause-fresh : goal.lay_synced-requires-clause-fresh
lay_synced-requires-clause-fresh g c =
    let inside = c.self.inside in
    let s = c.reserve-2.new.self in
    subst (All (IsFresh s.laid s.laid_then)) (sym (c.deref-2.ensures.value ∙ c.number_from.ensures))
    (fresh_numbered inside.synced.laid inside.synced.laid_then s.laid s.laid_then inside.counts.next_op inside.remote.now c.args.ops.items c.self.invariant.synced_untaken
    c.reserve-2.ensures.keeps.laid c.reserve-2.ensures.keeps.laid_then)

pub invariant_of-self-in_err-lay_synced : goal.invariant_of-self-in_err-lay_synced
invariant_of-self-in_err-lay_synced g c =
    let inside = c.self.inside in
    let next = inside.counts.next_op in
    let none : inside.flights.now ≡ [] = ap (λ (s : ClientStates). s.now.flights) c.self.view_is ∙ c.requires.none in
    let l = c.reserve.new.self in
    let s = c.reserve-2.new.self in
    let m = c.lay_local.new.local in
    let t = c.lay_synced.new.synced in
    let over = subst (λ ops. LaidOver ops l.laid l.laid_then m.laid m.laid_then) (c.deref.ensures.value ∙ c.number_from.ensures) c.lay_local.ensures.over in
    let above = subst (λ ops. LaidOver ops s.laid s.laid_then t.laid t.laid_then) (c.deref-2.ensures.value ∙ c.number_from.ensures) c.lay_synced.ensures.over in
    kept_laid inside.remote l m s t inside.flights inside.counts inside.settled_counts none
    c.lay_local.ensures.keeps (over_beyond next inside.remote.now c.args.ops.items l.laid l.laid_then m.laid m.laid_then over)
    c.lay_synced.ensures.keeps (over_beyond next inside.remote.now c.args.ops.items s.laid s.laid_then t.laid t.laid_then above)
    (kept_reserved inside.remote inside.local l inside.synced s inside.flights inside.counts inside.settled_counts none c.reserve.ensures.keeps c.reserve.ensures.laid c.reserve.ensures.laid_then
    c.reserve-2.ensures.keeps c.self.invariant)

pub invariant_of-self-in_err-fly : goal.invariant_of-self-in_err-fly
invariant_of-self-in_err-fly g c =
    let inside = c.self.inside in
    let next = inside.counts.next_op in
    let none : inside.flights.now ≡ [] = ap (λ (s : ClientStates). s.now.flights) c.self.view_is ∙ c.requires.none in
    let l = c.reserve.new.self in
    let s = c.reserve-2.new.self in
    let m = c.lay_local.new.local in
    let t = c.lay_synced.new.synced in
    let over = subst (λ ops. LaidOver ops l.laid l.laid_then m.laid m.laid_then) (c.deref.ensures.value ∙ c.number_from.ensures) c.lay_local.ensures.over in
    let above = subst (λ ops. LaidOver ops s.laid s.laid_then t.laid t.laid_then) (c.deref-2.ensures.value ∙ c.number_from.ensures) c.lay_synced.ensures.over in
    kept_flights inside.remote m t c.fly.new.self inside.flights.now inside.flights.settled inside.counts inside.settled_counts c.in_err-fly.ensures.err c.fly.ensures.settled
    (kept_laid inside.remote l m s t inside.flights inside.counts inside.settled_counts none
    c.lay_local.ensures.keeps (over_beyond next inside.remote.now c.args.ops.items l.laid l.laid_then m.laid m.laid_then over)
    c.lay_synced.ensures.keeps (over_beyond next inside.remote.now c.args.ops.items s.laid s.laid_then t.laid t.laid_then above)
    (kept_reserved inside.remote inside.local l inside.synced s inside.flights inside.counts inside.settled_counts none c.reserve.ensures.keeps c.reserve.ensures.laid c.reserve.ensures.laid_then
    c.reserve-2.ensures.keeps c.self.invariant))

pub invariant_of-self-2 : goal.invariant_of-self-2
invariant_of-self-2 g c =
    let inside = c.self.inside in
    let next = inside.counts.next_op in
    let ops = c.args.ops.items in
    let none : inside.flights.now ≡ [] = ap (λ (s : ClientStates). s.now.flights) c.self.view_is ∙ c.requires.none in
    let l = c.reserve.new.self in
    let s = c.reserve-2.new.self in
    let m = c.lay_local.new.local in
    let t = c.lay_synced.new.synced in
    let over = subst (λ ops. LaidOver ops l.laid l.laid_then m.laid m.laid_then) (c.deref.ensures.value ∙ c.number_from.ensures) c.lay_local.ensures.over in
    let above = subst (λ ops. LaidOver ops s.laid s.laid_then t.laid t.laid_then) (c.deref-2.ensures.value ∙ c.number_from.ensures) c.lay_synced.ensures.over in
    let planned = c.in_ok-fly.ensures.ok ∙ ap (λ fs. fs ++ map as_planned c.number_from.new.ops.items) none ∙ ap (map as_planned) c.number_from.ensures in
    let numbers = summed _ _ _ _ c.checked_add.ensures c.in_ok-next_op.ensures.ok_part in
    let changes = summed _ _ _ _ c.checked_add-2.ensures c.in_ok-ok_or.ensures.ok_part in
    let twice = summed _ _ _ _ c.checked_mul.ensures c.in_ok-ok_or-2.ensures.ok_part in
    kept_flights inside.remote m t c.fly.new.self (map as_planned (numbered next inside.remote.now ops)) inside.flights.settled
    (record { changes = inside.counts.changes; next_op = c.in_ok-next_op.next_op }) inside.settled_counts planned c.fly.ensures.settled
    (kept_flying inside.remote m t inside.flights inside.counts inside.settled_counts ops
    (record { changes = inside.counts.changes; next_op = c.in_ok-next_op.next_op }) refl (omega (arith, numbers, c.len-count.ensures, c.args.ops.ok))
    (record {
      may = c.requires.may;
      local = omega (arith, twice, c.len-count.ensures, c.args.ops.ok, c.in_ok-reserve.ensures.ok, c.lay_local.ensures.keeps.spare);
      synced = omega (arith, c.len-count.ensures, c.args.ops.ok, c.in_ok-reserve-2.ensures.ok, c.lay_synced.ensures.keeps.spare);
      local_laid = subst (All (λ (op : Op). IsLaid m.laid op.number op.local)) (c.deref.ensures.value ∙ c.number_from.ensures) c.in_ok-lay_local.ensures.laid;
      synced_laid = subst (All (λ (op : Op). IsLaid t.laid op.number op.synced)) (c.deref-2.ensures.value ∙ c.number_from.ensures) c.in_ok-lay_synced.ensures.laid;
      count = omega (arith, changes, c.len-count.ensures, c.args.ops.ok);
    })
    (kept_laid inside.remote l m s t inside.flights inside.counts inside.settled_counts none
    c.lay_local.ensures.keeps (over_beyond next inside.remote.now ops l.laid l.laid_then m.laid m.laid_then over)
    c.lay_synced.ensures.keeps (over_beyond next inside.remote.now ops s.laid s.laid_then t.laid t.laid_then above)
    (kept_reserved inside.remote inside.local l inside.synced s inside.flights inside.counts inside.settled_counts none c.reserve.ensures.keeps c.reserve.ensures.laid c.reserve.ensures.laid_then
    c.reserve-2.ensures.keeps c.self.invariant)))
