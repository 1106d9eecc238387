use Rattle.std.proofs.Common.{refl, arith}
use Rattle.std.proofs.lemmas.Grind.{common_steps}
use Rattle.nuc_index.specs.declared.indexes.Indexes.{Indexes}
use Rattle.nuc_index.proofs.Changed.{can_enter_added, rise_added, tree_entered}
use Rattle.nuc_index.proofs.Indexed.{grown_indexed, kept_lists}
use Rattle.nuc_index.proofs.change.add.Goals as goal

pub returns-in_err-reserve-clause-form : goal.returns-in_err-reserve-clause-form
returns-in_err-reserve-clause-form c = grown_indexed _ _ _ c.reserve.ensures.capacity c.reserve.ensures.rest_kept c.requires.form

pub returns-in_err-reserve-2-clause-form : goal.returns-in_err-reserve-2-clause-form
returns-in_err-reserve-2-clause-form c = kept_lists _ _ _ c.reserve-2.ensures.same (grown_indexed _ _ _ c.reserve.ensures.capacity c.reserve.ensures.rest_kept c.requires.form)

pub enter-requires-clause-can : goal.enter-requires-clause-can
enter-requires-clause-can c =
    let lists : Indexes = record { ids = c.insert.new.self; places = c.reserve-2.new.self.places; siblings = c.reserve-2.new.self.siblings } in
    can_enter_added _ c.reserve.new.self c.insert_reserved-slot.new.self _ c.reserve-2.new.self lists _ _ c.args.entry c.requires.form c.requires.at c.requires.free
    c.reserve.ensures.capacity c.reserve.ensures.rest_kept c.reserve-2.ensures.same c.insert_reserved-slot.ensures.was_vacant c.insert_reserved-slot.ensures.updates
    c.insert.ensures.items refl refl

pub returns-clause-form : goal.returns-clause-form
returns-clause-form c =
    let lists : Indexes = record { ids = c.insert.new.self; places = c.reserve-2.new.self.places; siblings = c.reserve-2.new.self.siblings } in
    record {
      fits = grind (arith, common_steps);
      slots = c.enter.ensures.slots;
      rise = rise_added _ c.reserve.new.self c.insert_reserved-slot.new.self _ c.reserve-2.new.self lists _ _ c.args.entry c.requires.form c.requires.at c.requires.free
          c.reserve.ensures.capacity c.reserve.ensures.rest_kept c.reserve-2.ensures.same c.insert_reserved-slot.ensures.was_vacant c.insert_reserved-slot.ensures.updates
          c.insert.ensures.items refl refl
          c.enter.new.self c.enter.ensures.ids;
      lists = c.enter.ensures.lists;
    }

pub returns-clause-ok : goal.returns-clause-ok
returns-clause-ok c =
    let lists : Indexes = record { ids = c.insert.new.self; places = c.reserve-2.new.self.places; siblings = c.reserve-2.new.self.siblings } in
    tree_entered _ c.reserve.new.self c.insert_reserved-slot.new.self _ c.reserve-2.new.self lists _ _ c.args.entry c.requires.form c.requires.at c.requires.free
    c.reserve.ensures.capacity c.reserve.ensures.rest_kept c.reserve-2.ensures.same c.insert_reserved-slot.ensures.was_vacant c.insert_reserved-slot.ensures.updates
    c.insert.ensures.items refl refl
    c.enter.new.self c.enter.ensures.ids
