use Rattle.std.proofs.Common.{ap, ◌∙◌, sym, arith, length, ◌∷◌, [], ◌++◌, length-append, vec_capacity}
use Rattle.std.specs.FinMap.{get}
use Rattle.nuc_lookup.specs.Rows.{Numbers}
use Rattle.nuc_lookup.specs.State.{first_or}
use Rattle.nuc_lookup.specs.Undo.{past_of, undone}
use Rattle.nuc_lookup.proofs.Undoing.{LeadsBack, first_is, grown_past, leads_back, length_past, spare_rises}
use Rattle.nuc_lookup.proofs.undo_lookup.UndoLookup.undo_last.Goals as goal

back : (c : goal.After-set-after) → LeadsBack c.self.inside.lookup c.self.inside.undos.items c.pop.new.self.items c.self.inside.settled_len c.in_ok-from.field-0
back c = leads_back c.self.inside.lookup c.self.inside.undos.items c.pop.new.self.items c.self.inside.settled_len c.in_ok-from.field-0 c.self.invariant c.in_ok-from.ensures.items

pub set-after-requires : goal.set-after-requires
set-after-requires c =
    (leads_back c.self.inside.lookup c.self.inside.undos.items c.pop.new.self.items c.self.inside.settled_len c.in_ok-from.field-0 c.self.invariant c.in_ok-from.ensures.items).room

pub invariant_of-self-2 : goal.invariant_of-self-2
invariant_of-self-2 c = (back c).kept c.set-after.new.self c.set-after.ensures.numbers c.set-after.ensures.room

pub returns-clause-last : goal.returns-clause-last
returns-clause-last c = record {
  past = (λ i. (sym c.self.view_is i).past) ∙ (back c).past ∙ ap (λ (m : Numbers). past_of m c.pop.new.self.items ++ m ∷ []) (sym c.set-after.ensures.numbers);
  now = c.set-after.ensures.numbers ∙ ap (λ s. undone s.now c.in_ok-from.field-0) c.self.view_is;
  after = c.set-after.ensures.before ∙ ap (λ s. get s.now c.in_ok-from.field-0.from) c.self.view_is;
}

pub returns-clause-settled : goal.returns-clause-settled
returns-clause-settled c =
    ap (λ m. first_or (past_of m c.pop.new.self.items) m) c.set-after.ensures.numbers ∙ first_is (undone c.self.inside.lookup.numbers c.in_ok-from.field-0) c.pop.new.self.items
    ∙ sym (back c).first ∙ sym (first_is c.self.inside.lookup.numbers c.self.inside.undos.items)
    ∙ (λ i. first_or (c.self.view_is i).past (c.self.view_is i).now)

pub returns-clause-spare : goal.returns-clause-spare
returns-clause-spare c =
    let long = ap length c.in_ok-from.ensures.items ∙ length-append c.pop.new.self.items (c.in_ok-from.field-0 ∷ []) in
    let kept = c.set-after.ensures.room in
    let cap = c.pop.ensures.capacity in
    let size = c.self.inside.undos.ok in
    let rises = spare_rises c.self.inside.lookup.room (vec_capacity c.self.inside.undos) c.self.inside.settled_len _ _ long c.self.invariant.room (omega (arith, size.0, size.1)) in
    let spare = ap (λ s. s.spare) c.self.view_is in
    let before = ap (λ s. length s.past) c.self.view_is in
    let many = length_past c.self.inside.lookup.numbers c.self.inside.undos.items in
    let fewer = length_past c.set-after.new.self.numbers c.pop.new.self.items in
    omega arith

pub returns-clause-most : goal.returns-clause-most
returns-clause-most c = grown_past c.set-after.new.self.numbers c.pop.new.self.items
