use Rattle.nuc_observe.proofs.Undoing.{undo_kept, undo_room}
use Rattle.nuc_observe.proofs.keys.Keys.undo_last.Goals as goal

pub lead_back-requires : goal.lead_back-requires
lead_back-requires c =
    undo_room c.self.inside.by_id c.undo_last.new.self c.self.inside.by_key c.in-Some.undone c.self.invariant c.in-Some.ensures.last c.in-Some.ensures.settled c.in-Some.ensures.most

pub invariant_of-self : goal.invariant_of-self
invariant_of-self c =
    undo_kept c.self.inside.by_id c.undo_last.new.self c.self.inside.by_key c.in-Some.undone c.self.invariant c.in-Some.ensures.last c.in-Some.ensures.settled c.in-Some.ensures.most
    c.lead_back.new.by_key c.lead_back.ensures.numbers c.lead_back.ensures.room
