use Rattle.std.proofs.Common.{◌∙◌, ap, sym, subst}
use Rattle.nuc_replica.specs.Ahead.{IsKept, state_now, state_then}
use Rattle.nuc_replica.specs.Remote.{RemoteStates}
use Rattle.nuc_replica.proofs.Kept.{LookupTakenBack, kept_back, settled_back, state_back}
use Rattle.nuc_replica.proofs.remote.Remote.back.Goals as goal

pub invariant_of-self : goal.invariant_of-self
invariant_of-self g c =
    let inside = c.self.inside in
    let revisions : LookupTakenBack inside.revisions c.back-2.new.self = record { now = c.back-2.ensures.now; past = c.back-2.ensures.past; spare = c.back-2.ensures.spare } in
    subst (λ a. IsKept c.back.new.self c.back-2.new.self inside.settled_cursor inside.settled_cursor a) (sym c.back-3.ensures.back)
    (kept_back inside.tree c.back.new.self inside.revisions c.back-2.new.self inside.settled_cursor inside.ahead c.back-3.ensures.places c.back.ensures.back revisions inside.cursor c.self.invariant)

pub returns-clause-now : goal.returns-clause-now
returns-clause-now g c =
    let inside = c.self.inside in
    let revisions : LookupTakenBack inside.revisions c.back-2.new.self = record { now = c.back-2.ensures.now; past = c.back-2.ensures.past; spare = c.back-2.ensures.spare } in
    ap (state_now c.back.new.self c.back-2.new.self inside.settled_cursor) c.back-3.ensures.back
    ∙ state_back inside.tree c.back.new.self inside.revisions c.back-2.new.self inside.settled_cursor inside.ahead c.back-3.ensures.places c.back.ensures.back revisions
    ∙ ap (λ (s : RemoteStates). s.settled) c.self.view_is

pub returns-clause-settled : goal.returns-clause-settled
returns-clause-settled g c =
    let inside = c.self.inside in
    let revisions : LookupTakenBack inside.revisions c.back-2.new.self = record { now = c.back-2.ensures.now; past = c.back-2.ensures.past; spare = c.back-2.ensures.spare } in
    ap (state_then c.back.new.self c.back-2.new.self inside.settled_cursor) c.back-3.ensures.back
    ∙ settled_back inside.tree c.back.new.self inside.revisions c.back-2.new.self inside.settled_cursor inside.ahead c.back-3.ensures.places c.back.ensures.back revisions
    ∙ ap (λ (s : RemoteStates). s.settled) c.self.view_is
