use Rattle.std.proofs.Common.{ap, subst, sym, ◌∙◌, take}
use Rattle.std.specs.Map.{values_of}
use Rattle.nuc_edits.specs.Edits.{EditsState, IsNext}
use Rattle.nuc_edits.proofs.TiedLemmas.{tied_front, front_next, values_take, take_twice}
use Rattle.nuc_edits.proofs.edits.Edits.back.Goals as goal

pub invariant_of-self : goal.invariant_of-self
invariant_of-self c = tied_front _ _ _ _ _ _ c.self.invariant _ _
    c.back.ensures.now c.back.ensures.settled c.back-2.ensures.now c.back-2.ensures.settled
    _ _ c.truncate.ensures.entries c.truncate-2.ensures.items

pub returns-clause-now : goal.returns-clause-now
returns-clause-now c =
    (λ i. record {
      edits = (ap values_of c.truncate.ensures.entries ∙ values_take c.self.inside.settled_edits c.self.inside.entries.entries) i;
      adoptions = c.truncate-2.ensures.items i;
    })
    ∙ ap (λ (s : EditsState). s.settled) c.self.view_is

pub returns-clause-settled : goal.returns-clause-settled
returns-clause-settled c =
    let n = c.self.inside.settled_edits in
    let m = c.self.inside.settled_adoptions in
    let es = c.self.inside.entries.entries in
    let adoptions = c.self.inside.adoptions.items in
    (λ i. record {
      edits = (ap (λ es. take n (values_of es)) c.truncate.ensures.entries
          ∙ sym (values_take n (take n es)) ∙ ap values_of (take_twice n es c.self.invariant.edits_within) ∙ values_take n es) i;
      adoptions = (ap (take m) c.truncate-2.ensures.items ∙ take_twice m adoptions c.self.invariant.adoptions_within) i;
    })
    ∙ ap (λ (s : EditsState). s.settled) c.self.view_is

pub returns-clause-next : goal.returns-clause-next
returns-clause-next c next before =
    subst (IsNext next) (sym (ap values_of c.truncate.ensures.entries ∙ values_take c.self.inside.settled_edits c.self.inside.entries.entries))
    (front_next next c.self.inside.settled_edits (values_of c.self.inside.entries.entries) (subst (λ (s : EditsState). IsNext next s.now.edits) (sym c.self.view_is) before))
