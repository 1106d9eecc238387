use Rattle.std.proofs.Common.{ap, sym, subst, ◌∙◌, arith}
use Rattle.std.proofs.lemmas.Grind.{common_steps}
use Rattle.nuc_base.specs.Trees.{WellFormed}
use Rattle.nuc_index.specs.Entries.{nodes_of}
use Rattle.nuc_index.specs.Indexes.{tree_of}
use Rattle.nuc_index.specs.Slots.{entries_in}
use Rattle.nuc_index.proofs.Indexed.{grown_indexed, kept_lists}
use Rattle.nuc_index.proofs.tree.IndexTreeTreeLike.reserve.Goals as goal

pub invariant_of-self : goal.invariant_of-self
invariant_of-self c = grown_indexed _ _ _ c.reserve.ensures.capacity c.reserve.ensures.rest_kept c.self.invariant

pub returns-in_err-reserve-clause-tree : goal.returns-in_err-reserve-clause-tree
returns-in_err-reserve-clause-tree c form = subst WellFormed (sym (ap (λ s. s.nodes) c.self.view_is) ∙ ap (λ s. tree_of s c.self.inside.indexes) (sym c.reserve.ensures.rest_kept)) form

pub returns-in_err-reserve-clause-memory : goal.returns-in_err-reserve-clause-memory
returns-in_err-reserve-clause-memory c = grind (arith, common_steps, c.reserve.ensures.succeeds, c.self.view_is, c.self.invariant.fits)

pub invariant_of-self-2 : goal.invariant_of-self-2
invariant_of-self-2 c = kept_lists _ _ _ c.reserve-2.ensures.same (grown_indexed _ _ _ c.reserve.ensures.capacity c.reserve.ensures.rest_kept c.self.invariant)

pub returns-clause-tree : goal.returns-clause-tree
returns-clause-tree c form = subst WellFormed
    (sym (ap (λ s. s.nodes) c.self.view_is) ∙ ap (λ s. tree_of s c.self.inside.indexes) (sym c.reserve.ensures.rest_kept) ∙ ap
    (λ ks. nodes_of (entries_in c.reserve.new.self ks)) (sym c.reserve-2.ensures.same.ids)) form
