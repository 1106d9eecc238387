use Rattle.std.proofs.Common.{◌∙◌, ap, sym, subst}
use Rattle.nuc_base.specs.Trees.{WellFormed}
use Rattle.nuc_base.proofs.Forms.{empty_form}
use Rattle.nuc_index.specs.Entries.{nodes_of}
use Rattle.nuc_index.specs.Slots.{entries_in}
use Rattle.nuc_index.proofs.Entries.{nobody}
use Rattle.nuc_index.proofs.Indexed.{none_indexed}
use Rattle.nuc_index.proofs.tree.IndexTree.new.Goals as goal

pub invariant_of-result : goal.invariant_of-result
invariant_of-result c = none_indexed c.new.result c.new-2.result c.new.ensures.empty c.new-2.ensures.ids c.new-2.ensures.places c.new-2.ensures.siblings

pub returns-clause-empty : goal.returns-clause-empty
returns-clause-empty c = ap (λ ks. nodes_of (entries_in c.new.result ks)) c.new-2.ensures.ids ∙ nobody

pub returns-clause-tree : goal.returns-clause-tree
returns-clause-tree c = subst WellFormed (sym (returns-clause-empty c)) empty_form
