use Rattle.std.proofs.Common.{ap, sym, subst, ◌∙◌}
use Rattle.nuc_base.specs.Trees.{WellFormed}
use Rattle.nuc_base.proofs.Forms.{empty_form}
use Rattle.nuc_tree.specs.Entries.{nodes_of}
use Rattle.nuc_tree.proofs.Views.{nobody}
use Rattle.nuc_tree.proofs.tree.Tree.new.Goals as goal

pub returns-clause-empty : goal.returns-clause-empty
returns-clause-empty c = ap nodes_of c.new.ensures.items ∙ nobody

pub returns-clause-tree : goal.returns-clause-tree
returns-clause-tree c = subst WellFormed (sym (ap nodes_of c.new.ensures.items ∙ nobody)) empty_form
