use Rattle.std.proofs.Common.{rules}
use Rattle.nuc_base.proofs.Places.{free_of_found}
use Rattle.nuc_base.proofs.tree.TreeLike.check_put.Goals as goal

pub returns-then-under-clause-fault : goal.returns-then-under-clause-fault
returns-then-under-clause-fault g c =
    (search rules, search rules, free_of_found _ _ _ _ c.requires.tree c.at.ensures c.in_default.ensures, c.if-under.ensures)

pub returns-clause-ok : goal.returns-clause-ok
returns-clause-ok g c = record {
  kind = search rules;
  parent = search rules;
  free = free_of_found _ _ _ _ c.requires.tree c.at.ensures c.in_default.ensures;
  no_cycle = c.if-under.ensures;
}
