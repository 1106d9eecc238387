use Rattle.std.proofs.Common.{rules}
use Rattle.nuc_conflict.proofs.mending.evict.Goals as goal

pub returns : goal.returns
returns g c = record {
  name = c.in_ok-name.name;
  free = c.in_ok-name.ensures;
  remote = search rules;
  local = search rules;
  synced = search rules;
  is = search rules;
}
