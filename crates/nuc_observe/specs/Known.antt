-- What there is before a scan, as the code is given it.
use Rattle.nuc_base.specs.Trees.{Nodes}
use Rattle.nuc_observe.specs.Observed.{Before}
use Rattle.nuc_observe.specs.declared.gather.Known.{Known}

abbrev pub before_of : {T : Type 0} → (T → Nodes) → Known T → Before
before_of nodes k = record {
  keys = k.keys.now.now;
  remote = nodes k.remote.now;
  local = nodes k.local.now;
  synced = nodes k.synced.now;
  edits = k.edits.now.now.edits;
}
