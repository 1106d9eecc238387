use Rattle.nucleus_bench.proofs.committing.Service.record.Goals as goal

pub enter-requires : goal.enter-requires
enter-requires c = c.requires.version
