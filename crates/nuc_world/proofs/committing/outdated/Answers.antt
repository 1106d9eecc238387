use Rattle.nuc_world.proofs.Nothing.{nothing_follows}
use Rattle.nuc_world.proofs.committing.outdated.Goals as goal

pub tell-requires-clause-news : goal.tell-requires-clause-news
tell-requires-clause-news g c = nothing_follows c.args.client.now.now.remote
