use Rattle.nuc_step.proofs.Laying.{put_laid, put_one}
use Rattle.nuc_step.proofs.launch.lay_in_local.Goals as goal

pub returns-in_ok-lay_by-in-Put-clause-laid : goal.returns-in_ok-lay_by-in-Put-clause-laid
returns-in_ok-lay_by-in-Put-clause-laid g c =
    put_laid c.args.number c.in-Put.node _ c.args.change.now c.args.local.now.laid c.lay_by.new.self.laid c.in_ok-lay_by-in-Put.ensures.laid c.in_ok-copy-in-Put.ensures c.in-Put.is

pub returns-in_ok-lay_by-in-Put-clause-one : goal.returns-in_ok-lay_by-in-Put-clause-one
returns-in_ok-lay_by-in-Put-clause-one g c =
    put_one c.args.number _ c.args.local.now.laid c.args.local.now.laid_then c.lay_by.new.self.laid c.lay_by.new.self.laid_then
    c.in_ok-lay_by-in-Put.ensures.laid c.in_ok-lay_by-in-Put.ensures.laid_then
