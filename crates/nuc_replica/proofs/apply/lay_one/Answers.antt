use Rattle.std.proofs.Common.{Some, sym, ap, subst, ◌∙◌}
use Rattle.nuc_replica.specs.Ahead.{Lies}
use Rattle.nuc_replica.proofs.Laying.{put_at, put_beside}
use Rattle.nuc_replica.proofs.apply.lay_one.Goals as goal

pub returns-in_ok-lay_by-in-Some-clause-ok : goal.returns-in_ok-lay_by-in-Some-clause-ok
returns-in_ok-lay_by-in-Some-clause-ok g c = subst (Lies c.lay_by.new.self.laid c.args.number) (sym c.in-Some.is)
    (put_at c.args.tree.now.laid _ c.args.number _ c.in_ok-lay_by-in-Some.ensures.laid ∙ ap Some c.in_ok-copy-in-Some.ensures)

pub returns-in_ok-lay_by-in-Some-clause-free : goal.returns-in_ok-lay_by-in-Some-clause-free
returns-in_ok-lay_by-in-Some-clause-free g c =
    put_at c.args.tree.now.laid _ c.args.number _ c.in_ok-lay_by-in-Some.ensures.laid ∙ sym (put_at c.args.tree.now.laid_then _ c.args.number _ c.in_ok-lay_by-in-Some.ensures.laid_then)

pub returns-in_ok-lay_by-in-Some-clause-others : goal.returns-in_ok-lay_by-in-Some-clause-others
returns-in_ok-lay_by-in-Some-clause-others g c = put_beside c.args.tree.now.laid _ c.args.number _ c.in_ok-lay_by-in-Some.ensures.laid

pub returns-in_ok-lay_by-in-Some-clause-others_then : goal.returns-in_ok-lay_by-in-Some-clause-others_then
returns-in_ok-lay_by-in-Some-clause-others_then g c = put_beside c.args.tree.now.laid_then _ c.args.number _ c.in_ok-lay_by-in-Some.ensures.laid_then
