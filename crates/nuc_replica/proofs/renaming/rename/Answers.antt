use Rattle.nuc_replica.proofs.InPlace.{copies_legal, copy_fits, copy_legal, copy_some, last_legal, next_legal, now_renamed, some_y}
use Rattle.nuc_replica.proofs.renaming.rename.Goals as goal

pub put_one-requires-clause-some : goal.put_one-requires-clause-some
put_one-requires-clause-some g c = some_y c.args.tree.now.now c.args.id.0 c.args.to.0 c.args.node c.requires.ready.name c.requires.form c.requires.ready.can

pub put_one-requires-clause-fits : goal.put_one-requires-clause-fits
put_one-requires-clause-fits g c = copy_fits c.args.tree.now.now c.args.id.0 c.args.to.0 c.args.node c.args.nodes c.requires.form c.requires.ready

pub put_one-requires-clause-legal : goal.put_one-requires-clause-legal
put_one-requires-clause-legal g c = copy_legal c.args.tree.now.now c.args.id.0 c.args.to.0 c.args.node c.args.nodes c.requires.form c.requires.ready

pub put_one-requires-2-clause-legal : goal.put_one-requires-2-clause-legal
put_one-requires-2-clause-legal g c =
    next_legal c.args.tree.now.now c.args.id.0 c.args.to.0 c.args.node c.args.nodes c.requires.form c.requires.ready c.put_one.new.tree.now c.put_one.ensures.now

pub put_all-requires-clause-some : goal.put_all-requires-clause-some
put_all-requires-clause-some g c k d within =
    (copy_some c.args.tree.now.now c.args.id.0 c.args.to.0 c.args.nodes.children.items c.requires.form c.requires.ready.nodes.children k d within).0

pub put_all-requires-clause-fits : goal.put_all-requires-clause-fits
put_all-requires-clause-fits g c k d within =
    (copy_some c.args.tree.now.now c.args.id.0 c.args.to.0 c.args.nodes.children.items c.requires.form c.requires.ready.nodes.children k d within).1

pub put_all-requires-clause-legal : goal.put_all-requires-clause-legal
put_all-requires-clause-legal g c =
    copies_legal c.args.tree.now.now c.args.id.0 c.args.to.0 c.args.node c.args.nodes c.requires.form c.requires.ready c.put_one.new.tree.now c.put_one.ensures.now
    c.put_one-2.new.tree.now c.put_one-2.ensures.now

pub cut_one-requires-clause-legal : goal.cut_one-requires-clause-legal
cut_one-requires-clause-legal g c =
    last_legal c.args.tree.now.now c.args.id.0 c.args.to.0 c.args.node c.args.nodes c.requires.form c.requires.ready c.put_one.new.tree.now c.put_one.ensures.now
    c.put_one-2.new.tree.now c.put_one-2.ensures.now c.put_all.new.tree.now c.put_all.ensures.now

pub returns-clause-now : goal.returns-clause-now
returns-clause-now g c =
    now_renamed c.args.tree.now.now c.args.id.0 c.args.to.0 c.args.node c.args.nodes c.requires.form c.requires.ready c.put_one.new.tree.now c.put_one.ensures.now
    c.put_one-2.new.tree.now c.put_one-2.ensures.now c.put_all.new.tree.now c.put_all.ensures.now c.cut_one.new.tree.now c.cut_one.ensures.now
