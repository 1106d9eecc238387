use Rattle.std.proofs.Common.{◌∙◌, sym}
use Rattle.nuc_index.proofs.Entries.{absent}
use Rattle.nuc_index.proofs.Indexed.{node_at}
use Rattle.nuc_index.proofs.Rows.{at_in}
use Rattle.nuc_index.proofs.entry.node_of.Goals as goal

pub index-requires : goal.index-requires
index-requires c = c.requires.full _ (at_in _ _ _ (sym c.get.ensures ∙ c.in-Some.is))

pub returns-in-Some : goal.returns-in-Some
returns-in-Some c = sym (node_at c.args.entries.now c.args.ids.now.items c.requires.rise c.in-Ok.at c.in-Some.slot (sym c.get.ensures ∙ c.in-Some.is) c.index.result.now
    c.index.ensures c.args.id.0 c.in-Ok.ensures.place)

pub returns-in-Err : goal.returns-in-Err
returns-in-Err c = sym (absent _ c.requires.rise _ _ c.in-Err.ensures.place)
