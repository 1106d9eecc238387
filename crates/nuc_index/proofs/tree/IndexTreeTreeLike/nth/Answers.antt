use Rattle.std.proofs.Common.{ap, sym, ◌∙◌}
use Rattle.std.specs.FinMap as map
use Rattle.std.specs.Prelude.{option_map, slice_get}
use Rattle.nuc_base.specs.declared.node.NodeId.{NodeId}
use Rattle.nuc_index.proofs.Entries.{nth_is}
use Rattle.nuc_index.proofs.Slots.{id_read}
use Rattle.nuc_index.proofs.tree.IndexTreeTreeLike.nth.Goals as goal

pub returns : goal.returns
returns c =
    ap (option_map (λ (x : NodeId). x.0)) c.id_at.ensures
    ∙ id_read c.self.inside.entries _ c.args.i
    ∙ sym (nth_is _ c.args.i c.self.invariant.rise)
    ∙ ap (λ t. slice_get (map.keys t.nodes) c.args.i) c.self.view_is
