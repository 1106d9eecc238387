use Rattle.std.proofs.Common.{◌≡◌, Some, sym, ap, get_or, length, ◌<◌, ◌∙◌, arith}
use Rattle.std.specs.Prelude.{slice_get}
use Rattle.std.proofs.lemmas.List.{get_or_read}
use Rattle.nuc_tiered.specs.Rings.{cell}
use Rattle.nuc_tiered.proofs.Cells.{items_get, cell_within}
use Rattle.nuc_tiered.proofs.tiered.TieredVec.get.Goals as goal

pub returns : goal.returns
returns c =
    let le = c.self.invariant.within in
    let at : c.cell_of.result ≡ cell c.self.inside.heads.items c.args.i = c.cell_of.ensures.value ∙ ap (λ l. cell l c.args.i) c.deref.ensures.value in
    let there : cell c.self.inside.heads.items c.args.i < length c.self.inside.cells.items = cell_within _ _ c.args.i c.self.invariant.rings (omega arith) in
    ap (λ x. Some x) (get_or_read c.self.inside.cells.items c.cell_of.result c.index.result.now (omega arith) c.index.ensures 0 ∙ ap (λ j. get_or c.self.inside.cells.items j 0) at)
    ∙ sym (items_get _ _ _ c.args.i c.self.invariant c.if-i-self.false) ∙ ap (λ s. slice_get s.items c.args.i) c.self.view_is
