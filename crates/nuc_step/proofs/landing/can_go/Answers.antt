use Rattle.std.proofs.Common.{MatchBool, subst, sym}
use Rattle.nuc_base.specs.Changes.{changed}
use Rattle.nuc_base.specs.Legal.{LegalCut}
use Rattle.nuc_step.specs.Steps.{is_split}
use Rattle.nuc_step.proofs.Landed.{go_alone, go_together, with_other}
use Rattle.nuc_step.proofs.landing.can_go.Goals as goal

pub returns-then-is_legal_in : goal.returns-then-is_legal_in
returns-then-is_legal_in g c =
    let op = c.args.op.now in
    let other = with_other (is_split op.verb) op.id.0 op.other.0 op.local c.requires.may.other c.requires.split in
    go_together _ op.id.0 op.other.0 op.local other c.requires.absent c.is_child_of.result c.if-is_legal_in.ensures c.is_child_of.ensures

pub returns-else-is_legal_in : goal.returns-else-is_legal_in
returns-else-is_legal_in g c =
    let op = c.args.op.now in
    let other = with_other (is_split op.verb) op.id.0 op.other.0 op.local c.requires.may.other c.requires.split in
    let goes = LegalCut (changed (g.T.TreeLike.nodes c.args.local.now) op.other.0 op.local) op.id.0 in
    subst (λ b. MatchBool b goes (¬ goes)) (sym c.if-is_legal_in.false) (go_alone _ op.id.0 op.other.0 op.local other c.requires.absent c.if-is_legal_in.ensures)
