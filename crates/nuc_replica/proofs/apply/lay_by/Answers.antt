use Rattle.std.proofs.Common.{◌≡◌, ◌+◌, ◌∙◌, sym, subst, inl, inr, arith, rules}
use Rattle.nuc_base.proofs.Maps.{same_or_not}
use Rattle.std.specs.FinMap.{get}
use Rattle.nuc_replica.proofs.Laying.{laid_all, laid_more}
use Rattle.nuc_replica.proofs.apply.lay_by.Goals as goal

pub loop-i-preserved : goal.loop-i-preserved
loop-i-preserved g c =
    let old = c.loop-i.invariant in
    let one = c.in_ok-lay_one.ensures in
    record {
      laid = laid_more c.args.first c.loop-i.i _ _ c.args.entries.now c.index-entries-i.result (omega arith) c.index-entries-i.is one.others one.ok old.laid;
      before = λ j lt. one.others j (λ same. absurd (omega (arith, same, lt))) ∙ old.before j lt;
      before_then = λ j lt. one.others_then j (λ same. absurd (omega (arith, same, lt))) ∙ old.before_then j lt;
      untaken = λ j le. elim (same_or_not j (c.args.first + c.loop-i.i)) [
        | inl same ↦ subst (λ x. get c.lay_one.new.tree.laid x ≡ get c.lay_one.new.tree.laid_then x) (sym same) one.free
        | inr apart ↦ one.others j apart ∙ old.untaken j le ∙ sym (one.others_then j apart)
      ];
      keeps = search rules;
    }

pub returns-clause-ok : goal.returns-clause-ok
returns-clause-ok g c = laid_all c.args.first c.loop-i.i c.loop-i.tree.laid c.args.entries.now (omega arith) c.loop-i.invariant.laid
