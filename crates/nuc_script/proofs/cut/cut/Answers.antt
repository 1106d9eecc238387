use Rattle.std.proofs.Common.{◌==◌, ◌∷◌, drop, sym, ap, subst, ◌∙◌}
use Rattle.std.specs.List.{slice_split, before_first, after_first}
use Rattle.std.proofs.lemmas.List.{take_all}
use Rattle.nuc_script.proofs.Cuts.{Lacks, text_round, before_at, after_at, split_at, before_lacks, after_lacks, split_lacks}
use Rattle.nuc_script.proofs.cut.cut.Goals as goal

pub returns-then-byte-at-clause-before : goal.returns-then-byte-at-clause-before
returns-then-byte-at-clause-before c =
    let round = text_round c.args.text.now c.args.at c.loop-i.i c.loop-i-test.true c.if-byte-at.true in
    c.split_at.ensures.front ∙ sym (ap (before_first (λ b. b == c.args.at)) round ∙ before_at _ _ _ c.loop-i.invariant)

pub returns-then-byte-at-clause-after : goal.returns-then-byte-at-clause-after
returns-then-byte-at-clause-after c =
    let round = text_round c.args.text.now c.args.at c.loop-i.i c.loop-i-test.true c.if-byte-at.true in
    c.split_at-then-byte-at.ensures.back ∙ ap (drop 1) c.split_at.ensures.back
    ∙ sym (ap (after_first (λ b. b == c.args.at)) round ∙ after_at _ _ _ c.loop-i.invariant)

pub returns-then-byte-at-clause-split : goal.returns-then-byte-at-clause-split
returns-then-byte-at-clause-split c =
    let round = text_round c.args.text.now c.args.at c.loop-i.i c.loop-i-test.true c.if-byte-at.true in
    let behind = c.split_at-then-byte-at.ensures.back ∙ ap (drop 1) c.split_at.ensures.back in
    ap (slice_split (λ b. b == c.args.at)) round ∙ split_at _ _ _ c.loop-i.invariant
    ∙ ap (λ l. l ∷ slice_split (λ b. b == c.args.at) (drop 1 (drop c.loop-i.i c.args.text.now))) (sym c.split_at.ensures.front)
    ∙ ap (λ l. c.split_at.result.0.now ∷ slice_split (λ b. b == c.args.at) l) (sym behind)

pub returns-clause-before : goal.returns-clause-before
returns-clause-before c =
    sym (before_lacks _ _ (subst (Lacks c.args.at) (take_all c.loop-i.i c.args.text.now c.loop-i-test.false) c.loop-i.invariant))

pub returns-clause-after : goal.returns-clause-after
returns-clause-after c = after_lacks _ _ (subst (Lacks c.args.at) (take_all c.loop-i.i c.args.text.now c.loop-i-test.false) c.loop-i.invariant)

pub returns-clause-split : goal.returns-clause-split
returns-clause-split c = split_lacks _ _ (subst (Lacks c.args.at) (take_all c.loop-i.i c.args.text.now c.loop-i-test.false) c.loop-i.invariant)
