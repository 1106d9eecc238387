use Rattle.std.proofs.Common.{◌≡◌, [], false, refl, ap, arith, subst, sym, ◌∙◌, List, ℕ, Bool}
use Rattle.std.proofs.lemmas.Grind.{common_steps}
use Rattle.nuc_io.specs.Line.{LineData}
use Rattle.nuc_io.specs.Reading.{Took, AtEnd}
use Rattle.nuc_io.proofs.Taking.{took_nothing}
use Rattle.nuc_io.proofs.line.read_line.Goals as goal

same_line : (bytes : List ℕ) (spent : Bool) → bytes ≡ [] → spent ≡ false
    → (let line : LineData = record { bytes = bytes; ended = false; spent = spent } in line)
    ≡ record { bytes = []; ended = false; spent = false }
same_line bytes spent empty unspent = rw empty (rw unspent refl)

pub returns-in-End-clause-line : goal.returns-in-End-clause-line
returns-in-End-clause-line g c =
    let empty : c.fill.new.bytes.items ≡ [] = grind (arith, common_steps) in
    let (one_line, short, took, at_end) = c.in-End.ensures.fills in
    let left = g.S.Source.left in
    let same : left c.fill.new.src ≡ left c.args.src.now =
    took_nothing _ _ (subst (λ l. Took (left c.args.src.now) l (left c.fill.new.src)) empty took) in
    let unspent : c.line.inside.spent ≡ false = c.if-line.false in (
      ap (λ s. s.spent) (sym c.line.view_is) ∙ unspent,
      same_line _ _ empty unspent,
      subst AtEnd same at_end,
      same,
    )
