use Rattle.std.proofs.Common.{refl, sym, ◌∙◌, arith}
use Rattle.nuc_script.proofs.Numbers.{passes}
use Rattle.nuc_script.proofs.number.number_within.Goals as goal

pub returns-in_err-checked_mul : goal.returns-in_err-checked_mul
returns-in_err-checked_mul c =
    let (low, high) = c.if-not-is_ascii_digit.ensures.cases in
    let over = passes c.args.least c.args.most _ _ _ c.args.word.now c.loop-byte-test.true refl low (omega (arith, high)) c.loop-byte.invariant.0
    (omega (arith, c.in_err-checked_mul.ensures, c.ranges.most.fits)) in
    record { value = c.from_residual.ensures ∙ sym over; small = rw c.from_residual.ensures tt }

pub returns-in_err-number : goal.returns-in_err-number
returns-in_err-number c =
    let (low, high) = c.if-not-is_ascii_digit.ensures.cases in
    let over = passes c.args.least c.args.most _ _ _ c.args.word.now c.loop-byte-test.true refl low (omega (arith, high)) c.loop-byte.invariant.0
    (omega (arith, c.in_err-number.ensures, c.in_ok-checked_mul.ensures.1, c.from-digit.ensures, c.ranges.most.fits)) in
    record { value = c.from_residual-in_err-number.ensures ∙ sym over; small = rw c.from_residual-in_err-number.ensures tt }

pub returns-then-number-most : goal.returns-then-number-most
returns-then-number-most c =
    let (low, high) = c.if-not-is_ascii_digit.ensures.cases in
    let over = passes c.args.least c.args.most _ _ _ c.args.word.now c.loop-byte-test.true refl low (omega (arith, high)) c.loop-byte.invariant.0
    (omega (arith, c.if-number-most.true, c.in_ok-number.ensures.1, c.in_ok-checked_mul.ensures.1, c.from-digit.ensures)) in
    record { value = sym over; small = tt }
