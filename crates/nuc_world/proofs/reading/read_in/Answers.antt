use Rattle.std.proofs.Common.{◌≡◌, ◌-◌, suc, arith, sym, subst, drop, ◌∙◌, ap}
use Rattle.std.specs.Prelude.{None, Some}
use Rattle.nuc_world.specs.Takes.{read_by, read_in}
use Rattle.nuc_world.proofs.LastRead.{found}
use Rattle.nuc_world.proofs.reading.read_in.Goals as goal

pub returns-in-Some : goal.returns-in-Some
returns-in-Some c =
    let client = c.args.client in
    let number = c.args.number in
    let es = c.entries-entries.result.now in
    let left = c.loop-left.left in
    let before : left ≡ suc (left - 1) = omega (arith, c.loop-left-test.true) in
    let none : read_in client number (drop (suc (left - 1)) es) ≡ None = subst (λ k. read_in client number (drop k es) ≡ None) before c.loop-left.invariant.none in
    let reads = subst (λ e. read_by client number e ≡ Some c.in-Some.bytes.now) c.index-entries-left.is (sym c.in-Some.ensures) in
    let last = found client number es (left - 1) _ c.in-Some.bytes.now (omega (arith, c.loop-left-test.true, c.loop-left.invariant.within)) none reads in
    sym (ap (read_in client number) (sym c.entries-entries.ensures) ∙ last)
