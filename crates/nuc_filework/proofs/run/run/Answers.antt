use Rattle.std.proofs.Common.{◌≡◌, ◌+◌, suc, sym, ◌∙◌, arith}
use Rattle.nuc_filework.proofs.Running.{counted, ends_at, goes_on_at, stops_at}
use Rattle.nuc_filework.proofs.run.run.Goals as goal

pub returns-then-not-is_success : goal.returns-then-not-is_success
returns-then-not-is_success g c =
    let failed = sym c.is_success.ensures ∙ c.if-not-is_success.true in
    let stop = stops_at c.args.bytes.now c.args.calls.now c.loop-call.call-index c.call-item.result _ _ c.loop-call.last c.make-answer.result c.loop-call-test.true c.call-item.is c.make-answer.ensures failed in
    let none : c.loop-call.made + 0 ≡ c.loop-call.made = omega arith in
    counted _ _ none (c.loop-call.invariant.runs _ 0 _ stop)

pub loop-call-preserved : goal.loop-call-preserved
loop-call-preserved g c =
    let success = sym c.is_success.ensures ∙ c.if-not-is_success.false in record {
      made = omega (arith, c.loop-call.invariant.made);
      runs = λ final more w rest.
          let on = goes_on_at c.args.bytes.now c.args.calls.now c.loop-call.call-index c.call-item.result _ _ c.loop-call.last c.make-answer.result c.loop-call-test.true c.call-item.is c.make-answer.ensures final more w success rest in
          let count : c.loop-call.made + suc more ≡ c.loop-call.made + 1 + more = omega arith in
          counted _ _ count (c.loop-call.invariant.runs final (suc more) w on);
    }

pub returns : goal.returns
returns g c =
    let end = ends_at c.args.bytes.now c.args.calls.now c.loop-call.call-index _ c.loop-call.last c.loop-call-test.false in
    let none : c.loop-call.made + 0 ≡ c.loop-call.made = omega arith in
    counted _ _ none (c.loop-call.invariant.runs c.loop-call.last 0 _ end)
