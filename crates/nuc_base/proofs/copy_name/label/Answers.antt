use Rattle.std.proofs.Common.{◌≡◌, ◌≤◌, ◌++◌, length, string_bytes, ap, codes, arith, String, Global}
use Rattle.std.specs.Fmt.{decimal}
use Rattle.std.proofs.lemmas.Result.{IfOk-weaker}
use Rattle.nuc_base.proofs.Candidates.{longer_is_short}
use Rattle.nuc_base.proofs.copy_name.label.Goals as goal

pub returns-clause-short : goal.returns-clause-short
returns-clause-short c =
    let short = longer_is_short c.args.number (omega arith) in
    let value = λ (s : String Global). string_bytes s ≡ codes " (conflicted copy " ++ (decimal c.args.number ++ codes ")") in
    let limit = λ (s : String Global). length (string_bytes s) ≤ 39 in
    IfOk-weaker c.format.result value limit (λ s e. let len = ap length e in omega arith) c.format.ensures.ok
