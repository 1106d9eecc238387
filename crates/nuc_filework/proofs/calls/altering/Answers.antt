use Rattle.std.proofs.lemmas.Result.{err_from_is_err_and}
use Rattle.nuc_filework.proofs.Lacking.{last_lacks}
use Rattle.nuc_filework.proofs.calls.altering.Goals as goal

pub returns-in_err-move_to-clause-err : goal.returns-in_err-move_to-clause-err
returns-in_err-move_to-clause-err c =
    let p = err_from_is_err_and c.from_residual-in_err-move_to.result c.from_residual-in_err-move_to.ensures.1 in
    rw (p.1, p.2, ← c.key_of-key.ensures, c.in_ok-replace.ensures.ok, c.in_ok-set_bit.ensures.ok)
    (last_lacks c.in_ok-replace.replace c.in_ok-set_bit.set_bit _ c.in_err-move_to.field-0.0 c.in_err-move_to.ensures.err)
