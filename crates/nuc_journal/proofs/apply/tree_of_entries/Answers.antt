use Rattle.std.proofs.Common.{◌≡◌, ◌+◌, suc, take, slice_get, Some, refl, ap, sym, ◌∙◌, arith}
use Rattle.std.proofs.lemmas.Option.{slice_get_read}
use Rattle.nuc_journal.specs.Entries.{tree_of, with_value}
use Rattle.nuc_journal.proofs.Ends.{tree_push}
use Rattle.nuc_journal.proofs.Lists.{take_at}
use Rattle.nuc_journal.proofs.apply.tree_of_entries.Goals as goal

pub loop-entry-preserved : goal.loop-entry-preserved
loop-entry-preserved c =
    let es = c.args.entries.now in
    let i = c.loop-entry.entry-index in
    let e = c.entry-item.result in
    let at : slice_get es i ≡ Some e = slice_get_read es _ i e refl (omega arith) c.entry-item.is in
    let next : i + 1 ≡ suc i = omega arith in (
      c.in_ok-apply.ensures.nodes ∙ ap (λ m. with_value m e.id.0 e.value) c.loop-entry.invariant.0
          ∙ sym (ap (λ n. tree_of (take n es)) next ∙ ap tree_of (take_at es i e at) ∙ tree_push (take i es) e),
      c.in_ok-apply.ensures.form,
    )
