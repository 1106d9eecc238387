use Rattle.std.proofs.Common.{◌≡◌}
use Rattle.std.specs.String.{string_bytes}
use Rattle.std.proofs.lemmas.Result.{IfOk-weaker}
use Rattle.nuc_report.specs.Entry.{item_line}
use Rattle.nuc_report.proofs.Lines.{item_text}
use Rattle.nuc_report.proofs.entry.item_line.Goals as goal

pub returns : goal.returns
returns c =
    IfOk-weaker _ _ (λ text. string_bytes text ≡ item_line c.args.item.now) (λ text same.
    item_text c.args.item.now _ _ _ c.in_ok-content.ensures (rw c.as_slice.ensures at c.in_ok-name.ensures) same
    ) c.format.ensures.ok
