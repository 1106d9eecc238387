use Rattle.std.proofs.Common.{◌∷◌, [], sym, ◌∙◌, ap}
use Rattle.std.proofs.lemmas.Slice.Eq.{strip_suffix_is}
use Rattle.std.proofs.lemmas.Bool.Decides.{Decides-eqb}
use Rattle.nuc_script.specs.Reading.{without_cr}
use Rattle.nuc_script.proofs.Lines.{cr_dropped, no_cr}
use Rattle.nuc_script.proofs.read.without_cr.Goals as goal

pub returns-in-Some : goal.returns-in-Some
returns-in-Some c =
    let cut = strip_suffix_is Decides-eqb c.args.line.now (13 ∷ []) c.strip_suffix.result c.strip_suffix.ensures.cases in
    let same = rw c.in-Some.is at cut in
    sym (ap without_cr same ∙ cr_dropped _)

pub returns-in-None : goal.returns-in-None
returns-in-None c =
    let cut = strip_suffix_is Decides-eqb c.args.line.now (13 ∷ []) c.strip_suffix.result c.strip_suffix.ensures.cases in
    let none = rw c.in-None.is at cut in
    sym (no_cr _ none)
