use Rattle.std.proofs.Common.{◌≡◌, codes}
use Rattle.std.proofs.lemmas.Bool.Decides.{Decides-eqb}
use Rattle.std.proofs.lemmas.Slice.Eq.{slice_eq-Decides}
use Rattle.nuc_base.proofs.Answered.{cases_of_decides}
use Rattle.nuc_run.proofs.Words.{is_the_word, not_the_word, one_word}
use Rattle.nuc_run.proofs.run.are_run.Goals as goal

pub returns-in-len1 : goal.returns-in-len1
returns-in-len1 c =
    let one = one_word c.args.words.now c.word-item.result c.in-len1.len_at_least c.in-len1.len_below c.word-item.is in
    cases_of_decides c.eq.result (c.as_str.result.now ≡ codes "run") _ _ (slice_eq-Decides Decides-eqb _ _ _ c.eq.ensures)
    (is_the_word c.args.words.now c.word-item.result _ _ one c.as_str.ensures.value) (not_the_word c.args.words.now c.word-item.result _ _ one c.as_str.ensures.value)
