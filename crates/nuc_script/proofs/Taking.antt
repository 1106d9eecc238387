-- What was taken so far, and the answer for it.
use Rattle.std.proofs.Common.{◌≡◌, ℕ, ◌+◌, ◌≤◌, ◌<◌, true, false, cond, List, [], ◌∷◌, ◌++◌, length, Option, Ok, Err, refl, sym, ap, subst, ◌∙◌, inl, inr, append_assoc, arith, length-append}
use Rattle.std.specs.Prelude.{nat_lt}
use Rattle.std.specs.List.{concat, AllByRecursion}
use Rattle.std.proofs.lemmas.List.{append-nil}
use Rattle.std.proofs.lemmas.Bool.Decides.{nat_tests}
use Rattle.nuc_io.specs.Reading.{Took, AtEnd}
use Rattle.nuc_io.specs.Line.{IsOneLine}
use Rattle.nuc_io.proofs.Taking.{took_more, took_none}
use Rattle.nuc_script.specs.declared.fault.LineFault.{LineFault}
use Rattle.nuc_script.specs.declared.fault.LineFault.TheVariants as fault
use Rattle.nuc_script.specs.declared.command.Command.{Command}
use Rattle.nuc_script.specs.declared.script_read.ScriptRead.{ScriptRead}
use Rattle.nuc_script.specs.declared.script_read.ScriptRead.TheVariants as read
use Rattle.nuc_script.specs.Lines.{numbered_meaning, line_meaning}
use Rattle.nuc_script.specs.Reading.{without_cr, added, goes_on, pieces, script_from, script_of}
use Rattle.nuc_script.specs.Taking.{IsFullLine, IsCutLine, by_lf, by_end, cut_off, IsSettled, ReadsScript, TookLines}
use Rattle.nuc_script.specs.Steps.{IsFaulty, faulty_lf, faulty_end, faulty_cut, TookLine}
use Rattle.nuc_script.proofs.Scripts.{line_step, last_step, end_step, long_step}

-- whole lines were taken, so many, and what comes behind them is read behind these commands
pub record IsSoFar (left : Option (List ℕ)) (lines : List (List ℕ)) (count : ℕ) (commands : List Command) (rest : Option (List ℕ)) : Type 0 where
  pub full : AllByRecursion IsFullLine lines
  pub counted : length lines ≡ count
  pub took : Took left (concat lines) rest
  pub answer : (more : List ℕ) → script_of (concat lines ++ more) ≡ script_from (count + 1) commands (pieces more)
  pub early : count ≤ 1000000

pub at_first : (left : Option (List ℕ)) → IsSoFar left [] 0 [] left
at_first left = record { full = tt; counted = refl; took = took_none left; answer = λ more. refl; early = omega arith }

concat_push : (lines : List (List ℕ)) (line : List ℕ) → concat (lines ++ line ∷ []) ≡ concat lines ++ line
concat_push [] line = append-nil line
concat_push (first ∷ lines) line = ap (λ l. first ++ l) (concat_push lines line) ∙ sym (append_assoc first (concat lines) line)

full_push : (lines : List (List ℕ)) (line : List ℕ) → AllByRecursion IsFullLine lines → IsFullLine line → AllByRecursion IsFullLine (lines ++ line ∷ [])
full_push [] line full is = (is, tt)
full_push (first ∷ lines) line (here, later) is = (here, full_push lines line later is)

-- a line with a meaning comes early enough
pub ok_early : (number : ℕ) (before : List Command) (line : List ℕ) (found : Option Command) → numbered_meaning number before line ≡ Ok found → number ≤ 1000000
ok_early number before line found meaning =
    elim (nat_lt 1000000 number) as (λ t. nat_lt 1000000 number ≡ t → cond t (Err fault.Many) (line_meaning before line) ≡ Ok found → number ≤ 1000000) [
      | true ↦ λ t e. absurd cc
      | false ↦ λ t e. grind (arith, nat_tests)
    ] refl meaning

with_lf : (front text more : List ℕ) → (front ++ (text ++ 10 ∷ [])) ++ more ≡ front ++ (text ++ 10 ∷ more)
with_lf front text more = append_assoc front (text ++ 10 ∷ []) more ∙ ap (λ l. front ++ l) (append_assoc text (10 ∷ []) more)

pub after_line : (left : Option (List ℕ)) (lines : List (List ℕ)) (count : ℕ) (commands : List Command) (between : Option (List ℕ)) (text : List ℕ)
    (found : Option Command) (rest : Option (List ℕ)) → IsSoFar left lines count commands between → IsOneLine text → length text ≤ 4097
    → Took between (text ++ 10 ∷ []) rest → numbered_meaning (count + 1) commands (without_cr text) ≡ Ok found
    → IsSoFar left (lines ++ (text ++ 10 ∷ []) ∷ []) (count + 1) (added commands found) rest
after_line left lines count commands between text found rest so_far one_line short took meaning = record {
  full = full_push lines (text ++ 10 ∷ []) so_far.full (text, one_line, short, refl);
  counted = omega (arith, so_far.counted, length-append lines ((text ++ 10 ∷ []) ∷ []));
  took = subst (λ l. Took left l rest) (sym (concat_push lines (text ++ 10 ∷ []))) (took_more left (concat lines) (text ++ 10 ∷ []) between rest so_far.took took);
  answer = λ more.
      ap (λ l. script_of (l ++ more)) (concat_push lines (text ++ 10 ∷ [])) ∙ ap script_of (with_lf (concat lines) text more)
      ∙ so_far.answer (text ++ 10 ∷ more) ∙ line_step (count + 1) commands text more one_line
      ∙ ap (λ m. goes_on (count + 1) commands m (λ cs. script_from (count + 1 + 1) cs (pieces more))) meaning;
  early = ok_early (count + 1) commands (without_cr text) found meaning;
}

-- the whole script was taken
pub at_last : (left : Option (List ℕ)) (lines : List (List ℕ)) (count : ℕ) (commands : List Command) (between : Option (List ℕ)) (text : List ℕ)
    (found : Option Command) (rest : Option (List ℕ)) → IsSoFar left lines count commands between → IsOneLine text → 0 < length text
    → Took between text rest → AtEnd rest → numbered_meaning (count + 1) commands text ≡ Ok found
    → ReadsScript left (read.Commands (added commands found)) rest
at_last left lines count commands between text found rest so_far one_line some took ends meaning = (
  concat lines ++ text,
  took_more left (concat lines) text between rest so_far.took took,
  ends,
  so_far.answer text ∙ last_step (count + 1) commands text one_line some ∙ ap (λ m. goes_on (count + 1) commands m (λ cs. read.Commands cs)) meaning,
)

pub at_end : (left : Option (List ℕ)) (lines : List (List ℕ)) (count : ℕ) (commands : List Command) (between rest : Option (List ℕ))
    → IsSoFar left lines count commands between → AtEnd between → rest ≡ between → ReadsScript left (read.Commands commands) rest
at_end left lines count commands between rest so_far ends same = (
  concat lines,
  subst (λ o. Took left (concat lines) o) (sym same) so_far.took,
  subst AtEnd (sym same) ends,
  ap script_of (sym (append-nil (concat lines))) ∙ so_far.answer [] ∙ end_step (count + 1) commands,
)

-- A FAULTY LINE
settled : (bytes : List ℕ) (rest : Option (List ℕ)) (answer : ScriptRead) → ((more : List ℕ) → script_of (bytes ++ more) ≡ answer) → IsSettled bytes rest answer
settled bytes rest answer always = (ap script_of (sym (append-nil bytes)) ∙ always [], inr always)

fault_settled : (left : Option (List ℕ)) (lines : List (List ℕ)) (count : ℕ) (commands : List Command) (between : Option (List ℕ)) (kind : LineFault)
    (line : List ℕ) (rest : Option (List ℕ)) → IsSoFar left lines count commands between → IsFaulty (count + 1) commands kind line rest
    → IsCutLine line rest × IsSettled (concat lines ++ line) rest (read.Fault (count + 1) kind)
fault_settled left lines count commands between kind line rest so_far (faulty_lf text one_line short same meaning) = (
  by_lf (text, one_line, short, same),
  settled (concat lines ++ line) rest (read.Fault (count + 1) kind) (λ more.
      ap (λ l. script_of ((concat lines ++ l) ++ more)) same ∙ ap script_of (with_lf (concat lines) text more)
      ∙ so_far.answer (text ++ 10 ∷ more) ∙ line_step (count + 1) commands text more one_line
      ∙ ap (λ m. goes_on (count + 1) commands m (λ cs. script_from (count + 1 + 1) cs (pieces more))) meaning),
)
fault_settled left lines count commands between kind line rest so_far (faulty_end one_line some short ends meaning) = (
  by_end one_line some short ends,
  (so_far.answer line ∙ last_step (count + 1) commands line one_line some ∙ ap (λ m. goes_on (count + 1) commands m (λ cs. read.Commands cs)) meaning, inl ends),
)
fault_settled left lines count commands between kind line rest so_far (faulty_cut one_line long same) = (
  cut_off one_line long,
  settled (concat lines ++ line) rest (read.Fault (count + 1) kind) (λ more.
      ap script_of (append_assoc (concat lines) line more) ∙ so_far.answer (line ++ more) ∙ long_step (count + 1) commands line more one_line long
      ∙ ap (λ k. read.Fault (count + 1) k) (sym same)),
)

pub at_fault : (left : Option (List ℕ)) (lines : List (List ℕ)) (count : ℕ) (commands : List Command) (between : Option (List ℕ)) (kind : LineFault)
    (line : List ℕ) (rest : Option (List ℕ)) → IsSoFar left lines count commands between → IsFaulty (count + 1) commands kind line rest → Took between line rest
    → ReadsScript left (read.Fault (count + 1) kind) rest
at_fault left lines count commands between kind line rest so_far faulty took =
    let (cut, is) = fault_settled left lines count commands between kind line rest so_far faulty in
    (lines, line, so_far.full, omega (arith, so_far.counted), cut, took_more left (concat lines) line between rest so_far.took took, is)

-- HOW MUCH IS TAKEN
full_short : (line : List ℕ) → IsFullLine line → length line ≤ 4098
full_short line (text, one_line, short, same) = omega (arith, short, ap length same, length-append text (10 ∷ []))

all_short : (lines : List (List ℕ)) (line : List ℕ) → AllByRecursion IsFullLine lines → length line ≤ 4098
    → AllByRecursion (λ line. length line ≤ 4098) (lines ++ line ∷ [])
all_short [] line full short = (short, tt)
all_short (first ∷ lines) line (here, later) short = (full_short first here, all_short lines line later short)

pub few_lines : (left : Option (List ℕ)) (lines : List (List ℕ)) (count : ℕ) (commands : List Command) (between rest : Option (List ℕ))
    → IsSoFar left lines count commands between → TookLine between rest → TookLines 1000001 left rest
few_lines left lines count commands between rest so_far (line, short, took) = (
  lines ++ line ∷ [],
  omega (arith, so_far.counted, so_far.early, length-append lines (line ∷ [])),
  all_short lines line so_far.full short,
  subst (λ l. Took left l rest) (sym (concat_push lines line)) (took_more left (concat lines) line between rest so_far.took took),
)

pub faulty_short : (number : ℕ) (before : List Command) (kind : LineFault) (line : List ℕ) (rest : Option (List ℕ)) → IsFaulty number before kind line rest
    → length line ≤ 4098
faulty_short number before kind line rest (faulty_lf text one_line short same meaning) = omega (arith, short, ap length same, length-append text (10 ∷ []))
faulty_short number before kind line rest (faulty_end one_line some short ends meaning) = omega (arith, short)
faulty_short number before kind line rest (faulty_cut one_line long same) = omega (arith, long)

pub text_short : (text : List ℕ) → length text ≤ 4097 → length (text ++ 10 ∷ []) ≤ 4098
text_short text short = omega (arith, short, length-append text (10 ∷ []))

pub took_no_line : (left rest : Option (List ℕ)) → rest ≡ left → TookLine left rest
took_no_line left rest same = ([], omega arith, subst (λ o. Took left [] o) (sym same) (took_none left))
