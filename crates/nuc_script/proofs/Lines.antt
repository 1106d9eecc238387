-- From a whole line to what it gives.
use Rattle.std.proofs.Common.{◌≡◌, ◌≢◌, ℕ, ◌+◌, ◌≤◌, Bool, true, false, ◌==◌, List, [], ◌∷◌, ◌++◌, length, Option, refl, sym, ap, subst, ◌∙◌, arith, length-append}
use Rattle.std.proofs.lemmas.Bool.Decides.{nat_tests}
use Rattle.nuc_io.specs.Reading.{Took}
use Rattle.nuc_io.specs.Line.{LineData, IsWhole, line_text}
use Rattle.nuc_script.specs.declared.command.Command.{Command}
use Rattle.nuc_script.specs.declared.read.Next.{Next}
use Rattle.nuc_script.specs.declared.read.Next.TheVariants as next
use Rattle.nuc_script.specs.Lines.{numbered_meaning}
use Rattle.nuc_script.specs.Reading.{without_cr}
use Rattle.nuc_script.specs.Steps.{JudgesWhole, judged_text, ReadsNext, IsFaulty, faulty_lf, faulty_end}

pub cr_dropped : (front : List ℕ) → without_cr (front ++ 13 ∷ []) ≡ front
cr_dropped [] = refl
cr_dropped (b ∷ []) = refl
cr_dropped (b ∷ next ∷ front) = ap (λ l. b ∷ l) (cr_dropped (next ∷ front))

pub no_cr : (line : List ℕ) → ((front : List ℕ) → line ≢ front ++ 13 ∷ []) → without_cr line ≡ line
no_cr [] none = refl
no_cr (b ∷ []) none =
    let other : b ≢ 13 = λ same. none [] (ap (λ x. x ∷ []) same) in
    let test : (b == 13) ≡ false = grind (arith, nat_tests) in
    rw test refl
no_cr (b ∷ next ∷ bytes) none = ap (λ l. b ∷ l) (no_cr (next ∷ bytes) (λ front same. none (b ∷ front) (ap (λ l. b ∷ l) same)))

text_ended : (line : LineData) → line.ended ≡ true → line_text line ≡ line.bytes ++ 10 ∷ []
text_ended line ended = rw ended refl

text_open : (line : LineData) → line.ended ≡ false → line_text line ≡ line.bytes
text_open line ended = rw ended refl

line_len : (line : LineData) → (ended : Bool) → line.ended ≡ ended → length (line_text line) ≤ length line.bytes + 1
line_len line true ended = omega (arith, ap length (text_ended line ended), length-append line.bytes (10 ∷ []))
line_len line false ended = omega (arith, ap length (text_open line ended))

pub judged : (number : ℕ) (before : List Command) (left : Option (List ℕ)) (line : LineData) (rest : Option (List ℕ)) (r : Next) → IsWhole line rest
    → Took left (line_text line) rest → JudgesWhole line.ended (numbered_meaning number before (judged_text line.ended line.bytes)) r
    → ReadsNext number before left r rest
judged number before left line rest (next.Line found) whole took (ended, meaning) = (
  line.bytes,
  whole.one_line,
  whole.short,
  subst (λ l. Took left l rest) (text_ended line ended) took,
  ap (λ t. numbered_meaning number before (judged_text t line.bytes)) (sym ended) ∙ meaning,
)
judged number before left line rest (next.Last found) whole took (ended, meaning) = (
  line.bytes,
  whole.one_line,
  (whole.open_end ended).0,
  whole.short,
  subst (λ l. Took left l rest) (text_open line ended) took,
  (whole.open_end ended).1,
  ap (λ t. numbered_meaning number before (judged_text t line.bytes)) (sym ended) ∙ meaning,
)
judged number before left line rest next.End whole took never = absurd never
judged number before left line rest (next.Fault kind) whole took meaning = (
  line_text line,
  elim line.ended as (λ t. line.ended ≡ t → IsFaulty number before kind (line_text line) rest) [
    | true ↦ λ ended. faulty_lf line.bytes whole.one_line whole.short (text_ended line ended)
        (ap (λ t. numbered_meaning number before (judged_text t line.bytes)) (sym ended) ∙ meaning)
    | false ↦ λ ended. subst (λ l. IsFaulty number before kind l rest) (sym (text_open line ended))
        (faulty_end whole.one_line (whole.open_end ended).0 whole.short (whole.open_end ended).1
        (ap (λ t. numbered_meaning number before (judged_text t line.bytes)) (sym ended) ∙ meaning))
  ] refl,
  took,
)
judged number before left line rest next.ReadFault whole took never = absurd never
judged number before left line rest next.Memory whole took _ = (line_text line, omega (arith, line_len line line.ended refl, whole.short), took)
