-- The words of a line.
use Rattle.std.specs.Prelude.{ℕ, Bool, false, not, ◌==◌, List, [], ◌∷◌, length, Result, Ok, Err, filter}
use Rattle.std.specs.List.{slice_split}
use Rattle.nuc_script.specs.declared.fault.LineFault.{LineFault}
use Rattle.nuc_script.specs.declared.fault.LineFault.TheVariants as fault

-- what stands between spaces, but for what is empty
abbrev pub words_of : List ℕ → List (List ℕ)
words_of line = filter (λ word. not (length word == 0)) (slice_split (λ b. b == 32) line)

-- the words, where they are as many as they should be
abbrev pub one_word : List (List ℕ) → Result (List ℕ) LineFault
one_word [] = Err fault.Count
one_word (word ∷ []) = Ok word
one_word (word ∷ next ∷ words) = Err fault.Count

abbrev pub two_words : List (List ℕ) → Result (List ℕ × List ℕ) LineFault
two_words [] = Err fault.Count
two_words (first ∷ []) = Err fault.Count
two_words (first ∷ second ∷ []) = Ok (first, second)
two_words (first ∷ second ∷ next ∷ words) = Err fault.Count

-- the first word and the others
abbrev pub cut_word : List (List ℕ) → Result (List ℕ × List (List ℕ)) LineFault
cut_word [] = Err fault.Count
cut_word (word ∷ words) = Ok (word, words)

-- the line is a comment
abbrev pub is_comment : List ℕ → Bool
is_comment [] = false
is_comment (b ∷ word) = b == 35
