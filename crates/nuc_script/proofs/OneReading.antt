-- What is answered is the answer for all the bytes.
use Rattle.std.proofs.Common.{◌≡◌, List, [], ◌++◌, ℕ, Option, Some, sym, ap, subst, ◌∙◌, inl, inr}
use Rattle.std.specs.List.{concat}
use Rattle.std.proofs.lemmas.List.{append-nil}
use Rattle.nuc_io.specs.Reading.{AtEnd}
use Rattle.nuc_script.specs.declared.script_read.ScriptRead.{ScriptRead}
use Rattle.nuc_script.specs.declared.script_read.ScriptRead.TheVariants as read
use Rattle.nuc_script.specs.Reading.{script_of}
use Rattle.nuc_script.specs.Taking.{IsAnswered, ReadsScript}

at_end_all : (left bytes more : List ℕ) (rest : Option (List ℕ)) → rest ≡ Some more → left ≡ bytes ++ more → AtEnd rest → left ≡ bytes
at_end_all left bytes more rest same cut ends =
    let none : more ≡ [] = subst AtEnd same ends in
    cut ∙ ap (λ l. bytes ++ l) none ∙ append-nil bytes

pub one_reading : (left : List ℕ) (rest : Option (List ℕ)) (answer : ScriptRead) → IsAnswered answer
    → ReadsScript (Some left) answer rest → answer ≡ script_of left
one_reading left rest (read.Commands commands) _ (bytes, (more, same, cut), ends, is) =
    sym is ∙ ap script_of (sym (at_end_all left bytes more rest same cut ends))
one_reading left rest (read.Fault number kind) _ (lines, line, full, counted, cut_line, (more, same, cut), (is, settled)) =
    elim settled [
      | inl ends ↦ sym is ∙ ap script_of (sym (at_end_all left (concat lines ++ line) more rest same cut ends))
      | inr always ↦ sym (always more) ∙ ap script_of (sym cut)
    ]
one_reading left rest read.ReadFault never _ = absurd never
one_reading left rest read.Memory never _ = absurd never
