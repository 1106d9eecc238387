-- What each command of a script has behind those before it.
use Rattle.std.proofs.Common.{◌≡◌, ℕ, ◌+◌, ◌≤◌, true, false, cond, ◌==◌, List, [], ◌∷◌, ◌++◌, length, Option, Some, None, Result, Ok, Err, refl, sym, ◌∙◌, append_assoc, arith}
use Rattle.std.specs.List.{AllByRecursion}
use Rattle.std.proofs.lemmas.List.{append-nil}
use Rattle.nuc_script.specs.declared.fault.LineFault.{LineFault}
use Rattle.nuc_script.specs.declared.command.Command.{Command}
use Rattle.nuc_script.specs.declared.script_read.ScriptRead.{ScriptRead}
use Rattle.nuc_script.specs.declared.script_read.ScriptRead.TheVariants as read
use Rattle.nuc_script.specs.Lines.{line_meaning, numbered_meaning}
use Rattle.nuc_script.specs.Reading.{without_cr, goes_on, script_from}
use Rattle.nuc_script.proofs.Meanings.{meaning_is}
use Rattle.nuc_script.proofs.Taking.{ok_early}

abbrev pub ComeWith : (List Command → Command → Type 0) → List Command → List Command → Type 0
ComeWith P before [] = Unit {0}
ComeWith P before (c ∷ cs) = P before c × ComeWith P (before ++ c ∷ []) cs

-- P holds of each command of a good line, behind commands that are ready; and such are those with it
pub record IsCarried (P : List Command → Command → Type 0) (Good : List ℕ → Type 0) (Ready : List Command → Type 0) : Type 0 where
  pub given : (before : List Command) (line : List ℕ) (c : Command) → Ready before → Good line → line_meaning before line ≡ Ok (Some c) → P before c
  pub ready : (before : List Command) (c : Command) → Ready before → P before c → Ready (before ++ c ∷ [])
  pub ended : (line : List ℕ) → Good line → Good (without_cr line)

-- the commands behind those before, each with P, and no more than lines
pub record IsBehind (P : List Command → Command → Type 0) (number : ℕ) (before all : List Command) : Type 0 where
  pub commands : List Command
  pub whole : all ≡ before ++ commands
  pub come : ComeWith P before commands
  pub count : length commands + number ≤ 1000001

commands_is : (cs ds : List Command) → read.Commands cs ≡ read.Commands ds → cs ≡ ds
commands_is cs ds e = cc

nothing_behind : (P : List Command → Command → Type 0) (number : ℕ) (before all : List Command) → number ≤ 1000001 → read.Commands before ≡ read.Commands all
    → IsBehind P number before all
nothing_behind P number before all early e =
    record { commands = []; whole = sym (commands_is before all e) ∙ sym (append-nil before); come = tt; count = omega (arith, early) }

one_behind : (P : List Command → Command → Type 0) (number : ℕ) (before all : List Command) (c : Command) → P before c
    → IsBehind P (number + 1) (before ++ c ∷ []) all → IsBehind P number before all
one_behind P number before all c is later = record {
  commands = c ∷ later.commands;
  whole = later.whole ∙ append_assoc before (c ∷ []) later.commands;
  come = (is, later.come);
  count = omega (arith, later.count);
}

none_behind : (P : List Command → Command → Type 0) (number : ℕ) (before all : List Command) → IsBehind P (number + 1) before all → IsBehind P number before all
none_behind P number before all later =
    record { commands = later.commands; whole = later.whole; come = later.come; count = omega (arith, later.count) }

line_behind : (P : List Command → Command → Type 0) (Good : List ℕ → Type 0) (Ready : List Command → Type 0) → IsCarried P Good Ready
    → (number : ℕ) (before : List Command) (line : List ℕ) (all : List Command) (later : List Command → ScriptRead) → Good line → Ready before
    → ((ds : List Command) → Ready ds → number ≤ 1000000 → later ds ≡ read.Commands all → IsBehind P (number + 1) ds all)
    → (m : Result (Option Command) LineFault) → numbered_meaning number before line ≡ m → goes_on number before m later ≡ read.Commands all
    → IsBehind P number before all
line_behind P Good Ready carried number before line all later good ready rest (Err kind) is e = absurd cc
line_behind P Good Ready carried number before line all later good ready rest (Ok None) is e =
    none_behind P number before all (rest before ready (ok_early number before line None is) e)
line_behind P Good Ready carried number before line all later good ready rest (Ok (Some c)) is e =
    let here = carried.given before line c ready good (meaning_is number before line (Some c) is) in
    one_behind P number before all c here (rest (before ++ c ∷ []) (carried.ready before c ready here) (ok_early number before line (Some c) is) e)

pub script_behind : (P : List Command → Command → Type 0) (Good : List ℕ → Type 0) (Ready : List Command → Type 0) → IsCarried P Good Ready
    → (number : ℕ) (before : List Command) (lines : List (List ℕ)) (all : List Command) → number ≤ 1000001 → Ready before → AllByRecursion Good lines
    → script_from number before lines ≡ read.Commands all → IsBehind P number before all
unfolding script_from
script_behind P Good Ready carried number before [] all early ready good e = nothing_behind P number before all early e
script_behind P Good Ready carried number before (last ∷ []) all early ready (good, rest) e =
    elim (length last == 0) as (λ t. cond t (read.Commands before) (goes_on number before (numbered_meaning number before last) (λ cs. read.Commands cs)) ≡ read.Commands all → IsBehind P number before all) [
      | true ↦ λ h. nothing_behind P number before all early h
      | false ↦ λ h.
          line_behind P Good Ready carried number before last all (λ cs. read.Commands cs) good ready
          (λ ds more soon g. nothing_behind P (number + 1) ds all (omega (arith, soon)) g) (numbered_meaning number before last) refl h
    ] e
script_behind P Good Ready carried number before (line ∷ next ∷ lines) all early ready (good, rest) e =
    line_behind P Good Ready carried number before (without_cr line) all (λ cs. script_from (number + 1) cs (next ∷ lines)) (carried.ended line good) ready
    (λ ds more soon g. script_behind P Good Ready carried (number + 1) ds (next ∷ lines) all (omega (arith, soon)) more rest g)
    (numbered_meaning number before (without_cr line)) refl e
