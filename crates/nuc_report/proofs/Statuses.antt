use Rattle.std.proofs.Common.{◌≡◌, refl, subst, sym, ℕ, List, [], ◌∷◌, ◌++◌, append_assoc}
use Rattle.nuc_log.specs.declared.log.LogEntry.{LogEntry}
use Rattle.nuc_report.specs.Output.{PrintsLog, output_of, refusal_text, status_text, whole_text}
use Rattle.nuc_report.specs.Report.{Seen}
use Rattle.nuc_report.specs.Usage.{usage_text}
use Rattle.nuc_report.specs.declared.status.Status.{Status}
use Rattle.nuc_report.specs.declared.status.Status.TheVariants as status

pub prints_whole : (before : Status) (log : List LogEntry) (seen : Seen) → PrintsLog before → whole_text before log seen ≡ output_of before log seen
prints_whole status.Ok log seen prints = refl
prints_whole status.Usage log seen prints = absurd prints
prints_whole (status.ScriptFault number kind) log seen prints = absurd prints
prints_whole status.ReadFault log seen prints = absurd prints
prints_whole status.WriteFault log seen prints = absurd prints
prints_whole status.Stalled log seen prints = refl
prints_whole status.LogFull log seen prints = refl
prints_whole status.Memory log seen prints = absurd prints
prints_whole status.FolderFault log seen prints = refl
prints_whole status.ListingTooLong log seen prints = refl

-- four texts that were pushed one after another, onto none
pub pushed_four : (start a b c d one two three four : List ℕ) → start ≡ [] → one ≡ start ++ a → two ≡ one ++ b → three ≡ two ++ c → four ≡ three ++ d
    → four ≡ a ++ b ++ c ++ d
pushed_four start a b c d one two three four e f g h k = rw (k, h, g, f, e) (simp append_assoc)

pushed : (a b one two all : List ℕ) → one ≡ a → two ≡ b → all ≡ one ++ two → all ≡ a ++ b
pushed a b one two all e f g = rw (g, e, f) refl

-- the usage, with the line of its status behind it
pub usage_shown : (before : Status) (usage ended text : List ℕ) → before ≡ status.Usage → usage ≡ usage_text → ended ≡ status_text before
    → text ≡ usage ++ ended → text ≡ refusal_text before
usage_shown before usage ended text is u e t =
    subst (λ s. text ≡ refusal_text s) (sym is) (
    pushed usage_text (status_text status.Usage) usage ended text u (subst (λ s. ended ≡ status_text s) is e) t
    )
