-- What the judgement of a commit may take for granted behind its first tests.
use Rattle.std.proofs.Common.{◌≡◌, ◌<◌, ℕ, List, Option, None, Some, IfSome, MatchOption, refl, sym, subst, arith}
use Rattle.std.specs.FinMap as tree
use Rattle.nuc_base.specs.Legal.{SameKind}
use Rattle.nuc_base.specs.Trees.{Nodes, IsThere}
use Rattle.nuc_base.specs.declared.node.Kind.{Kind}
use Rattle.nuc_base.specs.declared.node.Node.{Node}
use Rattle.nuc_journal.specs.Entries.{kind_of, revision_of, tree_of}
use Rattle.nuc_journal.specs.Journal.{IsJournal}
use Rattle.nuc_journal.specs.Laws.{GaveNode}
use Rattle.nuc_journal.specs.declared.entry.Entry.{Entry}
use Rattle.nuc_journal.proofs.Histories.{current_gave}
use Rattle.nuc_server.specs.Judge.{HasKindOf, IsLiveBase, IsThereToGo}

-- what has a current revision is there
pub live_there : (es : List Entry) (x : ℕ) → IsJournal es → 0 < revision_of es x → IsThere (tree_of es) x
live_there es x journal some = elim (tree.get (tree_of es) x) as (λ v. tree.get (tree_of es) x ≡ v
    → MatchOption v (revision_of es x ≡ 0) (λ n. GaveNode es (revision_of es x) x n × (kind_of es x ≡ Some n.kind)) → IsThere (tree_of es) x) [
      | None ↦ λ at none. absurd (omega (arith, none))
      | Some n ↦ λ at gave. (n, at)
    ] refl (current_gave es x journal)

-- what is there has the kind that its identity always had
pub kind_there : (es : List Entry) (x : ℕ) (n : Node) → IsJournal es → tree.get (tree_of es) x ≡ Some n → kind_of es x ≡ Some n.kind
kind_there es x n journal at =
    (subst (λ v. MatchOption v (revision_of es x ≡ 0) (λ n. GaveNode es (revision_of es x) x n × (kind_of es x ≡ Some n.kind))) at (current_gave es x journal)).1

pub same_kind_there : (es : List Entry) (x : ℕ) (kind : Kind) → IsJournal es → IfSome (kind_of es x) (λ k. k ≡ kind) → SameKind (tree_of es) x kind
same_kind_there es x kind journal had n at = subst (λ o. IfSome o (λ k. k ≡ kind)) (kind_there es x n journal at) had

there_to_go : (es : List Entry) (x base : ℕ) (value : Option Node) → IsJournal es → HasKindOf (kind_of es x) value → IsLiveBase value base
    → base ≡ revision_of es x → IsThereToGo (tree_of es) x value
there_to_go es x base None journal kind live current = live_there es x journal (subst (λ r. 0 < r) current live)
there_to_go es x base (Some n) journal kind live current = same_kind_there es x n.kind journal kind

pub there_in : (m : Nodes) (es : List Entry) (x base : ℕ) (value : Option Node) → m ≡ tree_of es → IsJournal es → HasKindOf (kind_of es x) value → IsLiveBase value base
    → base ≡ revision_of es x → IsThereToGo m x value
there_in m es x base value same journal kind live current = subst (λ m. IsThereToGo m x value) (sym same) (there_to_go es x base value journal kind live current)
