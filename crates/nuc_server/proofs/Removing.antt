-- What a removal is answered.
use Rattle.std.proofs.Common.{◌≡◌, ℕ, List, None, Some, refl, sym, subst}
use Rattle.std.specs.FinMap as tree
use Rattle.nuc_base.specs.Legal.{LegalCut}
use Rattle.nuc_base.specs.Trees.{Nodes, NoChild}
use Rattle.nuc_base.specs.declared.node.Counters.{Counters}
use Rattle.nuc_base.specs.declared.node.Kind.{Kind}
use Rattle.nuc_base.specs.declared.node.Kind.TheVariants.{Folder}
use Rattle.nuc_base.specs.declared.node.Node.{Node}
use Rattle.nuc_edits.specs.Edits.{Recorded}
use Rattle.nuc_journal.specs.Entries.{tree_of}
use Rattle.nuc_journal.specs.declared.entry.Entry.{Entry}
use Rattle.nuc_server.specs.WebEdits.{CutAnswers, EndsFile, EnterAnswers}
use Rattle.nuc_server.specs.declared.web_edit.WebReply.{WebReply}
use Rattle.nuc_server.specs.declared.web_edit.WebReply.TheVariants as reply

-- who has no child may go
pub legal_end : (m k : Nodes) (x : ℕ) (n : Node) → m ≡ k → tree.get m x ≡ Some n → NoChild m x → LegalCut k x
legal_end m k x n same at none = subst (λ (l : Nodes). LegalCut l x) same (record { there = (n, at); empty = none })

-- a folder goes without an edit
pub folder_answered : (es : List Entry) (edits : Recorded) (ids : Counters) (x : ℕ) (n : Node) (answer : WebReply) (now : List Entry) → LegalCut (tree_of es) x → n.kind ≡ Folder
    → EnterAnswers es x None answer now → CutAnswers es edits ids x n answer now edits ids
folder_answered es edits ids x n (reply.Accepted rev) now legal kind entered =
    (legal, entered, subst (λ (k : Kind). EndsFile k x n.ver.0 edits ids edits ids) (sym kind) (refl, refl))
folder_answered es edits ids x n reply.Memory now legal kind same = (same, refl, refl)
folder_answered es edits ids x n reply.Same now legal kind none = absurd none
folder_answered es edits ids x n reply.NoSuch now legal kind none = absurd none
folder_answered es edits ids x n reply.NoParent now legal kind none = absurd none
folder_answered es edits ids x n (reply.Taken y) now legal kind none = absurd none
folder_answered es edits ids x n reply.Cycle now legal kind none = absurd none
folder_answered es edits ids x n reply.NotEmpty now legal kind none = absurd none
folder_answered es edits ids x n reply.KindChanged now legal kind none = absurd none
