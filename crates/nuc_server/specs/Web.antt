-- What a web edit is answered, and what comes of it.
use Rattle.std.specs.Prelude.{◌≡◌, ◌≢◌, ℕ, List}
use Rattle.nuc_base.specs.Trees.{WellFormed}
use Rattle.nuc_base.specs.declared.node.Place.{Place}
use Rattle.nuc_hash.specs.Filling.{filling_bytes}
use Rattle.nuc_journal.specs.Entries.{tree_of}
use Rattle.nuc_paths.specs.Paths.{ByPath}
use Rattle.nuc_server.specs.WebEdits.{WebState, IsUnchanged, MkdirAnswers, WriteAnswers, MoveAnswers, RemoveAnswers, BitAnswers}
use Rattle.nuc_server.specs.declared.web_edit.WebEdit.{WebEdit}
use Rattle.nuc_server.specs.declared.web_edit.WebEdit.TheVariants as edit
use Rattle.nuc_server.specs.declared.web_edit.WebReply.{WebReply}
use Rattle.nuc_server.specs.declared.web_edit.WebReply.TheVariants as reply

-- the path of what is edited
abbrev pub path_of : WebEdit → List (List ℕ)
path_of (edit.Mkdir path) = path.names
path_of (edit.Write path filling) = path.names
path_of (edit.Move from to) = from.names
path_of (edit.Remove path) = path.names
path_of (edit.Bit path on) = path.names

-- the answer where the path leads to a place
abbrev pub AnswersAt : WebState → WebEdit → Place → WebReply → WebState → Type 0
AnswersAt s (edit.Mkdir path) place answer t = MkdirAnswers s.entries s.ids place answer t.entries t.ids × (t.blocks ≡ s.blocks) × (t.edits ≡ s.edits)
AnswersAt s (edit.Write path filling) place answer t = WriteAnswers s place (filling_bytes filling) answer t
AnswersAt s (edit.Move from to) place answer t = MoveAnswers s.entries place to.names answer t.entries × (t.blocks ≡ s.blocks) × (t.edits ≡ s.edits) × (t.ids ≡ s.ids)
AnswersAt s (edit.Remove path) place answer t = RemoveAnswers s.entries s.edits s.ids place answer t.entries t.edits t.ids × (t.blocks ≡ s.blocks)
AnswersAt s (edit.Bit path on) place answer t = BitAnswers s.entries place on answer t.entries × (t.blocks ≡ s.blocks) × (t.edits ≡ s.edits) × (t.ids ≡ s.ids)

abbrev pub WebAnswers : WebState → WebEdit → WebReply → WebState → Type 0
WebAnswers s e answer t = ByPath (tree_of s.entries) (path_of e) ((answer ≡ reply.NoParent) × IsUnchanged s t) (λ place. AnswersAt s e place answer t)

-- a web edit has one answer, and one outcome, but that memory may be wanted
abbrev pub OneWebAnswer : Type 0
OneWebAnswer = (s t u : WebState) (e : WebEdit) (a b : WebReply) → WellFormed (tree_of s.entries) → a ≢ reply.Memory → b ≢ reply.Memory
    → WebAnswers s e a t → WebAnswers s e b u → (a ≡ b) × (t ≡ u)
