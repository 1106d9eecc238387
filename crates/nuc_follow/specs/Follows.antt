-- What Local and the folder are after an operation that succeeded.
use Rattle.std.specs.Prelude.{◌≡◌, ℕ, List}
use Rattle.std.specs.FinMap.{insert, remove}
use Rattle.nuc_base.specs.declared.node.Node.{Node}
use Rattle.nuc_edits.specs.declared.edit.Edit.{Edit}
use Rattle.nuc_filework.specs.Runs.{FolderView}
use Rattle.nuc_folder.specs.State.{FolderState}
use Rattle.nuc_folder.specs.declared.item.Key.{Key}
use Rattle.nuc_folder.specs.declared.outcome.Outcome.TheVariants as outcome
use Rattle.nuc_folder.specs.declared.ran.RanOp.{RanOp}
use Rattle.nuc_follow.specs.Matches.{Matches}
use Rattle.nuc_follow.specs.Steady.{IsSteady}
use Rattle.nuc_replica.specs.Local.{LocalState}

-- the node in place of another at x
abbrev pub over : LocalState → ℕ → Node → LocalState
over l x n = record { tree = insert l.tree x n; keys = l.keys }

-- without x
abbrev pub cut : LocalState → ℕ → LocalState
cut l x = record { tree = remove l.tree x; keys = remove l.keys x }

-- z has the node in place of x, with x's key
abbrev pub split : LocalState → ℕ → ℕ → Node → ℕ → LocalState
split l x z copy k = record { tree = remove (insert l.tree z copy) x; keys = insert (remove l.keys x) z k }

-- with the node and its key
abbrev pub made : LocalState → ℕ → Node → ℕ → LocalState
made l x n k = record { tree = insert l.tree x n; keys = insert l.keys x k }

-- the operation succeeded, and the folder matches this Local
pub record IsFollowed (es : List Edit) (l : LocalState) (ran : RanOp) (w : FolderView) : Type 0 where
  pub ok : ran.outcome ≡ outcome.Ok
  pub held : FolderState
  pub steady : IsSteady w held
  pub matches : Matches es l held

-- the operation made something with a new key, and the folder matches Local with that
pub record IsMade (es : List Edit) (l : LocalState) (x : ℕ) (n : Node) (ran : RanOp) (w : FolderView) : Type 0 where
  pub key : Key
  pub ok : ran.outcome ≡ outcome.Made key
  pub held : FolderState
  pub steady : IsSteady w held
  pub matches : Matches es (made l x n key.0) held
