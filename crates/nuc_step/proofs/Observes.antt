-- What is so of a client that took over what its folder is: Local has changed, with edits that were entered, and nothing else.
use Rattle.std.proofs.Common.{◌≡◌, ◌<◌, ◌≤◌, ◌++◌, ℕ, List, Some}
use Rattle.std.specs.FinMap.{get}
use Rattle.nuc_base.specs.declared.node.Kind.TheVariants.{File}
use Rattle.nuc_base.specs.declared.node.Node.{Node}
use Rattle.nuc_base.specs.Trees.{Nodes}
use Rattle.nuc_edits.specs.Edits.{WasPut}
use Rattle.nuc_edits.specs.declared.edit.Edit.{Edit}
use Rattle.nuc_observe.specs.Keys.{KeyMap}
use Rattle.nuc_replica.specs.Local.{IsLocal}
use Rattle.nuc_step.specs.Watching.{CanWatch, Watching}

-- each file of the tree has a version that was put
abbrev pub FilesPut : Nodes → List Edit → Type 0
FilesPut m edits = (x : ℕ) (n : Node) → get m x ≡ Some n → n.kind ≡ File → WasPut edits n.ver.0

-- each key is below this
abbrev pub AreBelow : KeyMap → ℕ → Type 0
AreBelow keys most = (x key : ℕ) → get keys x ≡ Some key → key < most

-- who stood there before keeps the kind; files have versions that were put, where those before it had; and keys are below what
-- those that come are below
pub record Observes (w v : Watching) (Comes : ℕ → Type 0) : Type 0 where
  pub client : v.client ≡ record w.client { local = v.client.local; changes = v.client.changes }
  pub local : IsLocal v.client.local
  pub after : CanWatch v.client v.recorded v.ids
  pub later : w.ids.next_id ≤ v.ids.next_id
  pub more : List Edit
  pub recorded : v.recorded ≡ record w.recorded { edits = w.recorded.edits ++ more }
  pub kinds : (x : ℕ) (n : Node) → get v.client.local.tree x ≡ Some n → x < w.ids.next_id → (h : Node) × (get w.client.local.tree x ≡ Some h) × (h.kind ≡ n.kind)
  pub put : FilesPut w.client.local.tree w.recorded.edits → FilesPut v.client.local.tree v.recorded.edits
  pub keys : (most : ℕ) → Comes most → AreBelow w.client.local.keys most → AreBelow v.client.local.keys most
