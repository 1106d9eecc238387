-- An operation succeeds in a folder that matches Local, and the folder matches what Local becomes. The keys that its calls are
-- found by are the client's own, which may be behind those of Local here, and only have to agree on what the operation speaks of.
use Rattle.std.specs.Prelude.{◌≡◌, ◌≢◌, ◌<◌, ℕ, Bool, List, None, Some}
use Rattle.std.specs.FinMap.{get, insert}
use Rattle.nuc_base.specs.Kinds.{FitsKind}
use Rattle.nuc_base.specs.Legal.{LegalCut, LegalPut}
use Rattle.nuc_base.specs.declared.change.Change.TheVariants.{Put, Cut}
use Rattle.nuc_base.specs.declared.node.Node.{Node}
use Rattle.nuc_base.specs.declared.node.Place.{Place}
use Rattle.nuc_edits.specs.declared.edit.Edit.{Edit}
use Rattle.nuc_filework.specs.Calls.{changing, splitting}
use Rattle.nuc_filework.specs.Runs.{FolderView, RunsOp}
use Rattle.nuc_folder.specs.State.{FolderState}
use Rattle.nuc_folder.specs.declared.outcome.Outcome.TheVariants as outcome
use Rattle.nuc_folder.specs.declared.ran.RanOp.{RanOp}
use Rattle.nuc_follow.specs.Follows.{IsFollowed, IsMade, cut, over, split}
use Rattle.nuc_follow.specs.Matches.{Matches}
use Rattle.nuc_follow.specs.Needs.{AreKeysBelow, HasContents, KeysAgree}
use Rattle.nuc_follow.specs.Steady.{IsSteady}
use Rattle.nuc_hash.specs.Content.{ContentData}
use Rattle.nuc_observe.specs.Keys.{KeyMap}
use Rattle.nuc_replica.specs.Local.{LocalState}

-- what is there gets other bytes, another bit or another place, or several of these at once
abbrev pub AlteringSucceeds : Type 0
AlteringSucceeds = (es : List Edit) (bytes : List ℕ) (own : KeyMap) (l : LocalState) (x : ℕ) (old new : Node) (seen wanted : ContentData) (given : Bool)
    (v : FolderView) (s : FolderState) (ran : RanOp) (w : FolderView) → IsSteady v s → Matches es l s → get l.tree x ≡ Some old → LegalPut l.tree x new → FitsKind new
    → KeysAgree own l.keys x (Some old) (Put new) → HasContents es (Some old) (Some new) seen wanted given bytes
    → RunsOp own bytes (changing own x (Some old) (Put new) seen.hash wanted.hash given) v ran w → ran.outcome ≢ outcome.Memory → IsFollowed es (over l x new) ran w

-- what is there goes
abbrev pub CuttingSucceeds : Type 0
CuttingSucceeds = (es : List Edit) (bytes : List ℕ) (own : KeyMap) (l : LocalState) (x : ℕ) (old : Node) (seen wanted : ContentData) (given : Bool)
    (v : FolderView) (s : FolderState) (ran : RanOp) (w : FolderView) → IsSteady v s → Matches es l s → get l.tree x ≡ Some old → LegalCut l.tree x
    → KeysAgree own l.keys x (Some old) Cut → HasContents es (Some old) None seen wanted given bytes
    → RunsOp own bytes (changing own x (Some old) Cut seen.hash wanted.hash given) v ran w → ran.outcome ≢ outcome.Memory → IsFollowed es (cut l x) ran w

-- something new comes
abbrev pub MakingSucceeds : Type 0
MakingSucceeds = (es : List Edit) (bytes : List ℕ) (own : KeyMap) (l : LocalState) (x : ℕ) (n : Node) (seen wanted : ContentData) (given : Bool)
    (v : FolderView) (s : FolderState) (ran : RanOp) (w : FolderView) → IsSteady v s → Matches es l s → 0 < x → get l.tree x ≡ None → LegalPut l.tree x n → FitsKind n
    → AreKeysBelow own v.next → KeysAgree own l.keys x None (Put n) → HasContents es None (Some n) seen wanted given bytes
    → RunsOp own bytes (changing own x None (Put n) seen.hash wanted.hash given) v ran w → ran.outcome ≢ outcome.Memory → IsMade es l x n ran w

-- what is there becomes another identity's, at the place of the copy
abbrev pub SplittingSucceeds : Type 0
SplittingSucceeds = (es : List Edit) (bytes : List ℕ) (own : KeyMap) (l : LocalState) (x z : ℕ) (old : Node) (place : Place)
    (v : FolderView) (s : FolderState) (ran : RanOp) (w : FolderView) → IsSteady v s → Matches es l s → 0 < z → get l.tree x ≡ Some old → get l.tree z ≡ None
    → LegalPut l.tree z (record old { place = place }) → LegalCut (insert l.tree z (record old { place = place })) x → KeysAgree own l.keys x (Some old) (Put (record old { place = place }))
    → RunsOp own bytes (splitting own x (Some old) (Put (record old { place = place }))) v ran w → ran.outcome ≢ outcome.Memory
    → (k : ℕ) × (get l.keys x ≡ Some k) × IsFollowed es (split l x z (record old { place = place }) k) ran w
