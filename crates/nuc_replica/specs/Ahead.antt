-- How a remote keeps the entries that it has heard of, and the room to apply them.
use Rattle.std.specs.Prelude.{◌≡◌, ◌+◌, ◌-◌, ◌<◌, ◌≤◌, ℕ, All, IfSome, List, [], length, min, take, drop, slice_get, Option, None, Some, refl}
use Rattle.std.specs.Coded.{Coded, code_by, coded×, coded_ℕ, coded_list}
use Rattle.std.specs.FinMap.{get}
use Rattle.nuc_base.specs.Kinds.{FitsKind}
use Rattle.nuc_base.specs.Trees.{Nodes}
use Rattle.nuc_base.specs.declared.node.Node.{Node}
use Rattle.nuc_journal.specs.State.{entry_code}
use Rattle.nuc_journal.specs.declared.entry.Entry.{Entry}
use Rattle.nuc_lookup.specs.State.{UndoLookupState}
use Rattle.nuc_lookup.specs.State as lookup
use Rattle.nuc_undo.specs.State.{UndoState}
use Rattle.nuc_undo.specs.State as undo
use Rattle.nuc_replica.specs.Remote.{RemoteState, IsRemote}

-- entries, how many of them are applied, and how many were applied, and were there, at the last settling
pub record AheadState : Type 0 where
  pub entries : List Entry
  pub applied : ℕ
  pub settled_applied : ℕ
  pub settled_len : ℕ

abbrev pub ahead_code : Coded AheadState
ahead_code = code_by (List Entry × (ℕ × (ℕ × ℕ))) (coded× (coded_list entry_code) (coded× coded_ℕ (coded× coded_ℕ coded_ℕ)))
    (λ a. (a.entries, (a.applied, (a.settled_applied, a.settled_len))))
    (λ t. record { entries = t.0; applied = t.1.0; settled_applied = t.1.1.0; settled_len = t.1.1.1 })
    (λ _. refl)

-- no more are applied than there are
pub record IsAhead (a : AheadState) : Type 0 where
  pub applied : a.applied ≤ length a.entries
  pub settled_applied : a.settled_applied ≤ a.settled_len
  pub settled_len : a.settled_len ≤ length a.entries

-- the entries that aren't applied
abbrev pub ahead_now : AheadState → List Entry
ahead_now a = drop a.applied a.entries

-- those that weren't at the last settling
abbrev pub ahead_then : AheadState → List Entry
ahead_then a = take (a.settled_len - a.settled_applied) (drop a.settled_applied a.entries)

abbrev pub no_entries : AheadState
no_entries = record { entries = []; applied = 0; settled_applied = 0; settled_len = 0 }

-- the next is applied too, where there is one
abbrev pub with_next_applied : AheadState → AheadState
with_next_applied a = record a { applied = min (a.applied + 1) (length a.entries) }

abbrev pub with_all_applied : AheadState → AheadState
with_all_applied a = record a { applied = length a.entries }

-- what is ahead now is what was at the last settling
abbrev pub settled_here : AheadState → AheadState
settled_here a = record a { settled_applied = a.applied; settled_len = length a.entries }

-- what was ahead at the last settling is so now
abbrev pub led_back : AheadState → AheadState
led_back a = record a { entries = take a.settled_len a.entries; applied = a.settled_applied }

-- what a remote shows of now
abbrev pub state_now : UndoState → UndoLookupState → ℕ → AheadState → RemoteState
state_now tree revisions cursor a = record { tree = tree.now; revisions = revisions.now; cursor = cursor; ahead = ahead_now a }

-- and of the last settling
abbrev pub state_then : UndoState → UndoLookupState → ℕ → AheadState → RemoteState
state_then tree revisions cursor a = record { tree = undo.settled_of tree; revisions = lookup.settled_of revisions; cursor = cursor; ahead = ahead_then a }

-- a node lies under the number, where there is to be one
abbrev pub Lies : Nodes → ℕ → Option Node → Type 0
Lies laid i None = Unit {0}
Lies laid i (Some n) = get laid i ≡ Some n

-- from one place up to another the node of each entry lies under its place
abbrev pub AreLaid : Nodes → List Entry → ℕ → ℕ → Type 0
AreLaid laid es from to = (i : ℕ) (e : Entry) → from ≤ i → i < to → slice_get es i ≡ Some e → Lies laid i e.value

-- the same lies there, now and once all changes are taken back, from this place on
abbrev pub AreUntaken : UndoState → ℕ → Type 0
AreUntaken tree from = (i : ℕ) → from ≤ i → get tree.laid i ≡ get tree.laid_then i

-- so many changes can be made, now and again from the last settling on, as entries are ahead
pub record HasRoom (a : AheadState) (spare past : ℕ) : Type 0 where
  pub now : length a.entries ≤ a.applied + spare
  pub settled : a.settled_len ≤ a.settled_applied + (spare + past)

-- what a remote keeps: two states, with all that it takes to apply what is ahead of either
pub record IsKept (tree : UndoState) (revisions : UndoLookupState) (cursor settled_cursor : ℕ) (a : AheadState) : Type 0 where
  pub now : IsRemote (state_now tree revisions cursor a)
  pub settled : IsRemote (state_then tree revisions settled_cursor a)
  pub tree_room : HasRoom a tree.spare (length tree.past)
  pub revisions_room : HasRoom a revisions.spare (length revisions.past)
  pub laid : AreLaid tree.laid a.entries a.applied (length a.entries)
  pub settled_laid : AreLaid tree.laid_then a.entries a.settled_applied a.settled_len
  pub untaken : AreUntaken tree (length a.entries)

-- each node has what its kind asks for
abbrev pub NodesFit : List Entry → Type 0
NodesFit es = All (λ e. IfSome e.value FitsKind) es

-- the node of each entry lies under its place, counted from this number
abbrev pub AreLaidFrom : ℕ → Nodes → List Entry → Type 0
AreLaidFrom first laid es = (k : ℕ) (e : Entry) → slice_get es k ≡ Some e → Lies laid (first + k) e.value
