-- The folder's calls of an operation: those that lead from what Local had, when it was planned, to what Local is to have.
use Rattle.std.specs.Prelude.{ℕ, ◌==◌, Bool, true, false, List, [], ◌∷◌, ◌++◌, Option, None, Some, if◌then◌else◌}
use Rattle.std.specs.Bool.{beq}
use Rattle.std.specs.FinMap.{get}
use Rattle.std.specs.Str.{bytes_eq}
use Rattle.nuc_base.specs.declared.change.Change.{Change}
use Rattle.nuc_base.specs.declared.change.Change.TheVariants.{Keep, Put, Cut}
use Rattle.nuc_base.specs.declared.node.Kind.{Kind}
use Rattle.nuc_base.specs.declared.node.Kind.TheVariants.{Folder, File}
use Rattle.nuc_base.specs.declared.node.Node.{Node}
use Rattle.nuc_base.specs.declared.node.Place.{Place}
use Rattle.nuc_class.specs.Equal.{place_eq}
use Rattle.nuc_class.specs.declared.op.Op.{Op}
use Rattle.nuc_class.specs.declared.op.Verb.{Verb}
use Rattle.nuc_class.specs.declared.op.Verb.TheVariants as verb
use Rattle.nuc_filework.specs.declared.call.Call.{Call}
use Rattle.nuc_filework.specs.declared.call.Call.TheVariants.{MakeDir, WriteNew, Replace, SetBit, MoveTo, Remove}
use Rattle.nuc_folder.specs.declared.key_place.KeyPlace.{KeyPlace}
use Rattle.nuc_hash.specs.Content.{ContentData}
use Rattle.nuc_hash.specs.declared.digest.Digest.{Digest}
use Rattle.nuc_observe.specs.Keys.{KeyMap}

-- KEYS
-- what the folder knows an identity by: itself by 0
abbrev pub key_of : KeyMap → ℕ → Option ℕ
key_of m x = if x == 0 then Some 0 else get m x

abbrev pub known_place : Option ℕ → Place → Option KeyPlace
known_place None p = None
known_place (Some k) p = Some (record { parent = record { 0 = k }; name = p.name })

-- the place as the folder knows it, where the parent has a key
abbrev pub key_place : KeyMap → Place → Option KeyPlace
key_place m p = known_place (key_of m p.parent.0) p

-- ONE CALL, None where a key or bytes are missing that it needs
abbrev pub replacing : Option ℕ → Digest → Bool → Option Call
replacing (Some k) old true = Some (Replace (record { 0 = k }) old)
replacing (Some k) old false = None
replacing None old given = None

abbrev pub switching : Option ℕ → Bool → Bool → Option Call
switching (Some k) old new = Some (SetBit (record { 0 = k }) old new)
switching None old new = None

abbrev pub moving : Option ℕ → Option KeyPlace → Option KeyPlace → Option Call
moving (Some k) (Some from) (Some to) = Some (MoveTo (record { 0 = k }) from to)
moving (Some k) (Some from) None = None
moving (Some k) None to = None
moving None from to = None

abbrev pub making : Kind → Bool → Bool → Option KeyPlace → Option Call
making Folder bit given (Some p) = Some (MakeDir p)
making Folder bit given None = None
making File bit true (Some p) = Some (WriteNew p bit)
making File bit true None = None
making File bit false p = None

-- the hash by which a file is seen; a folder has none
abbrev pub seen_hash : Kind → Digest → Option Digest
seen_hash Folder hash = None
seen_hash File hash = Some hash

abbrev pub removing : Option ℕ → Option KeyPlace → Option Digest → Option Call
removing (Some k) (Some p) hash = Some (Remove (record { 0 = k }) (record { place = p; hash = hash }))
removing (Some k) None hash = None
removing None p hash = None

abbrev pub only : Option Call → Option (List Call)
only (Some call) = Some (call ∷ [])
only None = None

-- A STEP IS A CALL OR NONE: Some None where it needs none
abbrev pub called : Option Call → Option (Option Call)
called (Some call) = Some (Some call)
called None = None

-- a new hash is written, over the old one
abbrev pub replace_step : Option ℕ → Digest → Digest → Bool → Option (Option Call)
replace_step key old new given = if bytes_eq old.0 new.0 then Some None else called (replacing key old given)

abbrev pub bit_step : Option ℕ → Bool → Bool → Option (Option Call)
bit_step key old new = if beq old new then Some None else called (switching key old new)

abbrev pub move_step : KeyMap → Option ℕ → Place → Place → Option (Option Call)
move_step m key old new = if place_eq old new then Some None else called (moving key (key_place m old) (key_place m new))

abbrev pub listed : Option Call → List Call
listed None = []
listed (Some call) = call ∷ []

-- three steps, in this order
abbrev pub in_order : Option (Option Call) → Option (Option Call) → Option (Option Call) → Option (List Call)
in_order (Some a) (Some b) (Some c) = Some (listed a ++ (listed b ++ listed c))
in_order (Some a) (Some b) None = None
in_order (Some a) None c = None
in_order None b c = None

-- ALL CALLS
-- what is there gets a new hash, then a new bit, then a new place, as far as they differ
abbrev pub alter_calls : KeyMap → Option ℕ → Node → Node → Digest → Digest → Bool → Option (List Call)
alter_calls m key old new seen wanted given = in_order (replace_step key seen wanted given) (bit_step key old.bit new.bit) (move_step m key old.place new.place)

-- by what Local had at x and what becomes of it
abbrev pub changing : KeyMap → ℕ → Option Node → Change → Digest → Digest → Bool → Option (List Call)
changing m x None Keep seen wanted given = Some []
changing m x (Some old) Keep seen wanted given = Some []
changing m x None Cut seen wanted given = Some []
changing m x (Some old) Cut seen wanted given = only (removing (get m x) (key_place m old.place) (seen_hash old.kind seen))
changing m x None (Put new) seen wanted given = only (making new.kind new.bit given (key_place m new.place))
changing m x (Some old) (Put new) seen wanted given = alter_calls m (get m x) old new seen wanted given

-- what stands at x goes to the place of the copy
abbrev pub splitting : KeyMap → ℕ → Option Node → Change → Option (List Call)
splitting m x (Some old) (Put copy) = only (moving (get m x) (key_place m old.place) (key_place m copy.place))
splitting m x (Some old) Keep = Some []
splitting m x (Some old) Cut = Some []
splitting m x None local = Some []

-- by its verb: where two nodes become one, the folder has it so already
abbrev pub calls_by : Verb → KeyMap → ℕ → Option Node → Change → Digest → Digest → Bool → Option (List Call)
calls_by verb.Adopt m x old local seen wanted given = Some []
calls_by verb.Split m x old local seen wanted given = splitting m x old local
calls_by verb.Down m x old local seen wanted given = changing m x old local seen wanted given
calls_by verb.Up m x old local seen wanted given = changing m x old local seen wanted given
calls_by verb.CutDown m x old local seen wanted given = changing m x old local seen wanted given
calls_by verb.CutUp m x old local seen wanted given = changing m x old local seen wanted given
calls_by verb.Forget m x old local seen wanted given = changing m x old local seen wanted given
calls_by verb.Unmove m x old local seen wanted given = changing m x old local seen wanted given
calls_by verb.Revive m x old local seen wanted given = changing m x old local seen wanted given
calls_by verb.Evict m x old local seen wanted given = changing m x old local seen wanted given

-- the calls of the operation, where none of them lacks a key, nor bytes where none are given; `seen` is the content of what
-- Local had, `wanted` of what it is to have
abbrev pub calls_of : KeyMap → Op → ContentData → ContentData → Bool → Option (List Call)
calls_of m op seen wanted given = calls_by op.verb m op.id.0 op.old_local op.local seen.hash wanted.hash given
