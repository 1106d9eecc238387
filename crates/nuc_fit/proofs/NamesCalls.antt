-- The places to which the calls of an operation bring something have names.
use Rattle.std.specs.Prelude.{if◌then◌else◌}
use Rattle.std.proofs.Common.{◌++◌, ℕ, Bool, true, false, List, [], ◌∷◌, Option, Some, None}
use Rattle.std.specs.Bool.{beq}
use Rattle.std.specs.FinMap.{get}
use Rattle.std.specs.Str.{bytes_eq}
use Rattle.nuc_base.specs.Names.{IsName}
use Rattle.nuc_base.specs.declared.change.Change.{Change}
use Rattle.nuc_base.specs.declared.change.Change.TheVariants.{Keep, Put, Cut}
use Rattle.nuc_base.specs.declared.node.Kind.{Kind}
use Rattle.nuc_base.specs.declared.node.Kind.TheVariants.{Folder, File}
use Rattle.nuc_base.specs.declared.node.Node.{Node}
use Rattle.nuc_base.specs.declared.node.Place.{Place}
use Rattle.nuc_class.specs.Equal.{place_eq}
use Rattle.nuc_class.specs.declared.op.Op.{Op}
use Rattle.nuc_class.specs.declared.op.Verb.{Verb}
use Rattle.nuc_class.specs.declared.op.Verb.TheVariants as verb
use Rattle.nuc_filework.specs.Calls.{bit_step, called, calls_by, calls_of, changing, in_order, key_of, key_place, known_place, listed, making, move_step, moving, only, removing, replace_step, replacing, seen_hash, splitting, switching}
use Rattle.nuc_filework.specs.declared.call.Call.{Call}
use Rattle.nuc_filework.specs.declared.call.Call.TheVariants.{MakeDir, WriteNew, Replace, SetBit, MoveTo, Remove}
use Rattle.nuc_folder.specs.declared.key_place.KeyPlace.{KeyPlace}
use Rattle.nuc_hash.specs.Content.{ContentData}
use Rattle.nuc_hash.specs.declared.digest.Digest.{Digest}
use Rattle.nuc_observe.specs.Keys.{KeyMap}
use Rattle.nuc_fit.proofs.NamesForm.{NamedChange, NamedOp}

-- ONE CALL
abbrev pub NamedCall : Call → Type 0
NamedCall (MakeDir place) = IsName place.name
NamedCall (WriteNew place bit) = IsName place.name
NamedCall (Replace key expected) = Unit {0}
NamedCall (SetBit key expected bit) = Unit {0}
NamedCall (MoveTo key expected place) = IsName place.name
NamedCall (Remove key expected) = Unit {0}

-- all of them, where none lacks something
abbrev pub NamedCalls : List Call → Type 0
NamedCalls [] = Unit {0}
NamedCalls (call ∷ calls) = NamedCall call × NamedCalls calls

abbrev pub NamedAll : Option (List Call) → Type 0
NamedAll None = Unit {0}
NamedAll (Some calls) = NamedCalls calls

abbrev NamedStep : Option (Option Call) → Type 0
NamedStep None = Unit {0}
NamedStep (Some None) = Unit {0}
NamedStep (Some (Some call)) = NamedCall call

abbrev NamedPlace : Option KeyPlace → Type 0
NamedPlace None = Unit {0}
NamedPlace (Some place) = IsName place.name

known_named : (key : Option ℕ) (p : Place) → IsName p.name → NamedPlace (known_place key p)
known_named None p its = tt
known_named (Some k) p its = its

place_named : (m : KeyMap) (p : Place) → IsName p.name → NamedPlace (key_place m p)
place_named m p its = known_named (key_of m p.parent.0) p its

-- IN ORDER
listed_named : (a : Option Call) → NamedStep (Some a) → (calls : List Call) → NamedCalls calls → NamedCalls (listed a ++ calls)
listed_named None its calls rest = rest
listed_named (Some call) its calls rest = (its, rest)

listed_last : (a : Option Call) → NamedStep (Some a) → NamedCalls (listed a)
listed_last None its = tt
listed_last (Some call) its = (its, tt)

order_named : (a b c : Option (Option Call)) → NamedStep a → NamedStep b → NamedStep c → NamedAll (in_order a b c)
order_named (Some a) (Some b) (Some c) one two three = listed_named a one (listed b ++ listed c) (listed_named b two (listed c) (listed_last c three))
order_named (Some a) (Some b) None one two three = tt
order_named (Some a) None c one two three = tt
order_named None b c one two three = tt

-- STEP BY STEP
replacing_named : (key : Option ℕ) (old : Digest) (given : Bool) → NamedStep (called (replacing key old given))
replacing_named (Some k) old true = tt
replacing_named (Some k) old false = tt
replacing_named None old given = tt

switching_named : (key : Option ℕ) (old new : Bool) → NamedStep (called (switching key old new))
switching_named (Some k) old new = tt
switching_named None old new = tt

moving_named : (key : Option ℕ) (from to : Option KeyPlace) → NamedPlace to → NamedStep (called (moving key from to))
moving_named (Some k) (Some from) (Some to) its = its
moving_named (Some k) (Some from) None its = tt
moving_named (Some k) None to its = tt
moving_named None from to its = tt

moving_only : (key : Option ℕ) (from to : Option KeyPlace) → NamedPlace to → NamedAll (only (moving key from to))
moving_only (Some k) (Some from) (Some to) its = (its, tt)
moving_only (Some k) (Some from) None its = tt
moving_only (Some k) None to its = tt
moving_only None from to its = tt

removing_only : (key : Option ℕ) (p : Option KeyPlace) (hash : Option Digest) → NamedAll (only (removing key p hash))
removing_only (Some k) (Some p) hash = (tt, tt)
removing_only (Some k) None hash = tt
removing_only None p hash = tt

making_only : (kind : Kind) (bit given : Bool) (p : Option KeyPlace) → NamedPlace p → NamedAll (only (making kind bit given p))
making_only Folder bit given (Some p) its = (its, tt)
making_only Folder bit given None its = tt
making_only File bit true (Some p) its = (its, tt)
making_only File bit true None its = tt
making_only File bit false p its = tt

step_named : (same : Bool) (o : Option (Option Call)) → NamedStep o → NamedStep (if same then Some None else o)
step_named true o its = tt
step_named false o its = its

-- ALL CALLS
changing_named : (m : KeyMap) (x : ℕ) (old : Option Node) (local : Change) (seen wanted : Digest) (given : Bool) → NamedChange local
    → NamedAll (changing m x old local seen wanted given)
changing_named m x None Keep seen wanted given its = tt
changing_named m x (Some old) Keep seen wanted given its = tt
changing_named m x None Cut seen wanted given its = tt
changing_named m x (Some old) Cut seen wanted given its = removing_only (get m x) (key_place m old.place) (seen_hash old.kind seen)
changing_named m x None (Put new) seen wanted given its = making_only new.kind new.bit given (key_place m new.place) (place_named m new.place its)
changing_named m x (Some old) (Put new) seen wanted given its =
    order_named (replace_step (get m x) seen wanted given) (bit_step (get m x) old.bit new.bit) (move_step m (get m x) old.place new.place)
    (step_named (bytes_eq seen.0 wanted.0) (called (replacing (get m x) seen given)) (replacing_named (get m x) seen given))
    (step_named (beq old.bit new.bit) (called (switching (get m x) old.bit new.bit)) (switching_named (get m x) old.bit new.bit))
    (step_named (place_eq old.place new.place) (called (moving (get m x) (key_place m old.place) (key_place m new.place)))
    (moving_named (get m x) (key_place m old.place) (key_place m new.place) (place_named m new.place its)))

splitting_named : (m : KeyMap) (x : ℕ) (old : Option Node) (local : Change) → NamedChange local → NamedAll (splitting m x old local)
splitting_named m x (Some old) (Put copy) its = moving_only (get m x) (key_place m old.place) (key_place m copy.place) (place_named m copy.place its)
splitting_named m x (Some old) Keep its = tt
splitting_named m x (Some old) Cut its = tt
splitting_named m x None local its = tt

by_verb : (v : Verb) (m : KeyMap) (x : ℕ) (old : Option Node) (local : Change) (seen wanted : Digest) (given : Bool) → NamedChange local
    → NamedAll (calls_by v m x old local seen wanted given)
by_verb verb.Adopt m x old local seen wanted given its = tt
by_verb verb.Split m x old local seen wanted given its = splitting_named m x old local its
by_verb verb.Down m x old local seen wanted given its = changing_named m x old local seen wanted given its
by_verb verb.Up m x old local seen wanted given its = changing_named m x old local seen wanted given its
by_verb verb.CutDown m x old local seen wanted given its = changing_named m x old local seen wanted given its
by_verb verb.CutUp m x old local seen wanted given its = changing_named m x old local seen wanted given its
by_verb verb.Forget m x old local seen wanted given its = changing_named m x old local seen wanted given its
by_verb verb.Unmove m x old local seen wanted given its = changing_named m x old local seen wanted given its
by_verb verb.Revive m x old local seen wanted given its = changing_named m x old local seen wanted given its
by_verb verb.Evict m x old local seen wanted given its = changing_named m x old local seen wanted given its

pub calls_named : (m : KeyMap) (op : Op) (seen wanted : ContentData) (given : Bool) → NamedOp op → NamedAll (calls_of m op seen wanted given)
calls_named m op seen wanted given named = by_verb op.verb m op.id.0 op.old_local op.local seen.hash wanted.hash given named.local
