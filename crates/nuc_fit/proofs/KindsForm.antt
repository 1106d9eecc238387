-- Each key of a folder has one kind for ever: what it is that a folder, a listing, Local and what flies keep to such kinds.
use Rattle.std.specs.Prelude.{All}
use Rattle.std.proofs.Common.{◌≡◌, ◌≢◌, ◌<◌, ◌==◌, ℕ, Bool, true, false, cond, Option, Some, None, refl, ap, inl, inr}
use Rattle.std.proofs.lemmas.Bool.Decides.{eqb_tells}
use Rattle.std.specs.FinMap.{get}
use Rattle.nuc_base.specs.Trees.{Nodes}
use Rattle.nuc_base.specs.declared.change.Change.{Change}
use Rattle.nuc_base.specs.declared.change.Change.TheVariants.{Keep, Put, Cut}
use Rattle.nuc_base.specs.declared.node.Kind.{Kind}
use Rattle.nuc_base.specs.declared.node.Node.{Node}
use Rattle.nuc_class.specs.declared.op.Op.{Op}
use Rattle.nuc_flights.specs.Flights.{Flight, Stage, planned, started, taken}
use Rattle.nuc_flights.specs.declared.taken.Taken.{Taken}
use Rattle.nuc_flights.specs.declared.taken.Taken.TheVariants as came
use Rattle.nuc_folder.specs.declared.item.Item.{Item}
use Rattle.nuc_folder.specs.declared.noticed.Noticed.{Noticed}
use Rattle.nuc_folder.specs.declared.noticed.Noticed.TheVariants as noticed
use Rattle.nuc_folder.specs.declared.outcome.Outcome.{Outcome}
use Rattle.nuc_folder.specs.declared.outcome.Outcome.TheVariants as outcome
use Rattle.nuc_observe.specs.Listing.{kind_of}
use Rattle.nuc_replica.specs.Local.{LocalState}
use Rattle.nuc_step.specs.Held.{HeldData}
use Rattle.nuc_step.specs.Steps.{is_split}

-- KINDS of keys, with that of one key more
abbrev pub Kinds : Type 0
Kinds = ℕ → Kind

abbrev pub with_kind : Kinds → ℕ → Kind → Kinds
with_kind kinds key kind k = cond (k == key) kind (kinds k)

pub with_kind_own : (kinds : Kinds) (key : ℕ) (kind : Kind) → with_kind kinds key kind key ≡ kind
with_kind_own kinds key kind = elim (eqb_tells key key) [ inl (hits, same) ↦ ap (λ b. cond b kind (kinds key)) hits | inr (miss, apart) ↦ absurd (apart refl) ]

pub with_kind_other : (kinds : Kinds) (key : ℕ) (kind : Kind) (k : ℕ) → k ≢ key → with_kind kinds key kind k ≡ kinds k
with_kind_other kinds key kind k other = elim (eqb_tells k key) [
  | inl (hits, same) ↦ absurd (other same)
  | inr (miss, apart) ↦ ap (λ b. cond b kind (kinds k)) miss
]

-- keys below this have the same kinds in both
abbrev pub Agree : ℕ → Kinds → Kinds → Type 0
Agree next kinds later = (k : ℕ) → k < next → later k ≡ kinds k

-- WHAT KEEPS TO THEM: what stands under each key of a folder
abbrev pub AreHeld : Kinds → Nodes → Type 0
AreHeld kinds m = (k : ℕ) (h : Node) → get m k ≡ Some h → h.kind ≡ kinds k

-- what Local has under each key
abbrev pub AreNamed : Kinds → LocalState → Type 0
AreNamed kinds l = (x k : ℕ) (n : Node) → get l.keys x ≡ Some k → get l.tree x ≡ Some n → n.kind ≡ kinds k

-- an item that was listed, or that a notice tells of
abbrev pub IsItemOf : Kinds → Item → Type 0
IsItemOf kinds item = kind_of item.content ≡ kinds item.key.0

abbrev pub IsNoticeOf : Kinds → Noticed → Type 0
IsNoticeOf kinds (noticed.Made item) = IsItemOf kinds item
IsNoticeOf kinds (noticed.Written key content) = Unit {0}
IsNoticeOf kinds (noticed.Moved key place) = Unit {0}
IsNoticeOf kinds (noticed.Removed key) = Unit {0}
IsNoticeOf kinds (noticed.Bit key bit) = Unit {0}

abbrev pub IsListedOf : Kinds → Option HeldData → Type 0
IsListedOf kinds None = Unit {0}
IsListedOf kinds (Some listing) = All (IsItemOf kinds) listing.items

-- AN OPERATION: what it makes is of the kind of its key, and a split's copy of the kind of what it is a copy of
abbrev pub PutsKind : Change → Kind → Type 0
PutsKind Keep kind = Unit {0}
PutsKind (Put n) kind = n.kind ≡ kind
PutsKind Cut kind = Unit {0}

abbrev pub IsMadeOf : Kinds → Change → Outcome → Type 0
IsMadeOf kinds local (outcome.Made key) = PutsKind local (kinds key.0)
IsMadeOf kinds local outcome.Ok = Unit {0}
IsMadeOf kinds local outcome.NotEmpty = Unit {0}
IsMadeOf kinds local outcome.Changed = Unit {0}
IsMadeOf kinds local outcome.Taken = Unit {0}
IsMadeOf kinds local outcome.Failed = Unit {0}
IsMadeOf kinds local outcome.Memory = Unit {0}

abbrev pub IsTakenOf : Kinds → Change → Taken → Type 0
IsTakenOf kinds local (came.Folder o) = IsMadeOf kinds local o
IsTakenOf kinds local (came.Accepted rev) = Unit {0}
IsTakenOf kinds local (came.Refused why) = Unit {0}

abbrev pub IsStageOf : Kinds → Change → Stage → Type 0
IsStageOf kinds local planned = Unit {0}
IsStageOf kinds local started = Unit {0}
IsStageOf kinds local (taken t) = IsTakenOf kinds local t

abbrev pub CopiesKind : Bool → Option Node → Change → Type 0
CopiesKind false old local = Unit {0}
CopiesKind true None local = Unit {0}
CopiesKind true (Some n) Keep = Unit {0}
CopiesKind true (Some n) (Put copy) = copy.kind ≡ n.kind
CopiesKind true (Some n) Cut = Unit {0}

abbrev pub IsCopy : Op → Type 0
IsCopy op = CopiesKind (is_split op.verb) op.old_local op.local

pub record IsFlightOf (kinds : Kinds) (f : Flight) : Type 0 where
  pub copy : IsCopy f.op
  pub stage : IsStageOf kinds f.op.local f.stage
