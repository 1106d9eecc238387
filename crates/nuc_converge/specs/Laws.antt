-- That a client which is left alone comes to rest.
use Rattle.std.specs.Prelude.{◌≡◌, ◌≢◌, ◌<◌, ◌≤◌, ◌+◌, ◌*◌, ◌∷◌, ◌↔◌, ℕ, All, List, [], Some}
use Rattle.nuc_edits.specs.Edits.{same_hash}
use Rattle.nuc_log.specs.declared.event.Event.TheVariants as event
use Rattle.nuc_log.specs.declared.log.LogEntry.{LogEntry}
use Rattle.nuc_log.specs.declared.log.LogEntry.TheVariants as entry
use Rattle.nuc_log.specs.declared.reply.Reply.TheVariants as reply
use Rattle.nuc_log.specs.declared.reply.TakeReply.TheVariants as took
use Rattle.nuc_measure.specs.Differing.{IsDiffering}
use Rattle.nuc_measure.specs.Potential.{IsPotential}
use Rattle.nuc_server.specs.WebEdits.{WebState}
use Rattle.nuc_step.specs.declared.answers.Planned.{Planned}
use Rattle.nuc_step.specs.declared.answers.Planned.TheVariants as plan
use Rattle.nuc_transfer.specs.Transfer.{Collision}
use Rattle.nuc_world.specs.Marks.{IsQuiet}
use Rattle.nuc_world.specs.Runs.{Reaches}
use Rattle.nuc_world.specs.State.{MemberState, WorldState, member_of}
use Rattle.nuc_world.specs.Step.{IsStep}
use Rattle.nuc_converge.specs.Alone.{IsAlone, IsRested, LeftAlone}
use Rattle.nuc_converge.specs.Counts.{applied, dropped, planned, planned_by}

-- how far the three trees of a client are from being equal
abbrev pub HasPotential : WebState → MemberState → ℕ → Type 0
HasPotential s m k = IsPotential (same_hash s.edits.edits) m.client.remote.tree m.client.local.tree m.client.synced k

-- at how many identities they differ
abbrev pub Differ : MemberState → ℕ → Type 0
Differ m d = IsDiffering m.client.remote.tree m.client.local.tree m.client.synced d

-- EACH OPERATION COUNTS. At every point of such a part the potential and the operations applied so far are at most the
-- potential at its beginning
abbrev pub EachLowersIt : Type 0
EachLowersIt = (c : ℕ) (before part : List LogEntry) (w v : WorldState) (m n : MemberState) (a b : ℕ) → Reaches before w → IsRested c w m
    → LeftAlone c before w part v → member_of c v.members ≡ Some n → HasPotential w.shared m a → HasPotential v.shared n b
    → b + applied part ≤ a

-- IT ENDS. The part plans at most 6 operations for each identity that differs at its beginning, beside those that were dropped
abbrev pub FewArePlanned : Type 0
FewArePlanned = (c : ℕ) (before part : List LogEntry) (w v : WorldState) (m : MemberState) (d : ℕ) → Reaches before w → IsRested c w m
    → LeftAlone c before w part v → Differ m d → planned part ≤ 6 * d + dropped part

-- each plan gives an operation, but for the empty one, which comes only where the three trees are equal
abbrev pub GivesSome : Planned → Type 0
GivesSome p = p ≢ plan.Empty → 0 < planned_by p

abbrev pub EachPlanGivesSome : Type 0
EachPlanGivesSome = (log : List LogEntry) (w v : WorldState) (c : ℕ) (p : Planned) → IsStep log w (event.Plan c) (reply.Plan p) v
    → IsAlone c (event.Plan c) (reply.Plan p) → GivesSome p

-- and a plan is empty exactly where nothing of its client is in flight and the three trees are equal
abbrev pub EachPlanIsExact : Type 0
EachPlanIsExact = (log : List LogEntry) (w v : WorldState) (c : ℕ) (p : Planned) (m : MemberState) → IsStep log w (event.Plan c) (reply.Plan p) v
    → member_of c w.members ≡ Some m → (p ≡ plan.Empty) ↔ IsQuiet m.client

-- NOTHING IS DROPPED. Where a commit of such a part is refused, there are two lists of bytes with one SHA-256
abbrev pub IsNoRefusal : LogEntry → Type 0
IsNoRefusal (entry.Stepped e (reply.Took (took.Refused why))) = Collision
IsNoRefusal e = Unit {0}

abbrev pub NoneIsRefused : Type 0
NoneIsRefused = (c : ℕ) (before part : List LogEntry) (w v : WorldState) (m : MemberState) → Reaches before w → IsRested c w m
    → LeftAlone c before w part v → All IsNoRefusal part

-- so at most 6 are planned for each identity that differs, or there are two such lists
abbrev pub FewUnlessCollision : Type 0
FewUnlessCollision = (c : ℕ) (before part : List LogEntry) (w v : WorldState) (m : MemberState) (d : ℕ) → Reaches before w → IsRested c w m
    → LeftAlone c before w part v → Differ m d → ¬ Collision → planned part ≤ 6 * d

-- EVERY ORDER OF A BATCH ends alike: two such parts, each of which has one plan, the same batch, and ends with nothing in
-- flight and nothing dropped, leave the same three trees
abbrev pub IsNoPlan : LogEntry → Type 0
IsNoPlan (entry.Stepped e (reply.Plan p)) = ⊥
IsNoPlan e = Unit {0}

pub record HoldsOneBatch (c : ℕ) (before : List LogEntry) (w : WorldState) (p : Planned) (part : List LogEntry) (v : WorldState) (n : MemberState) : Type 0 where
  pub rest : List LogEntry
  pub first : part ≡ entry.Stepped (event.Plan c) (reply.Plan p) ∷ rest
  pub alone : LeftAlone c before w part v
  pub no_other : All IsNoPlan rest
  pub was : member_of c v.members ≡ Some n
  pub landed : n.client.flights ≡ []

pub record SameTrees (m n : MemberState) : Type 0 where
  pub remote : m.client.remote.tree ≡ n.client.remote.tree
  pub local : m.client.local.tree ≡ n.client.local.tree
  pub synced : m.client.synced ≡ n.client.synced

abbrev pub BatchesEndAlike : Type 0
BatchesEndAlike = (c : ℕ) (before part other : List LogEntry) (w v u : WorldState) (m n k : MemberState) (p : Planned) → Reaches before w → IsRested c w m
    → HoldsOneBatch c before w p part v n → HoldsOneBatch c before w p other u k → ¬ Collision → SameTrees n k
