-- What a log leads to.
use Rattle.std.specs.Prelude.{◌≡◌, ◌<◌, ◌≤◌, ℕ, true, false, List, [], ◌∷◌, ◌++◌, Some}
use Rattle.nuc_log.specs.declared.event.Event.{Event}
use Rattle.nuc_log.specs.declared.log.LogEntry.{LogEntry}
use Rattle.nuc_log.specs.declared.log.LogEntry.TheVariants as entry
use Rattle.nuc_log.specs.declared.reply.Reply.{Reply}
use Rattle.nuc_world.specs.State.{Due, MemberState, WorldState, after_one, fresh, is_due, member_of, with_failure, with_member}
use Rattle.nuc_world.specs.Step.{IsStep}

-- the opening of a world of so many clients that comes from no kept image
abbrev pub opening : ℕ → LogEntry
opening clients = entry.Opened clients false

-- the calls of a client's folder are counted otherwise
pub record IsRecounted (c : ℕ) (count : Due → Due) (w v : WorldState) : Type 0 where
  pub member : MemberState
  pub was : member_of c w.members ≡ Some member
  pub now : v ≡ record w { members = with_member c (record member { due = count member.due }) w.members }

-- a listing failed, which is no entry
pub record IsUnlisted (c : ℕ) (w v : WorldState) : Type 0 where
  pub counted : IsRecounted c after_one w v
  pub fails : is_due counted.member.due ≡ true

-- the log leads from the opening to this world, step by step; between two steps a call may be told to fail, or a listing fail
pub data Reaches : List LogEntry → WorldState → Type 0 where
  opened : (clients : ℕ) → 0 < clients → clients ≤ 16 → Reaches (opening clients ∷ []) (fresh clients)
  stepped : (log : List LogEntry) (w : WorldState) (e : Event) (r : Reply) (v : WorldState)
      → Reaches log w → IsStep log w e r v → Reaches (log ++ entry.Stepped e r ∷ []) v
  told : (log : List LogEntry) (w : WorldState) (c k : ℕ) (v : WorldState) → Reaches log w → 0 < k → IsRecounted c (with_failure k) w v → Reaches log v
  unlisted : (log : List LogEntry) (w : WorldState) (c : ℕ) (v : WorldState) → Reaches log w → IsUnlisted c w v → Reaches log v
