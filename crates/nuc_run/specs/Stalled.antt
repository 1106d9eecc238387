-- Whether a client's last sync stalled.
use Rattle.std.specs.Prelude.{◌≡◌, ◌≤◌, ◌==◌, ℕ, cond, List, [], ◌∷◌, Option, None, Some}
use Rattle.nuc_log.specs.declared.event.Event.TheVariants as event
use Rattle.nuc_log.specs.declared.log.LogEntry.{LogEntry}
use Rattle.nuc_log.specs.declared.log.LogEntry.TheVariants as entry
use Rattle.nuc_log.specs.declared.reply.MarkReply.{MarkReply}
use Rattle.nuc_log.specs.declared.reply.MarkReply.TheVariants as mark
use Rattle.nuc_log.specs.declared.reply.Reply.TheVariants as reply
use Rattle.nuc_world.specs.Takes.{or_else}

abbrev pub mark_by : ℕ → LogEntry → Option MarkReply
mark_by c (entry.Stepped (event.Mark client) (reply.Marked answer)) = cond (client == c) (Some answer) None
mark_by c _ = None

-- the last mark of a client
abbrev pub last_mark : ℕ → List LogEntry → Option MarkReply
last_mark c [] = None
last_mark c (e ∷ es) = or_else (last_mark c es) (mark_by c e)

-- that of one of so many clients says that it stalled
pub record IsStalled (clients : ℕ) (log : List LogEntry) : Type 0 where
  pub client : ℕ
  pub some : 1 ≤ client
  pub few : client ≤ clients
  pub differing : ℕ
  pub last : last_mark client log ≡ Some (mark.Stalled differing)
