-- What holds of a client that is left alone, at each point of such a part of a log.
use Rattle.std.proofs.Common.{◌≡◌, ◌≤◌, ◌+◌, ◌++◌, ℕ, Bool, List, length, Some}
use Rattle.nuc_edits.specs.Edits.{same_hash}
use Rattle.nuc_edits.specs.declared.edit.Edit.{Edit}
use Rattle.nuc_journal.specs.declared.entry.Entry.{Entry}
use Rattle.nuc_log.specs.declared.log.LogEntry.{LogEntry}
use Rattle.nuc_log.specs.declared.reply.Reply.{Reply}
use Rattle.nuc_step.specs.Client.{ClientState}
use Rattle.nuc_step.specs.Order.{IsReady}
use Rattle.nuc_world.specs.Runs.{Reaches}
use Rattle.nuc_world.specs.State.{MemberState, WorldState, member_of}
use Rattle.nuc_converge.specs.Counts.{applied, applied_in, dropped, dropped_in, planned, planned_in}
use Rattle.nuc_converge.proofs.InFlight.{IsAlone}
use Rattle.nuc_converge.proofs.Parts.{Carries}

-- THE PART behind these entries leads from the first world to the second, where the client is n. It carries at most the potential
-- a that it began with, less what was applied; and each operation that was planned was applied, was dropped, or flies
pub record IsPoint (c : ℕ) (before part : List LogEntry) (w v : WorldState) (a : ℕ) (n : MemberState) : Type 0 where
  pub was : member_of c v.members ≡ Some n
  pub reaches : Reaches (before ++ part) v
  pub edits : v.shared.edits.edits ≡ w.shared.edits.edits
  pub alone : IsAlone (same_hash w.shared.edits.edits) v.shared.entries n.client
  pub ready : IsReady n.client
  pub pays : (b : ℕ) → Carries (same_hash w.shared.edits.edits) n.client b → b + applied part ≤ a
  pub counts : planned part ≡ applied part + length n.client.flights + dropped part

-- ONE STEP, with this reply, of the client and of what is recorded and entered, leads to the next point
pub record Moves (same : ℕ → ℕ → Bool) (old edits : List Edit) (entries : List Entry) (c d : ClientState) (r : Reply) : Type 0 where
  pub edits_are : edits ≡ old
  pub alone : IsAlone same entries d
  pub ready : IsReady d
  pub pays : (a b : ℕ) → Carries same c a → Carries same d b → b + applied_in r ≤ a
  pub counts : planned_in r + length c.flights ≡ applied_in r + length d.flights + dropped_in r
