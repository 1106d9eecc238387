-- How a remote stands to the server's journal.
use Rattle.std.specs.Prelude.{◌≡◌, ◌+◌, ◌≤◌, ◌++◌, ℕ, List, length, take, drop}
use Rattle.std.specs.FinMap.{get}
use Rattle.nuc_journal.specs.Entries.{revision_of, tree_of}
use Rattle.nuc_journal.specs.Journal.{IsJournal}
use Rattle.nuc_journal.specs.declared.entry.Entry.{Entry}
use Rattle.nuc_replica.specs.Remote.{Agree, Follows, RemoteState, caught_up, forgotten, heard, or_zero, with_entries}

-- what these entries come to at the cursor, and nothing else is known beyond it than what they say
pub record IsAt (es : List Entry) (s : RemoteState) : Type 0 where
  pub tree : s.tree ≡ tree_of (take s.cursor es)
  pub revisions : (x : ℕ) → or_zero (get s.revisions x) ≡ revision_of (take s.cursor es) x
  pub ahead : Agree s.ahead (drop s.cursor es)
  pub within : s.cursor + length s.ahead ≤ length es

-- so many entries of the journal after the cursor
abbrev pub next_entries : List Entry → RemoteState → ℕ → List Entry
next_entries es s n = take n (drop s.cursor es)

-- entries of the journal after the cursor may be pulled and heard
abbrev pub NextEntriesFollow : Type 0
NextEntriesFollow = (es : List Entry) (s : RemoteState) (n : ℕ) → IsJournal es → IsAt es s → Follows s (next_entries es s n)

-- and what comes of it is what the journal comes to again
abbrev pub RemotesStayAt : Type 0
RemotesStayAt = (es : List Entry) (s : RemoteState) → IsAt es s
    → ((n : ℕ) → IsAt es (with_entries s (next_entries es s n)))
    × ((n : ℕ) → IsAt es (heard (next_entries es s n) s))
    × ((rev : ℕ) → IsAt es (caught_up rev s))
    × IsAt es (forgotten s)

-- also when more entries come
abbrev pub MoreEntriesKeepIt : Type 0
MoreEntriesKeepIt = (es more : List Entry) (s : RemoteState) → IsAt es s → IsAt (es ++ more) s
