-- What a client hears of an accepted commit follows what it knows.
use Rattle.std.proofs.Common.{◌≡◌, List, [], ◌∷◌, ◌++◌, length, drop, subst, sym}
use Rattle.std.proofs.Math.Seq.{take-length}
use Rattle.nuc_journal.specs.Journal.{IsJournal}
use Rattle.nuc_journal.specs.declared.entry.Entry.{Entry}
use Rattle.nuc_replica.specs.Following.{IsAt}
use Rattle.nuc_replica.specs.Remote.{Follows, RemoteState}
use Rattle.nuc_replica.proofs.Journaled.{at_more, next_entries_follow}

-- all entries behind the cursor, of a journal that has grown
pub news_follow : (es now : List Entry) (e : Entry) (s : RemoteState) → IsAt es s → now ≡ es ++ e ∷ [] → IsJournal now → Follows s (drop s.cursor now)
news_follow es now e s at is journal =
    let here : IsAt now s = subst (λ xs. IsAt xs s) (sym is) (at_more es (e ∷ []) s at) in
    subst (Follows s) (take-length (drop s.cursor now)) (next_entries_follow now s (length (drop s.cursor now)) journal here)
