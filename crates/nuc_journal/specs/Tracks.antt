-- What a journal keeps beside its entries.
use Rattle.std.specs.Prelude.{◌≡◌, ◌≤◌, ℕ, List, length, take, slice_get, Option, None, Some}
use Rattle.nuc_base.specs.declared.node.Kind.{Kind}
use Rattle.nuc_journal.specs.Entries.{revision_of, kind_of}
use Rattle.nuc_journal.specs.Journal.{IsJournal}
use Rattle.nuc_journal.specs.declared.entry.Entry.{Entry}
use Rattle.nuc_journal.specs.declared.track.Track.{Track}

abbrev pub Tells : Option Track → ℕ → Option Kind → Type 0
Tells None rev kind = (rev ≡ 0) × (kind ≡ None)
Tells (Some t) rev kind = (rev ≡ t.rev) × (kind ≡ Some t.kind)

-- t says what the entries of x come to
abbrev pub IsTrack : Option Track → List Entry → ℕ → Type 0
IsTrack t es x = Tells t (revision_of es x) (kind_of es x)

-- the index says it for each identity
abbrev pub AreTracks : (ℕ → Option Track) → List Entry → Type 0
AreTracks tracks es = (x : ℕ) → IsTrack (tracks x) es x

-- beside each entry stands what its identity came to before it
pub record AreBefore (before : List (Option Track)) (es : List Entry) : Type 0 where
  pub many : length before ≡ length es
  pub each : (k : ℕ) (e : Entry) (t : Option Track) → slice_get es k ≡ Some e → slice_get before k ≡ Some t → IsTrack t (take k es) e.id.0

-- the entries make a journal, the settled are a front of it, and index and list say what they are to say
pub record IsKept (es : List Entry) (n : ℕ) (told : ℕ → Option Track) (olds : List (Option Track)) : Type 0 where
  pub journal : IsJournal es
  pub settled : n ≤ length es
  pub tracks : AreTracks told es
  pub before : AreBefore olds es
