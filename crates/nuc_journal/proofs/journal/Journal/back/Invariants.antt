use Rattle.std.proofs.Common.{◌≡◌, ◌+◌, ◌-◌, ◌≤◌, length, take, vec_capacity}
use Rattle.std.specs.Prelude.{nat_eq}
use Rattle.indexmap.specs.IndexMap.{get, spare}
use Rattle.nuc_journal.specs.Tracks.{IsKept}
use Rattle.nuc_journal.proofs.journal.Journal.back.Given as goal

abbrev pub invariant-loop : goal.invariant-loop
invariant-loop l =
    let old = l.initial.self-inside in
    let new = l.self-inside in
    IsKept new.entries.items new.settled (get nat_eq new.tracks) new.before.items
    × (length new.entries.items ≡ new.settled + (l.end - l.counter))
    × (take new.settled new.entries.items ≡ take old.settled old.entries.items)
    × (vec_capacity new.entries ≡ vec_capacity old.entries)
    × (vec_capacity new.before ≡ vec_capacity old.before)
    × (spare old.tracks ≤ spare new.tracks)
