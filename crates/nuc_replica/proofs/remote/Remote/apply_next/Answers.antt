use Rattle.std.proofs.Common.{◌≡◌, ◌<◌, Some, Option, ◌∙◌, ap, sym, subst, length, slice_get, arith}
use Rattle.std.proofs.lemmas.List.{length-drop}
use Rattle.nuc_journal.specs.declared.entry.Entry.{Entry}
use Rattle.nuc_journal.proofs.Lists.{within}
use Rattle.nuc_replica.specs.Ahead.{IsKept, ahead_now, state_now}
use Rattle.nuc_replica.proofs.Followed.{ahead_follows}
use Rattle.nuc_replica.proofs.Kept.{Applied, Noted, kept_applied}
use Rattle.nuc_replica.proofs.remote.Remote.apply_next.Goals as goal

pub invariant_of-self : goal.invariant_of-self
invariant_of-self g c =
    let inside = c.self.inside in
    let a = inside.ahead in
    let entry = c.in-Some.entry.now in
    let change = c.apply_laid.ensures in
    let first : ◌≡◌ {A = Option Entry} (Some entry) (slice_get (ahead_now a) 0) = c.in-Some.ensures.value ∙ ap (λ es. slice_get es 0) c.rest.ensures.rest in
    let some : 0 < length (ahead_now a) = within (ahead_now a) 0 entry (sym first) in
    let size = length-drop a.applied a.entries in
    let applied : Applied inside.tree entry a.applied (length a.entries) c.apply_laid.new.tree = record {
      now = change.now;
      changed = change.changed;
      settled = change.settled;
      later = λ i lt. change.laid i (λ same. absurd (omega (arith, same, lt, c.next_place.ensures)));
      beyond = λ i le. change.laid i (λ same. absurd (omega (arith, same, le, c.next_place.ensures, some, size)));
    } in
    let noted : Noted inside.revisions entry c.note.new.revisions = record { now = c.note.ensures.now; past = c.note.ensures.past; spare = c.note.ensures.spare; settled = c.note.ensures.settled } in
    let follows = ahead_follows (state_now inside.tree inside.revisions inside.cursor a) entry first c.self.invariant.now in
    subst (λ b. IsKept c.apply_laid.new.tree c.note.new.revisions entry.rev inside.settled_cursor b) (sym c.pass.ensures)
    (kept_applied inside.tree c.apply_laid.new.tree inside.revisions c.note.new.revisions inside.cursor inside.settled_cursor a entry applied noted follows c.self.invariant
    (omega (arith, some, size, c.self.invariant.tree_room.now)) (omega (arith, some, size, c.self.invariant.revisions_room.now)))
