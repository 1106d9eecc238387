-- A client stays what it is where Local alone changes, whatever flies.
use Rattle.std.specs.Prelude.{◌*◌, All}
use Rattle.std.proofs.Common.{◌≡◌, ◌<◌, ◌≤◌, ◌+◌, ℕ, get_or, length, refl, sym, ◌∙◌, ap, subst, arith}
use Rattle.std.specs.FinMap.{get}
use Rattle.nuc_base.specs.declared.change.Change.{Change}
use Rattle.nuc_base.specs.declared.change.Change.TheVariants.{Keep, Put, Cut}
use Rattle.nuc_flights.specs.Flights.{FlightsState}
use Rattle.nuc_replica.specs.Local.{IsLocal, LocalStates}
use Rattle.nuc_replica.specs.Remote.{RemoteStates}
use Rattle.nuc_step.specs.Sound.{AreLaid, AreNumbered, IsClient, IsKept, IsLaid}
use Rattle.nuc_step.specs.declared.counts.Counts.{Counts}
use Rattle.nuc_step.proofs.Kept.{same_then}
use Rattle.nuc_undo.specs.Laid.{Laid, StillLaid}
use Rattle.nuc_undo.specs.State.{UndoState, settled_of}

-- what a change of Local alone leaves: what it leads back to, what is laid by, and room for all that flies
pub record LeavesRoom (flying : ℕ) (s t : LocalStates) : Type 0 where
  pub settled : t.settled ≡ s.settled
  pub laid_then : t.laid_then ≡ s.laid_then
  pub room : 2 * flying ≤ t.spare
  pub spare_then : s.spare_then ≤ t.spare_then
  pub still : StillLaid s.laid t.laid
  pub untaken : (n : ℕ) → get s.laid n ≡ get s.laid_then n → get t.laid n ≡ get t.laid_then n

still_laid : (laid new : Laid) (n : ℕ) (c : Change) → StillLaid laid new → IsLaid laid n c → IsLaid new n c
still_laid laid new n Keep still is = tt
still_laid laid new n (Put node) still is = still n node is
still_laid laid new n Cut still is = tt

pub kept_turned : (r : RemoteStates) (l m : LocalStates) (s : UndoState) (fs : FlightsState) (c b d : Counts)
    → LeavesRoom (length fs.now) l m → IsLocal m.now → b.next_op ≡ c.next_op → b.changes + length fs.now < 18446744073709551616
    → IsKept r l s fs c d → IsKept r m s fs b d
kept_turned r l m s fs c b d leaves local next few kept = record {
  now = record {
    remote = kept.now.remote;
    local = local;
    synced = kept.now.synced;
    flights = kept.now.flights;
    numbers = subst (λ k. AreNumbered fs.now k) (sym next) kept.now.numbers;
  };
  settled = subst IsClient (same_then r.settled r.settled l.settled m.settled (settled_of s) (settled_of s) fs.settled d refl leaves.settled refl) kept.settled;
  later = omega (arith, next, kept.later);
  room = record { local = leaves.room; synced = kept.room.synced };
  room_then = record { local = omega (arith, leaves.spare_then, kept.room_then.local); synced = kept.room_then.synced };
  laid = λ k f within.
      let g = get_or fs.now k f in
      let are = kept.laid k f within in
      record { local = still_laid l.laid m.laid g.op.number g.op.local leaves.still are.local; synced = are.synced };
  laid_then = subst (λ laid. All (AreLaid laid s.laid_then) fs.settled) (sym leaves.laid_then) kept.laid_then;
  local_untaken = λ i above. leaves.untaken i (kept.local_untaken i (omega (arith, above, next)));
  synced_untaken = λ i above. kept.synced_untaken i (omega (arith, above, next));
  count = few;
  count_then = kept.count_then;
}
