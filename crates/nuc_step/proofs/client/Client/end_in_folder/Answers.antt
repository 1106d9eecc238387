use Rattle.std.specs.Prelude.{MatchBool}
use Rattle.std.proofs.Common.{◌≡◌, ◌≤◌, ◌+◌, ℕ, true, ◌∙◌, ap, subst, sym, refl, arith}
use Rattle.nuc_flights.specs.declared.taken.Taken.TheVariants as came
use Rattle.nuc_folder.specs.Outcome.{is_success}
use Rattle.nuc_step.specs.Client.{ClientStates, state_now}
use Rattle.nuc_step.specs.Sound.{IsKept, known_to}
use Rattle.nuc_step.specs.Steps.{IsDone}
use Rattle.nuc_step.specs.declared.counts.Counts.{Counts}
use Rattle.nuc_step.proofs.Ends.{Finishes, ending_fits, ending_inside, ending_laid, ending_may, folder_ends, kept_ended}
use Rattle.nuc_step.proofs.client.Client.end_in_folder.Goals as goal
use Rattle.nuc_step.proofs.client.Client.end_in_folder.Goals.{then-landed, else-landed}

pub land_in_folder-landed-requires-clause-may : goal.land_in_folder-landed-requires-clause-may
land_in_folder-landed-requires-clause-may g c =
    let inside = c.self.inside in
    let it = ending_inside _ _ c.args.number (came.Folder c.args.outcome) c.in-Some.op.now c.self.view_is c.requires.taken c.in-Some.ensures in
    ending_may (known_to inside.remote.now) c.args.number inside.flights.now (came.Folder c.args.outcome) c.in-Some.op.now c.self.invariant.now.flights it

pub land_in_folder-landed-requires-clause-outcome : goal.land_in_folder-landed-requires-clause-outcome
land_in_folder-landed-requires-clause-outcome g c =
    let inside = c.self.inside in
    let it = ending_inside _ _ c.args.number (came.Folder c.args.outcome) c.in-Some.op.now c.self.view_is c.requires.taken c.in-Some.ensures in
    ending_fits (known_to inside.remote.now) c.args.number inside.flights.now (came.Folder c.args.outcome) c.in-Some.op.now c.self.invariant.now.flights it

pub land_in_folder-landed-requires-clause-local_laid : goal.land_in_folder-landed-requires-clause-local_laid
land_in_folder-landed-requires-clause-local_laid g c =
    let inside = c.self.inside in
    let it = ending_inside _ _ c.args.number (came.Folder c.args.outcome) c.in-Some.op.now c.self.view_is c.requires.taken c.in-Some.ensures in
    let both = ending_laid inside.local.laid inside.synced.laid c.args.number inside.flights.now (came.Folder c.args.outcome) c.in-Some.op.now c.self.invariant.laid it in
    both.0

pub land_in_folder-landed-requires-clause-synced_laid : goal.land_in_folder-landed-requires-clause-synced_laid
land_in_folder-landed-requires-clause-synced_laid g c =
    let inside = c.self.inside in
    let it = ending_inside _ _ c.args.number (came.Folder c.args.outcome) c.in-Some.op.now c.self.view_is c.requires.taken c.in-Some.ensures in
    let both = ending_laid inside.local.laid inside.synced.laid c.args.number inside.flights.now (came.Folder c.args.outcome) c.in-Some.op.now c.self.invariant.laid it in
    both.1

pub invariant_of-self : goal.invariant_of-self
invariant_of-self g c =
    let inside = c.self.inside in
    let n = c.args.number in
    let it = ending_inside _ _ n (came.Folder c.args.outcome) c.in-Some.op.now c.self.view_is c.requires.taken c.in-Some.ensures in
    let all = c.land_in_folder-landed.ensures in
    let left = c.finish.new.self in
    let kept = λ (ends : Finishes n inside.flights.now c.finish.result left.now) (same : left.settled ≡ inside.flights.settled)
    (counts : Counts) (next : counts.next_op ≡ inside.counts.next_op) (few : counts.changes ≤ inside.counts.changes + 1).
    kept_ended inside.remote inside.local c.land_in_folder-landed.new.local inside.synced c.land_in_folder-landed.new.synced inside.flights left inside.counts counts inside.settled_counts
    n (came.Folder c.args.outcome) c.in-Some.op.now c.finish.result it ends same
    c.trees_are_sound.ensures.local all.local_changed c.trees_are_sound.ensures.synced all.synced_changed next few c.self.invariant in
    elim c.if-landed.branch [
      | then-landed w ↦ subst (λ x. IsKept x.remote x.local x.synced left x.counts x.settled_counts) (sym w.self-inside-is)
          (kept (subst (λ x. Finishes n x.flights.now c.finish.result left.now) w.self-inside-is c.finish.ensures.finished)
          (c.finish.ensures.settled ∙ ap (λ x. x.flights.settled) w.self-inside-is) (record { changes = inside.counts.changes + 1; next_op = inside.counts.next_op }) refl (omega arith))
      | else-landed w ↦ subst (λ x. IsKept x.remote x.local x.synced left x.counts x.settled_counts) (sym w.self-inside-is)
          (kept (subst (λ x. Finishes n x.flights.now c.finish.result left.now) w.self-inside-is c.finish.ensures.finished)
          (c.finish.ensures.settled ∙ ap (λ x. x.flights.settled) w.self-inside-is) inside.counts refl (omega arith))
    ]

pub returns-clause-done : goal.returns-clause-done
returns-clause-done g c =
    let inside = c.self.inside in
    let n = c.args.number in
    let it = ending_inside _ _ n (came.Folder c.args.outcome) c.in-Some.op.now c.self.view_is c.requires.taken c.in-Some.ensures in
    let before = state_now inside.remote inside.local inside.synced inside.flights inside.counts in
    let all = c.land_in_folder-landed.ensures in
    let b = c.land_in_folder-landed.result in
    let left = c.finish.new.self in
    let old = c.args.edits.now.now in
    let new = c.land_in_folder-landed.new.edits.now in
    let reply = c.applied_or_stale.result in
    let count = inside.counts.changes in
    let success : is_success c.args.outcome ≡ true = sym c.is_success.ensures ∙ c.if-not-is_success.false in
    let ends = λ (fin : Finishes n inside.flights.now c.finish.result left.now) (changes : ℕ) (counted : MatchBool b (changes ≡ count + 1) (changes ≡ count)).
    folder_ends n before c.in-Some.op.now c.args.outcome old b reply c.land_in_folder-landed.new.local.now c.land_in_folder-landed.new.synced.now changes new c.finish.result left.now it success fin
    (record { landed = all.landed; local = all.local; synced = all.synced; edits = all.edits; counted = counted; reply = c.applied_or_stale.ensures }) in
    subst (λ (s : ClientStates). IsDone n s.now old reply
    (state_now c.if-landed.self-inside.remote c.if-landed.self-inside.local c.if-landed.self-inside.synced left c.if-landed.self-inside.counts) new) c.self.view_is
    (elim c.if-landed.branch [
      | then-landed w ↦ subst (λ x. IsDone n before old reply (state_now x.remote x.local x.synced left x.counts) new) (sym w.self-inside-is)
          (ends (subst (λ x. Finishes n x.flights.now c.finish.result left.now) w.self-inside-is c.finish.ensures.finished) (count + 1)
          (subst (λ y. MatchBool y (count + 1 ≡ count + 1) (count + 1 ≡ count)) (sym w.if-landed.true) refl))
      | else-landed w ↦ subst (λ x. IsDone n before old reply (state_now x.remote x.local x.synced left x.counts) new) (sym w.self-inside-is)
          (ends (subst (λ x. Finishes n x.flights.now c.finish.result left.now) w.self-inside-is c.finish.ensures.finished) count
          (subst (λ y. MatchBool y (count ≡ count + 1) (count ≡ count)) (sym w.if-landed.false) refl))
    ])
