use Rattle.std.specs.Prelude.{MatchBool}
use Rattle.std.proofs.Common.{◌≡◌, ◌≢◌, ◌∙◌, ◌++◌, [], ap, subst, sym}
use Rattle.nuc_base.specs.Changes.{changed}
use Rattle.nuc_edits.specs.Edits.{Recorded, same_hash}
use Rattle.nuc_folder.specs.declared.outcome.Outcome.TheVariants as outcome
use Rattle.nuc_replica.specs.Local.{LocalState}
use Rattle.nuc_step.specs.Client.{ClientStates, state_now}
use Rattle.nuc_step.specs.Planning.{IsNoted}
use Rattle.nuc_step.specs.Steps.{LocalReady, SyncedReady, adopted_by, local_after}
use Rattle.nuc_step.proofs.Kept.{kept_at_once, kept_laid, one_beyond, summed}
use Rattle.nuc_step.proofs.Noticed.{counts_so, it_lands, noted_is, one_change}
use Rattle.nuc_step.proofs.client.Client.take_place.Goals as goal

pub invariant_of-self : goal.invariant_of-self
invariant_of-self g c =
    let inside = c.self.inside in
    let none : inside.flights.now ≡ [] = ap (λ (s : ClientStates). s.now.flights) c.self.view_is ∙ c.requires.idle in
    let number : c.args.op.now.number ≡ inside.counts.next_op = c.requires.number ∙ sym (ap (λ (s : ClientStates). s.now.next_op) c.self.view_is) in
    let l = c.lay_one.new.local in
    let s = c.lay_one.new.synced in
    let lays = c.lay_one.ensures in
    kept_laid inside.remote inside.local l inside.synced s inside.flights inside.counts inside.settled_counts none
    lays.local_keeps (one_beyond c.args.op.now.number inside.counts.next_op inside.local.laid inside.local.laid_then l.laid l.laid_then number lays.local_over)
    lays.synced_keeps (one_beyond c.args.op.now.number inside.counts.next_op inside.synced.laid inside.synced.laid_then s.laid s.laid_then number lays.synced_over)
    c.self.invariant

pub invariant_of-self-2 : goal.invariant_of-self-2
invariant_of-self-2 g c =
    let inside = c.self.inside in
    let none : inside.flights.now ≡ [] = ap (λ (s : ClientStates). s.now.flights) c.self.view_is ∙ c.requires.idle in
    let number : c.args.op.now.number ≡ inside.counts.next_op = c.requires.number ∙ sym (ap (λ (s : ClientStates). s.now.next_op) c.self.view_is) in
    let l = c.lay_one.new.local in
    let s = c.lay_one.new.synced in
    let lays = c.lay_one.ensures in
    let m = c.land_in_folder.new.local in
    let t = c.land_in_folder.new.synced in
    let one = c.land_in_folder.ensures.local_changed in
    let two = c.land_in_folder.ensures.synced_changed in
    let next = summed _ _ _ _ c.checked_add.ensures c.in_ok-next_op.ensures.ok_part in
    let few = c.in_ok-changes.ensures.fits in
    kept_at_once inside.remote l m s t inside.flights inside.counts (record { changes = c.in_ok-changes.changes; next_op = c.in_ok-next_op.next_op }) inside.settled_counts none
    (record { settled = one.settled; laid_then = one.laid_then; spare_then = one.spare_then; laid = λ i off. one.laid i (λ e. off (e ∙ number)) })
    (record { settled = two.settled; laid_then = two.laid_then; spare_then = two.spare_then; laid = λ i off. two.laid i (λ e. off (e ∙ number)) })
    c.trees_are_sound.ensures.local c.trees_are_sound.ensures.synced next.1 few
    (kept_laid inside.remote inside.local l inside.synced s inside.flights inside.counts inside.settled_counts none
    lays.local_keeps (one_beyond c.args.op.now.number inside.counts.next_op inside.local.laid inside.local.laid_then l.laid l.laid_then number lays.local_over)
    lays.synced_keeps (one_beyond c.args.op.now.number inside.counts.next_op inside.synced.laid inside.synced.laid_then s.laid s.laid_then number lays.synced_over)
    c.self.invariant)

pub returns-clause-ok : goal.returns-clause-ok
returns-clause-ok g c =
    let inside = c.self.inside in
    let op = c.args.op.now in
    let can = c.requires.can in
    let l = c.lay_one.new.local in
    let s = c.lay_one.new.synced in
    let lays = c.lay_one.ensures in
    let lands = c.land_in_folder.ensures in
    let e = c.args.edits.now.now in
    let f = c.land_in_folder.new.edits.now in
    let next = summed _ _ _ _ c.checked_add.ensures c.in_ok-next_op.ensures.ok_part in
    let here : l.now ≡ c.args.self.now.now.local = lays.local_keeps.now ∙ ap (λ (s : ClientStates). s.now.local) c.self.view_is in
    let there : s.now ≡ c.args.self.now.now.synced = lays.synced_keeps.now ∙ ap (λ (s : ClientStates). s.now.synced) c.self.view_is in
    let ready : LocalReady l.now op outcome.Ok × SyncedReady s.now op = (subst (λ (k : LocalState). LocalReady k op outcome.Ok) (sym here) can.local, subst (λ k. SyncedReady k op) (sym there) can.synced) in
    let local = it_lands c.land_in_folder.result _ _ _ lands.landed ready lands.local ∙ ap (local_after op outcome.Ok) lays.local_keeps.now in
    let synced = it_lands c.land_in_folder.result _ _ _ lands.landed ready lands.synced ∙ ap (λ k. changed k op.id.0 op.synced) lays.synced_keeps.now in
    let recorded = it_lands c.land_in_folder.result _ _ _ lands.landed ready lands.edits in
    let m = inside.local.now.tree in
    let differs = subst (λ k. MatchBool c.is_changed_by-is_changed.result (changed k op.id.0 op.local ≢ k) (changed k op.id.0 op.local ≡ k)) c.tree.ensures.nodes c.is_changed_by-is_changed.ensures in
    let counts = counts_so c.is_changed_by-is_changed.result m (changed m op.id.0 op.local) c.land_in_folder.new.local.now.tree inside.counts.changes c.in_ok-changes.changes
    differs c.in_ok-changes.ensures.counts (ap (λ (k : LocalState). k.tree) local ∙ one_change op inside.local.now can.one) in
    subst (λ (s : ClientStates). IsNoted op s.now e
    (state_now inside.remote c.land_in_folder.new.local c.land_in_folder.new.synced inside.flights (record { changes = c.in_ok-changes.changes; next_op = c.in_ok-next_op.next_op })) f)
    c.self.view_is
    (noted_is op inside.remote.now inside.local.now c.land_in_folder.new.local.now inside.synced.now c.land_in_folder.new.synced.now inside.flights.now
    inside.counts.changes c.in_ok-changes.changes inside.counts.next_op c.in_ok-next_op.next_op e f local synced next.1
    (recorded ∙ ap (λ (r : Recorded). record r { adoptions = r.adoptions ++ adopted_by (same_hash r.edits) op.old_local op.local }) lays.edits_now) counts)
