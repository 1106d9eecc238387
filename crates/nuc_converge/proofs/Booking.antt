-- The plans of a client left alone that take place at once: record steps, and mends without effect.
use Rattle.std.proofs.Common.{◌≡◌, ◌≢◌, ℕ, Bool, true, false, List, Option, None, Some, refl, sym, ap, subst, ◌∙◌, arith}
use Rattle.std.proofs.lemmas.Option.{none-some, same_Some}
use Rattle.std.specs.FinMap.{get}
use Rattle.nuc_base.specs.Changes.{changed}
use Rattle.nuc_base.specs.Trees.{Nodes}
use Rattle.nuc_base.specs.declared.change.Change.{Change}
use Rattle.nuc_base.specs.declared.change.Change.TheVariants.{Keep, Put, Cut}
use Rattle.nuc_base.specs.declared.node.Node.{Node}
use Rattle.nuc_class.specs.Effects.{effect_of}
use Rattle.nuc_class.specs.Op.{operation}
use Rattle.nuc_class.specs.declared.op.Effect.TheVariants as effect
use Rattle.nuc_class.specs.declared.op.Op.{Op}
use Rattle.nuc_class.specs.declared.op.Verb.{Verb}
use Rattle.nuc_class.specs.declared.op.Verb.TheVariants as verb
use Rattle.nuc_class.specs.declared.wishes.Wish.{Wish}
use Rattle.nuc_class.specs.declared.wishes.Wish.TheVariants as wish
use Rattle.nuc_conflict.specs.After.{AreAfter, IsLocalAfter}
use Rattle.nuc_edits.specs.Edits.{Recorded, same_hash}
use Rattle.nuc_journal.specs.declared.entry.Entry.{Entry}
use Rattle.nuc_measure.proofs.Whole.{plans_lower}
use Rattle.nuc_plan.specs.declared.plans.Plan.TheVariants as plan
use Rattle.nuc_plan.proofs.Planned.{record_steps_stay_here}
use Rattle.nuc_step.specs.Client.{ClientState}
use Rattle.nuc_step.specs.Planning.{CanNote, CanPlan, IsAdopted, IsMendedAtOnce, IsNoted, IsPlanOf, Planning}
use Rattle.nuc_step.specs.Steps.{is_split}
use Rattle.nuc_step.specs.declared.answers.Planned.TheVariants as answer
use Rattle.nuc_step.proofs.Notes.{Facts, adoption, book_can, mend_can, mend_facts}
use Rattle.nuc_step.proofs.Noticed.{one_change}
use Rattle.nuc_converge.specs.Counts.{at_once}
use Rattle.nuc_converge.proofs.InFlight.{IsAlone}
use Rattle.nuc_converge.proofs.Grounded.{Falls, at_once_alone}
use Rattle.nuc_converge.proofs.Parts.{HasPlanned}

-- WHAT IT LEAVES: the three trees after it, Remote and what flies as they were
record LandsAtOnce (op : Op) (c d : ClientState) : Type 0 where
  flights : d.flights ≡ c.flights
  remote : d.remote ≡ c.remote
  after : AreAfter c.remote.tree c.local.tree c.synced op d.remote.tree d.local.tree d.synced

-- one that changes its own identity alone
local_by : (v : Verb) (op : Op) (l k : Nodes) → v ≢ verb.Split → v ≢ verb.Adopt → k ≡ changed l op.id.0 op.local → IsLocalAfter v op l k
local_by verb.Split op l k whole other is = absurd (whole refl)
local_by verb.Adopt op l k whole other is = absurd (other refl)
local_by verb.Down op l k whole other is = is
local_by verb.Up op l k whole other is = is
local_by verb.CutDown op l k whole other is = is
local_by verb.CutUp op l k whole other is = is
local_by verb.Forget op l k whole other is = is
local_by verb.Unmove op l k whole other is = is
local_by verb.Revive op l k whole other is = is
local_by verb.Evict op l k whole other is = is

noted_lands : (op : Op) (c d : ClientState) (e f : Recorded) → CanNote c op → op.verb ≢ verb.Adopt → op.remote ≡ Keep → IsNoted op c e d f → LandsAtOnce op c d
noted_lands op c d e f can other kept noted = record {
  flights = ap (λ (b : ClientState). b.flights) noted.client;
  remote = ap (λ (b : ClientState). b.remote) noted.client;
  after = record {
    remote = ap (λ (b : ClientState). b.remote.tree) noted.client ∙ sym (ap (λ k. changed c.remote.tree op.id.0 k) kept);
    local = local_by op.verb op c.local.tree d.local.tree (λ split. let clash : true ≡ false = sym (ap is_split split) ∙ can.one in cc) other
        (ap (λ (b : ClientState). b.local.tree) noted.client ∙ one_change op c.local can.one);
    synced = ap (λ (b : ClientState). b.synced) noted.client;
  };
}

-- A RECORD STEP is no adoption
not_adopt : (same : ℕ → ℕ → Bool) (w : Wish) (x : ℕ) (r l s : Option Node) (op : Op) → operation same w x r l s ≡ Some op → op.verb ≢ verb.Adopt
not_adopt same wish.Split x r l s op e = absurd (none-some op e)
not_adopt same wish.Nothing x r l s op e = absurd (none-some op e)
not_adopt same wish.Down x None l s op e = absurd (none-some op e)
not_adopt same wish.Down x (Some r) l s op e = subst (λ (o : Op). o.verb ≢ verb.Adopt) (same_Some _ op e) (λ v. cc)
not_adopt same wish.Up x r None s op e = absurd (none-some op e)
not_adopt same wish.Up x r (Some l) s op e = subst (λ (o : Op). o.verb ≢ verb.Adopt) (same_Some _ op e) (λ v. cc)
not_adopt same wish.CutDown x r l s op e = subst (λ (o : Op). o.verb ≢ verb.Adopt) (same_Some _ op e) (λ v. cc)
not_adopt same wish.CutUp x r l s op e = subst (λ (o : Op). o.verb ≢ verb.Adopt) (same_Some _ op e) (λ v. cc)
not_adopt same wish.Forget x r l s op e = subst (λ (o : Op). o.verb ≢ verb.Adopt) (same_Some _ op e) (λ v. cc)

kept_where_nothing : (same : ℕ → ℕ → Bool) (l : Option Node) (c remote : Change) → effect_of same l c remote ≡ effect.Nothing → remote ≡ Keep
kept_where_nothing same l c Keep e = refl
kept_where_nothing same l c (Put n) e = absurd (let bad : effect.Commit ≡ effect.Nothing = e in cc)
kept_where_nothing same l c Cut e = absurd (let bad : effect.Commit ≡ effect.Nothing = e in cc)

module _ (p q : Planning) (op : Op) (can : CanPlan p.client p.next_id) where
  abbrev same : ℕ → ℕ → Bool
  same = same_hash p.recorded.edits

  abbrev r : Nodes
  r = p.client.remote.tree

  abbrev l : Nodes
  l = p.client.local.tree

  abbrev s : Nodes
  s = p.client.synced

  booked_lands : IsPlanOf p (plan.Booked op) → IsNoted op p.client p.recorded q.client q.recorded → LandsAtOnce op p.client q.client
  booked_lands planned noted =
      let due = planned.1.step.due in
      let here = record_steps_stay_here same r l s p.next_id op can.fit.remote can.fit.local can.fit.synced can.fit.remote_local planned.1 in
      noted_lands op p.client q.client p.recorded q.recorded (book_can p op can planned)
      (not_adopt same due.wish op.id.0 (get r op.id.0) (get l op.id.0) (get s op.id.0) op due.planned) here.remote noted

  booked_falls : IsPlanOf p (plan.Booked op) → LandsAtOnce op p.client q.client → Falls same p.client q.client
  booked_falls planned lands a b is_a is_b =
      plans_lower same r l s q.client.remote.tree q.client.local.tree q.client.synced p.next_id (plan.Booked op) op a b can planned.1
      (0, omega arith, refl) lands.after is_a is_b

  pub booked_alone : (entries : List Entry) (shown : Op) → IsAlone same entries p.client → IsPlanOf p (plan.Booked op)
      → IsNoted op p.client p.recorded q.client q.recorded → HasPlanned same entries p.client q.client (answer.Booked shown)
  booked_alone entries shown alone planned noted =
      let lands = booked_lands planned noted in
      at_once_alone same entries p.client q.client (answer.Booked shown) planned.0 alone lands.flights lands.remote refl refl (booked_falls planned lands)

  -- A MEND without effect: an adoption, or an eviction that is noted
  mend_keeps : (v : Verb) → Facts p op can v → op.effect ≡ effect.Nothing → op.remote ≡ Keep
  mend_keeps verb.Evict facts nothing =
      kept_where_nothing same (get l op.id.0) op.local op.remote (sym (ap (λ (o : Op). o.effect) facts.carried.is) ∙ nothing)
  mend_keeps verb.Split facts nothing = ap (λ (o : Op). o.remote) facts.carried.is
  mend_keeps verb.Adopt facts nothing = ap (λ (o : Op). o.remote) facts.carried.is
  mend_keeps verb.Revive facts nothing = ap (λ (o : Op). o.remote) facts.carried.is
  mend_keeps verb.Unmove facts nothing = ap (λ (o : Op). o.remote) facts.carried.is
  mend_keeps verb.Down facts nothing = absurd facts
  mend_keeps verb.Up facts nothing = absurd facts
  mend_keeps verb.CutDown facts nothing = absurd facts
  mend_keeps verb.CutUp facts nothing = absurd facts
  mend_keeps verb.Forget facts nothing = absurd facts

  module _ (planned : IsPlanOf p (plan.Mend op)) (nothing : op.effect ≡ effect.Nothing) where
    note_lands : (v : Verb) → op.verb ≡ v → v ≢ verb.Adopt → IsNoted op p.client p.recorded q.client q.recorded → LandsAtOnce op p.client q.client
    note_lands v named other noted =
        let differs : op.verb ≢ verb.Adopt = λ e. other (sym named ∙ e) in
        noted_lands op p.client q.client p.recorded q.recorded (mend_can p op can planned nothing differs) differs
        (mend_keeps op.verb (mend_facts p op can planned) nothing) noted

    adopted_lands : op.verb ≡ verb.Adopt → IsAdopted op p.client p.recorded q.client q.recorded → LandsAtOnce op p.client q.client
    adopted_lands named adopted =
        let facts = adoption p op can planned named in
        let kept : op.remote ≡ Keep = ap (λ (o : Op). o.remote) facts.carried.is in
        let stays : op.synced ≡ Keep = ap (λ (o : Op). o.synced) facts.carried.is in record {
          flights = ap (λ (b : ClientState). b.flights) adopted.client;
          remote = ap (λ (b : ClientState). b.remote) adopted.client;
          after = record {
            remote = ap (λ (b : ClientState). b.remote.tree) adopted.client ∙ sym (ap (λ k. changed r op.id.0 k) kept);
            local = subst (λ v. IsLocalAfter v op l q.client.local.tree) (sym named) adopted.tree;
            synced = ap (λ (b : ClientState). b.synced) adopted.client ∙ sym (ap (λ k. changed s op.id.0 k) stays);
          };
        }

    mend_lands : (v : Verb) → op.verb ≡ v → IsMendedAtOnce v op p.client p.recorded q.client q.recorded → LandsAtOnce op p.client q.client
    mend_lands verb.Adopt named mended = adopted_lands named mended
    mend_lands verb.Evict named mended = note_lands verb.Evict named (λ e. cc) mended
    mend_lands verb.Split named mended = note_lands verb.Split named (λ e. cc) mended
    mend_lands verb.Revive named mended = note_lands verb.Revive named (λ e. cc) mended
    mend_lands verb.Unmove named mended = note_lands verb.Unmove named (λ e. cc) mended
    mend_lands verb.Down named mended = note_lands verb.Down named (λ e. cc) mended
    mend_lands verb.Up named mended = note_lands verb.Up named (λ e. cc) mended
    mend_lands verb.CutDown named mended = note_lands verb.CutDown named (λ e. cc) mended
    mend_lands verb.CutUp named mended = note_lands verb.CutUp named (λ e. cc) mended
    mend_lands verb.Forget named mended = note_lands verb.Forget named (λ e. cc) mended

    mended_falls : LandsAtOnce op p.client q.client → Falls same p.client q.client
    mended_falls lands a b is_a is_b =
        plans_lower same r l s q.client.remote.tree q.client.local.tree q.client.synced p.next_id (plan.Mend op) op a b can planned.1
        (0, omega arith, refl) lands.after is_a is_b

    pub mended_alone : (entries : List Entry) (shown : Op) → shown.effect ≡ op.effect → IsAlone same entries p.client
        → IsMendedAtOnce op.verb op p.client p.recorded q.client q.recorded → HasPlanned same entries p.client q.client (answer.Mend shown)
    mended_alone entries shown alike alone mended =
        let lands = mend_lands op.verb refl mended in
        at_once_alone same entries p.client q.client (answer.Mend shown) planned.0 alone lands.flights lands.remote refl
        (ap at_once (alike ∙ nothing)) (mended_falls lands)
