-- What holds of each operation of a plan.
use Rattle.std.proofs.Common.{◌≡◌, ◌≢◌, ◌⊎◌, ◌<◌, ℕ, Bool, List, [], ◌∷◌, All, Some, refl, sym, ap, subst, ◌∙◌, inl, inr, arith}
use Rattle.std.proofs.lemmas.List.Elements.{All-cons, All-nil, All-weaker}
use Rattle.std.specs.FinMap.{get}
use Rattle.nuc_base.specs.Trees.{Nodes, OneKind, WellFormed}
use Rattle.nuc_base.specs.declared.node.Node.{Node}
use Rattle.nuc_class.specs.Due.{IsDue}
use Rattle.nuc_class.specs.declared.op.Op.{Op}
use Rattle.nuc_class.specs.declared.op.Verb.{Verb}
use Rattle.nuc_class.specs.declared.op.Verb.TheVariants as verb
use Rattle.nuc_conflict.specs.Facts.{AdoptionFacts, EvictionFacts, FactsOf, MoveBackFacts, RevivalFacts, SplitFacts}
use Rattle.nuc_conflict.specs.FitTogether.{IsBelow}
use Rattle.nuc_conflict.proofs.MendFacts.{mends_have_facts}
use Rattle.nuc_plan.specs.Laws.{IsDueOutside, IsSound, PlansAreSound, RecordStepsStayHere, SplitsOff}
use Rattle.nuc_plan.specs.declared.plans.Plan.TheVariants as plan
use Rattle.nuc_plan.proofs.DueFacts.{Parts, above_root, due_can, parts}
use Rattle.nuc_plan.proofs.Cases.{batch_due}

module _ (same : ℕ → ℕ → Bool) (r l s : Nodes) (next : ℕ) (remote : WellFormed r) (local : WellFormed l) (synced : WellFormed s) where
  parts_of : (op : Op) → (due : IsDue same r l s op.id.0 op) → Parts (get l op.id.0) (get s op.id.0) op
  parts_of op due = parts same due.wish op.id.0 (get r op.id.0) (get l op.id.0) (get s op.id.0) op due.planned

  pub sound_due : (op : Op) → OneKind r l → IsDue same r l s op.id.0 op → IsSound l s op
  sound_due op kinds due =
      let can = due_can same r l s op.id.0 op remote local synced kinds due in
      let its = parts_of op due in
      record {
        id = can.id;
        fits = can.fits;
        split = λ e. absurd (its.whole e);
        old_local = its.old_local;
        old_synced = its.old_synced;
        number = its.number;
        base = its.base;
      }

  stands_in_r : (x : ℕ) (n : Node) → get r x ≡ Some n → 0 < x
  stands_in_r x n at = above_root same r l s x remote local synced (inl (n, at))

  stands_in_l : (x : ℕ) (n : Node) → get l x ≡ Some n → 0 < x
  stands_in_l x n at = above_root same r l s x remote local synced (inr (inl (n, at)))

  stands_in_s : (x : ℕ) (n : Node) → get s x ≡ Some n → 0 < x
  stands_in_s x n at = above_root same r l s x remote local synced (inr (inr (n, at)))

  sound_split : (op : Op) → IsBelow l next → SplitFacts same r l s next op → IsSound l s op
  sound_split op below facts =
      let is = (facts.carried).is in
      let less : op.id.0 < next = below op.id.0 facts.own facts.there in
      let other : op.other.0 ≡ next = ap (λ (o : Op). o.other.0) is in
      record {
        id = stands_in_l op.id.0 facts.own facts.there;
        fits = facts.fits;
        split = λ e. record {
          other = omega (arith, less, other);
          apart = λ e. omega (arith, less, other, e);
          node = _;
          put = ap (λ (o : Op). o.local) is;
        };
        old_local = ap (λ (o : Op). o.old_local) is;
        old_synced = ap (λ (o : Op). o.old_synced) is;
        number = ap (λ (o : Op). o.number) is;
        base = ap (λ (o : Op). o.base) is;
      }

  sound_eviction : (op : Op) → op.verb ≡ verb.Evict → EvictionFacts same r l s op → IsSound l s op
  sound_eviction op v facts =
      let is = (facts.carried).is in
      record {
        id = elim facts.moved [
          | inl (n, at, place) ↦ stands_in_r op.id.0 n at
          | inr other ↦ elim other [
            | inl (n, at, place) ↦ stands_in_l op.id.0 n at
            | inr (n, at, place) ↦ stands_in_s op.id.0 n at
          ]
        ];
        fits = facts.fits;
        split = λ e. absurd (let no : verb.Evict ≡ verb.Split = sym v ∙ e in cc);
        old_local = ap (λ (o : Op). o.old_local) is;
        old_synced = ap (λ (o : Op). o.old_synced) is;
        number = ap (λ (o : Op). o.number) is;
        base = ap (λ (o : Op). o.base) is;
      }

  sound_adoption : (op : Op) → op.verb ≡ verb.Adopt → AdoptionFacts same r l s op → IsSound l s op
  sound_adoption op v facts =
      let is = (facts.carried).is in
      record {
        id = stands_in_r op.id.0 facts.node facts.there;
        fits = facts.fits;
        split = λ e. absurd (let no : verb.Adopt ≡ verb.Split = sym v ∙ e in cc);
        old_local = ap (λ (o : Op). o.old_local) is;
        old_synced = ap (λ (o : Op). o.old_synced) is;
        number = ap (λ (o : Op). o.number) is;
        base = ap (λ (o : Op). o.base) is;
      }

  sound_revival : (op : Op) → op.verb ≡ verb.Revive → RevivalFacts r l s op → IsSound l s op
  sound_revival op v facts =
      let is = (facts.carried).is in
      record {
        id = stands_in_r op.id.0 facts.node facts.there;
        fits = facts.fits;
        split = λ e. absurd (let no : verb.Revive ≡ verb.Split = sym v ∙ e in cc);
        old_local = ap (λ (o : Op). o.old_local) is;
        old_synced = ap (λ (o : Op). o.old_synced) is;
        number = ap (λ (o : Op). o.number) is;
        base = ap (λ (o : Op). o.base) is;
      }

  sound_move_back : (op : Op) → op.verb ≡ verb.Unmove → MoveBackFacts r l s op → IsSound l s op
  sound_move_back op v facts =
      let is = (facts.carried).is in
      record {
        id = stands_in_r op.id.0 facts.node facts.there;
        fits = facts.fits;
        split = λ e. absurd (let no : verb.Unmove ≡ verb.Split = sym v ∙ e in cc);
        old_local = ap (λ (o : Op). o.old_local) is;
        old_synced = ap (λ (o : Op). o.old_synced) is;
        number = ap (λ (o : Op). o.number) is;
        base = ap (λ (o : Op). o.base) is;
      }

  sound_mend : (op : Op) (v : Verb) → IsBelow l next → op.verb ≡ v → FactsOf same r l s next op v → IsSound l s op
  sound_mend op verb.Split below v facts = sound_split op below facts
  sound_mend op verb.Evict below v facts = sound_eviction op v facts
  sound_mend op verb.Adopt below v facts = sound_adoption op v facts
  sound_mend op verb.Revive below v facts = sound_revival op v facts
  sound_mend op verb.Unmove below v facts = sound_move_back op v facts
  sound_mend op verb.Down below v facts = absurd facts
  sound_mend op verb.Up below v facts = absurd facts
  sound_mend op verb.CutDown below v facts = absurd facts
  sound_mend op verb.CutUp below v facts = absurd facts
  sound_mend op verb.Forget below v facts = absurd facts

pub plans_are_sound : PlansAreSound
plans_are_sound same r l s next plan.Empty good is = All-nil _
plans_are_sound same r l s next (plan.Booked op) good is =
    let fit = good.fit in
    All-cons (IsSound l s) op [] (sound_due same r l s next fit.remote fit.local fit.synced op fit.remote_local (is.step).due) (All-nil _)
plans_are_sound same r l s next (plan.Batch ops) good is =
    let fit = good.fit in
    All-weaker (IsDueOutside same r l s) (IsSound l s) (λ op due. sound_due same r l s next fit.remote fit.local fit.synced op fit.remote_local due.due) ops (batch_due same r l s ops is)
plans_are_sound same r l s next (plan.Mend op) good is =
    let fit = good.fit in
    All-cons (IsSound l s) op [] (sound_mend same r l s next fit.remote fit.local fit.synced op op.verb good.local refl (mends_have_facts same r l s next op good is.mend)) (All-nil _)

pub record_steps_stay_here : RecordStepsStayHere
record_steps_stay_here same r l s next op remote local synced kinds is = record {
  possible = due_can same r l s op.id.0 op remote local synced kinds (is.step).due;
  remote = (parts_of same r l s next remote local synced op (is.step).due).remote (is.step).effect;
}
