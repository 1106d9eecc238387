-- An operation that is carried out alone, as a whole.
use Rattle.std.proofs.Common.{◌≡◌, ◌<◌, ℕ, zero, suc, Bool, true, false, [], ◌∷◌, Option, None, Some, refl, sym, ap, subst, ◌∙◌, inl, inr, arith}
use Rattle.std.specs.Prelude.{Contains}
use Rattle.std.specs.FinMap.{get, insert, remove}
use Rattle.std.proofs.lemmas.List.Elements.{All-contains}
use Rattle.std.proofs.lemmas.Option.{none-some, same_Some}
use Rattle.nuc_base.specs.Legal.{LegalCut}
use Rattle.nuc_base.specs.SamePlace.{same_place-refl}
use Rattle.nuc_base.specs.Trees.{Nodes}
use Rattle.nuc_base.specs.declared.node.Node.{Node}
use Rattle.nuc_base.proofs.Maps.{get_cut_same, get_put_same, one_node}
use Rattle.nuc_class.specs.Due.{IsDue, IsLegalOp}
use Rattle.nuc_class.specs.Merge.{target}
use Rattle.nuc_class.specs.Op.{operation}
use Rattle.nuc_class.specs.Wishes.{AllEqual, IsWish, WantsDown, WantsUp}
use Rattle.nuc_class.specs.declared.op.Op.{Op}
use Rattle.nuc_class.specs.declared.wishes.Wish.{Wish}
use Rattle.nuc_class.specs.declared.wishes.Wish.TheVariants as wish
use Rattle.nuc_conflict.specs.After.{AreAfter}
use Rattle.nuc_conflict.specs.FitTogether.{FitBelow, FitTogether}
use Rattle.nuc_conflict.proofs.Adoptions.{above_root}
use Rattle.nuc_conflict.proofs.Agreeing.{mend_agrees}
use Rattle.nuc_conflict.proofs.Calm.{going_local_parts, going_remote_parts, not_only_synced}
use Rattle.nuc_conflict.proofs.MendFacts.{mends_have_facts}
use Rattle.nuc_measure.specs.Laws.{PlansLower}
use Rattle.nuc_measure.specs.Pays.{Lowers, NoMoreFlies}
use Rattle.nuc_measure.specs.Potential.{no_flight}
use Rattle.nuc_measure.proofs.Carried.{pays_lowers}
use Rattle.nuc_measure.proofs.Ending.{wished_of}
use Rattle.nuc_measure.proofs.Mending.{mends_lower}
use Rattle.nuc_measure.proofs.Points.{ChangesOne, points_some}
use Rattle.nuc_measure.proofs.Steps.{Pays, agree_cut, agree_put, agree_same, childless, ends_equal, none_some, not_differs, pay_cut_down, pay_down, pay_forget, same_as}
use Rattle.nuc_plan.specs.Laws.{IsDueOutside}
use Rattle.nuc_plan.specs.Plans.{IsMendOfStuck, IsPlan, operations}
use Rattle.nuc_plan.specs.declared.plans.Plan.{Plan}
use Rattle.nuc_plan.specs.declared.plans.Plan.TheVariants as plan
use Rattle.nuc_plan.proofs.Cases.{each_is_due}

-- whatever is going
wants_down : (same : ℕ → ℕ → Bool) (Goes : Type 0) (r l s : Option Node) → WantsDown same Goes r l s → WantsDown same ⊥ r l s
wants_down same Goes (Some r) (Some l) s wants = wants
wants_down same Goes (Some r) None s wants = λ never. never
wants_down same Goes None l s wants = absurd wants

-- what wishes Up differs
up_apart : (Goes : Type 0) (r l s : Option Node) → WantsUp Goes r l s → ¬ (AllEqual r l s)
up_apart Goes (Some r) (Some l) s wants (first, second) = wants.1 (sym second)
up_apart Goes (Some r) None s wants equal = absurd wants
up_apart Goes None (Some l) s wants (first, second) = none_some l None refl first
up_apart Goes None None s wants equal = absurd wants

module _ (same : ℕ → ℕ → Bool) (fly now : ℕ → Bool) (flies : NoMoreFlies fly now) (r l s : Nodes) (x : ℕ) (fit : FitTogether r l s) (landed : now x ≡ false) where
  -- an Up with its entry
  whole_up : (n : Node) → get l x ≡ Some n → ¬ (AllEqual (get r x) (get l x) (get s x)) → Pays same fly r l s now (insert r x n) l (insert s x n) x
  whole_up n at apart =
      ends_equal same fly now flies r l s x fit (insert r x n) l (insert s x n) one
      (points_some same fly r l s x (not_differs (get r x) (get l x) (get s x) apart))
      (get_put_same r x n ∙ sym at, at ∙ sym (get_put_same s x n)) landed
    where
      one : ChangesOne r l s (insert r x n) l (insert s x n) x
      one = record {
        remote = agree_put r x n;
        local = agree_same l x;
        synced = agree_put s x n;
        old_r = λ k there.
            inl (inr (inl (n, at, same_as n.place k.place (ap (λ (h : Node). h.place) (one_node (insert r x n) x n k (get_put_same r x n) there)))));
        old_l = λ k there. inl (inr (inl (k, there, same_place-refl k.place)));
        old_s = λ k there.
            inl (inr (inl (n, at, same_as n.place k.place (ap (λ (h : Node). h.place) (one_node (insert s x n) x n k (get_put_same s x n) there)))));
        children_r = λ y k there e gone too. none_some n (get l x) gone at;
        children_l = λ y k there e gone too. none_some n (get (insert r x n) x) gone (get_put_same r x n);
      }

  -- a CutUp with its entry
  whole_cut_up : (n : Node) → 0 < x → get l x ≡ None → get r x ≡ Some n → LegalCut r x → Pays same fly r l s now (remove r x) l (remove s x) x
  whole_cut_up n above no_l at in_remote =
      ends_equal same fly now flies r l s x fit (remove r x) l (remove s x) one
      (points_some same fly r l s x (not_differs (get r x) (get l x) (get s x) (λ (first, second). none_some n (get r x) (first ∙ no_l) at)))
      (get_cut_same r x ∙ sym no_l, no_l ∙ sym (get_cut_same s x)) landed
    where
      one : ChangesOne r l s (remove r x) l (remove s x) x
      one = record {
        remote = agree_cut r x;
        local = agree_same l x;
        synced = agree_cut s x;
        old_r = λ k there. none_some k (get (remove r x) x) (get_cut_same r x) there;
        old_l = λ k there. none_some k (get l x) no_l there;
        old_s = λ k there. none_some k (get (remove s x) x) (get_cut_same s x) there;
        children_r = λ y k there e gone too. absurd (in_remote.empty y k there e);
        children_l = λ y k there e gone too. absurd (childless l x fit.local above no_l y k there e);
      }

  module _ (nr nl ns : Nodes) where
    -- the trees after, known by equations
    pays_as : (a b c : Nodes) → nr ≡ a → nl ≡ b → ns ≡ c → Pays same fly r l s now a b c x → Lowers same fly r l s now nr nl ns
    pays_as a b c in_r in_l in_s pays =
        subst (λ m. Lowers same fly r l s now m nl ns) (sym in_r)
        (subst (λ m. Lowers same fly r l s now a m ns) (sym in_l)
        (subst (λ m. Lowers same fly r l s now a b m) (sym in_s) (pays_lowers same fly now flies r l s a b c x pays)))

    -- legal, and these trees after it
    abbrev Carried : Op → Type 0
    Carried op = IsLegalOp r l s op → AreAfter r l s op nr nl ns → Lowers same fly r l s now nr nl ns

    down_by : (o : Option Node) (op : Op) → get r x ≡ o → IsWish same r l s x wish.Down → operation same wish.Down x o (get l x) (get s x) ≡ Some op → Carried op
    down_by None op at wished is = absurd (none-some op is)
    down_by (Some n) op at wished is = subst Carried (same_Some _ op is) (λ legal after.
        pays_as r (insert l x (target n (get l x) (get s x))) (insert s x n) after.remote after.local after.synced
        (pay_down same fly now flies r l s x fit n at
        (wished_of same (get r x) (get l x) (get s x) n at (wants_down same _ (get r x) (get l x) (get s x) wished)) legal.local legal.synced landed))

    up_by : (o : Option Node) (op : Op) → get l x ≡ o → IsWish same r l s x wish.Up → operation same wish.Up x (get r x) o (get s x) ≡ Some op → Carried op
    up_by None op at wished is = absurd (none-some op is)
    up_by (Some n) op at wished is = subst Carried (same_Some _ op is) (λ legal after.
        pays_as (insert r x n) l (insert s x n) after.remote after.local after.synced (whole_up n at (up_apart _ (get r x) (get l x) (get s x) wished)))

    by_wish : (w : Wish) (op : Op) → IsWish same r l s x w → operation same w x (get r x) (get l x) (get s x) ≡ Some op → Carried op
    by_wish wish.Split op wished is = absurd (none-some op is)
    by_wish wish.Nothing op wished is = absurd (none-some op is)
    by_wish wish.Down op wished is = down_by (get r x) op refl wished is
    by_wish wish.Up op wished is = up_by (get l x) op refl wished is
    by_wish wish.CutDown op wished is = subst Carried (same_Some _ op is) (λ legal after.
        let (none, n, at, synced) = going_local_parts same r l s x wished in
        pays_as r (remove l x) (remove s x) after.remote after.local after.synced
        (pay_cut_down same fly now flies r l s x fit n (above_root l x n fit.local at) none at legal.local landed))
    by_wish wish.CutUp op wished is = subst Carried (same_Some _ op is) (λ legal after.
        let (none, n, at, synced) = going_remote_parts same r l s x wished in
        pays_as (remove r x) l (remove s x) after.remote after.local after.synced
        (whole_cut_up n (above_root r x n fit.remote at) none at legal.remote))
    by_wish wish.Forget op wished is = subst Carried (same_Some _ op is) (λ legal after.
        let (no_r, no_l, (n, at)) = not_only_synced (get r x) (get l x) (get s x) wished in
        pays_as r l (remove s x) after.remote after.local after.synced
        (pay_forget same fly now flies r l s x fit n (above_root s x n fit.synced at) no_r no_l at landed))

    pub due_lowers : (op : Op) → IsDue same r l s x op → AreAfter r l s op nr nl ns → Lowers same fly r l s now nr nl ns
    due_lowers op due after = by_wish due.wish op due.wished due.planned due.legal after

module _ (same : ℕ → ℕ → Bool) (r l s nr nl ns : Nodes) (next : ℕ) (good : FitBelow r l s next) (op : Op) (after : AreAfter r l s op nr nl ns) where
  abbrev Falls : Type 0
  Falls = Lowers same no_flight r l s no_flight nr nl ns

  due_falls : IsDue same r l s op.id.0 op → Falls
  due_falls due = due_lowers same no_flight no_flight (λ y up. up) r l s op.id.0 good.fit refl nr nl ns op due after

  mend_falls : IsMendOfStuck same r l s next op → Falls
  mend_falls mend =
      let facts = mends_have_facts same r l s next op good mend.mend in
      mends_lower same no_flight no_flight r l s nr nl ns next op good (λ y up. up) refl facts (mend_agrees same r l s next op good.fit mend.stuck facts mend.mend) after

  alone : (first : Op) → Contains (first ∷ []) op → first ≡ op
  alone first (zero, less, is) = is
  alone first (suc k, less, is) = absurd (omega (arith, less))

  nobody : Contains [] op → ⊥
  nobody (k, less, is) = omega (arith, less)

  planned_falls : (p : Plan) → IsPlan same r l s next p → Contains (operations p) op → Falls
  planned_falls plan.Empty is within = absurd (nobody within)
  planned_falls (plan.Booked first) is within =
      due_falls (subst (λ (o : Op). IsDue same r l s o.id.0 o) (alone first within) is.step.due)
  planned_falls (plan.Batch ops) is within =
      let one : IsDueOutside same r l s op = All-contains (IsDueOutside same r l s) ops op (each_is_due same r l s next ops is).0 within in
      due_falls one.due
  planned_falls (plan.Mend first) is within = mend_falls (subst (IsMendOfStuck same r l s next) (alone first within) is)

pub plans_lower : PlansLower
plans_lower same r l s nr nl ns next p op a b good is within after is_a is_b =
    planned_falls same r l s nr nl ns next good op after p is within 0 a b (λ y up. absurd (let clash : false ≡ true = up in cc))
    (λ n in_n flying. is_a n in_n) (λ n in_n flying. is_b n in_n)
