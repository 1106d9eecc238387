-- An eviction: y leaves a place for one that nobody has, in each tree in which it stands there, and another keeps the place.
use Rattle.std.proofs.Common.{◌≡◌, ◌≢◌, ◌⊎◌, ◌<◌, ◌≤◌, ◌+◌, ◌&&◌, ◌==◌, ℕ, zero, suc, Bool, true, false, cond, Option, None, Some, option_map, refl, sym, ap, subst, ◌∙◌, inl, inr, arith}
use Rattle.std.specs.Bool.{beq}
use Rattle.std.specs.Prelude.{IsTrue}
use Rattle.std.specs.FinMap.{get}
use Rattle.std.proofs.lemmas.Bool.{cases_Bool}
use Rattle.std.proofs.lemmas.Option.{same_Some}
use Rattle.nuc_base.specs.Changes.{changed, node_after}
use Rattle.nuc_base.specs.Codes.{is_file}
use Rattle.nuc_base.specs.Legal.{IsFree}
use Rattle.nuc_base.specs.SamePlace.{SamePlace, same_place-refl, same_place-sym, same_place-trans}
use Rattle.nuc_base.specs.Trees.{Nodes, Held, IsFolder, IsVacant, StandsAt, WellFormed}
use Rattle.nuc_base.specs.declared.change.Change.{Change}
use Rattle.nuc_base.specs.declared.change.Change.TheVariants.{Keep, Put, Cut}
use Rattle.nuc_base.specs.declared.node.Node.{Node}
use Rattle.nuc_base.specs.declared.node.Place.{Place}
use Rattle.nuc_base.proofs.Changed.{get_changed_other, get_changed_same}
use Rattle.nuc_base.proofs.Maps.{one_node, same_or_not}
use Rattle.nuc_class.specs.Equal.{node_eq, place_eq}
use Rattle.nuc_class.specs.Merge.{target}
use Rattle.nuc_class.specs.Split.{needs_split}
use Rattle.nuc_class.specs.Wishes.{AllEqual}
use Rattle.nuc_class.proofs.Tells.{node_eq-Decides, place_eq-Decides}
use Rattle.nuc_conflict.specs.FitTogether.{FitTogether}
use Rattle.nuc_conflict.specs.Mends.{LeavesFor}
use Rattle.nuc_measure.specs.Cost.{cost}
use Rattle.nuc_measure.specs.Marks.{IsMarked}
use Rattle.nuc_measure.specs.Pays.{NoMoreFlies}
use Rattle.nuc_measure.specs.Potential.{mark, marks, points}
use Rattle.nuc_measure.proofs.Costs.{after_down, cost_some}
use Rattle.nuc_measure.proofs.Marking.{Mark}
use Rattle.nuc_measure.proofs.Marks.{Agree, own_none, own_same}
use Rattle.nuc_measure.proofs.Points.{ChangesOne, OldPlace, mark_le, mark_none, mark_one, points_at_most, points_differ}
use Rattle.nuc_measure.proofs.Steps.{Pays, cost_as, none_some, not_differs, not_lost, off_loop, others_kept, same_as}

-- the node with this place, where the flag says so
abbrev pub moved : Bool → Place → Node → Node
moved b e k = record k { place = cond b e k.place }

-- what an eviction to e costs where Remote stays: Local and Synced move where they stood at the place in question, which isn't
-- Remote's; and e isn't either
module _ (same : ℕ → ℕ → Bool) (r : Node) (e : Place) (new : place_eq e r.place ≡ false) (new_too : place_eq r.place e ≡ false) where
  stays_apart : (b : Bool) (k : Node) → (b ≡ true → place_eq k.place r.place ≡ false) → place_eq (cond b e k.place) r.place ≡ place_eq k.place r.place
  stays_apart true k far = new ∙ sym (far refl)
  stays_apart false k far = refl

  stays_apart_too : (b : Bool) (k : Node) → (b ≡ true → place_eq r.place k.place ≡ false) → place_eq r.place (cond b e k.place) ≡ place_eq r.place k.place
  stays_apart_too true k far = new_too ∙ sym (far refl)
  stays_apart_too false k far = refl

  chosen : (t b : Bool) (k : Node) → (b ≡ true → place_eq k.place r.place ≡ false)
      → place_eq (cond t (cond b e k.place) r.place) r.place ≡ place_eq (cond t k.place r.place) r.place
  chosen true b k far = stays_apart b k far
  chosen false b k far = refl

  pub cost_evicted : (ml ms : Bool) (l s : Node) → (ml ≡ true → place_eq l.place r.place ≡ false) → (ms ≡ true → place_eq r.place s.place ≡ false)
      → cost same (Some r) (Some (moved ml e l)) (Some (moved ms e s)) ≡ cost same (Some r) (Some l) (Some s)
  cost_evicted ml ms l s far_l far_s =
      let b : place_eq r.place (cond ms e s.place) ≡ place_eq r.place s.place = stays_apart_too ms s far_s in
      let c : place_eq (cond ml e l.place) r.place ≡ place_eq l.place r.place = stays_apart ml l far_l in
      let d : place_eq (cond (place_eq r.place s.place) (cond ml e l.place) r.place) r.place ≡ place_eq (cond (place_eq r.place s.place) l.place r.place) r.place =
      chosen (place_eq r.place s.place) ml l far_l in
      let kinds : Bool = beq (is_file r.kind) (is_file r.kind) in
      let ver : Bool = (cond (r.ver.0 == s.ver.0) l.ver r.ver).0 == r.ver.0 in
      let bit : Bool = beq (cond (beq r.bit s.bit) l.bit r.bit) r.bit in
      let v : node_eq r (moved ms e s) ≡ node_eq r s = ap (λ x. x && beq (is_file r.kind) (is_file s.kind) && r.ver.0 == s.ver.0 && beq r.bit s.bit) b in
      let w : node_eq (moved ml e l) r ≡ node_eq l r = ap (λ x. x && beq (is_file l.kind) (is_file r.kind) && l.ver.0 == r.ver.0 && beq l.bit r.bit) c in
      let t : node_eq (target r (Some (moved ml e l)) (Some (moved ms e s))) r ≡ node_eq (target r (Some l) (Some s)) r =
      ap (λ x. place_eq (cond x (cond ml e l.place) r.place) r.place && kinds && ver && bit) b ∙ ap (λ x. x && kinds && ver && bit) d in
      let cut : Bool = needs_split same (Some r) (Some l) (Some s) in
      ap (λ x. cond cut 3 (cond x (cond (node_eq (moved ml e l) r) 0 1) (cond (node_eq (target r (Some (moved ml e l)) (Some (moved ms e s))) r) 1 2))) v
      ∙ (ap (λ x. cond cut 3 (cond (node_eq r s) (cond x 0 1) (cond (node_eq (target r (Some (moved ml e l)) (Some (moved ms e s))) r) 1 2))) w
      ∙ ap (λ x. cond cut 3 (cond (node_eq r s) (cond (node_eq l r) 0 1) (cond x 1 2))) t)

-- what becomes of y in one tree, by a flag that tells whether it stood at p
pub record Left (m : Nodes) (y : ℕ) (p e : Place) (c : Change) : Type 0 where
  pub flag : Bool
  pub value : get (changed m y c) y ≡ option_map (moved flag e) (get m y)
  pub at : flag ≡ true → (n : Node) × (get m y ≡ Some n) × SamePlace n.place p
  pub off : flag ≡ false → (n : Node) → get m y ≡ Some n → ¬ (SamePlace n.place p)
  pub keeps : c ≡ Keep → flag ≡ false

left_of : (m : Nodes) (y : ℕ) (p e : Place) (c : Change) → LeavesFor p e (get m y) c → Left m y p e c
left_of m y p e c leaves = by c (get m y) refl leaves (get_changed_same m y c)
  where
    by : (d : Change) (o : Option Node) → get m y ≡ o → LeavesFor p e o d → get (changed m y d) y ≡ node_after d (get m y) → Left m y p e d
    by Keep (Some n) there stays after = record {
      flag = false;
      value = after ∙ there ∙ ap (option_map (moved false e)) (sym there);
      at = λ f. absurd (let clash : false ≡ true = f in cc);
      off = λ f k at. subst (λ (h : Node). ¬ (SamePlace h.place p)) (one_node m y n k there at) stays;
      keeps = λ f. refl;
    }
    by Keep None there stays after = record {
      flag = false;
      value = after ∙ there ∙ ap (option_map (moved false e)) (sym there);
      at = λ f. absurd (let clash : false ≡ true = f in cc);
      off = λ f k at. none_some k (get m y) there at;
      keeps = λ f. refl;
    }
    by (Put node) (Some n) there (near, is) after = record {
      flag = true;
      value = after ∙ ap Some is ∙ ap (option_map (moved true e)) (sym there);
      at = λ f. (n, there, near);
      off = λ f k at. absurd (let clash : true ≡ false = f in cc);
      keeps = λ f. absurd (let clash : Put node ≡ Keep = f in cc);
    }
    by (Put node) None there never after = absurd never
    by Cut (Some n) there never after = absurd never
    by Cut None there never after = absurd never

-- by the flags of the three trees
module _ (same : ℕ → ℕ → Bool) (p e : Place) where
  le_same : (a b : ℕ) → a ≡ b → a ≤ b
  le_same a b h = omega (arith, h)

  unlike : (n k : Place) → SamePlace n p → ¬ (SamePlace k p) → place_eq n k ≡ false
  unlike n k near far = elim (cases_Bool (place_eq n k)) [
    | inl t ↦ absurd (far (subst (λ q. SamePlace q p) ((place_eq-Decides n k).0 t) near))
    | inr f ↦ f
  ]

  unlike_too : (n k : Place) → SamePlace n p → ¬ (SamePlace k p) → place_eq k n ≡ false
  unlike_too n k near far = elim (cases_Bool (place_eq k n)) [
    | inl t ↦ absurd (far (subst (λ q. SamePlace q p) (sym ((place_eq-Decides k n).0 t)) near))
    | inr f ↦ f
  ]

  new_place : (k : Place) → ¬ (SamePlace k e) → (place_eq e k ≡ false) × (place_eq k e ≡ false)
  new_place k vacant = (
    elim (cases_Bool (place_eq e k)) [ inl t ↦ absurd (vacant (same_as k e (sym ((place_eq-Decides e k).0 t)))) | inr f ↦ f ],
    elim (cases_Bool (place_eq k e)) [ inl t ↦ absurd (vacant (same_as k e ((place_eq-Decides k e).0 t))) | inr f ↦ f ],
  )

  -- Remote and Synced have one node at p, and Local has another place
  written_in_remote : (r l : Node) → SamePlace r.place p → ¬ (SamePlace l.place p)
      → cost same (Some (moved true e r)) (Some l) (Some (moved true e r)) ≤ cost same (Some r) (Some l) (Some r)
  written_in_remote r l near far =
      let after = after_down same (moved true e r) l in
      let before = after_down same r l in
      let apart : node_eq l r ≡ false = elim (cases_Bool (node_eq l r)) [
        | inl t ↦ absurd (far (subst (λ (h : Node). SamePlace h.place p) (sym ((node_eq-Decides l r).0 t)) near))
        | inr f ↦ f
      ] in
      let one : cost same (Some r) (Some l) (Some r) ≡ 1 = before ∙ ap (λ (t : Bool). cond t 0 1) apart in
      let few = most (node_eq l (moved true e r)) in
      omega (arith, after, one, few)
    where
      most : (t : Bool) → cond t 0 1 ≤ 1
      most true = omega arith
      most false = omega arith

  cost_moves : (r l s : Option Node) (fr fl fs : Bool)
      → (fr ≡ true → (n : Node) → r ≡ Some n → SamePlace n.place p) → (fr ≡ false → (n : Node) → r ≡ Some n → ¬ (SamePlace n.place p))
      → (fl ≡ true → (n : Node) → l ≡ Some n → SamePlace n.place p) → (fl ≡ false → (n : Node) → l ≡ Some n → ¬ (SamePlace n.place p))
      → (fs ≡ true → (n : Node) → s ≡ Some n → SamePlace n.place p) → (fs ≡ false → (n : Node) → s ≡ Some n → ¬ (SamePlace n.place p))
      → ((n : Node) → r ≡ Some n → ¬ (SamePlace n.place e))
      → (fr ≡ true → (n : Node) → r ≡ Some n → s ≡ Some n) → (fr ≡ true → fl ≡ false)
      → cost same (option_map (moved fr e) r) (option_map (moved fl e) l) (option_map (moved fs e) s) ≤ cost same r l s
  cost_moves None None None fr fl fs at_r off_r at_l off_l at_s off_s free agreed one = omega arith
  cost_moves None None (Some s) fr fl fs at_r off_r at_l off_l at_s off_s free agreed one = omega arith
  cost_moves None (Some l) s fr fl fs at_r off_r at_l off_l at_s off_s free agreed one = omega arith
  cost_moves (Some r) None s fr fl fs at_r off_r at_l off_l at_s off_s free agreed one = omega arith
  cost_moves (Some r) (Some l) None true fl fs at_r off_r at_l off_l at_s off_s free agreed one = none_some r None refl (agreed refl r refl)
  cost_moves (Some r) (Some l) None false fl fs at_r off_r at_l off_l at_s off_s free agreed one = omega arith
  cost_moves (Some r) (Some l) (Some s) false fl fs at_r off_r at_l off_l at_s off_s free agreed one =
      let far : ¬ (SamePlace r.place p) = off_r refl r refl in
      let new = new_place r.place (free r refl) in
      le_same _ _ (cost_evicted same r e new.0 new.1 fl fs l s (λ f. unlike l.place r.place (at_l f l refl) far) (λ f. unlike_too s.place r.place (at_s f s refl) far))
  cost_moves (Some r) (Some l) (Some s) true true fs at_r off_r at_l off_l at_s off_s free agreed one =
      absurd (let clash : true ≡ false = one refl in cc)
  cost_moves (Some r) (Some l) (Some s) true false true at_r off_r at_l off_l at_s off_s free agreed one =
      let in_s : s ≡ r = same_Some s r (agreed refl r refl) in
      subst (λ (h : Node). cost same (Some (moved true e r)) (Some l) (Some (moved true e h)) ≤ cost same (Some r) (Some l) (Some h)) (sym in_s)
      (written_in_remote r l (at_r refl r refl) (off_l refl l refl))
  cost_moves (Some r) (Some l) (Some s) true false false at_r off_r at_l off_l at_s off_s free agreed one =
      let in_s : s ≡ r = same_Some s r (agreed refl r refl) in
      absurd (off_s refl s refl (subst (λ (h : Node). SamePlace h.place p) (sym in_s) (at_r refl r refl)))

-- the trees and changes of an eviction
pub record Evicts (r l s : Nodes) (y : ℕ) (p e : Place) (cr cl cs : Change) : Type 0 where
  pub remote : LeavesFor p e (get r y) cr
  pub local : LeavesFor p e (get l y) cl
  pub synced : LeavesFor p e (get s y) cs
  pub free_r : IsVacant r e
  pub free_l : IsVacant l e
  pub free_s : IsVacant s e
  pub parent : e.parent.0 ≡ p.parent.0
  pub holder : ℕ
  pub other : holder ≢ y
  pub kept : (StandsAt r holder p × (cr ≡ Keep)) ⊎ (StandsAt l holder p × (cl ≡ Keep))
  pub moved : StandsAt r y p ⊎ (StandsAt l y p ⊎ StandsAt s y p)
  pub agreed : (n : Node) → get r y ≡ Some n → SamePlace n.place p → get s y ≡ Some n

module _ (r l s : Nodes) (y : ℕ) (p e : Place) (cr cl cs : Change) (fit : FitTogether r l s) (out : Evicts r l s y p e cr cl cs) where
  abbrev nr : Nodes
  nr = changed r y cr

  abbrev nl : Nodes
  nl = changed l y cl

  abbrev ns : Nodes
  ns = changed s y cs

  in_r : Left r y p e cr
  in_r = left_of r y p e cr out.remote

  in_l : Left l y p e cl
  in_l = left_of l y p e cl out.local

  in_s : Left s y p e cs
  in_s = left_of s y p e cs out.synced

  agree : (m : Nodes) (c : Change) → Agree m (changed m y c) y
  agree m c z other = get_changed_other m y c z other

  -- who stands there now stood there, or has the new place
  now_there : (m : Nodes) (c : Change) → Left m y p e c → (k : Node) → get (changed m y c) y ≡ Some k → (get m y ≡ Some k) ⊎ (k.place ≡ e)
  now_there m c left k at = by left.flag (get m y) refl (sym left.value ∙ at)
    where
      by : (f : Bool) (o : Option Node) → get m y ≡ o → option_map (moved f e) o ≡ Some k → (get m y ≡ Some k) ⊎ (k.place ≡ e)
      by f None there is = none_some k (option_map (moved f e) None) refl is
      by true (Some n) there is = inr (ap (λ (h : Node). h.place) (sym (same_Some (moved true e n) k is)))
      by false (Some n) there is = inl (there ∙ is)

  -- who is gone now was never there
  never_there : (m : Nodes) (c : Change) → Left m y p e c → get (changed m y c) y ≡ None → get m y ≡ None
  never_there m c left gone = by left.flag (get m y) (sym left.value ∙ gone)
    where
      by : (f : Bool) (o : Option Node) → option_map (moved f e) o ≡ None → o ≡ None
      by f None is = refl
      by f (Some n) is = none_some (moved f e n) _ is refl

  old_place : (m : Nodes) → ((k : Node) → get m y ≡ Some k → OldPlace r l s y k.place) → (c : Change) → Left m y p e c
      → (k : Node) → get (changed m y c) y ≡ Some k → OldPlace r l s y k.place
  old_place m here c left k at = elim (now_there m c left k at) [
    | inl was ↦ here k was
    | inr is ↦ subst (λ q. OldPlace r l s y q) (sym is) (inr (out.free_r, out.free_l, out.free_s))
  ]

  one : ChangesOne r l s nr nl ns y
  one = record {
    remote = agree r cr;
    local = agree l cl;
    synced = agree s cs;
    old_r = old_place r (λ k at. inl (inl (k, at, same_place-refl k.place))) cr in_r;
    old_l = old_place l (λ k at. inl (inr (inl (k, at, same_place-refl k.place)))) cl in_l;
    old_s = old_place s (λ k at. inl (inr (inr (k, at, same_place-refl k.place)))) cs in_s;
    children_r = λ z n at is gone too. (never_there l cl in_l gone, never_there s cs in_s too);
    children_l = λ z n at is gone too. (never_there r cr in_r gone, never_there s cs in_s too);
  }

  -- the new place is free for y
  free_new : (m : Nodes) (c : Change) → IsVacant m e → IsFree (changed m y c) y e
  free_new m c vacant z k at near = elim (same_or_not z y) [
    | inl is ↦ is
    | inr apart ↦ absurd (vacant z k (sym (agree m c z apart) ∙ at) near)
  ]

  -- the parent of the place stands in the tree that keeps it
  parent_in : (m : Nodes) (c : Change) → WellFormed m → StandsAt m out.holder p → c ≡ Keep → IsFolder (changed m y c) e.parent.0
  parent_in m c form (h, at, near) keep =
      subst (λ d. IsFolder (changed m y d) e.parent.0) (sym keep)
      (subst (λ q. IsFolder m q) (near.parent ∙ sym out.parent) (form.parents out.holder h at))

  -- a tree whose flag is up isn't the one that keeps the place
  flags_clash : {A : Type 0} (f : Bool) → f ≡ true → f ≡ false → A
  flags_clash f a b = absurd (let clash : true ≡ false = sym a ∙ b in cc)

  local_keeps : in_r.flag ≡ true → StandsAt l out.holder p × (cl ≡ Keep)
  local_keeps up = elim out.kept [
    | inl (at, keep) ↦ flags_clash in_r.flag up (in_r.keeps keep)
    | inr there ↦ there
  ]

  remote_keeps : in_l.flag ≡ true → StandsAt r out.holder p × (cr ≡ Keep)
  remote_keeps up = elim out.kept [
    | inl there ↦ there
    | inr (at, keep) ↦ flags_clash in_l.flag up (in_l.keeps keep)
  ]

  -- y's mark in one tree: where it stays it has no new one
  stays_marked : (own a b : Nodes) (orphans : Bool) (co ca cb : Change) → WellFormed own → (left : Left own y p e co) → left.flag ≡ false
      → IsMarked (changed own y co) (changed a y ca) (changed b y cb) orphans y → IsMarked own a b orphans y
  stays_marked own a b orphans co ca cb form left down (n, at, mark) =
      let was : get own y ≡ Some n = same_value (get own y) (sym (left.value ∙ ap (λ f. option_map (moved f e) (get own y)) down) ∙ at) in
      own_same own a b (changed own y co) (changed a y ca) (changed b y cb) orphans y (agree a ca) (agree b cb) n n was at
      (same_place-refl n.place) (off_loop own y n form was) (n, at, mark)
    where
      same_value : (o : Option Node) → option_map (moved false e) o ≡ Some n → o ≡ Some n
      same_value None is = none_some n (option_map (moved false e) None) refl is
      same_value (Some k) is = is

  -- and where it leaves it has none
  leaves_unmarked : (own a b : Nodes) (orphans : Bool) (co ca cb : Change) → (left : Left own y p e co) → left.flag ≡ true → IsVacant a e → IsVacant b e
      → (IsTrue orphans → IsFolder (changed a y ca) e.parent.0 ⊎ IsFolder (changed b y cb) e.parent.0)
      → ¬ (IsMarked (changed own y co) (changed a y ca) (changed b y cb) orphans y)
  leaves_unmarked own a b orphans co ca cb left up free_a free_b parent =
      let (n, was, near) = left.at up in
      let value : get (changed own y co) y ≡ Some (moved true e n) =
      left.value ∙ ap (λ f. option_map (moved f e) (get own y)) up ∙ ap (option_map (moved true e)) was in
      own_none (changed own y co) (changed a y ca) (changed b y cb) orphans y (moved true e n) value (free_new a ca free_a) (free_new b cb free_b)
      (λ counts. not_lost (changed a y ca) (changed b y cb) e.parent.0 (parent counts))

  held_by : (m : Nodes) (n : Node) → SamePlace n.place p → StandsAt m out.holder p → Held m n.place y
  held_by m n near (h, at, close) = (out.holder, h, at, same_place-trans _ _ _ close (same_place-sym _ _ near), out.other)

  -- the mark of one tree: less where y leaves, and else no more
  abbrev Falls : Bool → ℕ → ℕ → Type 0
  Falls f after before = (f ≡ true → after + 1 ≤ before) × (f ≡ false → after ≤ before)

  falls_r : Falls in_r.flag (mark nr nl ns true y) (mark r l s true y)
  falls_r = (
    λ up.
        let (at, keep) = local_keeps up in
        let (n, was, near) = in_r.at up in
        let none = mark_none nr nl ns true y (leaves_unmarked r l s true cr cl cs in_r up out.free_l out.free_s (λ counts. inl (parent_in l cl fit.local at keep))) in
        let some = mark_one r l s true y (n, was, inl (held_by l n near at)) in
        omega (arith, none, some),
    λ down. mark_le r l s nr nl ns true y y (stays_marked r l s true cr cl cs fit.remote in_r down),
  )

  falls_l : Falls in_l.flag (mark nl nr ns true y) (mark l r s true y)
  falls_l = (
    λ up.
        let (at, keep) = remote_keeps up in
        let (n, was, near) = in_l.at up in
        let none = mark_none nl nr ns true y (leaves_unmarked l r s true cl cr cs in_l up out.free_r out.free_s (λ counts. inl (parent_in r cr fit.remote at keep))) in
        let some = mark_one l r s true y (n, was, inl (held_by r n near at)) in
        omega (arith, none, some),
    λ down. mark_le l r s nl nr ns true y y (stays_marked l r s true cl cr cs fit.local in_l down),
  )

  held_somewhere : (n : Node) → SamePlace n.place p → Mark r l false y n
  held_somewhere n near = elim out.kept [
    | inl (at, keep) ↦ inl (held_by r n near at)
    | inr (at, keep) ↦ inr (inl (held_by l n near at))
  ]

  falls_s : Falls in_s.flag (mark ns nr nl false y) (mark s r l false y)
  falls_s = (
    λ up.
        let (n, was, near) = in_s.at up in
        let none = mark_none ns nr nl false y (leaves_unmarked s r l false cs cr cl in_s up out.free_r out.free_l (λ counts. absurd (let clash : false ≡ true = counts in cc))) in
        let some = mark_one s r l false y (n, was, held_somewhere n near) in
        omega (arith, none, some),
    λ down. mark_le s r l ns nr nl false y y (stays_marked s r l false cs cr cl fit.synced in_s down),
  )

  flag_up : (m : Nodes) (c : Change) (left : Left m y p e c) → StandsAt m y p → left.flag ≡ true
  flag_up m c left (n, at, near) = elim (cases_Bool left.flag) [
    | inl up ↦ up
    | inr down ↦ absurd (left.off down n at near)
  ]

  no_more : (f : Bool) (after before : ℕ) → Falls f after before → after ≤ before
  no_more true after before falls = let less = falls.0 refl in omega (arith, less)
  no_more false after before falls = falls.1 refl

  marks_fall : marks nr nl ns y + 1 ≤ marks r l s y
  marks_fall =
      let a = no_more in_r.flag (mark nr nl ns true y) (mark r l s true y) falls_r in
      let b = no_more in_l.flag (mark nl nr ns true y) (mark l r s true y) falls_l in
      let c = no_more in_s.flag (mark ns nr nl false y) (mark s r l false y) falls_s in
      elim out.moved [
        | inl at ↦ let d = falls_r.0 (flag_up r cr in_r at) in omega (arith, a, b, c, d)
        | inr below ↦ elim below [
          | inl at ↦ let d = falls_l.0 (flag_up l cl in_l at) in omega (arith, a, b, c, d)
          | inr at ↦ let d = falls_s.0 (flag_up s cs in_s at) in omega (arith, a, b, c, d)
        ]
      ]

  at_place : (m : Nodes) (c : Change) (left : Left m y p e c) → left.flag ≡ true → (n : Node) → get m y ≡ Some n → SamePlace n.place p
  at_place m c left up n at = let (k, was, near) = left.at up in subst (λ (h : Node). SamePlace h.place p) (one_node m y k n was at) near

  module _ (same : ℕ → ℕ → Bool) (fly now : ℕ → Bool) (flies : NoMoreFlies fly now) where
    cost_stays : cost same (get nr y) (get nl y) (get ns y) ≤ cost same (get r y) (get l y) (get s y)
    cost_stays =
        let is = cost_as same (get nr y) (get nl y) (get ns y) (option_map (moved in_r.flag e) (get r y)) (option_map (moved in_l.flag e) (get l y)) (option_map (moved in_s.flag e) (get s y))
        in_r.value in_l.value in_s.value in
        let le = cost_moves same p e (get r y) (get l y) (get s y) in_r.flag in_l.flag in_s.flag
        (at_place r cr in_r) in_r.off (at_place l cl in_l) in_l.off (at_place s cs in_s) in_s.off
        (λ n at. out.free_r y n at)
        (λ up n at. out.agreed n at (at_place r cr in_r up n at))
        (λ up. in_l.keeps (local_keeps up).1) in
        omega (arith, is, le)

    -- y stands at the place in one tree, and not in the one in which the other has it
    not_equal : ¬ (AllEqual (get r y) (get l y) (get s y))
    not_equal (first, second) = elim out.kept [
      | inl (at, keep) ↦ in_r.off (in_r.keeps keep) who.0 (elim who.1 [
        | inl there ↦ there
        | inr there ↦ first ∙ there
      ]) who.2
      | inr (at, keep) ↦ in_l.off (in_l.keeps keep) who.0 (elim who.1 [
        | inl there ↦ sym first ∙ there
        | inr there ↦ there
      ]) who.2
    ]
      where
        who : (n : Node) × ((get r y ≡ Some n) ⊎ (get l y ≡ Some n)) × SamePlace n.place p
        who = elim out.moved [
          | inl (n, at, near) ↦ (n, inl at, near)
          | inr below ↦ elim below [
            | inl (n, at, near) ↦ (n, inr at, near)
            | inr (n, at, near) ↦ (n, inr (second ∙ at), near)
          ]
        ]

    pub pay_evict : Pays same fly r l s now nr nl ns y
    pay_evict = record {
      less =
          let apart = not_differs (get r y) (get l y) (get s y) not_equal in
          let before : points same fly r l s y ≡ cost same (get r y) (get l y) (get s y) + marks r l s y = points_differ same fly r l s y apart in
          let some : 1 ≤ cost same (get r y) (get l y) (get s y) = cost_some same (get r y) (get l y) (get s y) apart in
          let kept = cost_stays in
          let fall = marks_fall in
          let c : ℕ = cost same (get nr y) (get nl y) (get ns y) + marks nr nl ns y in
          let high : (q : ℕ) → suc q ≡ points same fly r l s y → points same now nr nl ns y ≤ q =
          λ q is. points_at_most same now nr nl ns y q (omega (arith, is, before, some, fall)) (omega (arith, is, before, kept, fall)) in
          less_by_one (points same fly r l s y) (points same now nr nl ns y) (omega (arith, before, some)) high;
      others = others_kept same fly now flies r l s y fit nr nl ns one;
    }
      where
        less_by_one : (b a : ℕ) → 1 ≤ b → ((q : ℕ) → suc q ≡ b → a ≤ q) → a < b
        less_by_one zero a some high = absurd (omega (arith, some))
        less_by_one (suc b) a some high = let le = high b refl in omega (arith, le)
