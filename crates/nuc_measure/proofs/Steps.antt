-- What an operation that changes one identity does to the points.
use Rattle.std.proofs.Common.{◌≡◌, ◌≢◌, ◌⊎◌, ◌<◌, ◌≤◌, ◌+◌, ℕ, Bool, true, false, cond, Option, None, Some, refl, sym, ap, subst, ◌∙◌, inl, inr, arith}
use Rattle.std.specs.FinMap.{get, insert, remove}
use Rattle.std.proofs.lemmas.Bool.{cases_Bool}
use Rattle.nuc_base.specs.Legal.{IsFree, LegalPut, LegalCut}
use Rattle.nuc_base.specs.SamePlace.{SamePlace, same_place-refl, same_place-sym, same_place-trans, same_place-or_not}
use Rattle.nuc_base.specs.Trees.{Nodes, IsFolder, IsUnder, NoChild, WellFormed}
use Rattle.nuc_base.specs.Trees.Under.{here}
use Rattle.nuc_base.specs.declared.node.Node.{Node}
use Rattle.nuc_base.specs.declared.node.Place.{Place}
use Rattle.nuc_base.proofs.Depths.{no_loop}
use Rattle.nuc_base.proofs.Maps.{after_put, get_cut_other, get_cut_same, get_put_other, get_put_same, not_both, one_node, same_or_not}
use Rattle.nuc_class.specs.Equal.{place_eq, value_eq}
use Rattle.nuc_class.specs.Merge.{target}
use Rattle.nuc_class.specs.Split.{needs_split}
use Rattle.nuc_class.specs.Wishes.{AllEqual}
use Rattle.nuc_class.proofs.Tells.{place_eq-Decides, value_eq-Decides}
use Rattle.nuc_conflict.specs.FitTogether.{FitTogether}
use Rattle.nuc_measure.specs.Cost.{cost}
use Rattle.nuc_measure.specs.Differing.{differs}
use Rattle.nuc_measure.specs.Marks.{IsLost, IsMarked}
use Rattle.nuc_measure.specs.Pays.{NoMoreFlies}
use Rattle.nuc_measure.specs.Potential.{mark, marks, points}
use Rattle.nuc_measure.proofs.Costs.{cost_down, cost_entered, cost_some}
use Rattle.nuc_measure.proofs.Counting.{tells_equal}
use Rattle.nuc_measure.proofs.Marks.{Agree, own_none, own_same}
use Rattle.nuc_measure.proofs.Points.{ChangesOne, OldPlace, mark_absent, mark_le, mark_none, others_le, points_at_most, points_differ, points_equal, points_fly, points_grounded, points_some}

-- x counts less, and nobody counts more
pub record Pays (same : ℕ → ℕ → Bool) (fly : ℕ → Bool) (r l s : Nodes) (now : ℕ → Bool) (nr nl ns : Nodes) (x : ℕ) : Type 0 where
  pub less : points same now nr nl ns x < points same fly r l s x
  pub others : (y : ℕ) → y ≢ x → points same now nr nl ns y ≤ points same fly r l s y

-- nobody counts more
abbrev pub Spares : (ℕ → ℕ → Bool) → (ℕ → Bool) → Nodes → Nodes → Nodes → (ℕ → Bool) → Nodes → Nodes → Nodes → Type 0
Spares same fly r l s now nr nl ns = (y : ℕ) → points same now nr nl ns y ≤ points same fly r l s y

pub agree_put : (m : Nodes) (x : ℕ) (node : Node) → Agree m (insert m x node) x
agree_put m x node y other = get_put_other m x node y other

pub agree_cut : (m : Nodes) (x : ℕ) → Agree m (remove m x) x
agree_cut m x y other = get_cut_other m x y other

pub agree_same : (m : Nodes) (x : ℕ) → Agree m m x
agree_same m x y other = refl

-- a place is free for who stands there
pub free_own : (m : Nodes) (x : ℕ) (n : Node) (p : Place) → WellFormed m → get m x ≡ Some n → SamePlace n.place p → IsFree m x p
free_own m x n p form at near y k there close = form.places y x k n there at (same_place-trans _ _ _ close (same_place-sym _ _ near))

pub free_put : (m : Nodes) (x : ℕ) (node : Node) (p : Place) → IsFree m x p → IsFree (insert m x node) x p
free_put m x node p free y k there close = elim (after_put m x node y k there) [
  | inl (e, is) ↦ e
  | inr (apart, was) ↦ free y k was close
]

-- who is put below itself isn't put legally
pub off_put : (m : Nodes) (x : ℕ) (node : Node) → LegalPut m x node → node.place.parent.0 ≢ x
off_put m x node legal e = legal.no_cycle (subst (λ q. IsUnder m q x) (sym e) here)

pub off_loop : (m : Nodes) (x : ℕ) (n : Node) → WellFormed m → get m x ≡ Some n → n.place.parent.0 ≢ x
off_loop m x n form at e = no_loop m x n form at (subst (λ q. IsUnder m q x) (sym e) here)

pub same_as : (p q : Place) → p ≡ q → SamePlace p q
same_as p q e = subst (SamePlace p) e (same_place-refl p)

-- a parent that stands in a tree isn't lost
pub not_lost : (a b : Nodes) (q : ℕ) → IsFolder a q ⊎ IsFolder b q → IsLost a b q → ⊥
not_lost a b q (inl (inl root)) (below, gone, too) = below root
not_lost a b q (inl (inr (n, at, folder))) (below, gone, too) = not_both a q n gone at
not_lost a b q (inr (inl root)) (below, gone, too) = below root
not_lost a b q (inr (inr (n, at, folder))) (below, gone, too) = not_both b q n too at

-- what stands nowhere has no children
pub childless : (m : Nodes) (x : ℕ) → WellFormed m → 0 < x → get m x ≡ None → NoChild m x
childless m x form above none y n at e = by (form.parents y n at)
  where
    by : IsFolder m n.place.parent.0 → ⊥
    by (inl root) = omega (arith, root, e, above)
    by (inr (h, there, folder)) = not_both m x h none (subst (λ q. get m q ≡ Some h) e there)

-- where the target stands
pub target_place : (n : Node) (l s : Option Node) → ((target n l s).place ≡ n.place) ⊎ ((k : Node) × (l ≡ Some k) × ((target n l s).place ≡ k.place))
target_place n None s = inl refl
target_place n (Some k) None = inl refl
target_place n (Some k) (Some h) = elim (cases_Bool (place_eq n.place h.place)) [
  | inl e ↦ inr (k, refl, ap (λ b. cond b k.place n.place) e)
  | inr e ↦ inl (ap (λ b. cond b k.place n.place) e)
]

-- it is Remote's place where Synced has another
pub target_moves : (n : Node) (l s : Option Node) → ((h : Node) → s ≡ Some h → ¬ (SamePlace h.place n.place)) → (target n l s).place ≡ n.place
target_moves n None s apart = refl
target_moves n (Some k) None apart = refl
target_moves n (Some k) (Some h) apart = elim (cases_Bool (place_eq n.place h.place)) [
  | inl e ↦ absurd (apart h refl (same_as h.place n.place (sym ((place_eq-Decides n.place h.place).0 e))))
  | inr e ↦ ap (λ b. cond b k.place n.place) e
]

pub not_differs : (r l s : Option Node) → ¬ (AllEqual r l s) → differs r l s ≡ true
not_differs r l s never = elim (cases_Bool (differs r l s)) [
  | inl e ↦ e
  | inr e ↦ absurd (never (tells_equal r l s e))
]

-- the cost, of known values
pub cost_as : (same : ℕ → ℕ → Bool) (r l s a b c : Option Node) → r ≡ a → l ≡ b → s ≡ c → cost same r l s ≡ cost same a b c
cost_as same r l s a b c e f g = rw (e, f, g) refl

pub none_some : {A : Type 0} (n : Node) (o : Option Node) → o ≡ None → o ≡ Some n → A
none_some n o e f = absurd (let clash : None ≡ Some n = sym e ∙ f in cc)

-- the values before and after
module _ (same : ℕ → ℕ → Bool) (fly now : ℕ → Bool) (flies : NoMoreFlies fly now) (r l s : Nodes) (x : ℕ) (fit : FitTogether r l s) where
  pub others_kept : (nr nl ns : Nodes) → ChangesOne r l s nr nl ns x → (y : ℕ) → y ≢ x → points same now nr nl ns y ≤ points same fly r l s y
  others_kept nr nl ns one y other = others_le same fly now r l s nr nl ns x fit.remote fit.local fit.synced one y other (flies y)

  -- who differed, or flew, and is equal now without flying
  pub ends_equal : (nr nl ns : Nodes) → ChangesOne r l s nr nl ns x → 1 ≤ points same fly r l s x → AllEqual (get nr x) (get nl x) (get ns x)
      → now x ≡ false → Pays same fly r l s now nr nl ns x
  ends_equal nr nl ns one some equal landed = record {
    less =
        let none : points same now nr nl ns x ≡ 0 = points_equal same now nr nl ns x equal ∙ ap (λ (f : Bool). cond f 1 0) landed in
        omega (arith, none, some);
    others = others_kept nr nl ns one;
  }

  -- Down
  module _ (n : Node) (at : get r x ≡ Some n)
      (wished : (k : Node) → get l x ≡ Some k → (needs_split same (Some n) (Some k) (get s x) ≡ false) × (value_eq (Some n) (get s x) ≡ false))
      (in_local : LegalPut l x (target n (get l x) (get s x))) (in_synced : LegalPut s x n) where
    abbrev t : Node
    t = target n (get l x) (get s x)

    abbrev nl : Nodes
    nl = insert l x t

    abbrev ns : Nodes
    ns = insert s x n

    nl_x : get nl x ≡ Some t
    nl_x = get_put_same l x t

    ns_x : get ns x ≡ Some n
    ns_x = get_put_same s x n

    down_old_target : OldPlace r l s x t.place
    down_old_target = elim (target_place n (get l x) (get s x)) [
      | inl e ↦ inl (inl (n, at, same_as n.place t.place (sym e)))
      | inr (k, there, e) ↦ inl (inr (inl (k, there, same_as k.place t.place (sym e))))
    ]

    down_old_remote : (k : Node) → k ≡ n → OldPlace r l s x k.place
    down_old_remote k e = inl (inl (n, at, same_as n.place k.place (ap (λ (h : Node). h.place) (sym e))))

    down_one : ChangesOne r l s r nl ns x
    down_one = record {
      remote = agree_same r x;
      local = agree_put l x t;
      synced = agree_put s x n;
      old_r = λ k there. down_old_remote k (one_node r x k n there at);
      old_l = λ k there. subst (λ (h : Node). OldPlace r l s x h.place) (one_node nl x t k nl_x there) down_old_target;
      old_s = λ k there. down_old_remote k (one_node ns x k n there ns_x);
      children_r = λ y k there e gone too. none_some t (get nl x) gone nl_x;
      children_l = λ y k there e gone too. none_some n (get r x) gone at;
    }

    off_n : n.place.parent.0 ≢ x
    off_n = off_loop r x n fit.remote at

    down_in_r : IsMarked r nl ns true x → IsMarked r l s true x
    down_in_r = own_same r l s r nl ns true x (agree_put l x t) (agree_put s x n) n n at at (same_place-refl n.place) off_n

    at_remote_place : t.place ≡ n.place → IsMarked nl r ns true x → ⊥
    at_remote_place e = own_none nl r ns true x t nl_x
        (free_own r x n t.place fit.remote at (same_as n.place t.place (sym e)))
        (free_put s x n t.place (subst (λ (p : Place). IsFree s x p) (sym e) in_synced.free))
        (λ counts. not_lost r ns t.place.parent.0 (inl (subst (λ (p : Place). IsFolder r p.parent.0) (sym e) (fit.remote.parents x n at))))

    down_in_l : IsMarked nl r ns true x → IsMarked l r s true x
    down_in_l marked = elim (target_place n (get l x) (get s x)) [
      | inl e ↦ absurd (at_remote_place e marked)
      | inr (k, there, e) ↦
          own_same l r s nl r ns true x (agree_same r x) (agree_put s x n) k t there nl_x (same_as t.place k.place e) (off_put l x t in_local) marked
    ]

    moved_alone : ((h : Node) → get s x ≡ Some h → ¬ (SamePlace h.place n.place)) → IsMarked ns r nl false x → ⊥
    moved_alone apart =
        let e : t.place ≡ n.place = target_moves n (get l x) (get s x) apart in
        own_none ns r nl false x n ns_x (free_own r x n n.place fit.remote at (same_place-refl n.place))
        (free_put l x t n.place (subst (λ (p : Place). IsFree l x p) e in_local.free)) (λ counts. absurd (let clash : false ≡ true = counts in cc))

    down_in_s : IsMarked ns r nl false x → IsMarked s r l false x
    down_in_s marked = by (get s x) refl
      where
        by : (o : Option Node) → get s x ≡ o → IsMarked s r l false x
        by None e = absurd (moved_alone (λ h there. none_some h (get s x) e there) marked)
        by (Some h) e = elim (same_place-or_not h.place n.place) [
          | inl near ↦ own_same s r l ns r nl false x (agree_same r x) (agree_put l x t) h n e ns_x (same_place-sym _ _ near) off_n marked
          | inr apart ↦ absurd (moved_alone (λ g there. subst (λ (i : Node). ¬ (SamePlace i.place n.place)) (one_node s x h g e there) apart) marked)
        ]

    down_marks : marks r nl ns x ≤ marks r l s x
    down_marks =
        let a = mark_le r l s r nl ns true x x down_in_r in
        let b = mark_le l r s nl r ns true x x down_in_l in
        let c = mark_le s r l ns r nl false x x down_in_s in
        omega (arith, a, b, c)

    down_differs : differs (get r x) (get l x) (get s x) ≡ true
    down_differs = not_differs (get r x) (get l x) (get s x) (λ (first, second).
        let w = wished n (sym first ∙ at) in
        let equal : value_eq (Some n) (get s x) ≡ true = (value_eq-Decides (Some n) (get s x)).1 (sym at ∙ first ∙ second) in
        let clash : true ≡ false = sym equal ∙ w.1 in
        cc)

    pub pay_down : now x ≡ false → Pays same fly r l s now r nl ns x
    pay_down landed = record {
      less =
          let before : points same fly r l s x ≡ cost same (get r x) (get l x) (get s x) + marks r l s x = points_differ same fly r l s x down_differs in
          let after : points same now r nl ns x ≤ cost same (get r x) (get nl x) (get ns x) + marks r nl ns x = points_grounded same now r nl ns x landed in
          let was : cost same (get r x) (get l x) (get s x) ≡ cost same (Some n) (get l x) (get s x) =
          cost_as same (get r x) (get l x) (get s x) (Some n) (get l x) (get s x) at refl refl in
          let is : cost same (get r x) (get nl x) (get ns x) ≡ cost same (Some n) (Some t) (Some n) =
          cost_as same (get r x) (get nl x) (get ns x) (Some n) (Some t) (Some n) at nl_x ns_x in
          let falls : cost same (Some n) (Some t) (Some n) < cost same (Some n) (get l x) (get s x) = cost_down same n (get l x) (get s x) wished in
          let kept = down_marks in
          omega (arith, before, after, was, is, falls, kept);
      others = others_kept r nl ns down_one;
    }

  -- CutDown
  pub pay_cut_down : (k : Node) → 0 < x → get r x ≡ None → get l x ≡ Some k → LegalCut l x → now x ≡ false
      → Pays same fly r l s now r (remove l x) (remove s x) x
  pay_cut_down k above none at in_local landed =
      ends_equal r (remove l x) (remove s x) one
      (points_some same fly r l s x (not_differs (get r x) (get l x) (get s x) (λ (first, second). none_some k (get l x) (sym first ∙ none) at)))
      (none ∙ sym (get_cut_same l x), get_cut_same l x ∙ sym (get_cut_same s x)) landed
    where
      one : ChangesOne r l s r (remove l x) (remove s x) x
      one = record {
        remote = agree_same r x;
        local = agree_cut l x;
        synced = agree_cut s x;
        old_r = λ h there. none_some h (get r x) none there;
        old_l = λ h there. none_some h (get (remove l x) x) (get_cut_same l x) there;
        old_s = λ h there. none_some h (get (remove s x) x) (get_cut_same s x) there;
        children_r = λ y h there e gone too. absurd (childless r x fit.remote above none y h there e);
        children_l = λ y h there e gone too. absurd (in_local.empty y h there e);
      }

  -- Forget, and the end of a CutUp
  pub pay_forget : (h : Node) → 0 < x → get r x ≡ None → get l x ≡ None → get s x ≡ Some h → now x ≡ false → Pays same fly r l s now r l (remove s x) x
  pay_forget h above no_r no_l at landed =
      ends_equal r l (remove s x) one
      (points_some same fly r l s x (not_differs (get r x) (get l x) (get s x) (λ (first, second). none_some h (get s x) (sym second ∙ no_l) at)))
      (no_r ∙ sym no_l, no_l ∙ sym (get_cut_same s x)) landed
    where
      one : ChangesOne r l s r l (remove s x) x
      one = record {
        remote = agree_same r x;
        local = agree_same l x;
        synced = agree_cut s x;
        old_r = λ k there. none_some k (get r x) no_r there;
        old_l = λ k there. none_some k (get l x) no_l there;
        old_s = λ k there. none_some k (get (remove s x) x) (get_cut_same s x) there;
        children_r = λ y k there e gone too. absurd (childless r x fit.remote above no_r y k there e);
        children_l = λ y k there e gone too. absurd (childless l x fit.local above no_l y k there e);
      }

  -- The entry of an Up comes
  module _ (n : Node) (at : get l x ≡ Some n) (apart : differs (get r x) (get l x) (get s x) ≡ true)
      (in_remote : LegalPut r x n) (in_synced : LegalPut s x n) where
    abbrev nr : Nodes
    nr = insert r x n

    nr_x : get nr x ≡ Some n
    nr_x = get_put_same r x n

    entered_one : ChangesOne r l s nr l s x
    entered_one = record {
      remote = agree_put r x n;
      local = agree_same l x;
      synced = agree_same s x;
      old_r = λ k there. inl (inr (inl (n, at, same_as n.place k.place (ap (λ (h : Node). h.place) (one_node nr x n k nr_x there)))));
      old_l = λ k there. inl (inr (inl (k, there, same_place-refl k.place)));
      old_s = λ k there. inl (inr (inr (k, there, same_place-refl k.place)));
      children_r = λ y k there e gone too. none_some n (get l x) gone at;
      children_l = λ y k there e gone too. none_some n (get nr x) gone nr_x;
    }

    entered_in_r : ¬ (IsMarked nr l s true x)
    entered_in_r = own_none nr l s true x n nr_x (free_own l x n n.place fit.local at (same_place-refl n.place)) in_synced.free
        (λ counts. not_lost l s n.place.parent.0 (inl (fit.local.parents x n at)))

    entered_in_l : IsMarked l nr s true x → IsMarked l r s true x
    entered_in_l = own_same l r s l nr s true x (agree_put r x n) (agree_same s x) n n at at (same_place-refl n.place) (off_loop l x n fit.local at)

    entered_in_s : IsMarked s nr l false x → IsMarked s r l false x
    entered_in_s (h, there, mark) =
        own_same s r l s nr l false x (agree_put r x n) (agree_same l x) h h there there (same_place-refl h.place) (off_loop s x h fit.synced there) (h, there, mark)

    entered_marks : marks nr l s x ≤ marks r l s x
    entered_marks =
        let a : mark nr l s true x ≡ 0 = mark_none nr l s true x entered_in_r in
        let b = mark_le l r s l nr s true x x entered_in_l in
        let c = mark_le s r l s nr l false x x entered_in_s in
        omega (arith, a, b, c)

    entered_x : points same now nr l s x ≤ points same fly r l s x
    entered_x =
        let before : points same fly r l s x ≡ cost same (get r x) (get l x) (get s x) + marks r l s x = points_differ same fly r l s x apart in
        let some : 1 ≤ cost same (get r x) (get l x) (get s x) = cost_some same (get r x) (get l x) (get s x) apart in
        let is : cost same (get nr x) (get l x) (get s x) ≡ cost same (Some n) (Some n) (get s x) =
        cost_as same (get nr x) (get l x) (get s x) (Some n) (Some n) (get s x) nr_x at refl in
        let few : cost same (Some n) (Some n) (get s x) ≤ 1 = cost_entered same n (get s x) in
        let kept = entered_marks in
        points_at_most same now nr l s x (points same fly r l s x) (omega (arith, before, some)) (omega (arith, before, some, is, few, kept))

    pub entry_up : Spares same fly r l s now nr l s
    entry_up y = elim (same_or_not y x) [
      | inl e ↦ subst (λ z. points same now nr l s z ≤ points same fly r l s z) (sym e) entered_x
      | inr other ↦ others_kept nr l s entered_one y other
    ]

  -- The end of an Up whose entry came
  pub end_up : (n : Node) → get r x ≡ Some n → get l x ≡ Some n → fly x ≡ true → now x ≡ false → Pays same fly r l s now r l (insert s x n) x
  end_up n in_r in_l flew landed =
      ends_equal r l (insert s x n) one (points_fly same fly r l s x flew) (in_r ∙ sym in_l, in_l ∙ sym (get_put_same s x n)) landed
    where
      one : ChangesOne r l s r l (insert s x n) x
      one = record {
        remote = agree_same r x;
        local = agree_same l x;
        synced = agree_put s x n;
        old_r = λ k there. inl (inl (k, there, same_place-refl k.place));
        old_l = λ k there. inl (inr (inl (k, there, same_place-refl k.place)));
        old_s = λ k there.
            inl (inl (n, in_r, same_as n.place k.place (ap (λ (h : Node). h.place) (one_node (insert s x n) x n k (get_put_same s x n) there))));
        children_r = λ y k there e gone too. none_some n (get l x) gone in_l;
        children_l = λ y k there e gone too. none_some n (get r x) gone in_r;
      }

  -- The entry of a CutUp comes
  module _ (n : Node) (above : 0 < x) (no_l : get l x ≡ None) (at : get r x ≡ Some n) (in_remote : LegalCut r x) where
    abbrev cr : Nodes
    cr = remove r x

    cr_x : get cr x ≡ None
    cr_x = get_cut_same r x

    cut_one : ChangesOne r l s cr l s x
    cut_one = record {
      remote = agree_cut r x;
      local = agree_same l x;
      synced = agree_same s x;
      old_r = λ k there. none_some k (get cr x) cr_x there;
      old_l = λ k there. none_some k (get l x) no_l there;
      old_s = λ k there. inl (inr (inr (k, there, same_place-refl k.place)));
      children_r = λ y k there e gone too. absurd (in_remote.empty y k there e);
      children_l = λ y k there e gone too. absurd (childless l x fit.local above no_l y k there e);
    }

    cut_in_s : IsMarked s cr l false x → IsMarked s r l false x
    cut_in_s (h, there, mark) =
        own_same s r l s cr l false x (agree_cut r x) (agree_same l x) h h there there (same_place-refl h.place) (off_loop s x h fit.synced there) (h, there, mark)

    cut_marks : marks cr l s x ≤ marks r l s x
    cut_marks =
        let a : mark cr l s true x ≡ 0 = mark_absent cr l s true x cr_x in
        let b : mark l cr s true x ≡ 0 = mark_absent l cr s true x no_l in
        let c = mark_le s r l s cr l false x x cut_in_s in
        omega (arith, a, b, c)

    few_left : (o : Option Node) → cost same None None o ≤ 1
    few_left None = omega arith
    few_left (Some h) = omega arith

    cut_x : points same now cr l s x ≤ points same fly r l s x
    cut_x =
        let apart = not_differs (get r x) (get l x) (get s x) (λ (first, second). none_some n (get r x) (first ∙ no_l) at) in
        let before : points same fly r l s x ≡ cost same (get r x) (get l x) (get s x) + marks r l s x = points_differ same fly r l s x apart in
        let some : 1 ≤ cost same (get r x) (get l x) (get s x) = cost_some same (get r x) (get l x) (get s x) apart in
        let is : cost same (get cr x) (get l x) (get s x) ≡ cost same None None (get s x) =
        cost_as same (get cr x) (get l x) (get s x) None None (get s x) cr_x no_l refl in
        let few = few_left (get s x) in
        let kept = cut_marks in
        points_at_most same now cr l s x (points same fly r l s x) (omega (arith, before, some)) (omega (arith, before, some, is, few, kept))

    pub entry_cut : Spares same fly r l s now cr l s
    entry_cut y = elim (same_or_not y x) [
      | inl e ↦ subst (λ z. points same now cr l s z ≤ points same fly r l s z) (sym e) cut_x
      | inr other ↦ others_kept cr l s cut_one y other
    ]
