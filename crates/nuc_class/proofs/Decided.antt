-- In a well formed tree it can be told what goes.
use Rattle.std.proofs.Common.{◌≡◌, ◌+◌, ℕ, zero, suc, Option, None, Some, sym, subst, ◌⊎◌, ◌∙◌, inl, inr, arith}
use Rattle.std.specs.List.{slice_get}
use Rattle.std.specs.FinMap.{get, len}
use Rattle.std.proofs.lemmas.Option.{slice_get_cases}
use Rattle.nuc_base.specs.Trees.{Nodes, WellFormed, children}
use Rattle.nuc_base.specs.declared.node.Node.{Node}
use Rattle.nuc_base.proofs.Children.{child_there, children_bound}
use Rattle.nuc_class.specs.Going.{IsKept, Going, Leaves, Stays, GoingLocal, GoingRemote}
use Rattle.nuc_class.proofs.Tells.{place_or_not, value_or_not}
use Rattle.nuc_class.proofs.Walk.{kept_parts, going-kept, going-child, GoBefore, going_of_children, go_more, HasRoom, some_left, room_below}

pub kept_or_not : (other own s : Option Node) → IsKept other own s ⊎ ¬ (IsKept other own s)
kept_or_not None (Some n) (Some k) = elim (value_or_not (Some n) (Some k)) [
  | inl same ↦ inl (cc)
  | inr apart ↦ inr (λ e. apart (let same : n ≡ k = e in cc))
]
kept_or_not None (Some n) None = inr (λ e. e)
kept_or_not None None s = inr (λ e. e)
kept_or_not (Some o) own s = inr (λ e. e)

pub leaves_or_not : (r s : Option Node) → Leaves r s ⊎ ¬ (Leaves r s)
leaves_or_not None s = inr (λ e. e)
leaves_or_not (Some r) None = inl tt
leaves_or_not (Some r) (Some s) = elim (place_or_not r.place s.place) [ inl same ↦ inr (λ apart. apart same) | inr apart ↦ inl apart ]

pub stays_or_not : (r l s : Option Node) → Stays r l s ⊎ ¬ (Stays r l s)
stays_or_not (Some r) (Some l) (Some s) = place_or_not r.place s.place
stays_or_not (Some r) (Some l) None = inr (λ e. e)
stays_or_not (Some r) None s = inr (λ e. e)
stays_or_not None l s = inr (λ e. e)

module _ (other own s : Nodes) (Spared : ℕ → Type 0) (tell : (y : ℕ) → Spared y ⊎ ¬ (Spared y)) (form : WellFormed own) where
  abbrev Goes : ℕ → Type 0
  Goes x = Going other own s Spared x

  -- a child of x is neither spared nor goes
  record Fails (x : ℕ) : Type 0 where
    child : ℕ
    node : Node
    there : get own child ≡ Some node
    parent : node.place.parent.0 ≡ x
    not_spared : ¬ (Spared child)
    stops : ¬ (Goes child)

  by_child : (x i y : ℕ) (n : Node) → slice_get (children own x) i ≡ Some y → get own y ≡ Some n → n.place.parent.0 ≡ x
      → Spared y ⊎ ¬ (Spared y) → Goes y ⊎ ¬ (Goes y) → GoBefore other own s Spared x i → GoBefore other own s Spared x (i + 1) ⊎ Fails x
  by_child x i y n at there parent (inl spared) goes before = inl (go_more other own s Spared x i y at (λ other_wise. absurd (other_wise spared)) before)
  by_child x i y n at there parent (inr kept) (inl goes) before = inl (go_more other own s Spared x i y at (λ _. goes) before)
  by_child x i y n at there parent (inr kept) (inr stops) before =
      inr (record { child = y; node = n; there = there; parent = parent; not_spared = kept; stops = stops })

  go_or_fail : (x : ℕ) → ((y : ℕ) (n : Node) → get own y ≡ Some n → n.place.parent.0 ≡ x → Goes y ⊎ ¬ (Goes y))
      → (i : ℕ) → GoBefore other own s Spared x i ⊎ Fails x
  go_or_fail x each zero = inl (λ j y below. absurd (omega (arith, below)))
  go_or_fail x each (suc i) = elim (go_or_fail x each i) [
    | inr fails ↦ inr fails
    | inl before ↦ elim (slice_get_cases (children own x) i).1 [
      | inl (y, below, at, e) ↦
          let child = child_there own x i y at in
          let next : GoBefore other own s Spared x (i + 1) ⊎ Fails x = by_child x i y child.0 at child.1 child.2 (tell y) (each y child.0 child.1 child.2) before in
          subst (λ k. GoBefore other own s Spared x k ⊎ Fails x) (omega arith) next
      | inr (past, none) ↦ inl (λ j y below at. elim (slice_get_cases (children own x) j).1 [
        | inl (z, within, here, e) ↦ before j y (omega (arith, within, past)) at
        | inr (beyond, nothing) ↦ absurd (let both : None ≡ Some y = sym nothing ∙ at in cc)
      ])
    ]
  ]

  going_or_not_within : (left x : ℕ) (n : Node) → get own x ≡ Some n → HasRoom own x left → IsKept (get other x) (get own x) (get s x) → Goes x ⊎ ¬ (Goes x)
  going_or_not_within zero x n at room kept = absurd (omega (arith, some_left own x 0 n form at room))
  going_or_not_within (suc left) x n at room kept =
      let each : (y : ℕ) (h : Node) → get own y ≡ Some h → h.place.parent.0 ≡ x → Goes y ⊎ ¬ (Goes y) = λ y h there parent.
      elim (kept_or_not (get other y) (get own y) (get s y)) [
        | inl kept_too ↦ going_or_not_within left y h there
            (subst (λ k. HasRoom own y k) (omega arith) (room_below own x (suc left) n form at room y h there parent)) kept_too
        | inr not_kept ↦ inr (λ goes. not_kept (going-kept other own s Spared y goes))
      ] in
      elim (go_or_fail x each (len own)) [
        | inl before ↦ inl (going_of_children other own s Spared x (len own) kept before (children_bound own x))
        | inr fails ↦ inr (λ goes. fails.stops (going-child other own s Spared x fails.child fails.node goes fails.there fails.parent fails.not_spared))
      ]

  pub going_or_not : (x : ℕ) → Goes x ⊎ ¬ (Goes x)
  going_or_not x = elim (kept_or_not (get other x) (get own x) (get s x)) [
    | inl kept ↦ let node = kept_parts _ _ _ kept in going_or_not_within (len own) x node.1 node.2 (λ k some steps. omega (arith, some)) kept
    | inr not_kept ↦ inr (λ goes. not_kept (going-kept other own s Spared x goes))
  ]

pub going_local_or_not : (r l s : Nodes) (x : ℕ) → WellFormed l → GoingLocal r l s x ⊎ ¬ (GoingLocal r l s x)
going_local_or_not r l s x form = going_or_not r l s (λ y. Leaves (get r y) (get s y)) (λ y. leaves_or_not (get r y) (get s y)) form x

pub going_remote_or_not : (r l s : Nodes) (x : ℕ) → WellFormed r → GoingRemote r l s x ⊎ ¬ (GoingRemote r l s x)
going_remote_or_not r l s x form =
    going_or_not l r s (λ y. Stays (get r y) (get l y) (get s y)) (λ y. stays_or_not (get r y) (get l y) (get s y)) form x
