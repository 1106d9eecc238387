-- Two rising lists with the same operations are one.
use Rattle.std.proofs.Common.{◌≡◌, ◌⊎◌, ◌<◌, ℕ, zero, suc, Bool, List, [], ◌∷◌, length, AllPairs, refl, sym, ap, subst, ◌∙◌, inl, inr, arith}
use Rattle.std.specs.Prelude.{Contains, slice_index_or}
use Rattle.std.proofs.lemmas.List.Elements.{All-contains}
use Rattle.nuc_base.specs.Trees.{Nodes}
use Rattle.nuc_class.specs.Due.{IsDue}
use Rattle.nuc_class.specs.declared.op.Op.{Op}
use Rattle.nuc_plan.specs.Plans.{IsAllDue}

abbrev IsRising : List Op → Type 0
IsRising ops = AllPairs (λ a b. a.id.0 < b.id.0) ops

first_or_later : (o : Op) (ops : List Op) (op : Op) → Contains (o ∷ ops) op → (o ≡ op) ⊎ Contains ops op
first_or_later o ops op (zero, below, at) = inl at
first_or_later o ops op (suc k, below, at) = inr (k, omega (arith, below), at)

rising_rest : (o : Op) (ops : List Op) → IsRising (o ∷ ops) → IsRising ops
rising_rest o ops rising i j d less below = rising (suc i) (suc j) d (omega (arith, less)) (omega (arith, below))

above_first : (o : Op) (ops : List Op) (op : Op) → IsRising (o ∷ ops) → Contains ops op → o.id.0 < op.id.0
above_first o ops op rising (k, below, at) =
    let pair : o.id.0 < (slice_index_or ops k op).id.0 = rising 0 (suc k) op (omega arith) (omega (arith, below)) in
    subst (λ (p : Op). o.id.0 < p.id.0) at pair

in_rest : (o p : Op) (ops others : List Op) → IsRising (o ∷ ops) → o ≡ p → ((op : Op) → Contains (o ∷ ops) op → Contains (p ∷ others) op)
    → (op : Op) → Contains ops op → Contains others op
in_rest o p ops others rising same into op (k, below, at) =
    elim (first_or_later p others op (into op (suc k, omega (arith, below), at))) [
      | inl first ↦
          let above = above_first o ops op rising (k, below, at) in
          let id : o.id.0 ≡ op.id.0 = ap (λ (q : Op). q.id.0) (same ∙ first) in
          absurd (omega (arith, above, id))
      | inr later ↦ later
    ]

pub one_list : (ops others : List Op) → IsRising ops → IsRising others → ((op : Op) → Contains ops op → Contains others op)
    → ((op : Op) → Contains others op → Contains ops op) → ops ≡ others
one_list [] [] up up_too into back = refl
one_list [] (p ∷ others) up up_too into back = let (k, below, at) = back p (0, omega arith, refl) in absurd (omega (arith, below))
one_list (o ∷ ops) [] up up_too into back = let (k, below, at) = into o (0, omega arith, refl) in absurd (omega (arith, below))
one_list (o ∷ ops) (p ∷ others) up up_too into back =
    let same : o ≡ p = elim (first_or_later p others o (into o (0, omega arith, refl))) [
      | inl is ↦ sym is
      | inr later ↦ elim (first_or_later o ops p (back p (0, omega arith, refl))) [
        | inl is ↦ is
        | inr too ↦
            let less = above_first p others o up_too later in
            let more = above_first o ops p up too in
            absurd (omega (arith, less, more))
      ]
    ] in
    let rest = one_list ops others (rising_rest o ops up) (rising_rest p others up_too) (in_rest o p ops others up same into)
    (in_rest p o others ops up_too (sym same) back) in
    subst (λ q. o ∷ ops ≡ q ∷ others) same (ap (λ list. o ∷ list) rest)

-- so there is one list of all that is due
pub one_all_due : (same : ℕ → ℕ → Bool) (r l s : Nodes) (due other : List Op) → IsAllDue same r l s due → IsAllDue same r l s other → due ≡ other
one_all_due same r l s due other all all_too = one_list due other all.rising all_too.rising
    (λ op has. all_too.all op.id.0 op (All-contains (λ o. IsDue same r l s o.id.0 o) due op all.each has))
    (λ op has. all.all op.id.0 op (All-contains (λ o. IsDue same r l s o.id.0 o) other op all_too.each has))
