-- Nodes that lie by under the places of entries.
use Rattle.std.proofs.Common.{◌≡◌, ◌≢◌, ◌+◌, ◌<◌, ◌≤◌, ◌++◌, ℕ, List, [], ◌∷◌, length, take, slice_get, get_or, Option, None, Some, sym, ◌∙◌, ap, subst, inl, inr, arith}
use Rattle.std.proofs.lemmas.List.{length-take-le, take_all, take_more}
use Rattle.std.specs.FinMap.{get, insert}
use Rattle.nuc_base.specs.Trees.{Nodes}
use Rattle.nuc_base.specs.declared.node.Node.{Node}
use Rattle.nuc_base.proofs.Maps.{get_put_other, get_put_same}
use Rattle.nuc_journal.specs.declared.entry.Entry.{Entry}
use Rattle.nuc_journal.proofs.Lists.{push_cases}
use Rattle.nuc_replica.specs.Ahead.{AreLaidFrom, Lies}

pub put_at : (m k : Nodes) (x : ℕ) (n : Node) → k ≡ insert m x n → get k x ≡ Some n
put_at m k x n is = ap (λ m. get m x) is ∙ get_put_same m x n

pub put_beside : (m k : Nodes) (x : ℕ) (n : Node) → k ≡ insert m x n → (i : ℕ) → i ≢ x → get k i ≡ get m i
put_beside m k x n is i apart = ap (λ m. get m i) is ∙ get_put_other m x n i apart

pub lies_same : (m k : Nodes) (i : ℕ) (v : Option Node) → get k i ≡ get m i → Lies m i v → Lies k i v
lies_same m k i None same lies = tt
lies_same m k i (Some n) same lies = same ∙ lies

-- one more node is laid by
pub laid_more : (first i : ℕ) (m k : Nodes) (es : List Entry) (e : Entry) → i < length es → e ≡ get_or es i e
    → ((j : ℕ) → j ≢ first + i → get k j ≡ get m j) → Lies k (first + i) e.value → AreLaidFrom first m (take i es) → AreLaidFrom first k (take (i + 1) es)
laid_more first i m k es e within is others lies laid j f at =
    let front : take (i + 1) es ≡ take i es ++ e ∷ [] = take_more es i e within ∙ ap (λ g. take i es ++ g ∷ []) (sym is) in
    let size : length (take i es) ≡ i = length-take-le i es (omega arith) in
    elim (push_cases (take i es) e j f (subst (λ fs. slice_get fs j ≡ Some f) front at)) [
      | inl (lt, old) ↦ lies_same m k (first + j) f.value (others (first + j) (λ same. absurd (omega (arith, same, lt, size)))) (laid j f old)
      | inr (end, same) ↦ subst (λ (g : Entry). Lies k (first + j) g.value) same (subst (λ x. Lies k (first + x) e.value) (sym (end ∙ size)) lies)
    ]

pub laid_all : (first i : ℕ) (m : Nodes) (es : List Entry) → length es ≤ i → AreLaidFrom first m (take i es) → AreLaidFrom first m es
laid_all first i m es all laid = subst (AreLaidFrom first m) (take_all i es all) laid
