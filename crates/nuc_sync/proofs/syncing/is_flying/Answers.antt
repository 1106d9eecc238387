use Rattle.std.proofs.Common.{◌≡◌, ◌<◌, ℕ, Bool, Some, None, MatchBool, length, nat_lt, sym, ap, subst, inl, inr, ◌∙◌, arith}
use Rattle.std.proofs.lemmas.Bool.Decides.{leb_tells}
use Rattle.nuc_world.specs.State.{MemberState}
use Rattle.nuc_sync.proofs.syncing.is_flying.Goals as goal

counted : (n k : ℕ) → k ≡ n → MatchBool (nat_lt 0 n) (0 < k) (k ≡ 0)
counted n k is = elim (leb_tells 1 n) [
  | inl (hits, some) ↦ subst (λ (b : Bool). MatchBool b (0 < k) (k ≡ 0)) (sym hits) (omega (arith, is, some))
  | inr (miss, none) ↦ subst (λ (b : Bool). MatchBool b (0 < k) (k ≡ 0)) (sym miss) (omega (arith, is, none))
]

same_member : (m k : MemberState) → Some m ≡ Some k → m ≡ k
same_member m k is = cc

pub returns-in-Some : goal.returns-in-Some
returns-in-Some g c = λ m is.
    let same = same_member m _ (sym is ∙ c.in-Some.ensures) in
    counted c.flying.result (length m.client.flights) (ap (λ (k : MemberState). length k.client.flights) same ∙ sym c.flying.ensures)

pub returns-in-None : goal.returns-in-None
returns-in-None g c = λ m is. let none = sym c.in-None.ensures ∙ is in cc
