use Rattle.std.proofs.Common.{◌≡◌, ◌∙◌, List, ℕ, Result, IfOk, Vec, Global}
use Rattle.std.proofs.lemmas.Result.{IfOk-weaker}
use Rattle.nuc_base.proofs.Candidates.{candidate_is}
use Rattle.nuc_base.proofs.copy_name.candidate.Goals as goal

with_items : {E : Type 0} (r : Result (Vec ℕ Global) E) (x y : List ℕ) → x ≡ y → IfOk r (λ b. b.items ≡ x) → IfOk r (λ b. b.items ≡ y)
with_items r x y same ok = IfOk-weaker r (λ b. b.items ≡ x) (λ b. b.items ≡ y) (λ b e. e ∙ same) ok

pub returns : goal.returns
returns c =
    let middle = c.as_bytes-label.ensures.value ∙ c.in_ok-label.ensures.value in
    let same = candidate_is c.args.name.now c.args.number c.extension_len.result _ _ _ _ c.cut_text.ensures.value
    c.split_at.ensures.front c.split_at.ensures.back c.extension_len.ensures.value middle in
    with_items c.joined.result _ _ same c.joined.ensures
