use Rattle.std.proofs.Common.{◌≡◌, ℕ, ◌<◌, List, [], ◌∷◌, ◌++◌, length, ap, ◌∙◌, arith, append-nil}
use Rattle.std.proofs.lemmas.List.{nil_from_length}
use Rattle.nuc_hash.specs.Content.{digest_of}
use Rattle.nuc_hash.specs.declared.digest.Digest.{Digest}
use Rattle.nuc_hash.specs.declared.content.TheConstants.{BLOCK}
use Rattle.nuc_hash.proofs.Hashing.{whole_end, short_end}
use Rattle.nuc_hash.proofs.blocks.Blocks.finish.Goals as goal

pub returns-then-fill-gt0 : goal.returns-then-fill-gt0
unfolding digest_of
returns-then-fill-gt0 c bytes h =
    let some : 0 < length h.rest = omega (arith, h.fill, c.if-fill-gt0.true) in
    let short : length h.rest < BLOCK = omega (arith, h.fill, h.short) in
    let digest = ap (λ (b : List ℕ). record { 0 = b }) (c.finalize.ensures h.rest h.running) in
    let items = c.push_reserved.ensures.items ∙ ap (λ (d : Digest). c.args.self.digests.items ++ d ∷ []) digest in
    rw h.all (items ∙ short_end _ h.whole h.rest h.digests some short)

pub returns-else-fill-gt0 : goal.returns-else-fill-gt0
returns-else-fill-gt0 c bytes h =
    let none : h.rest ≡ [] = nil_from_length h.rest (omega (arith, h.fill, c.if-fill-gt0.false)) in
    let all : bytes ≡ h.whole = h.all ∙ ap (λ (rest : List ℕ). h.whole ++ rest) none ∙ append-nil h.whole in
    rw all (whole_end _ h.whole h.digests)
