use Rattle.std.proofs.Common.{◌≡◌, ℕ, Bool, true, false, not, List, refl, ap, sym, ◌∙◌, true≢false, arith}
use Rattle.std.proofs.lemmas.Slice.Eq.{bytes_eq-Decides}
use Rattle.nuc_hash.specs.Content.{digest_of}
use Rattle.nuc_hash.specs.declared.digest.Digest.{Digest}
use Rattle.nuc_blocks.proofs.store.Store.keeps.Goals as goal

named : List ℕ → Digest
named bytes = record { 0 = bytes }

holds : (b : Bool) → false ≡ not b → b ≡ true
holds true e = refl
holds false e = absurd (true≢false (sym e))

pub returns-then-ne-clause-fault : goal.returns-then-ne-clause-fault
unfolding digest_of named
returns-then-ne-clause-fault c = (
  ap named (sym c.digest.ensures),
  λ same. true≢false (c.if-ne.ensures ∙ ap not ((bytes_eq-Decides c.digest.result c.args.digest.now.0).1 (ap (λ (d : Digest). d.0) same))),
)

pub returns-then-bytes-gt-BLOCK-clause-fault : goal.returns-then-bytes-gt-BLOCK-clause-fault
unfolding digest_of named
returns-then-bytes-gt-BLOCK-clause-fault c =
    let same = (bytes_eq-Decides c.digest.result c.args.digest.now.0).0 (holds _ (c.if-ne.ensures)) in
    (ap named (sym c.digest.ensures ∙ same), refl, omega (arith, c.if-bytes-gt-BLOCK.true))

pub returns-clause-block : goal.returns-clause-block
unfolding digest_of named
returns-clause-block c =
    let same = (bytes_eq-Decides c.digest.result c.args.digest.now.0).0 (holds _ (c.if-ne.ensures)) in
    record { hashed = ap named (sym c.digest.ensures ∙ same); short = omega (arith, c.if-bytes-gt-BLOCK.false) }
