use Rattle.std.proofs.Common.{ℕ, List, subst, sym}
use Rattle.nuc_blocks.specs.Blocks.{IsBlock}
use Rattle.nuc_blocks.proofs.Formed.{found_block}
use Rattle.nuc_blocks.proofs.store.Store.get.Goals as goal

pub returns-in-Some-clause-block : goal.returns-in-Some-clause-block
returns-in-Some-clause-block c =
    let found = found_block c.self.inside.blocks.entries c.self.invariant.0.each c.args.digest.now c.in-Some.bytes.now (sym c.in-Some.ensures.value) in
    subst (λ (bytes : List ℕ). IsBlock c.args.digest.now bytes) (sym c.as_slice.ensures) found
