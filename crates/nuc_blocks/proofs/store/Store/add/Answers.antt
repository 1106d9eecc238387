use Rattle.std.proofs.Common.{[], ◌∷◌, ◌++◌, take, ap, ◌∙◌, arith, length-append}
use Rattle.std.proofs.lemmas.List.{take-append-le}
use Rattle.nuc_blocks.specs.Blocks.{Blocks}
use Rattle.nuc_blocks.specs.Store.{StoreState}
use Rattle.nuc_blocks.proofs.Formed.{formed_more, inserted}
use Rattle.nuc_blocks.proofs.store.Store.add.Goals as goal

pub invariant_of-self : goal.invariant_of-self
invariant_of-self c =
    let before = c.self.inside.blocks.entries in
    let same = ap (λ (s : StoreState). s.now) c.self.view_is in
    let all = inserted c.self.inside.blocks _ _ c.args.digest.now c.args.bytes same c.requires.missing c.in-Ok.ensures.entries in (
      formed_more before _ c.args.digest.now c.args.bytes c.self.invariant.0 c.requires.block all c.in-Ok.ensures.unique,
      rw (all, length-append before ((c.args.digest.now.0, c.args.bytes) ∷ [])) (omega (arith, c.self.invariant.1)),
    )

pub returns-in-Ok-clause-formed : goal.returns-in-Ok-clause-formed
returns-in-Ok-clause-formed c =
    let before = c.self.inside.blocks.entries in
    let same = ap (λ (s : StoreState). s.now) c.self.view_is in
    let all = inserted c.self.inside.blocks _ _ c.args.digest.now c.args.bytes same c.requires.missing c.in-Ok.ensures.entries in
    formed_more before _ c.args.digest.now c.args.bytes c.self.invariant.0 c.requires.block all c.in-Ok.ensures.unique

pub returns-in-Ok-clause-ok : goal.returns-in-Ok-clause-ok
returns-in-Ok-clause-ok c =
    let same = ap (λ (s : StoreState). s.now) c.self.view_is in
    let all = inserted c.self.inside.blocks _ _ c.args.digest.now c.args.bytes same c.requires.missing c.in-Ok.ensures.entries in
    let front =
    ap (λ (blocks : Blocks). take c.self.inside.settled blocks) all
    ∙ take-append-le c.self.inside.settled c.self.inside.blocks.entries ((c.args.digest.now.0, c.args.bytes) ∷ []) c.self.invariant.1 in
    λ i. record {
      now = (all ∙ ap (λ (blocks : Blocks). blocks ++ (c.args.digest.now.0, c.args.bytes) ∷ []) same) i;
      settled = (front ∙ ap (λ (s : StoreState). s.settled) c.self.view_is) i;
    }
