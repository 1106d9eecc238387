use Rattle.std.proofs.Common.{ℕ, Vec, Global, ap, ◌∙◌}
use Rattle.nuc_hash.specs.Content as hash
use Rattle.nuc_hash_many.proofs.Collected.{collected}
use Rattle.rayon.proofs.ToStd.{slice-AllZip}
use Rattle.nuc_hash_many.proofs.many.content_of_many.Goals as goal

pub returns : goal.returns
returns g c =
    let slice = ap (λ it. it.base.slice.now) c.map.ensures.base ∙ ap (λ it. it.slice.now) c.with_min_len.ensures.base ∙ c.par_iter.ensures in
    let (answers, chain, gathered) = c.in_ok-collect.ensures in
    let zip = slice-AllZip chain.0 c.args.files.now (chain.1 ∙ slice) _ answers chain.2 in
    collected _ (λ (file : Vec ℕ Global). hash.content_of file.items) _ c.args.files.now answers c.in_ok-collect.field-0 zip gathered
