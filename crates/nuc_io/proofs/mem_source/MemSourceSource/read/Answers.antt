use Rattle.std.proofs.Common.{◌≡◌, ◌+◌, ◌-◌, ◌<◌, ◌++◌, ◌≤◌, refl, ap, arith, length, take, drop, subst, ◌∙◌, length-append}
use Rattle.std.proofs.lemmas.Grind.{common_steps}
use Rattle.std.proofs.lemmas.List.{take_all}
use Rattle.nuc_io.proofs.Taking.{copied}
use Rattle.nuc_io.proofs.mem_source.MemSourceSource.read.Goals as goal

pub returns-clause-bytes : goal.returns-clause-bytes
returns-clause-bytes c =
    let count = c.min-count.result in
    let items = c.self.inside.bytes.items in
    let at = c.self.inside.at in
    let rest_is : take (length c.deref.result.now - at) (drop at c.deref.result.now) ≡ drop at items
    = grind (arith, common_steps, take_all) in
    let front_is : c.copy_from_slice.new.self ≡ take count (drop at items) = c.copy_from_slice.ensures.after ∙ ap (λ l. take count l) rest_is in
    let room : 0 < length (drop at items) = grind (arith, common_steps) in
    let within : count ≤ length (drop at items) = omega (arith, c.min-count.ensures, ap length rest_is) in
    let some : 0 < count = omega (arith, c.min-count.ensures, ap length rest_is, c.requires) in
    let long : length c.copy_from_slice.new.self ≡ count = ap length front_is ∙ grind (arith, common_steps) in (
      some,
      omega (arith, length-append c.copy_from_slice.new.self (drop count c.args.buf.now), long),
      (
        drop (at + count) items,
        refl,
        subst (λ s. s.left ≡ take count (c.copy_from_slice.new.self ++ drop count c.args.buf.now) ++ drop (at + count) items) c.self.view_is
            (copied items _ _ at count within front_is long),
      ),
    )
