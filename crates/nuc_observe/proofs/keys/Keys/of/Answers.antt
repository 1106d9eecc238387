use Rattle.std.proofs.Common.{sym, ap, subst, ◌∙◌, arith}
use Rattle.nuc_lookup.specs.Rows.{AreApart, numbers_in}
use Rattle.nuc_observe.specs.Keys.{AreKeys}
use Rattle.nuc_observe.proofs.Bound.{bound_inverse, bound_keys, ids_apart, ids_are, keys_apart}
use Rattle.nuc_observe.proofs.Inverse.{inverse_as}
use Rattle.nuc_observe.proofs.Undoing.{settled_kept}
use Rattle.nuc_observe.proofs.keys.Keys.of.Goals as goal

pub of-requires : goal.of-requires
of-requires c = subst AreApart (sym c.in_ok-rows_by_id.ensures) (ids_apart _ c.requires.apart)

pub of-requires-2 : goal.of-requires-2
of-requires-2 c = subst AreApart (sym c.in_ok-rows_by_key.ensures) (keys_apart _ c.requires.apart)

pub returns-clause-now : goal.returns-clause-now
returns-clause-now c = c.of.ensures.now ∙ ap numbers_in c.in_ok-rows_by_id.ensures ∙ ids_are _

pub invariant_of-result : goal.invariant_of-result
invariant_of-result c =
    let ids = c.of.ensures.now ∙ ap numbers_in c.in_ok-rows_by_id.ensures in
    let inverse = inverse_as _ _ _ _ (bound_inverse _ c.requires.apart) ids (c.of-2.ensures.numbers ∙ ap numbers_in c.in_ok-rows_by_key.ensures) in
    settled_kept c.of.result c.of-2.result c.of.ensures.past
    (subst AreKeys (sym (ids ∙ ids_are _)) (bound_keys c.args.bindings.now c.requires)) inverse (omega (arith, inverse.size, c.of-2.ensures.room))
