use Rattle.std.proofs.Common.{◌∙◌, ap, refl, sym, subst}
use Rattle.std.specs.FinMap.{get}
use Rattle.std.specs.Prelude.{MatchOption}
use Rattle.nuc_base.specs.Trees.{IsVacant, StandsAt}
use Rattle.nuc_base.specs.declared.node.Place.{Place}
use Rattle.nuc_index.specs.Indexes.{tree_of}
use Rattle.nuc_index.specs.Places.{to_place}
use Rattle.nuc_index.specs.Slots.{ids_in}
use Rattle.nuc_index.proofs.Places.{stands_of, vacant}
use Rattle.nuc_index.proofs.Rows.{found}
use Rattle.nuc_index.proofs.tree.IndexTreeTreeLike.at.Goals as goal

pub id_at-requires : goal.id_at-requires
id_at-requires c k h = c.self.invariant.slots.full k (c.self.invariant.slots.places k h)

pub returns-in-Ok : goal.returns-in-Ok
returns-in-Ok c =
    let p : Place = record { parent = c.args.parent; name = c.args.name.now } in
    let m = tree_of c.self.inside.entries c.self.inside.indexes in
    let x = found (λ y. to_place (get m y.0) p) (ids_in c.self.inside.entries c.self.inside.indexes.places.items) c.in-Ok.at c.in-Ok.ensures.place in
    subst (λ o. MatchOption o (IsVacant c.args.self.now.nodes p) (λ y. StandsAt c.args.self.now.nodes y.0 p)) (sym (c.id_at.ensures ∙ x.1))
    (subst (λ n. StandsAt n x.0.0 p) (ap (λ s. s.nodes) c.self.view_is) (stands_of m p x.0.0 (get m x.0.0) refl x.2))

pub returns-in-Err : goal.returns-in-Err
returns-in-Err c =
    let p : Place = record { parent = c.args.parent; name = c.args.name.now } in
    let lists = c.self.invariant.lists in
    subst (λ m. IsVacant m p) (ap (λ s. s.nodes) c.self.view_is) (vacant _ _ lists.places_rise lists.places p c.in-Err.field-0 c.in-Err.ensures.place)
