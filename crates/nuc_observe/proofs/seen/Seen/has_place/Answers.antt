use Rattle.std.proofs.Common.{sym, ◌∙◌, ap, subst}
use Rattle.std.specs.Prelude.{MatchBool}
use Rattle.nuc_observe.specs.Listing.{IsPlacedApart}
use Rattle.nuc_observe.specs.Seen.{is_placed}
use Rattle.nuc_observe.proofs.Apart.{placed_tells}
use Rattle.nuc_observe.proofs.seen.Seen.has_place.Goals as goal

pub returns : goal.returns
returns c = λ items item seen place.
    subst (λ t. MatchBool t (¬ (IsPlacedApart items item)) (IsPlacedApart items item))
    (sym (c.contains.ensures ∙ seen.places c.args.place.now ∙ ap (is_placed items) place))
    (placed_tells items item)
