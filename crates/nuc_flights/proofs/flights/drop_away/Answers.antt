use Rattle.std.proofs.Common.{rules}
use Rattle.std.proofs.lemmas.List.Elements.{filter_from_retain}
use Rattle.nuc_flights.specs.Slots.{is_kept}
use Rattle.nuc_flights.proofs.flights.drop_away.Goals as goal

pub returns : goal.returns
returns c = filter_from_retain _ is_kept (λ p x b q says. search rules) _ _ _ c.retain.ensures.filtered
