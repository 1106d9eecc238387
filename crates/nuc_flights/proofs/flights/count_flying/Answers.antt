use Rattle.std.proofs.Common.{rules}
use Rattle.std.proofs.lemmas.Iterator.{YieldsList-from_slice}
use Rattle.std.proofs.lemmas.Iterator.Consumers.{YieldsList-from_filter, count_from_yields_List}
use Rattle.nuc_flights.specs.Slots.{is_kept}
use Rattle.nuc_flights.proofs.flights.count_flying.Goals as goal
use borrow.Author.Tests.{tests}

pub returns : goal.returns
returns c =
    count_from_yields_List c.filter.result c.count.result c.count.ensures.ran
    (YieldsList-from_filter _ is_kept (YieldsList-from_slice c.args.slots.now cc) c.filter.ensures.closure (λ x b q k. search (rules, tests)))
