use Rattle.std.proofs.Common.{◌-◌, ℕ, List, MatchOption, take, length, drop, sym, subst}
use Rattle.nuc_paths.specs.Paths.{LeadsNowhereOn, LeadsOn, place_in}
use Rattle.nuc_paths.proofs.Following.{below_leads, first_and_rest}
use Rattle.nuc_paths.proofs.path.+follow_on.Goals as goal

pub returns-in-Some : goal.returns-in-Some
returns-in-Some g k c =
    let m = g.T.TreeLike.nodes c.args.tree.now in
    let names = c.args.rest.now in
    let whole = first_and_rest names c.next-item.result c.in-len1-up.len_at_least c.next-item.is in
    subst (λ (all : List (List ℕ)). MatchOption c.follow_on.result (LeadsNowhereOn m c.args.from.0 c.args.name.now all) (λ at. LeadsOn m c.args.from.0 c.args.name.now all (place_in at.0.0 at.1.now)))
    (sym whole)
    (below_leads c.follow_on.result (λ at. place_in at.0.0 at.1.now) m c.args.from.0 c.args.name.now c.next-item.result (take (length names - 1) (drop 1 names)) c.in-Some.below.0 c.requires c.in-Some.ensures c.follow_on.ensures)
