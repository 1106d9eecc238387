use Rattle.std.proofs.Common.{arith, suc, ◌≡◌, ◌∙◌, ◌+◌, ◌++◌, [], ◌∷◌, get_or, take, drop, Option, None, Some, sym, ap, subst, refl}
use Rattle.std.specs.Prelude.{MatchOption}
use Rattle.std.proofs.lemmas.List.{take_more, length-take-le}
use Rattle.std.proofs.Math.Seq.{split_at}
use Rattle.nuc_observe.specs.Listing.{IsGood, IsGoodListing, nothing, more}
use Rattle.nuc_observe.specs.Seen.{HasSeen, place_of}
use Rattle.nuc_observe.proofs.judge.first_bad.Goals as goal

pub loop-index-init : goal.loop-index-init
loop-index-init g c = record { seen = c.new-seen.ensures; good = nothing }

pub loop-index-preserved : goal.loop-index-preserved
loop-index-preserved g c =
    let items = c.args.items.now in
    let i = c.loop-index.index in
    let earlier = take i items in
    let item = c.index-items-index.result in
    let grown : take (i + 1) items ≡ earlier ++ item ∷ [] = take_more items i item (omega arith) ∙ ap (λ x. earlier ++ x ∷ []) (sym c.index-items-index.is) in
    let found = c.in_ok-place.ensures earlier c.loop-index.invariant.seen in
    let good = subst (λ o. MatchOption o (¬ (IsGood c.args.keys.now.now (g.T.TreeLike.nodes c.args.local.now) earlier item))
    (λ place. IsGood c.args.keys.now.now (g.T.TreeLike.nodes c.args.local.now) earlier item × (place ≡ place_of item))) c.in-Some.is found in
    record {
      seen = subst (HasSeen c.add.new.self) (sym grown) (c.in_ok-add.ensures earlier item c.loop-index.invariant.seen good.0.new refl c.kind_of.ensures good.1);
      good = subst (IsGoodListing c.args.keys.now.now (g.T.TreeLike.nodes c.args.local.now)) (sym grown) (more earlier item c.loop-index.invariant.good good.0);
    }

pub returns-in_default : goal.returns-in_default
returns-in_default g c =
    let items = c.args.items.now in
    let i = c.loop-index.index in
    let earlier = take i items in
    let item = c.index-items-index.result in
    let later = drop (suc i) items in
    let split : items ≡ earlier ++ item ∷ later = split_at items i item (omega arith) ∙ ap (λ x. earlier ++ x ∷ later) (sym c.index-items-index.is) in
    let found = c.in_ok-place.ensures earlier c.loop-index.invariant.seen in
    let bad = subst (λ o. MatchOption o (¬ (IsGood c.args.keys.now.now (g.T.TreeLike.nodes c.args.local.now) earlier item))
    (λ place. IsGood c.args.keys.now.now (g.T.TreeLike.nodes c.args.local.now) earlier item × (place ≡ place_of item))) c.in_default.is found in
    (earlier, item, later, split, ap (λ n. n + 1) (sym (length-take-le i items (omega arith))), c.loop-index.invariant.good, bad)
