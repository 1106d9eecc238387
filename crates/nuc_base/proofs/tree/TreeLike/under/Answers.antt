use Rattle.std.proofs.Common.{◌≡◌, ◌≢◌, Some, rules, arith, sym, subst}
use Rattle.std.specs.FinMap as map
use Rattle.nuc_base.specs.Trees.{IsUnder}
use Rattle.nuc_base.specs.Trees.Under.{here, up}
use Rattle.nuc_base.proofs.Chains.{short_chain, next_step, no_step}
use Rattle.nuc_base.proofs.Answered.{cases_of_eqb}
use Rattle.nuc_base.proofs.tree.TreeLike.under.Goals as goal

pub loop-init : goal.loop-init
loop-init g c = record {
  back = λ u. u;
  on = λ u. let s = short_chain _ _ _ u in (s.0, s.1, (let few = s.2 in omega (arith, c.len-end.ensures)));
}

pub returns-then-eq : goal.returns-then-eq
returns-then-eq g c =
    let e : c.loop.at.0 ≡ c.args.b.0 = search rules in
    c.loop.invariant.back (subst (λ z. IsUnder (g.Self.TreeLike.nodes c.args.self.now) z c.args.b.0) (sym e) here)

pub loop-preserved : goal.loop-preserved
loop-preserved g c =
    let stands : map.get (g.Self.TreeLike.nodes c.args.self.now) c.loop.at.0 ≡ Some c.in-Some.node.now = sym c.in-Some.ensures in
    let apart : c.loop.at.0 ≢ c.args.b.0 = search rules in
    record {
      back = λ u. c.loop.invariant.back (up _ _ stands u);
      on = λ u.
          let s = c.loop.invariant.on u in
          let rest = next_step _ _ _ s.0 c.in-Some.node.now s.1 apart stands in
          (rest.0, rest.1, (let left = s.2 in let one = rest.2 in omega arith));
    }

pub returns : goal.returns
returns g c = cases_of_eqb c.eq-2.result c.loop.at.0 c.args.b.0 _ _ c.eq-2.ensures
    (λ e. c.loop.invariant.back (subst (λ z. IsUnder (g.Self.TreeLike.nodes c.args.self.now) z c.args.b.0) (sym e) here))
    (λ apart u. let s = c.loop.invariant.on u in apart (no_step _ _ _ s.0 s.1 (let left = s.2 in omega arith)))
