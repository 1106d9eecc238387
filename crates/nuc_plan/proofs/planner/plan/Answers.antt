use Rattle.std.proofs.Common.{◌≡◌, ◌≢◌, [], length, MatchOption, ap, subst, arith}
use Rattle.std.proofs.lemmas.Grind.{common_steps}
use Rattle.std.proofs.lemmas.List.{nil_from_length}
use Rattle.nuc_conflict.specs.FitTogether.{FitTogether}
use Rattle.nuc_conflict.specs.Mends.{IsMend}
use Rattle.nuc_conflict.specs.Remedies.{NoRemedy}
use Rattle.nuc_conflict.proofs.Cuts.{mend_or_equal}
use Rattle.nuc_plan.specs.Plans.{IsPlan}
use Rattle.nuc_plan.specs.Walk.{IsFound}
use Rattle.nuc_plan.specs.declared.plans.Plan.TheVariants as plan
use Rattle.nuc_plan.proofs.Cases.{all_possible, empty_where_equal, mend_wished, nothing_due, some_operation}
use Rattle.nuc_plan.proofs.planner.plan.Goals as goal

pub first_fit-requires-clause-due : goal.first_fit-requires-clause-due
first_fit-requires-clause-due g c =
    let r = g.T.TreeLike.nodes c.args.r.now in
    let l = g.T.TreeLike.nodes c.args.l.now in
    let s = g.T.TreeLike.nodes c.args.s.now in
    let same = g.H.Hashes.same c.args.h.now in
    let found = subst (λ f. IsFound same r l s f) c.in-Due.is c.in_ok-op.ensures in
    all_possible same r l s c.in-Due.due.items found.0 c.requires.remote c.requires.local c.requires.synced c.requires.remote_local

pub returns-then-not-is_empty : goal.returns-then-not-is_empty
returns-then-not-is_empty g c =
    let r = g.T.TreeLike.nodes c.args.r.now in
    let l = g.T.TreeLike.nodes c.args.l.now in
    let s = g.T.TreeLike.nodes c.args.s.now in
    let same = g.H.Hashes.same c.args.h.now in
    let next = c.args.next.0 in
    let due = c.in-Due.due.items in
    let ops = c.in_ok-first_fit.field-0 in
    let found = subst (λ f. IsFound same r l s f) c.in-Due.is c.in_ok-op.ensures in
    let some : due ≢ [] = λ e.
    let short : length due ≡ 0 = ap length e in
    grind (arith, common_steps, short, c.in-Due.due.ok.0, c.is_empty.ensures, c.if-not-is_empty.true) in
    let is : IsPlan same r l s next (plan.Batch ops) = record {
      due = due;
      all = found.0;
      some = some;
      outside = found.1;
      taken = c.in_ok-first_fit.ensures.first_fit;
    } in
    record {
      plan = is;
      empty = empty_where_equal same r l s next (plan.Batch ops) is;
      some = some_operation same r l s next (plan.Batch ops) is;
    }

pub returns-in-Some : goal.returns-in-Some
returns-in-Some g c =
    let r = g.T.TreeLike.nodes c.args.r.now in
    let l = g.T.TreeLike.nodes c.args.l.now in
    let s = g.T.TreeLike.nodes c.args.s.now in
    let same = g.H.Hashes.same c.args.h.now in
    let next = c.args.next.0 in
    let op = c.in-Some.op in
    let found = subst (λ f. IsFound same r l s f) c.in-Due.is c.in_ok-op.ensures in
    let short : length c.in-Due.due.items ≡ 0 = grind (arith, common_steps, c.in-Due.due.ok.0, c.is_empty.ensures, c.if-not-is_empty.false) in
    let none : c.in-Due.due.items ≡ [] = nil_from_length c.in-Due.due.items short in
    let mend = subst (λ o. MatchOption o (NoRemedy same r l s) (IsMend same r l s next)) c.in-Some.is c.in_ok-op-2.ensures in
    let is : IsPlan same r l s next (plan.Mend op) = record {
      wished = mend_wished same r l s next op mend;
      stuck = nothing_due same r l s c.in-Due.due.items found.0 none;
      mend = mend;
    } in
    record {
      plan = is;
      empty = empty_where_equal same r l s next (plan.Mend op) is;
      some = some_operation same r l s next (plan.Mend op) is;
    }

pub returns : goal.returns
returns g c =
    let r = g.T.TreeLike.nodes c.args.r.now in
    let l = g.T.TreeLike.nodes c.args.l.now in
    let s = g.T.TreeLike.nodes c.args.s.now in
    let same = g.H.Hashes.same c.args.h.now in
    let next = c.args.next.0 in
    let found = subst (λ f. IsFound same r l s f) c.in-Due.is c.in_ok-op.ensures in
    let short : length c.in-Due.due.items ≡ 0 = grind (arith, common_steps, c.in-Due.due.ok.0, c.is_empty.ensures, c.if-not-is_empty.false) in
    let none : c.in-Due.due.items ≡ [] = nil_from_length c.in-Due.due.items short in
    let no_mend = subst (λ o. MatchOption o (NoRemedy same r l s) (IsMend same r l s next)) c.in-None.is c.in_ok-op-2.ensures in
    let fit : FitTogether r l s = record {
      remote = c.requires.remote;
      local = c.requires.local;
      synced = c.requires.synced;
      remote_local = c.requires.remote_local;
      remote_synced = c.requires.remote_synced;
      local_synced = c.requires.local_synced;
    } in
    let is : IsPlan same r l s next plan.Empty = mend_or_equal same r l s fit (nothing_due same r l s c.in-Due.due.items found.0 none) no_mend in
    record {
      plan = is;
      empty = empty_where_equal same r l s next plan.Empty is;
      some = some_operation same r l s next plan.Empty is;
    }
