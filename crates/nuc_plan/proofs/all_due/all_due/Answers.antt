use Rattle.std.proofs.Common.{rules, ◌≡◌, ◌≢◌, ℕ, suc, [], None, Some, MatchOption, sym, ap, subst, ◌∙◌, arith}
use denote.Enum.Bare.{same_true, true_same}
use Rattle.nuc_class.specs.Due.{IsDue, NothingDue}
use Rattle.nuc_class.specs.contracts.op.Effect.{the_type}
use Rattle.nuc_class.specs.declared.op.Effect.TheVariants.{Nothing}
use Rattle.nuc_plan.specs.Walk.{IsDueBelow}
use Rattle.nuc_plan.proofs.Collecting.{all_due, due_found, first_record_step, no_record_step, none_found, none_more, none_yet, one_more}
use Rattle.nuc_plan.proofs.DueFacts.{above_root}
use Rattle.nuc_plan.proofs.Walking.{fewer_left}
use Rattle.nuc_plan.proofs.all_due.all_due.Goals as goal

pub loop-id-init : goal.loop-id-init
loop-id-init g c =
    let r = g.T.TreeLike.nodes c.args.r.now in
    let l = g.T.TreeLike.nodes c.args.l.now in
    let s = g.T.TreeLike.nodes c.args.s.now in
    let same = g.H.Hashes.same c.args.h.now in
    (0, c.new-walk.ensures r l s, none_yet same r l s c.new-ops.result.items c.new-ops.ensures.items)

pub due-requires-clause-id : goal.due-requires-clause-id
due-requires-clause-id g c =
    let r = g.T.TreeLike.nodes c.args.r.now in
    let l = g.T.TreeLike.nodes c.args.l.now in
    let s = g.T.TreeLike.nodes c.args.s.now in
    let same = g.H.Hashes.same c.args.h.now in
    let (below, passed, gathered) = c.loop-id.invariant in
    let goes = c.in-Some.ensures below passed in
    above_root same r l s c.in-Some.id.0 c.requires.remote c.requires.local c.requires.synced goes.next.anywhere

pub returns-then-eq : goal.returns-then-eq
returns-then-eq g c =
    let r = g.T.TreeLike.nodes c.args.r.now in
    let l = g.T.TreeLike.nodes c.args.l.now in
    let s = g.T.TreeLike.nodes c.args.s.now in
    let same = g.H.Hashes.same c.args.h.now in
    let (below, passed, gathered) = c.loop-id.invariant in
    let goes = c.in-Some.ensures below passed in
    let id = c.in-Some.id.0 in
    let op = c.in-Some-2.op in
    let is : IsDue same r l s id op = due_found same r l s id c.in_ok-op.field-0 op c.in-Some-2.is c.in_ok-op.ensures in
    let nowhere : op.effect ≡ Nothing = same_true the_type tt op.effect Nothing (sym c.eq.ensures ∙ c.if-eq.true) in
    first_record_step same r l s below id c.loop-id.ops.items op goes.next is nowhere gathered

pub loop-id-smaller-in-Continue-branch-3 : goal.loop-id-smaller-in-Continue-branch-3
loop-id-smaller-in-Continue-branch-3 g c =
    let (below, passed, gathered) = c.loop-id.invariant in
    fewer_left _ _ _ below c.in-Some.id.0 _ _ (c.in-Some.ensures below passed)

pub loop-id-preserved-in-Continue-branch-3 : goal.loop-id-preserved-in-Continue-branch-3
loop-id-preserved-in-Continue-branch-3 g c =
    let r = g.T.TreeLike.nodes c.args.r.now in
    let l = g.T.TreeLike.nodes c.args.l.now in
    let s = g.T.TreeLike.nodes c.args.s.now in
    let same = g.H.Hashes.same c.args.h.now in
    let (below, passed, gathered) = c.loop-id.invariant in
    let goes = c.in-Some.ensures below passed in
    let id = c.in-Some.id.0 in
    let op = c.in-Some-2.op in
    let is : IsDue same r l s id op = due_found same r l s id c.in_ok-op.field-0 op c.in-Some-2.is c.in_ok-op.ensures in
    let outside : op.effect ≢ Nothing = λ e. let yes = true_same the_type op.effect Nothing e in let no = c.eq.ensures in let f = c.if-eq.false in cc in (
      suc id,
      goes.passed,
      one_more same r l s below id c.loop-id.ops.items c.push.new.self.items op c.in_ok-push.ensures.items goes.next is outside gathered,
    )

pub loop-id-smaller : goal.loop-id-smaller
loop-id-smaller g c =
    let (below, passed, gathered) = c.loop-id.invariant in
    fewer_left _ _ _ below c.in-Some.id.0 _ _ (c.in-Some.ensures below passed)

pub loop-id-preserved : goal.loop-id-preserved
loop-id-preserved g c =
    let r = g.T.TreeLike.nodes c.args.r.now in
    let l = g.T.TreeLike.nodes c.args.l.now in
    let s = g.T.TreeLike.nodes c.args.s.now in
    let same = g.H.Hashes.same c.args.h.now in
    let (below, passed, gathered) = c.loop-id.invariant in
    let goes = c.in-Some.ensures below passed in
    let id = c.in-Some.id.0 in
    let none : NothingDue same r l s id = none_found same r l s id c.in_ok-op.field-0 c.in_default-2.is c.in_ok-op.ensures in
    (suc id, goes.passed, none_more same r l s below id c.loop-id.ops.items goes.next none gathered)

pub returns : goal.returns
returns g c =
    let r = g.T.TreeLike.nodes c.args.r.now in
    let l = g.T.TreeLike.nodes c.args.l.now in
    let s = g.T.TreeLike.nodes c.args.s.now in
    let same = g.H.Hashes.same c.args.h.now in
    let (below, passed, gathered) = c.loop-id.invariant in
    let ended = c.in_default.ensures below passed in
    (all_due same r l s below c.loop-id.ops.items ended gathered, no_record_step same r l s below c.loop-id.ops.items ended gathered)
