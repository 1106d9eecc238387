use Rattle.std.proofs.Common.{◌≡◌, ◌<◌, ℕ, Bool, false, List, [], ◌∷◌, ◌++◌, Option, Some, All, MatchOption, sym, ap, subst, ◌∙◌, arith}
use Rattle.std.proofs.lemmas.List.Elements.{All-push}
use Rattle.nuc_base.specs.Trees.{Nodes, OneKind, WellFormed}
use Rattle.nuc_class.specs.Due.{IsDue, NothingDue}
use Rattle.nuc_class.specs.declared.op.Op.{Op}
use Rattle.nuc_safety.specs.Batch.{IsPossible}
use Rattle.nuc_safety.proofs.Pairs.{due_possible}
use Rattle.nuc_safety.proofs.tests.all_due.Goals as goal
use Rattle.nuc_safety.proofs.tests.all_due.Goals.{in-Some+in_ok-push, in_default}

possible_if_found : (same : ℕ → ℕ → Bool) (r l s : Nodes) (x : ℕ) (found : Option Op) (op : Op) → WellFormed r → WellFormed l → OneKind r l → 0 < x
    → MatchOption found (NothingDue same r l s x) (IsDue same r l s x) → found ≡ Some op → IsPossible r l s op
possible_if_found same r l s x found op remote local kinds below told is =
    due_possible same r l s x op remote local kinds below (subst (λ (o : Option Op). MatchOption o (NothingDue same r l s x) (IsDue same r l s x)) is told)

one_more : (P : Op → Type 0) (before after : List Op) (op : Op) → after ≡ before ++ op ∷ [] → All P before → P op → All P after
one_more P before after op is all one = subst (λ ops. All P ops) (sym is) (All-push P before op all one)

pub loop-id-preserved : goal.loop-id-preserved
loop-id-preserved c =
    let r : Nodes = c.args.r.now.nodes in
    let l : Nodes = c.args.l.now.nodes in
    let s : Nodes = c.args.s.now.nodes in
    let below : 0 < c.loop-id.id = omega arith in
    elim c.match-branch-2.branch [
      | in-Some+in_ok-push w ↦
          one_more (IsPossible r l s) c.loop-id.ops.items c.match-branch-2.ops.items w.in-Some.op (ap (λ v. v.items) w.ops-is ∙ w.in_ok-push.ensures.items) c.loop-id.invariant
          (possible_if_found (λ a b. false) r l s c.loop-id.id c.in_ok-op.field-0 w.in-Some.op c.requires.remote c.requires.local c.requires.kinds below c.in_ok-op.ensures w.in-Some.is)
      | in_default w ↦ subst (λ ops. All (IsPossible r l s) ops) (sym (ap (λ v. v.items) w.ops-is)) c.loop-id.invariant
    ]
