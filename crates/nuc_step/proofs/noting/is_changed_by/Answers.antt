use Rattle.std.specs.Prelude.{MatchBool, not}
use Rattle.std.proofs.Common.{◌≡◌, ◌≢◌, None, Some, sym, subst}
use Rattle.nuc_base.specs.Changes.{changed}
use Rattle.nuc_step.proofs.Noticed.{cut_differs, put_differs}
use Rattle.nuc_step.proofs.noting.is_changed_by.Goals as goal

pub returns-in-Put : goal.returns-in-Put
returns-in-Put g c =
    let m = g.T.TreeLike.nodes c.args.tree.now in
    let x = c.args.op.now.id.0 in
    let n = c.in-Put.node in
    subst (λ l. MatchBool (not c.value_eq.result) (changed m x l ≢ m) (changed m x l ≡ m)) (sym c.in-Put.is)
    (put_differs c.value_eq.result m x n (subst (λ o. MatchBool c.value_eq.result (o ≡ Some n) (o ≢ Some n)) c.get.ensures c.value_eq.ensures.tells))

pub returns-in-Cut : goal.returns-in-Cut
returns-in-Cut g c =
    let m = g.T.TreeLike.nodes c.args.tree.now in
    let x = c.args.op.now.id.0 in
    let b = c.value_eq-in-Cut.result in
    subst (λ l. MatchBool (not b) (changed m x l ≢ m) (changed m x l ≡ m)) (sym c.in-Cut.is)
    (cut_differs b m x (subst (λ o. MatchBool b (o ≡ None) (o ≢ None)) c.get-in-Cut.ensures c.value_eq-in-Cut.ensures.tells))
