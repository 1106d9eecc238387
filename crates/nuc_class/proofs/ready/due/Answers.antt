use Rattle.std.proofs.Common.{◌≡◌, Some, sym, subst, ◌<◌, rules}
use Rattle.std.specs.FinMap.{get}
use Rattle.nuc_class.specs.Op.{operation}
use Rattle.nuc_class.proofs.Fits.{operation_id, operations_fit}
use Rattle.nuc_class.proofs.Rows.{not_legal_not_due}
use Rattle.nuc_class.proofs.ready.due.Goals as goal

pub is_legal-requires-clause-id : goal.is_legal-requires-clause-id
is_legal-requires-clause-id g c =
    let id = c.args.id.0 in
    let r = g.T.TreeLike.nodes c.args.r.now in
    let l = g.T.TreeLike.nodes c.args.l.now in
    let s = g.T.TreeLike.nodes c.args.s.now in
    let is : operation (g.H.Hashes.same c.args.h.now) c.wish-wish.result id (get r id) (get l id) (get s id) ≡ Some c.in-Some.op = search rules in
    subst (λ x. 0 < x) (sym (operation_id _ _ id _ _ _ c.in-Some.op is)) c.requires.id

pub is_legal-requires-clause-fits : goal.is_legal-requires-clause-fits
is_legal-requires-clause-fits g c =
    let id = c.args.id.0 in
    let r = g.T.TreeLike.nodes c.args.r.now in
    let l = g.T.TreeLike.nodes c.args.l.now in
    let s = g.T.TreeLike.nodes c.args.s.now in
    let is : operation (g.H.Hashes.same c.args.h.now) c.wish-wish.result id (get r id) (get l id) (get s id) ≡ Some c.in-Some.op = search rules in
    operations_fit _ r l s id c.wish-wish.result c.in-Some.op c.requires.remote c.requires.local c.requires.kinds is

pub returns-else-is_legal : goal.returns-else-is_legal
returns-else-is_legal g c =
    let id = c.args.id.0 in
    let r = g.T.TreeLike.nodes c.args.r.now in
    let l = g.T.TreeLike.nodes c.args.l.now in
    let s = g.T.TreeLike.nodes c.args.s.now in
    let is : operation (g.H.Hashes.same c.args.h.now) c.wish-wish.result id (get r id) (get l id) (get s id) ≡ Some c.in-Some.op = search rules in
    not_legal_not_due (g.H.Hashes.same c.args.h.now) r l s id c.wish-wish.result c.in-Some.op c.wish-wish.ensures is c.if-is_legal.ensures
