use Rattle.std.proofs.Common.{◌≡◌, ◌∙◌, subst, sym}
use denote.Enum.Bare.{same_true, true_same}
use Rattle.nuc_base.proofs.Answered.{cases_of_decides}
use Rattle.nuc_class.specs.Wishes.{IsWish}
use Rattle.nuc_class.specs.contracts.wishes.Wish.{the_type}
use Rattle.nuc_class.proofs.Rows.{one_wish}
use Rattle.nuc_conflict.proofs.topmost.wishes.Goals as goal

pub returns : goal.returns
returns g c =
    let nodes = g.T.TreeLike.nodes in
    cases_of_decides c.eq.result (c.wish.result ≡ c.args.wanted) _ _
    (λ t. same_true the_type tt c.wish.result c.args.wanted (sym c.eq.ensures ∙ t), λ e. c.eq.ensures ∙ true_same the_type c.wish.result c.args.wanted e)
    (λ e. subst (λ v. IsWish (g.H.Hashes.same c.args.h.now) (nodes c.args.r.now) (nodes c.args.l.now) (nodes c.args.s.now) c.args.id.0 v) e c.wish.ensures)
    (λ other too. other (one_wish (g.H.Hashes.same c.args.h.now) (nodes c.args.r.now) (nodes c.args.l.now) (nodes c.args.s.now) c.args.id.0 c.wish.result
    c.args.wanted c.wish.ensures too))
