use Rattle.std.proofs.Common.{◌≡◌, ◌++◌, ◌∷◌, [], subst, sym}
use Rattle.nuc_log.specs.declared.log.LogEntry.TheVariants as entry
use Rattle.nuc_log.specs.declared.reply.Reply.TheVariants as reply
use Rattle.nuc_server.specs.WebEdits.{WebState}
use Rattle.nuc_world.specs.Parts.{shared_now}
use Rattle.nuc_world.specs.Shares.{EditsShared}
use Rattle.nuc_world.proofs.stepping.step_shared.Goals as goal

pub returns-in-Ok-enter-clause-ok : goal.returns-in-Ok-enter-clause-ok
returns-in-Ok-enter-clause-ok c = record {
  edit = c.in-Web.edit;
  answer = c.in-Ok.reply;
  is = c.in-Web.is;
  edits = subst (λ (t : WebState). EditsShared c.in-Web.edit c.in-Ok.reply (shared_now c.args.shared.now) t) (sym c.settle.ensures.now) c.in-Ok.ensures.ok;
  entered = subst (λ e. c.enter.new.self ≡ c.args.book.now ++ entry.Stepped e (reply.Web c.in-Ok.reply) ∷ []) (sym c.in-Web.is) c.in-Ok-enter.ensures.ok;
}
