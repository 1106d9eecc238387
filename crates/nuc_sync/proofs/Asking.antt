-- What replies tell of the tasks that are asked for.
use Rattle.std.proofs.Common.{◌≡◌, ◌++◌, ◌+◌, ◌-◌, ℕ, zero, suc, Bool, true, false, cond, List, [], ◌∷◌, Option, Some, None, length, refl, sym, ap, subst, ◌∙◌, arith, length-append}
use Rattle.std.specs.Prelude.{◌==◌, not, slice_get}
use Rattle.nuc_class.specs.declared.op.Effect.{Effect}
use Rattle.nuc_class.specs.declared.op.Effect.TheVariants as effect
use Rattle.nuc_class.specs.declared.op.Op.{Op}
use Rattle.nuc_log.specs.declared.reply.Reply.{Reply}
use Rattle.nuc_log.specs.declared.reply.Reply.TheVariants as reply
use Rattle.nuc_log.specs.declared.reply.StartReply.TheVariants as start
use Rattle.nuc_step.specs.declared.answers.Planned.{Planned}
use Rattle.nuc_step.specs.declared.answers.Planned.TheVariants as plan
use Rattle.nuc_step.specs.declared.reply.DoneReply.TheVariants as done
use Rattle.nuc_sync.specs.Asked.{AreNumbers, Asks, AsksMend, AsksPlan, asked_tasks, has_applied, has_begun, has_pulled}
use Rattle.nuc_sync.specs.Tasks.{after_mend, begins, ends, in_order, more, next, plans, pulls, takes}
use Rattle.nuc_sync.specs.declared.replies.Asked.{Asked}
use Rattle.nuc_sync.specs.declared.replies.Asked.TheVariants as asked

-- THE LAST of a list
module _ {X : Type 0} where
  at_end : (xs : List X) (x : X) → slice_get (xs ++ x ∷ []) (length xs) ≡ Some x
  at_end [] x = refl
  at_end (y ∷ xs) x = at_end xs x

  pub last_of : (xs : List X) (x : X) → slice_get (xs ++ x ∷ []) (length (xs ++ x ∷ []) - 1) ≡ Some x
  last_of xs x =
      let end : length (xs ++ x ∷ []) - 1 ≡ length xs = omega (arith, length-append xs (x ∷ [])) in
      ap (slice_get (xs ++ x ∷ [])) end ∙ at_end xs x

-- A PULL
turned : (b : Bool) (client : ℕ) → cond b [] (pulls client ∷ []) ≡ cond (not b) (pulls client ∷ []) []
turned true client = refl
turned false client = refl

pub pulled_asks : (client : ℕ) (r : Reply) → more (pulls client) r ≡ cond (has_pulled (Some r)) (pulls client ∷ []) []
pulled_asks client (reply.Pulled entries cursor) = turned (entries == 0) client
pulled_asks client r = refl

-- AN OPERATION
module _ (client : ℕ) (backwards : Bool) (n : ℕ) (left : List ℕ) (applied : Bool) where
  pub begun_asks : (r : Reply) → more (begins client backwards n left applied) r
      ≡ cond (has_begun (Some r)) (takes client backwards n left applied ∷ []) (ends client backwards n left applied ∷ [])
  begun_asks (reply.Started (start.Ok bytes)) = refl
  begun_asks r = refl

  pub applied_asks : (r : Reply) → more (ends client backwards n left applied) r ≡ next client backwards left (cond (has_applied (Some r)) true applied)
  applied_asks (reply.Done done.Applied) = refl
  applied_asks r = refl

-- A PLAN
module _ (client : ℕ) (backwards : Bool) where
  numbers_ask : (a : Asked) (ns : List ℕ) → AreNumbers a ns → next client backwards ns false ≡ asked_tasks client backwards a
  numbers_ask asked.Nothing ns are = absurd are
  numbers_ask asked.Plan ns are = absurd are
  numbers_ask (asked.Operations numbers) ns are = ap (λ (xs : List ℕ). next client backwards xs false) (sym are)

  mend_asks : (op : Op) (e : Effect) (a : Asked) → AsksMend op e a → after_mend client backwards op e ≡ asked_tasks client backwards a
  mend_asks op effect.Nothing a is = ap (asked_tasks client backwards) (sym is)
  mend_asks op effect.Disk a is = numbers_ask a (op.number ∷ []) is
  mend_asks op effect.Commit a is = numbers_ask a (op.number ∷ []) is

  pub plan_asks : (r : Reply) (a : Asked) → Asks backwards (Some r) a → more (plans client backwards) r ≡ asked_tasks client backwards a
  plan_asks (reply.Plan (plan.Booked op)) a is = ap (asked_tasks client backwards) (sym is)
  plan_asks (reply.Plan (plan.Batch ops)) a is = numbers_ask a (in_order backwards ops) is
  plan_asks (reply.Plan (plan.Mend op)) a is = mend_asks op op.effect a is
  plan_asks r a is = ap (asked_tasks client backwards) (sym is)
