-- How the log prints the answers to events.
use Rattle.std.specs.Prelude.{ℕ, List, [], ◌∷◌, codes, decimal, length}
use Rattle.nuc_folder.specs.declared.outcome.Outcome.{Outcome}
use Rattle.nuc_folder.specs.declared.outcome.Outcome.TheVariants as outcome
use Rattle.nuc_folder.specs.declared.ran.RanOp.{RanOp}
use Rattle.nuc_folder.specs.declared.user_edit.UserReply.{UserReply}
use Rattle.nuc_folder.specs.declared.user_edit.UserReply.TheVariants as user
use Rattle.nuc_log.specs.declared.reply.MarkReply.{MarkReply}
use Rattle.nuc_log.specs.declared.reply.MarkReply.TheVariants as mark
use Rattle.nuc_log.specs.declared.reply.Reply.{Reply}
use Rattle.nuc_log.specs.declared.reply.Reply.TheVariants as reply
use Rattle.nuc_log.specs.declared.reply.StartReply.{StartReply}
use Rattle.nuc_log.specs.declared.reply.StartReply.TheVariants as start
use Rattle.nuc_log.specs.declared.reply.TakeReply.{TakeReply}
use Rattle.nuc_log.specs.declared.reply.TakeReply.TheVariants as take
use Rattle.nuc_report.specs.Reasons.{outcome_word, reason_word, refusal_words}
use Rattle.nuc_server.specs.declared.web_edit.WebReply.{WebReply}
use Rattle.nuc_server.specs.declared.web_edit.WebReply.TheVariants as web
use Rattle.nuc_step.specs.declared.answers.Planned.{Planned}
use Rattle.nuc_step.specs.declared.answers.Planned.TheVariants as plan
use Rattle.nuc_step.specs.declared.answers.Scanned.{Scanned}
use Rattle.nuc_step.specs.declared.answers.Scanned.TheVariants as scan
use Rattle.nuc_step.specs.declared.answers.WatchReply.{WatchReply}
use Rattle.nuc_step.specs.declared.answers.WatchReply.TheVariants as watch
use Rattle.nuc_step.specs.declared.reply.DoneReply.{DoneReply}
use Rattle.nuc_step.specs.declared.reply.DoneReply.TheVariants as done

-- want of memory is in no log; it has a word so that each answer has one
abbrev pub user_word : UserReply → List ℕ
user_word user.Ok = codes "ok"
user_word user.NoSuch = codes "nosuch"
user_word user.NoParent = codes "noparent"
user_word user.Kind = codes "kind"
user_word user.Taken = codes "taken"
user_word user.Cycle = codes "cycle"
user_word user.Memory = codes "memory"

-- a refusal has its reason behind it
abbrev pub web_reply_words : WebReply → List (List ℕ)
web_reply_words (web.Accepted revision) = codes "accepted" ∷ decimal revision ∷ []
web_reply_words web.Same = codes "same" ∷ []
web_reply_words web.NoSuch = codes "nosuch" ∷ []
web_reply_words web.NoParent = codes "refused" ∷ codes "noparent" ∷ []
web_reply_words (web.Taken id) = codes "refused" ∷ codes "taken" ∷ decimal id.0 ∷ []
web_reply_words web.Cycle = codes "refused" ∷ codes "cycle" ∷ []
web_reply_words web.NotEmpty = codes "refused" ∷ codes "notempty" ∷ []
web_reply_words web.KindChanged = codes "refused" ∷ codes "kind" ∷ []
web_reply_words web.Memory = codes "memory" ∷ []

abbrev pub scan_words : Scanned → List (List ℕ)
scan_words (scan.Changed count) = codes "changed" ∷ decimal count ∷ []
scan_words scan.NoListing = codes "none" ∷ []
scan_words (scan.Stale changes) = codes "stale" ∷ decimal changes ∷ []
scan_words (scan.Bad number) = codes "bad" ∷ decimal number ∷ []

abbrev pub watch_words : WatchReply → List (List ℕ)
watch_words (watch.Changed id) = codes "changed" ∷ decimal id.0 ∷ []
watch_words watch.Rescan = codes "rescan" ∷ []

abbrev pub plan_words : Planned → List (List ℕ)
plan_words plan.Empty = codes "empty" ∷ []
plan_words (plan.Booked op) = codes "record" ∷ []
plan_words (plan.Batch ops) = codes "batch" ∷ decimal (length ops) ∷ []
plan_words (plan.Mend op) = codes "mend" ∷ []
plan_words (plan.Busy count) = codes "busy" ∷ decimal count ∷ []

abbrev pub start_word : StartReply → List ℕ
start_word (start.Ok bytes) = codes "ok"
start_word start.Changed = codes "changed"
start_word start.Failed = codes "failed"
start_word start.NoSuchOp = codes "none"

-- what was made has its key behind it, and a failure how many calls were made before it
abbrev pub ran_words : Outcome → ℕ → List (List ℕ)
ran_words outcome.Ok made = codes "ok" ∷ []
ran_words (outcome.Made key) made = codes "made" ∷ decimal key.0 ∷ []
ran_words outcome.Changed made = codes "changed" ∷ []
ran_words outcome.Taken made = codes "taken" ∷ []
ran_words outcome.NotEmpty made = codes "notempty" ∷ []
ran_words outcome.Failed made = codes "failed" ∷ decimal made ∷ []
ran_words outcome.Memory made = codes "memory" ∷ []

abbrev pub take_words : TakeReply → List (List ℕ)
take_words (take.Folder ran) = ran_words ran.outcome ran.made
take_words (take.Accepted revision) = codes "accepted" ∷ decimal revision ∷ []
take_words (take.Refused refusal) = codes "refused" ∷ refusal_words refusal
take_words take.NoSuchOp = codes "none" ∷ []

-- an operation that was dropped has its reason behind the word
abbrev pub done_words : DoneReply → List (List ℕ)
done_words done.Applied = codes "applied" ∷ []
done_words done.Stale = codes "stale" ∷ []
done_words (done.Dropped reason) = codes "dropped" ∷ reason_word reason ∷ []
done_words done.NoSuchOp = codes "none" ∷ []

abbrev pub mark_words : MarkReply → List (List ℕ)
mark_words mark.Quiet = codes "quiet" ∷ []
mark_words (mark.Stalled count) = codes "stalled" ∷ decimal count ∷ []

-- a restart has no answer
abbrev pub reply_words : Reply → List (List ℕ)
reply_words (reply.User answer) = user_word answer ∷ []
reply_words (reply.Web answer) = web_reply_words answer
reply_words (reply.Listed changes items) = decimal changes ∷ decimal (length items) ∷ []
reply_words (reply.Scan answer) = scan_words answer
reply_words (reply.Watch answer) = watch_words answer
reply_words reply.Nothing = codes "nothing" ∷ []
reply_words (reply.Pulled entries cursor) = decimal entries ∷ decimal cursor ∷ []
reply_words (reply.Plan answer) = plan_words answer
reply_words (reply.Started answer) = start_word answer ∷ []
reply_words (reply.Took answer) = take_words answer
reply_words (reply.Done answer) = done_words answer
reply_words reply.Restarted = []
reply_words (reply.Marked answer) = mark_words answer
