-- What comes of watching, by what is pending.
use Rattle.std.specs.Prelude.{Option, None, Some}
use Rattle.nuc_log.specs.declared.reply.Reply.TheVariants as reply
use Rattle.nuc_step.specs.declared.answers.WatchReply.{WatchReply}
use Rattle.nuc_world.specs.State.{Turn}
use Rattle.nuc_world.specs.Step.{Watches}

-- the oldest change is taken over, or nothing is pending
abbrev pub WatchesOldest : Option WatchReply → Turn → Turn → Type 0
WatchesOldest None t u = Watches t.member.folder.pending reply.Nothing t u
WatchesOldest (Some answer) t u = Watches t.member.folder.pending (reply.Watch answer) t u
