-- The codes of events, replies and the entries of a log, for a `Model` whose value has them.
use Rattle.std.specs.Coded.{Coded}
use Rattle.nuc_log.specs.contracts.event.Event as event
use Rattle.nuc_log.specs.contracts.log.LogEntry as entry
use Rattle.nuc_log.specs.contracts.reply.Reply as reply
use Rattle.nuc_log.specs.declared.event.Event.{Event}
use Rattle.nuc_log.specs.declared.log.LogEntry.{LogEntry}
use Rattle.nuc_log.specs.declared.reply.Reply.{Reply}

abbrev pub event_code : Coded Event
event_code = event.the_row.coded

abbrev pub reply_code : Coded Reply
reply_code = reply.the_row.coded

abbrev pub log_entry_code : Coded LogEntry
log_entry_code = entry.the_row.coded
