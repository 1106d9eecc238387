-- An edit on the web, as it changes what all clients share.
use Rattle.std.specs.Prelude.{◌≡◌, ◌≢◌, ◌<◌, ◌+◌, ◌++◌, ◌∷◌, List, []}
use Rattle.nuc_journal.specs.Journal.{IsJournal}
use Rattle.nuc_log.specs.declared.event.Event.{Event}
use Rattle.nuc_log.specs.declared.event.Event.TheVariants as event
use Rattle.nuc_log.specs.declared.log.LogEntry.{LogEntry}
use Rattle.nuc_log.specs.declared.log.LogEntry.TheVariants as entry
use Rattle.nuc_log.specs.declared.reply.Reply.TheVariants as reply
use Rattle.nuc_server.specs.Web.{WebAnswers}
use Rattle.nuc_server.specs.WebEdits.{WebState}
use Rattle.nuc_server.specs.declared.web_edit.WebEdit.{WebEdit}
use Rattle.nuc_server.specs.declared.web_edit.WebReply.{WebReply}
use Rattle.nuc_server.specs.declared.web_edit.WebReply.TheVariants as web
use Rattle.nuc_world.specs.Units.{units_of}
use Rattle.nuc_world.specs.declared.stop.Stop.{Stop}
use Rattle.nuc_world.specs.declared.stop.Stop.TheVariants as stop
use Rattle.nuc_world.specs.declared.stop.TheConstants.{MOST_UNITS}

abbrev pub EditsShared : WebEdit → WebReply → WebState → WebState → Type 0
EditsShared edit answer s t = WebAnswers s edit answer t × (answer ≢ web.Memory) × IsJournal t.entries

-- a web edit was judged, and entered
pub record SharesStep (log : List LogEntry) (e : Event) (s t : WebState) (now : List LogEntry) : Type 0 where
  pub edit : WebEdit
  pub answer : WebReply
  pub is : e ≡ event.Web edit
  pub edits : EditsShared edit answer s t
  pub entered : now ≡ log ++ entry.Stepped e (reply.Web answer) ∷ []

abbrev pub StopsShared : List LogEntry → Stop → Type 0
StopsShared log stop.LogFull = MOST_UNITS < units_of log + 1
StopsShared log stop.Memory = Unit {0}
StopsShared log why = ⊥
