-- What the entries of a log print.
use Rattle.std.specs.Prelude.{ℕ, List, [], ◌∷◌, ◌++◌, Bool, true, false, Option, Some, None, codes, decimal}
use Rattle.std.specs.List.{flat_map}
use Rattle.hex.specs.Hex.{encode_lower}
use Rattle.nuc_class.specs.declared.op.Op.{Op}
use Rattle.nuc_class.specs.declared.op.Verb.{Verb}
use Rattle.nuc_class.specs.declared.op.Verb.TheVariants as verb
use Rattle.nuc_folder.specs.declared.item.Item.{Item}
use Rattle.nuc_folder.specs.declared.user_edit.UserEdit.{UserEdit}
use Rattle.nuc_folder.specs.declared.user_edit.UserEdit.TheVariants as edit
use Rattle.nuc_hash.specs.Content.{ContentData}
use Rattle.nuc_log.specs.declared.event.Event.{Event}
use Rattle.nuc_log.specs.declared.event.Event.TheVariants as event
use Rattle.nuc_log.specs.declared.log.LogEntry.{LogEntry}
use Rattle.nuc_log.specs.declared.log.LogEntry.TheVariants.{Opened, Stepped}
use Rattle.nuc_log.specs.declared.reply.Reply.{Reply}
use Rattle.nuc_log.specs.declared.reply.Reply.TheVariants as reply
use Rattle.nuc_report.specs.Answers.{reply_words}
use Rattle.nuc_report.specs.Line.{line}
use Rattle.nuc_script.specs.Text.{content_text, escaped, path_text, switch_text, web_words}
use Rattle.nuc_step.specs.declared.answers.Planned.TheVariants as plan

-- a file with the bit is a program
abbrev pub file_word : Bool → List ℕ
file_word true = codes "program"
file_word false = codes "file"

-- kind, size and hash; a folder has no bytes
abbrev pub item_words : Bool → Option ContentData → List (List ℕ)
item_words bit None = codes "folder" ∷ codes "0" ∷ codes "-" ∷ []
item_words bit (Some content) = file_word bit ∷ decimal content.size ∷ encode_lower content.hash.0 ∷ []

abbrev pub item_line : Item → List ℕ
item_line item =
    line (codes "item" ∷ decimal item.key.0 ∷ decimal item.parent.0 ∷ item_words item.bit item.content ++ escaped item.name ∷ [])

abbrev pub verb_word : Verb → List ℕ
verb_word verb.Down = codes "down"
verb_word verb.Up = codes "up"
verb_word verb.CutDown = codes "cutdown"
verb_word verb.CutUp = codes "cutup"
verb_word verb.Forget = codes "forget"
verb_word verb.Adopt = codes "adopt"
verb_word verb.Split = codes "split"
verb_word verb.Unmove = codes "unmove"
verb_word verb.Revive = codes "revive"
verb_word verb.Evict = codes "evict"

abbrev pub op_line : Op → List ℕ
op_line op = line (codes "op" ∷ decimal op.number ∷ verb_word op.verb ∷ decimal op.id.0 ∷ decimal op.other.0 ∷ [])

-- what a user did, without the client
abbrev pub user_edit_words : UserEdit → List (List ℕ)
user_edit_words (edit.Mkdir path) = codes "mkdir" ∷ path_text path ∷ []
user_edit_words (edit.Write path content) = codes "write" ∷ path_text path ∷ content_text content ∷ []
user_edit_words (edit.Move from to) = codes "move" ∷ path_text from ∷ path_text to ∷ []
user_edit_words (edit.Remove path) = codes "remove" ∷ path_text path ∷ []
user_edit_words (edit.Bit path on) = codes "bit" ∷ path_text path ∷ switch_text on ∷ []

abbrev pub event_words : Event → List (List ℕ)
event_words (event.User client edit) = codes "user" ∷ decimal client ∷ user_edit_words edit
event_words (event.Web edit) = web_words edit
event_words (event.List client) = codes "list" ∷ decimal client ∷ []
event_words (event.Scan client) = codes "scan" ∷ decimal client ∷ []
event_words (event.Watch client) = codes "watch" ∷ decimal client ∷ []
event_words (event.Pull client) = codes "pull" ∷ decimal client ∷ []
event_words (event.Plan client) = codes "plan" ∷ decimal client ∷ []
event_words (event.Start client number) = codes "start" ∷ decimal client ∷ decimal number ∷ []
event_words (event.Take client number) = codes "take" ∷ decimal client ∷ decimal number ∷ []
event_words (event.Done client number) = codes "done" ∷ decimal client ∷ decimal number ∷ []
event_words (event.Restart client) = codes "restart" ∷ decimal client ∷ []
event_words (event.Mark client) = codes "sync" ∷ decimal client ∷ []

-- what stands below an answer: the items of a listing, the operations of a plan
abbrev pub reply_lines : Reply → List ℕ
reply_lines (reply.Listed changes items) = flat_map item_line items
reply_lines (reply.Plan (plan.Booked op)) = op_line op
reply_lines (reply.Plan (plan.Batch ops)) = flat_map op_line ops
reply_lines (reply.Plan (plan.Mend op)) = op_line op
reply_lines _ = []

abbrev pub opening_word : Bool → List ℕ
opening_word true = codes "kept"
opening_word false = codes "fresh"

-- what one entry of a log prints
abbrev pub entry_text : LogEntry → List ℕ
entry_text (Opened clients kept) = line (codes "open" ∷ decimal clients ∷ opening_word kept ∷ [])
entry_text (Stepped event reply) = line (event_words event ++ reply_words reply) ++ reply_lines reply

abbrev pub log_text : List LogEntry → List ℕ
log_text log = flat_map entry_text log
