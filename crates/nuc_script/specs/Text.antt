-- How commands are printed: in the strict form.
use Rattle.std.specs.Prelude.{ℕ, ◌+◌, ◌/◌, ◌%◌, ◌==◌, ◌&&◌, nat_lt, nat_le, not, Bool, true, false, if◌then◌else◌, List, [], ◌∷◌, ◌++◌, codes, decimal}
use Rattle.std.specs.List.{flat_map}
use Rattle.nuc_base.specs.declared.path.Path.{Path}
use Rattle.nuc_hash.specs.declared.filling.Filling.{Filling}
use Rattle.nuc_hash.specs.declared.filling.Filling.TheVariants.{Given, Repeat}
use Rattle.nuc_folder.specs.declared.user_edit.UserEdit.{UserEdit}
use Rattle.nuc_folder.specs.declared.user_edit.UserEdit.TheVariants as user
use Rattle.nuc_server.specs.declared.web_edit.WebEdit.{WebEdit}
use Rattle.nuc_server.specs.declared.web_edit.WebEdit.TheVariants as web
use Rattle.nuc_script.specs.declared.command.Command.{Command}
use Rattle.nuc_script.specs.declared.command.Command.TheVariants as command

-- words with one space between any two
abbrev pub joined : List (List ℕ) → List ℕ
joined [] = []
joined (word ∷ []) = word
joined (word ∷ next ∷ words) = word ++ 32 ∷ joined (next ∷ words)

-- a byte that stands for itself: one from `!` to `~`, but `%`
abbrev pub is_plain : ℕ → Bool
is_plain byte = nat_le 33 byte && nat_le byte 126 && not (byte == 37)

-- `0` to `9`, then `A` to `F`
abbrev pub hex_digit : ℕ → ℕ
hex_digit value = if nat_lt value 10 then 48 + value else 55 + value

-- a byte as it is printed: itself, or `%` and two digits
abbrev pub escape_text : ℕ → List ℕ
escape_text byte = if is_plain byte then byte ∷ [] else 37 ∷ hex_digit (byte / 16) ∷ hex_digit (byte % 16) ∷ []

abbrev pub escaped : List ℕ → List ℕ
escaped bytes = flat_map escape_text bytes

-- each name after a `/`
abbrev pub path_text : Path → List ℕ
path_text path = flat_map (λ name. 47 ∷ escaped name) path.names

-- `=` and the bytes, or `*N:HH`
abbrev pub content_text : Filling → List ℕ
content_text (Given bytes) = 61 ∷ escaped bytes
content_text (Repeat count byte) = 42 ∷ decimal count ++ 58 ∷ hex_digit (byte / 16) ∷ hex_digit (byte % 16) ∷ []

abbrev pub switch_text : Bool → List ℕ
switch_text true = codes "on"
switch_text false = codes "off"

abbrev pub user_words : ℕ → UserEdit → List (List ℕ)
user_words client (user.Mkdir path) = codes "mkdir" ∷ decimal client ∷ path_text path ∷ []
user_words client (user.Write path content) = codes "write" ∷ decimal client ∷ path_text path ∷ content_text content ∷ []
user_words client (user.Move from to) = codes "move" ∷ decimal client ∷ path_text from ∷ path_text to ∷ []
user_words client (user.Remove path) = codes "remove" ∷ decimal client ∷ path_text path ∷ []
user_words client (user.Bit path on) = codes "bit" ∷ decimal client ∷ path_text path ∷ switch_text on ∷ []

abbrev pub web_words : WebEdit → List (List ℕ)
web_words (web.Mkdir path) = codes "web" ∷ codes "mkdir" ∷ path_text path ∷ []
web_words (web.Write path content) = codes "web" ∷ codes "write" ∷ path_text path ∷ content_text content ∷ []
web_words (web.Move from to) = codes "web" ∷ codes "move" ∷ path_text from ∷ path_text to ∷ []
web_words (web.Remove path) = codes "web" ∷ codes "remove" ∷ path_text path ∷ []
web_words (web.Bit path on) = codes "web" ∷ codes "bit" ∷ path_text path ∷ switch_text on ∷ []

abbrev pub command_words : Command → List (List ℕ)
command_words (command.Clients count) = codes "clients" ∷ decimal count ∷ []
command_words (command.User client edit) = user_words client edit
command_words (command.Web edit) = web_words edit
command_words (command.List client) = codes "list" ∷ decimal client ∷ []
command_words (command.Scan client) = codes "scan" ∷ decimal client ∷ []
command_words (command.Watch client) = codes "watch" ∷ decimal client ∷ []
command_words (command.Pull client) = codes "pull" ∷ decimal client ∷ []
command_words (command.Plan client) = codes "plan" ∷ decimal client ∷ []
command_words (command.Restart client) = codes "restart" ∷ decimal client ∷ []
command_words (command.Start client number) = codes "start" ∷ decimal client ∷ decimal number ∷ []
command_words (command.Take client number) = codes "take" ∷ decimal client ∷ decimal number ∷ []
command_words (command.Done client number) = codes "done" ∷ decimal client ∷ decimal number ∷ []
command_words (command.Sync client false) = codes "sync" ∷ decimal client ∷ []
command_words (command.Sync client true) = codes "sync" ∷ decimal client ∷ codes "reverse" ∷ []
command_words (command.Fail client call) = codes "fail" ∷ decimal client ∷ decimal call ∷ []

-- a command's line, without its LF
abbrev pub command_line : Command → List ℕ
command_line command = joined (command_words command)

-- each command's line, with its LF
abbrev pub script_text : List Command → List ℕ
script_text commands = flat_map (λ command. command_line command ++ 10 ∷ []) commands
