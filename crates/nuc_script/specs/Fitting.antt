-- What commands keep to that were read.
use Rattle.std.specs.Prelude.{◌≡◌, ℕ, ◌<◌, ◌≤◌, ◌^◌, Bool, false, List, [], ◌∷◌, ◌++◌, length}
use Rattle.std.specs.List.{AllByRecursion}
use Rattle.nuc_base.specs.Names.{IsName}
use Rattle.nuc_base.specs.declared.path.Path.{Path}
use Rattle.nuc_hash.specs.Filling.{filling_bytes}
use Rattle.nuc_hash.specs.declared.filling.Filling.{Filling}
use Rattle.nuc_folder.specs.declared.user_edit.UserEdit.{UserEdit}
use Rattle.nuc_folder.specs.declared.user_edit.UserEdit.TheVariants as user
use Rattle.nuc_server.specs.declared.web_edit.WebEdit.{WebEdit}
use Rattle.nuc_server.specs.declared.web_edit.WebEdit.TheVariants as web
use Rattle.nuc_script.specs.declared.command.Command.{Command}
use Rattle.nuc_script.specs.declared.command.Command.TheVariants as command
use Rattle.nuc_script.specs.declared.script_read.ScriptRead.TheVariants as read
use Rattle.nuc_script.specs.Commands.{clients_of}
use Rattle.nuc_script.specs.Lines.{is_begun}
use Rattle.nuc_script.specs.Reading.{script_of}

-- one name or more
abbrev pub FitsPath : Path → Type 0
FitsPath path = (0 < length path.names) × AllByRecursion IsName path.names

-- no more bytes than a file can have
abbrev pub FitsContent : Filling → Type 0
FitsContent content = length (filling_bytes content) ≤ 67108864

abbrev pub FitsEdit : UserEdit → Type 0
FitsEdit (user.Mkdir path) = FitsPath path
FitsEdit (user.Write path content) = FitsPath path × FitsContent content
FitsEdit (user.Move from to) = FitsPath from × FitsPath to
FitsEdit (user.Remove path) = FitsPath path
FitsEdit (user.Bit path on) = FitsPath path

abbrev pub FitsWeb : WebEdit → Type 0
FitsWeb (web.Mkdir path) = FitsPath path
FitsWeb (web.Write path content) = FitsPath path × FitsContent content
FitsWeb (web.Move from to) = FitsPath from × FitsPath to
FitsWeb (web.Remove path) = FitsPath path
FitsWeb (web.Bit path on) = FitsPath path

-- a number from 1 to the most
abbrev pub IsUpTo : ℕ → ℕ → Type 0
IsUpTo most n = (1 ≤ n) × (n ≤ most)

-- a command of a script with so many clients, which has begun before it or not
abbrev pub Fits : ℕ → Bool → Command → Type 0
Fits clients begun (command.Clients count) = (begun ≡ false) × IsUpTo 16 count
Fits clients begun (command.User client edit) = IsUpTo clients client × FitsEdit edit
Fits clients begun (command.Web edit) = FitsWeb edit
Fits clients begun (command.List client) = IsUpTo clients client
Fits clients begun (command.Scan client) = IsUpTo clients client
Fits clients begun (command.Watch client) = IsUpTo clients client
Fits clients begun (command.Pull client) = IsUpTo clients client
Fits clients begun (command.Plan client) = IsUpTo clients client
Fits clients begun (command.Restart client) = IsUpTo clients client
Fits clients begun (command.Start client number) = IsUpTo clients client × IsUpTo (2 ^ 62) number
Fits clients begun (command.Take client number) = IsUpTo clients client × IsUpTo (2 ^ 62) number
Fits clients begun (command.Done client number) = IsUpTo clients client × IsUpTo (2 ^ 62) number
Fits clients begun (command.Sync client reverse) = IsUpTo clients client
Fits clients begun (command.Fail client call) = IsUpTo clients client × IsUpTo 1000000 call

-- each fits behind those before it
abbrev pub FitBehind : List Command → List Command → Type 0
FitBehind before [] = Unit {0}
FitBehind before (command ∷ commands) = Fits (clients_of before) (is_begun before) command × FitBehind (before ++ command ∷ []) commands

-- each command fits behind those before it, and there are no more than lines
abbrev pub EveryScriptFits : Type 0
EveryScriptFits = (bytes : List ℕ) (commands : List Command) → script_of bytes ≡ read.Commands commands
    → FitBehind [] commands × (length commands ≤ 1000000)
