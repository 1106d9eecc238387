-- What the words of an edit mean.
use Rattle.std.specs.Prelude.{ℕ, List, Option, Some, None, Result, Ok, Err}
use Rattle.nuc_folder.specs.declared.user_edit.UserEdit.{UserEdit}
use Rattle.nuc_folder.specs.declared.user_edit.UserEdit.TheVariants as user
use Rattle.nuc_server.specs.declared.web_edit.WebEdit.{WebEdit}
use Rattle.nuc_server.specs.declared.web_edit.WebEdit.TheVariants as web
use Rattle.nuc_script.specs.declared.fault.LineFault.{LineFault}
use Rattle.nuc_script.specs.declared.fault.LineFault.TheVariants as fault
use Rattle.nuc_script.specs.declared.verb.EditVerb.{EditVerb}
use Rattle.nuc_script.specs.declared.verb.EditVerb.TheVariants as edit
use Rattle.nuc_script.specs.Meaning.{◌>>=◌}
use Rattle.nuc_script.specs.Words.{one_word, two_words, cut_word}
use Rattle.nuc_script.specs.Table.{edit_verb}
use Rattle.nuc_script.specs.Arguments.{path_word, content_word, switch_word}
use Rattle.nuc_script.specs.Escapes.{unescaped}

unfoldable pub mkdir_edit : List (List ℕ) → Result UserEdit LineFault
mkdir_edit words = do
  word ← one_word words
  path ← path_word word
  Ok (user.Mkdir path)

unfoldable pub write_edit : List (List ℕ) → Result UserEdit LineFault
write_edit words = do
  both ← two_words words
  path ← path_word both.0
  content ← content_word both.1
  Ok (user.Write path content)

unfoldable pub move_edit : List (List ℕ) → Result UserEdit LineFault
move_edit words = do
  both ← two_words words
  from ← path_word both.0
  to ← path_word both.1
  Ok (user.Move from to)

unfoldable pub remove_edit : List (List ℕ) → Result UserEdit LineFault
remove_edit words = do
  word ← one_word words
  path ← path_word word
  Ok (user.Remove path)

unfoldable pub bit_edit : List (List ℕ) → Result UserEdit LineFault
bit_edit words = do
  both ← two_words words
  path ← path_word both.0
  on ← switch_word both.1
  Ok (user.Bit path on)

unfoldable pub edit_of : EditVerb → List (List ℕ) → Result UserEdit LineFault
edit_of edit.Mkdir words = mkdir_edit words
edit_of edit.Write words = write_edit words
edit_of edit.Move words = move_edit words
edit_of edit.Remove words = remove_edit words
edit_of edit.Bit words = bit_edit words

-- the same edit, on the web
abbrev pub on_web : UserEdit → WebEdit
on_web (user.Mkdir path) = web.Mkdir path
on_web (user.Write path content) = web.Write path content
on_web (user.Move from to) = web.Move from to
on_web (user.Remove path) = web.Remove path
on_web (user.Bit path on) = web.Bit path on

-- the words behind `web`
abbrev pub web_edit_of : Option EditVerb → List (List ℕ) → Result WebEdit LineFault
web_edit_of None words = Err fault.Word
web_edit_of (Some verb) words = edit_of verb words >>= λ edit. Ok (on_web edit)

unfoldable pub web_edit : List (List ℕ) → Result WebEdit LineFault
web_edit words = do
  cut ← cut_word words
  web_edit_of (edit_verb (unescaped cut.0)) cut.1
