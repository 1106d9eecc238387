-- What the words behind the first ones mean, each with its own fault.
use Rattle.std.specs.Prelude.{ℕ, Bool, true, false, List, Option, Some, None, Result, Ok, Err, codes, if◌then◌else◌}
use Rattle.std.specs.Str.{bytes_eq}
use Rattle.nuc_base.specs.declared.path.Path.{Path}
use Rattle.nuc_hash.specs.declared.filling.Filling.{Filling}
use Rattle.nuc_script.specs.declared.fault.LineFault.{LineFault}
use Rattle.nuc_script.specs.declared.fault.LineFault.TheVariants as fault
use Rattle.nuc_script.specs.Escapes.{unescaped}
use Rattle.nuc_script.specs.Numbers.{number_of, within}
use Rattle.nuc_script.specs.Paths.{path_of}
use Rattle.nuc_script.specs.Contents.{content_of}

-- what was found, or else this fault
abbrev pub or_fault : {A : Type 0} → LineFault → Option A → Result A LineFault
or_fault fault None = Err fault
or_fault fault (Some x) = Ok x

-- a client: 1 to this count
unfoldable pub client_word : ℕ → List ℕ → Result ℕ LineFault
client_word count word = or_fault fault.Client (within 1 count (number_of (unescaped word)))

-- a number from 1 up to the most
unfoldable pub number_word : ℕ → List ℕ → Result ℕ LineFault
number_word most word = or_fault fault.Number (within 1 most (number_of (unescaped word)))

unfoldable pub path_word : List ℕ → Result Path LineFault
path_word word = or_fault fault.Path (path_of (unescaped word))

unfoldable pub content_word : List ℕ → Result Filling LineFault
content_word word = or_fault fault.Content (content_of (unescaped word))

abbrev pub switch_of : List ℕ → Option Bool
switch_of word = if bytes_eq word (codes "on") then Some true else (if bytes_eq word (codes "off") then Some false else None)

-- `on` or `off`
unfoldable pub switch_word : List ℕ → Result Bool LineFault
switch_word word = or_fault fault.Switch (switch_of (unescaped word))

-- `reverse`
unfoldable pub order_word : List ℕ → Result Bool LineFault
order_word word = if bytes_eq (unescaped word) (codes "reverse") then Ok true else Err fault.Order
