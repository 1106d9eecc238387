use Rattle.std.proofs.Common.{◌≡◌, ◌≢◌, ◌<◌, ◌≤◌, ℕ, List, [], ◌∷◌, length, ap, arith, rules}
use Rattle.std.specs.List.{take_while}
use Rattle.std.specs.Str.Lossy.{utf8_valid_len}
use Rattle.std.proofs.lemmas.Str.{utf8_valid_len_le}
use Rattle.nuc_base.specs.Names.{IsName, is_plain, good_len}
use Rattle.nuc_base.proofs.Names.{text_of_len, plain_of_len, take_plain}
use Rattle.nuc_base.proofs.name.check.Goals as goal

name_of : (bytes : List ℕ) (good : ℕ) → 0 < length bytes → length bytes ≤ 255 → good ≡ good_len bytes → length bytes ≤ good
    → (bytes ≢ 46 ∷ []) × (bytes ≢ 46 ∷ 46 ∷ []) → IsName bytes
name_of bytes good some short is above dots =
    let front = utf8_valid_len_le (take_while is_plain bytes) in
    let plain = plain_of_len bytes (omega arith) in
    let whole : utf8_valid_len (take_while is_plain bytes) ≡ utf8_valid_len bytes = ap utf8_valid_len (take_plain bytes plain) in
    let within = utf8_valid_len_le bytes in
    record { some = some; short = short; text = text_of_len bytes (omega arith); plain = plain; not_dot = dots.0; not_dots = dots.1 }

pub returns : goal.returns
returns c = name_of _ _ (search rules) c.if-bytes-gt-MAX_LEN.false c.good_front-good.ensures.value c.if-good-bytes.false c.if-is_dots.ensures
