-- Each edit that is printed is read again.
use Rattle.std.proofs.Common.{◌≡◌, ℕ, Bool, true, false, ◌==◌, List, [], ◌∷◌, length, Some, Result, Ok, Err, codes, refl, ap, subst, ◌∙◌}
use Rattle.std.specs.Prelude.{decimal}
use Rattle.std.specs.List.{AllByRecursion}
use Rattle.nuc_base.specs.declared.path.Path.{Path}
use Rattle.nuc_hash.specs.declared.filling.Filling.{Filling}
use Rattle.nuc_folder.specs.declared.user_edit.UserEdit.{UserEdit}
use Rattle.nuc_folder.specs.declared.user_edit.UserEdit.TheVariants as user
use Rattle.nuc_script.specs.declared.fault.LineFault.{LineFault}
use Rattle.nuc_script.specs.declared.verb.Verb.TheVariants as verb
use Rattle.nuc_script.specs.declared.verb.EditVerb.{EditVerb}
use Rattle.nuc_script.specs.declared.verb.EditVerb.TheVariants as edit
use Rattle.nuc_script.specs.Meaning.{◌>>=◌}
use Rattle.nuc_script.specs.Escapes.{unescaped}
use Rattle.nuc_script.specs.Words.{one_word, two_words, is_comment}
use Rattle.nuc_script.specs.Table.{edit_verb, takes, verb_of}
use Rattle.nuc_script.specs.Arguments.{path_word, content_word, switch_word}
use Rattle.nuc_script.specs.Edits.{mkdir_edit, write_edit, move_edit, remove_edit, bit_edit, edit_of, on_web}
use Rattle.nuc_script.specs.Text.{path_text, content_text, switch_text, user_words, web_words}
use Rattle.nuc_script.proofs.JoinedWords.{IsWord}
use Rattle.nuc_script.proofs.PathsBack.{IsPath}
use Rattle.nuc_script.proofs.Bytes.{AreBytes, HasBytes}
use Rattle.nuc_script.proofs.ArgumentsBack.{path_word_is, path_word_back, path_text_word, content_word_is, content_word_back, content_text_word, switch_back, switch_text_word, literal}

-- the value of a step that did not fail
pub bind_ok : {A B : Type 0} (r : Result A LineFault) (f : A → Result B LineFault) (y : B) → (r >>= f) ≡ Ok y → (x : A) × (r ≡ Ok x) × (f x ≡ Ok y)
bind_ok (Ok x) f y e = (x, refl, e)
bind_ok (Err k) f y e = absurd cc

abbrev done : {A : Type 0} → A → Result A LineFault
done x = Ok x

pub ok_is : {A : Type 0} (x y : A) → done x ≡ done y → x ≡ y
ok_is x y e = cc

pub one_bytes : (words : List (List ℕ)) (word : List ℕ) → AllByRecursion AreBytes words → one_word words ≡ Ok word → AreBytes word
one_bytes [] word all e = absurd cc
one_bytes (first ∷ []) word all e = subst AreBytes (ok_is first word e) all.0
one_bytes (first ∷ next ∷ words) word all e = absurd cc

pub two_bytes : (words : List (List ℕ)) (both : List ℕ × List ℕ) → AllByRecursion AreBytes words → two_words words ≡ Ok both → AreBytes both.0 × AreBytes both.1
two_bytes [] both all e = absurd cc
two_bytes (first ∷ []) both all e = absurd cc
two_bytes (first ∷ second ∷ []) both (one, (two, rest)) e =
    subst (λ (p : List ℕ × List ℕ). AreBytes p.0 × AreBytes p.1) (ok_is (first, second) both e) (one, two)
two_bytes (first ∷ second ∷ next ∷ words) both all e = absurd cc

-- WHAT IS PRINTED
abbrev pub edit_kind : UserEdit → EditVerb
edit_kind (user.Mkdir path) = edit.Mkdir
edit_kind (user.Write path content) = edit.Write
edit_kind (user.Move from to) = edit.Move
edit_kind (user.Remove path) = edit.Remove
edit_kind (user.Bit path on) = edit.Bit

abbrev pub verb_text : EditVerb → List ℕ
verb_text edit.Mkdir = codes "mkdir"
verb_text edit.Write = codes "write"
verb_text edit.Move = codes "move"
verb_text edit.Remove = codes "remove"
verb_text edit.Bit = codes "bit"

abbrev pub edit_args : UserEdit → List (List ℕ)
edit_args (user.Mkdir path) = path_text path ∷ []
edit_args (user.Write path content) = path_text path ∷ content_text content ∷ []
edit_args (user.Move from to) = path_text from ∷ path_text to ∷ []
edit_args (user.Remove path) = path_text path ∷ []
edit_args (user.Bit path on) = path_text path ∷ switch_text on ∷ []

pub user_words_are : (client : ℕ) (e : UserEdit) → user_words client e ≡ verb_text (edit_kind e) ∷ decimal client ∷ edit_args e
user_words_are client (user.Mkdir path) = refl
user_words_are client (user.Write path content) = refl
user_words_are client (user.Move from to) = refl
user_words_are client (user.Remove path) = refl
user_words_are client (user.Bit path on) = refl

pub web_words_are : (e : UserEdit) → web_words (on_web e) ≡ codes "web" ∷ verb_text (edit_kind e) ∷ edit_args e
web_words_are (user.Mkdir path) = refl
web_words_are (user.Write path content) = refl
web_words_are (user.Move from to) = refl
web_words_are (user.Remove path) = refl
web_words_are (user.Bit path on) = refl

pub verb_word : (v : EditVerb) → IsWord (verb_text v)
verb_word edit.Mkdir = literal _ _ refl
verb_word edit.Write = literal _ _ refl
verb_word edit.Move = literal _ _ refl
verb_word edit.Remove = literal _ _ refl
verb_word edit.Bit = literal _ _ refl

pub verb_read : (v : EditVerb) → edit_verb (unescaped (verb_text v)) ≡ Some v
verb_read edit.Mkdir = refl
verb_read edit.Write = refl
verb_read edit.Move = refl
verb_read edit.Remove = refl
verb_read edit.Bit = refl

pub first_read : (v : EditVerb) → verb_of (unescaped (verb_text v)) ≡ Some (verb.Edit v)
first_read edit.Mkdir = refl
first_read edit.Write = refl
first_read edit.Move = refl
first_read edit.Remove = refl
first_read edit.Bit = refl

pub verb_no_comment : (v : EditVerb) → is_comment (verb_text v) ≡ false
verb_no_comment edit.Mkdir = refl
verb_no_comment edit.Write = refl
verb_no_comment edit.Move = refl
verb_no_comment edit.Remove = refl
verb_no_comment edit.Bit = refl

-- the words of the edit, printed, give it again
pub record EditAgain (e : UserEdit) : Type 0 where
  pub args : AllByRecursion IsWord (edit_args e)
  pub counted : (length (edit_args e) == takes (edit_kind e)) ≡ true
  pub again : edit_of (edit_kind e) (edit_args e) ≡ Ok e

mkdir_again : (path : Path) → IsPath path.names → EditAgain (user.Mkdir path)
unfolding edit_of mkdir_edit
mkdir_again path is = record {
  args = (path_text_word path is, tt);
  counted = refl;
  again = ap (λ r. r >>= λ p. Ok (user.Mkdir p)) (path_word_back path is);
}

remove_again : (path : Path) → IsPath path.names → EditAgain (user.Remove path)
unfolding edit_of remove_edit
remove_again path is = record {
  args = (path_text_word path is, tt);
  counted = refl;
  again = ap (λ r. r >>= λ p. Ok (user.Remove p)) (path_word_back path is);
}

write_again : (path : Path) (content : Filling) → IsPath path.names → HasBytes content → EditAgain (user.Write path content)
unfolding edit_of write_edit
write_again path content is all = record {
  args = (path_text_word path is, (content_text_word content all, tt));
  counted = refl;
  again =
      ap (λ r. r >>= λ p. content_word (content_text content) >>= λ c. Ok (user.Write p c)) (path_word_back path is)
      ∙ ap (λ r. r >>= λ c. Ok (user.Write path c)) (content_word_back content all);
}

move_again : (from to : Path) → IsPath from.names → IsPath to.names → EditAgain (user.Move from to)
unfolding edit_of move_edit
move_again from to is other = record {
  args = (path_text_word from is, (path_text_word to other, tt));
  counted = refl;
  again =
      ap (λ r. r >>= λ p. path_word (path_text to) >>= λ q. Ok (user.Move p q)) (path_word_back from is)
      ∙ ap (λ r. r >>= λ q. Ok (user.Move from q)) (path_word_back to other);
}

bit_again : (path : Path) (on : Bool) → IsPath path.names → EditAgain (user.Bit path on)
unfolding edit_of bit_edit
bit_again path on is = record {
  args = (path_text_word path is, (switch_text_word on, tt));
  counted = refl;
  again =
      ap (λ r. r >>= λ p. switch_word (switch_text on) >>= λ s. Ok (user.Bit p s)) (path_word_back path is)
      ∙ ap (λ r. r >>= λ s. Ok (user.Bit path s)) (switch_back on);
}

pub edit_again : (v : EditVerb) (words : List (List ℕ)) (e : UserEdit) → AllByRecursion AreBytes words → edit_of v words ≡ Ok e → EditAgain e
unfolding edit_of mkdir_edit write_edit move_edit remove_edit bit_edit
edit_again edit.Mkdir words e all is =
    let a = bind_ok (one_word words) (λ word. path_word word >>= λ path. Ok (user.Mkdir path)) e is in
    let b = bind_ok (path_word a.0) (λ path. Ok (user.Mkdir path)) e a.2 in
    subst EditAgain (ok_is (user.Mkdir b.0) e b.2) (mkdir_again b.0 (path_word_is a.0 b.0 (one_bytes words a.0 all a.1) b.1))
edit_again edit.Remove words e all is =
    let a = bind_ok (one_word words) (λ word. path_word word >>= λ path. Ok (user.Remove path)) e is in
    let b = bind_ok (path_word a.0) (λ path. Ok (user.Remove path)) e a.2 in
    subst EditAgain (ok_is (user.Remove b.0) e b.2) (remove_again b.0 (path_word_is a.0 b.0 (one_bytes words a.0 all a.1) b.1))
edit_again edit.Write words e all is =
    let a = bind_ok (two_words words) (λ both. path_word both.0 >>= λ path. content_word both.1 >>= λ content. Ok (user.Write path content)) e is in
    let b = bind_ok (path_word a.0.0) (λ path. content_word a.0.1 >>= λ content. Ok (user.Write path content)) e a.2 in
    let c = bind_ok (content_word a.0.1) (λ content. Ok (user.Write b.0 content)) e b.2 in
    let bytes = two_bytes words a.0 all a.1 in
    subst EditAgain (ok_is (user.Write b.0 c.0) e c.2) (write_again b.0 c.0 (path_word_is a.0.0 b.0 bytes.0 b.1) (content_word_is a.0.1 c.0 bytes.1 c.1))
edit_again edit.Move words e all is =
    let a = bind_ok (two_words words) (λ both. path_word both.0 >>= λ from. path_word both.1 >>= λ to. Ok (user.Move from to)) e is in
    let b = bind_ok (path_word a.0.0) (λ from. path_word a.0.1 >>= λ to. Ok (user.Move from to)) e a.2 in
    let c = bind_ok (path_word a.0.1) (λ to. Ok (user.Move b.0 to)) e b.2 in
    let bytes = two_bytes words a.0 all a.1 in
    subst EditAgain (ok_is (user.Move b.0 c.0) e c.2) (move_again b.0 c.0 (path_word_is a.0.0 b.0 bytes.0 b.1) (path_word_is a.0.1 c.0 bytes.1 c.1))
edit_again edit.Bit words e all is =
    let a = bind_ok (two_words words) (λ both. path_word both.0 >>= λ path. switch_word both.1 >>= λ on. Ok (user.Bit path on)) e is in
    let b = bind_ok (path_word a.0.0) (λ path. switch_word a.0.1 >>= λ on. Ok (user.Bit path on)) e a.2 in
    let c = bind_ok (switch_word a.0.1) (λ on. Ok (user.Bit b.0 on)) e b.2 in
    let bytes = two_bytes words a.0 all a.1 in
    subst EditAgain (ok_is (user.Bit b.0 c.0) e c.2) (bit_again b.0 c.0 (path_word_is a.0.0 b.0 bytes.0 b.1))
