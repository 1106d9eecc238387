use Rattle.std.proofs.Common.{Bool, true, false, ◌≡◌, ◌≢◌, refl, ap, sym, ◌∙◌, ℕ, List, [], ◌∷◌, ◌++◌, append_assoc, Option, Some, None, codes}
use Rattle.std.specs.Fmt.{decimal}
use Rattle.nuc_edits.specs.declared.edit.Edit.{Edit}
use Rattle.nuc_edits.specs.declared.edit.EditKind.{EditKind}
use Rattle.nuc_edits.specs.declared.edit.EditKind.TheVariants.{Put, Deleted}
use Rattle.nuc_folder.specs.declared.item.Item.{Item}
use Rattle.nuc_hash.specs.Content.{ContentData}
use Rattle.nuc_log.specs.declared.event.Event.{Event}
use Rattle.nuc_log.specs.declared.event.Event.TheVariants as event
use Rattle.nuc_log.specs.declared.log.LogEntry.TheVariants.{Stepped}
use Rattle.nuc_log.specs.declared.reply.Reply.{Reply}
use Rattle.nuc_report.specs.Answers.{reply_words}
use Rattle.nuc_report.specs.Entry.{entry_text, event_words, item_line, item_words, reply_lines}
use Rattle.nuc_report.specs.Line.{behind, line}
use Rattle.nuc_report.specs.Report.{change_words, edit_line}
use Rattle.nuc_script.specs.Text.{escaped, joined, web_words}
use Rattle.nuc_server.specs.declared.web_edit.WebEdit.{WebEdit}
use Rattle.nuc_server.specs.declared.web_edit.WebEdit.TheVariants as web

line-joined : (words : List (List ℕ)) → words ≢ [] → line words ≡ joined words ++ 10 ∷ []
line-joined [] some = absurd (some refl)
line-joined (word ∷ []) some = refl
line-joined (word ∷ next ∷ words) some =
    ap (λ rest. word ++ 32 ∷ rest) (line-joined (next ∷ words) (λ e. cc)) ∙ sym (append_assoc word (32 ∷ joined (next ∷ words)) (10 ∷ []))

line-append : (words more : List (List ℕ)) → words ≢ [] → line (words ++ more) ≡ joined words ++ (behind more ++ 10 ∷ [])
line-append [] more some = absurd (some refl)
line-append (word ∷ []) [] some = refl
line-append (word ∷ []) (next ∷ more) some = ap (λ rest. word ++ 32 ∷ rest) (line-joined (next ∷ more) (λ e. cc))
line-append (word ∷ next ∷ words) more some =
    ap (λ rest. word ++ 32 ∷ rest) (line-append (next ∷ words) more (λ e. cc))
    ∙ sym (append_assoc word (32 ∷ joined (next ∷ words)) (behind more ++ 10 ∷ []))

web_has_words : (edit : WebEdit) → web_words edit ≢ []
web_has_words (web.Mkdir path) = λ e. cc
web_has_words (web.Write path content) = λ e. cc
web_has_words (web.Move from to) = λ e. cc
web_has_words (web.Remove path) = λ e. cc
web_has_words (web.Bit path on) = λ e. cc

event_has_words : (event : Event) → event_words event ≢ []
event_has_words (event.User client edit) = λ e. cc
event_has_words (event.Web edit) = web_has_words edit
event_has_words (event.List client) = λ e. cc
event_has_words (event.Scan client) = λ e. cc
event_has_words (event.Watch client) = λ e. cc
event_has_words (event.Pull client) = λ e. cc
event_has_words (event.Plan client) = λ e. cc
event_has_words (event.Start client number) = λ e. cc
event_has_words (event.Take client number) = λ e. cc
event_has_words (event.Done client number) = λ e. cc
event_has_words (event.Restart client) = λ e. cc
event_has_words (event.Mark client) = λ e. cc

-- the line of a step, written in its three parts
pub step_text : (event : Event) (reply : Reply) (happened answer lines text : List ℕ)
    → happened ≡ joined (event_words event) → answer ≡ behind (reply_words reply) → lines ≡ reply_lines reply
    → text ≡ happened ++ (answer ++ 10 ∷ lines) → text ≡ entry_text (Stepped event reply)
step_text event reply happened answer lines text h a l t =
    let one : line (event_words event ++ reply_words reply) ≡ happened ++ (answer ++ 10 ∷ []) =
    rw (h, a) (line-append _ _ (event_has_words event)) in
    rw (one, ← l, append_assoc, append_assoc) t

line-content : (bit : Bool) (content : Option ContentData) (key parent name : List ℕ)
    → codes "item " ++ (key ++ (32 ∷ (parent ++ (32 ∷ (joined (item_words bit content) ++ (32 ∷ (name ++ 10 ∷ [])))))))
    ≡ line (codes "item" ∷ key ∷ parent ∷ item_words bit content ++ name ∷ [])
line-content bit None key parent name = refl
line-content bit (Some content) key parent name = simp append_assoc

-- the line of an item, written in its parts
pub item_text : (item : Item) (content name text : List ℕ) → content ≡ joined (item_words item.bit item.content) → name ≡ escaped item.name
    → text ≡ codes "item " ++ (decimal item.key.0 ++ (32 ∷ (decimal item.parent.0 ++ (32 ∷ (content ++ (32 ∷ (name ++ 10 ∷ [])))))))
    → text ≡ item_line item
item_text item content name text c n t = t ∙ rw (c, n) (line-content item.bit item.content (decimal item.key.0) (decimal item.parent.0) (escaped item.name))

line-change : (what : EditKind) (ver id base : List ℕ)
    → codes "edit " ++ (ver ++ (32 ∷ (id ++ (32 ∷ (base ++ (32 ∷ (joined (change_words what) ++ 10 ∷ [])))))))
    ≡ line (codes "edit" ∷ ver ∷ id ∷ base ∷ change_words what)
line-change (Put content) ver id base = simp append_assoc
line-change Deleted ver id base = refl

-- the line of an edit, written in its parts
pub edit_text : (edit : Edit) (change text : List ℕ) → change ≡ joined (change_words edit.what)
    → text ≡ codes "edit " ++ (decimal edit.ver.0 ++ (32 ∷ (decimal edit.id.0 ++ (32 ∷ (decimal edit.base.0 ++ (32 ∷ (change ++ 10 ∷ [])))))))
    → text ≡ edit_line edit
edit_text edit change text c t = t ∙ rw c (line-change edit.what (decimal edit.ver.0) (decimal edit.id.0) (decimal edit.base.0))
