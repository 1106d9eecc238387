-- Which content a version has, as edits are entered.
use Rattle.std.proofs.Common.{◌≡◌, ℕ, ◌<◌, ◌++◌, true, false, cond, nat_eq, List, [], ◌∷◌, None, Some, refl, sym, ap, ◌∙◌, arith, All, IsSome, eq-eqb, true≢false}
use Rattle.std.proofs.lemmas.List.Elements.{All-tail}
use Rattle.std.specs.Option.{option_and_then, option_or}
use Rattle.std.specs.Prelude.{is_some}
use Rattle.nuc_edits.specs.Edits.{IsNext, WasPut, edit_of, content_at, content_put}
use Rattle.nuc_edits.specs.declared.edit.Edit.{Edit}
use Rattle.nuc_edits.specs.declared.edit.EditKind.TheVariants as edit
use Rattle.nuc_hash.specs.Content.{ContentData}

-- THE NEXT VERSION has no edit yet
no_edit : (next : ℕ) (edits : List Edit) → All (λ edit. edit.ver.0 < next) edits → edit_of edits next ≡ None
no_edit next [] below = refl
no_edit next (e ∷ es) below =
    let first : e.ver.0 < next = below 0 e (omega arith) in
    let other : nat_eq next e.ver.0 ≡ false = grind (arith, first) in
    ap (λ b. cond b (Some e) (edit_of es next)) other ∙ no_edit next es (All-tail (λ (edit : Edit). edit.ver.0 < next) e es below)

pub next_has_none : (next : ℕ) (edits : List Edit) → IsNext next edits → edit_of edits next ≡ None
next_has_none next edits is_next = no_edit next edits is_next.above

-- A version keeps its edit, and what is entered later is found where none had the version
edit_more : (v : ℕ) (edits more : List Edit) → edit_of (edits ++ more) v ≡ option_or (edit_of edits v) (edit_of more v)
edit_more v [] more = refl
edit_more v (e ∷ es) more =
    elim (nat_eq v e.ver.0) as (λ b. cond b (Some e) (edit_of (es ++ more) v) ≡ option_or (cond b (Some e) (edit_of es v)) (edit_of more v)) [
      | true ↦ refl
      | false ↦ edit_more v es more
    ]

pub content_kept : (v : ℕ) (edits more : List Edit) → WasPut edits v → content_at (edits ++ more) v ≡ content_at edits v
content_kept v edits more put =
    ap (option_and_then (λ (edit : Edit). content_put edit.what)) (edit_more v edits more)
    ∙ (elim (edit_of edits v) as (λ found. IsSome (option_and_then (λ (edit : Edit). content_put edit.what) found)
    → option_and_then (λ (edit : Edit). content_put edit.what) (option_or found (edit_of more v)) ≡ option_and_then (λ (edit : Edit). content_put edit.what) found) [
      | None ↦ λ h. absurd (true≢false (sym h))
      | Some e ↦ λ _. refl
    ]) put

pub content_entered : (edits : List Edit) (edit : Edit) → IsNext edit.ver.0 edits → content_at (edits ++ edit ∷ []) edit.ver.0 ≡ content_put edit.what
content_entered edits edit is_next =
    ap (option_and_then (λ (e : Edit). content_put e.what))
    (edit_more edit.ver.0 edits (edit ∷ []) ∙ ap (λ found. option_or found (edit_of (edit ∷ []) edit.ver.0)) (next_has_none edit.ver.0 edits is_next)
    ∙ ap (λ b. cond b (Some edit) None) (eq-eqb edit.ver.0 edit.ver.0 refl))

-- VERSIONS that were put are so in the longer list
pub put_kept : (edits more : List Edit) (v : ℕ) → WasPut edits v → WasPut (edits ++ more) v
put_kept edits more v was = ap is_some (content_kept v edits more was) ∙ was

pub put_entered : (edits : List Edit) (e : Edit) (content : ContentData) → IsNext e.ver.0 edits → e.what ≡ edit.Put content → WasPut (edits ++ e ∷ []) e.ver.0
put_entered edits e content next what = ap is_some (content_entered edits e next ∙ ap content_put what)
