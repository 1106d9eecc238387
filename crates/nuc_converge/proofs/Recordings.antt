-- What is recorded is put under a version that isn't 0, and is the content of some bytes.
use Rattle.std.specs.Prelude.{All, IfSome, option_and_then, option_map, option_to_list, unwrap_or}
use Rattle.std.proofs.Common.{◌≡◌, ◌<◌, ◌+◌, ℕ, true, false, cond, nat_eq, List, [], ◌∷◌, Option, Some, None, refl, sym, ◌∙◌, ap, subst, arith}
use Rattle.std.specs.FinMap.{keys}
use Rattle.nuc_base.specs.Legal.{LegalPut}
use Rattle.nuc_base.specs.Trees.{NoChild, Nodes}
use Rattle.nuc_base.specs.declared.node.Counters.{Counters}
use Rattle.nuc_base.specs.declared.node.Kind.{Kind}
use Rattle.nuc_base.specs.declared.node.Kind.TheVariants.{Folder, File}
use Rattle.nuc_base.specs.declared.node.Ver.{Ver}
use Rattle.nuc_edits.specs.Edits.{content_at, content_put, edit_of}
use Rattle.nuc_edits.specs.declared.edit.Edit.{Edit}
use Rattle.nuc_edits.specs.declared.edit.EditKind.{EditKind}
use Rattle.nuc_edits.specs.declared.edit.EditKind.TheVariants as put
use Rattle.nuc_folder.specs.declared.item.Item.{Item}
use Rattle.nuc_folder.specs.declared.noticed.Noticed.{Noticed}
use Rattle.nuc_folder.specs.declared.noticed.Noticed.TheVariants as noticed
use Rattle.nuc_hash.specs.Content.{ContentData}
use Rattle.nuc_observe.specs.Observed.{Before, base_of, deletion_of, deletions, gone, identity, known_node, listed_ids, next_ver_after_puts, own_of_gone, own_version, put_by, put_of, puts}
use Rattle.nuc_observe.specs.Turns.{next_after}
use Rattle.nuc_replica.specs.Local.{LocalState}
use Rattle.nuc_step.specs.Scanning.{IsScanned, VersionsFrom, before_of}
use Rattle.nuc_step.specs.Watching.{LeadsTo, MadeIn, Watching, deletion_of as end_of, edit_of as edit_by, moved, moved_node, own_version as own_version_of, parent_of, removed, with_bit, written, written_edit}
use Rattle.nuc_step.proofs.Leading.{MovedTo, known_there, some_and}
use Rattle.nuc_step.proofs.Versions.{scan_goes_on}
use Rattle.nuc_world.proofs.Items.{all_append, all_first, all_front, all_none, all_rest}
use Rattle.nuc_converge.proofs.Contents.{IsItemOf, IsNoticeOf, IsOfBytes}

-- a deletion puts none
abbrev pub IsWhatOf : EditKind → Type 0
IsWhatOf (put.Put content) = IsOfBytes content
IsWhatOf put.Deleted = Unit {0}

pub record IsRecording (e : Edit) : Type 0 where
  pub some : 0 < e.ver.0
  pub what : IsWhatOf e.what

-- WHICH CONTENT A VERSION HAS
content_by : (e : Edit) (content : ContentData) → IsWhatOf e.what → (what : EditKind) → e.what ≡ what → content_put what ≡ Some content → IsOfBytes content
content_by e content of (put.Put c) is puts = let same : c ≡ content = cc in subst IsOfBytes same (subst IsWhatOf is of)
content_by e content of put.Deleted is puts = cc

pub content_of_bytes : (edits : List Edit) (v : ℕ) (content : ContentData) → All IsRecording edits → content_at edits v ≡ Some content → IsOfBytes content
content_of_bytes [] v content all at = cc
content_of_bytes (e ∷ edits) v content all at =
    elim (nat_eq v e.ver.0) as (λ b. option_and_then (λ (edit : Edit). content_put edit.what) (cond b (Some e) (edit_of edits v)) ≡ Some content → IsOfBytes content) [
      | true ↦ λ here. content_by e content (all_first IsRecording e edits all).what e.what refl here
      | false ↦ λ later. content_of_bytes edits v content (all_rest IsRecording e edits all) later
    ] at

-- none has the version 0
pub none_at_0 : (edits : List Edit) → All IsRecording edits → content_at edits 0 ≡ None
none_at_0 [] all = refl
none_at_0 (e ∷ edits) all =
    let some = (all_first IsRecording e edits all).some in
    let other : nat_eq 0 e.ver.0 ≡ false = grind (arith, some) in
    ap (λ b. option_and_then (λ (edit : Edit). content_put edit.what) (cond b (Some e) (edit_of edits 0))) other
    ∙ none_at_0 edits (all_rest IsRecording e edits all)

-- A SCAN
abbrev HasWhat : Edit → Type 0
HasWhat e = IsWhatOf e.what

put_has : (own : Option ℕ) (content : Option ContentData) (base : Ver) (x ver : ℕ) → IfSome content IsOfBytes → All HasWhat (put_by own content base x ver)
put_has (Some o) content base x ver of = all_none HasWhat
put_has None None base x ver of = all_none HasWhat
put_has None (Some content) base x ver of = all_front HasWhat _ [] of (all_none HasWhat)

gone_has : (o : Option Ver) (ver x : ℕ) → All HasWhat (deletion_of o ver x)
gone_has None ver x = all_none HasWhat
gone_has (Some base) ver x = all_front HasWhat _ [] tt (all_none HasWhat)

module _ (b : Before) (ids : _) where
  puts_have : (next : ℕ) (items : List Item) → All IsItemOf items → All HasWhat (puts b ids next items)
  puts_have next [] of = all_none HasWhat
  puts_have next (item ∷ items) of =
      all_append HasWhat (put_of b ids (unwrap_or (own_version b item) next) item) (puts b ids (next_after (own_version b item) next) items)
      (put_has (own_version b item) item.content (base_of (known_node b.keys b.local item.key.0)) (identity ids item.key.0) (unwrap_or (own_version b item) next)
      (all_first IsItemOf item items of))
      (puts_have (next_after (own_version b item) next) items (all_rest IsItemOf item items of))

  deletions_have : (next : ℕ) (xs : List ℕ) → All HasWhat (deletions b ids next xs)
  deletions_have next [] = all_none HasWhat
  deletions_have next (x ∷ xs) =
      all_append HasWhat (deletion_of (gone b ids x) (unwrap_or (own_of_gone (gone b ids x)) next) x) (deletions b ids (next_after (own_of_gone (gone b ids x)) next) xs)
      (gone_has (gone b ids x) (unwrap_or (own_of_gone (gone b ids x)) next) x) (deletions_have (next_after (own_of_gone (gone b ids x)) next) xs)

all_some : (next : ℕ) (edits : List Edit) → 0 < next → VersionsFrom next edits → All (λ e. 0 < e.ver.0) edits
all_some next [] some from = all_none (λ (e : Edit). 0 < e.ver.0)
all_some next (e ∷ edits) some (is, from) = all_front (λ (e : Edit). 0 < e.ver.0) e edits (omega (arith, is, some)) (all_some (next + 1) edits (omega arith) from)

both : (edits : List Edit) → All (λ e. 0 < e.ver.0) edits → All HasWhat edits → All IsRecording edits
both edits some what k d below = record { some = some k d below; what = what k d below }

pub scan_records : (w : Watching) (k : ℕ) (v : Watching) (items : List Item) → 0 < w.ids.next_ver → All IsItemOf items → (is : IsScanned w k v items) → All IsRecording is.edits
scan_records w k v items some of is =
    let b = before_of w in
    let ids = listed_ids b.keys w.ids.next_id items in
    let between = next_ver_after_puts b w.ids.next_ver items in
    both is.edits
    (all_some w.ids.next_ver is.edits some (scan_goes_on b items w.ids is.nodes is.bindings is.edits v.ids is.observed).versions)
    (subst (All HasWhat) (sym is.observed.edits_are)
    (all_append HasWhat (puts b ids w.ids.next_ver items) (deletions b ids between (keys b.local)) (puts_have b ids w.ids.next_ver items of) (deletions_have b ids between (keys b.local))))

-- A WATCHED CHANGE
abbrev Records : Option Edit → Type 0
Records o = All IsRecording (option_to_list o)

one_more : (e : Edit) → IsRecording e → All IsRecording (e ∷ [])
one_more e its = all_front IsRecording e [] its (all_none IsRecording)

made_records : (ver x : ℕ) (base : Ver) (content : Option ContentData) → 0 < ver → IfSome content IsOfBytes → Records (option_map (edit_by ver x base) content)
made_records ver x base None some of = all_none IsRecording
made_records ver x base (Some content) some of = one_more (edit_by ver x base content) (record { some = some; what = of })

written_records : (own : Option ℕ) (next x : ℕ) (base : Ver) (content : ContentData) → 0 < next → IsOfBytes content → Records (written_edit own next x base content)
written_records None next x base content some of = one_more (edit_by next x base content) (record { some = some; what = of })
written_records (Some own) next x base content some of = all_none IsRecording

end_records : (k : Kind) (ver x : ℕ) (base : Ver) → 0 < ver → Records (end_of k ver x base)
end_records Folder ver x base some = all_none IsRecording
end_records File ver x base some = one_more _ (record { some = some; what = tt })

of_edit : (e o : Option Edit) → e ≡ o → Records o → Records e
of_edit e o is all = subst Records (sym is) all

pub watch_records : (r : Nodes) (l : LocalState) (s : Nodes) (edits : List Edit) (ids : Counters) (change : Noticed) (d : _) → 0 < ids.next_ver → IsNoticeOf change
    → LeadsTo r l s edits ids change d → All IsRecording (option_to_list d.edit)
watch_records r l s edits ids (noticed.Made item) d some of is =
    let (parent, at, inside) = some_and (parent_of l item.parent.0) (MadeIn l ids item d) is.inside in
    of_edit d.edit _ (ap (λ e. e.edit) inside.is) (made_records ids.next_ver ids.next_id (record { 0 = 0 }) item.content some of)
watch_records r l s edits ids (noticed.Written key content) d some of is =
    let (x, n, there, so) = known_there l key.0 (λ x n. (n.kind ≡ File) × (d ≡ written (own_version_of edits r s content x n) ids.next_ver content x n)) is.known in
    of_edit d.edit _ (ap (λ e. e.edit) so.1) (written_records (own_version_of edits r s content x n) ids.next_ver x n.ver content some of)
watch_records r l s edits ids (noticed.Moved key place) d some of is =
    let (parent, at, inside) = some_and (parent_of l place.parent.0) (MovedTo l key.0 place d) is in
    let (x, n, there, so) = known_there l key.0 (λ x n. LegalPut l.tree x (moved_node parent place.name n) × (d ≡ moved parent place.name x n)) inside in
    of_edit d.edit None (ap (λ e. e.edit) so.1) (all_none IsRecording)
watch_records r l s edits ids (noticed.Removed key) d some of is =
    let (x, n, there, so) = known_there l key.0 (λ x n. NoChild l.tree x × (d ≡ removed ids.next_ver x n)) is in
    of_edit d.edit _ (ap (λ e. e.edit) so.1) (end_records n.kind ids.next_ver x n.ver some)
watch_records r l s edits ids (noticed.Bit key bit) d some of is =
    let (x, n, there, so) = known_there l key.0 (λ x n. (n.kind ≡ File) × (d ≡ with_bit bit x n)) is in
    of_edit d.edit None (ap (λ e. e.edit) so.1) (all_none IsRecording)
