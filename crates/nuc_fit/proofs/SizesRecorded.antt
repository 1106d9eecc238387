-- What is recorded puts a content of few blocks, where what was listed or noticed had few.
use Rattle.std.specs.Prelude.{All, IfSome, option_and_then, option_map, option_to_list, unwrap_or}
use Rattle.std.proofs.Common.{◌≡◌, ℕ, true, false, cond, nat_eq, List, [], ◌∷◌, Option, Some, None, sym, ap, subst}
use Rattle.std.proofs.lemmas.List.Elements.{All-append, All-cons, All-head, All-nil, All-tail}
use Rattle.std.specs.FinMap.{keys}
use Rattle.nuc_base.specs.Legal.{LegalPut}
use Rattle.nuc_base.specs.Trees.{NoChild, Nodes}
use Rattle.nuc_base.specs.declared.node.Counters.{Counters}
use Rattle.nuc_base.specs.declared.node.Kind.{Kind}
use Rattle.nuc_base.specs.declared.node.Kind.TheVariants.{Folder, File}
use Rattle.nuc_base.specs.declared.node.Ver.{Ver}
use Rattle.nuc_edits.specs.Edits.{content_at, content_put, edit_of}
use Rattle.nuc_edits.specs.declared.edit.Edit.{Edit}
use Rattle.nuc_edits.specs.declared.edit.EditKind.{EditKind}
use Rattle.nuc_edits.specs.declared.edit.EditKind.TheVariants as put
use Rattle.nuc_folder.specs.declared.item.Item.{Item}
use Rattle.nuc_folder.specs.declared.noticed.Noticed.{Noticed}
use Rattle.nuc_folder.specs.declared.noticed.Noticed.TheVariants as noticed
use Rattle.nuc_hash.specs.Content.{ContentData}
use Rattle.nuc_observe.specs.Observed.{Before, base_of, deletion_of, deletions, gone, identity, known_node, listed_ids, next_ver_after_puts, own_of_gone, own_version, put_by, put_of, puts}
use Rattle.nuc_observe.specs.Turns.{next_after}
use Rattle.nuc_replica.specs.Local.{LocalState}
use Rattle.nuc_step.specs.Scanning.{IsScanned, before_of}
use Rattle.nuc_step.specs.Watching.{LeadsTo, MadeIn, Watching, deletion_of as end_of, edit_of as edit_by, moved, moved_node, own_version as own_version_of, parent_of, removed, with_bit, written, written_edit}
use Rattle.nuc_step.proofs.Leading.{MovedTo, known_there, some_and}
use Rattle.nuc_fit.proofs.SizesFolder.{IsFewItem, IsFewNotice}
use Rattle.nuc_fit.proofs.SizesShort.{HasFewBlocks}

-- a deletion puts none
abbrev pub IsFewPut : EditKind → Type 0
IsFewPut (put.Put content) = HasFewBlocks content
IsFewPut put.Deleted = Unit {0}

abbrev pub PutsFew : Edit → Type 0
PutsFew e = IsFewPut e.what

-- WHICH CONTENT A VERSION HAS
content_by : (content : ContentData) (what : EditKind) → IsFewPut what → content_put what ≡ Some content → HasFewBlocks content
content_by content (put.Put c) few puts = let same : c ≡ content = cc in subst HasFewBlocks same few
content_by content put.Deleted few puts = cc

pub content_few : (edits : List Edit) (v : ℕ) (content : ContentData) → All PutsFew edits → content_at edits v ≡ Some content → HasFewBlocks content
content_few [] v content all at = cc
content_few (e ∷ edits) v content all at =
    elim (nat_eq v e.ver.0) as (λ b. option_and_then (λ (edit : Edit). content_put edit.what) (cond b (Some e) (edit_of edits v)) ≡ Some content → HasFewBlocks content) [
      | true ↦ λ here. content_by content e.what (All-head PutsFew e edits all) here
      | false ↦ λ later. content_few edits v content (All-tail PutsFew e edits all) later
    ] at

-- A SCAN
put_few : (own : Option ℕ) (content : Option ContentData) (base : Ver) (x ver : ℕ) → IfSome content HasFewBlocks → All PutsFew (put_by own content base x ver)
put_few (Some o) content base x ver few = All-nil PutsFew
put_few None None base x ver few = All-nil PutsFew
put_few None (Some content) base x ver few = All-cons PutsFew _ [] few (All-nil PutsFew)

gone_few : (o : Option Ver) (ver x : ℕ) → All PutsFew (deletion_of o ver x)
gone_few None ver x = All-nil PutsFew
gone_few (Some base) ver x = All-cons PutsFew _ [] tt (All-nil PutsFew)

module _ (b : Before) (ids : _) where
  puts_few : (next : ℕ) (items : List Item) → All IsFewItem items → All PutsFew (puts b ids next items)
  puts_few next [] few = All-nil PutsFew
  puts_few next (item ∷ items) few =
      All-append PutsFew (put_of b ids (unwrap_or (own_version b item) next) item) (puts b ids (next_after (own_version b item) next) items)
      (put_few (own_version b item) item.content (base_of (known_node b.keys b.local item.key.0)) (identity ids item.key.0) (unwrap_or (own_version b item) next)
      (All-head IsFewItem item items few))
      (puts_few (next_after (own_version b item) next) items (All-tail IsFewItem item items few))

  deletions_few : (next : ℕ) (xs : List ℕ) → All PutsFew (deletions b ids next xs)
  deletions_few next [] = All-nil PutsFew
  deletions_few next (x ∷ xs) =
      All-append PutsFew (deletion_of (gone b ids x) (unwrap_or (own_of_gone (gone b ids x)) next) x) (deletions b ids (next_after (own_of_gone (gone b ids x)) next) xs)
      (gone_few (gone b ids x) (unwrap_or (own_of_gone (gone b ids x)) next) x) (deletions_few (next_after (own_of_gone (gone b ids x)) next) xs)

pub scan_few : (w : Watching) (k : ℕ) (v : Watching) (items : List Item) → All IsFewItem items → (is : IsScanned w k v items) → All PutsFew is.edits
scan_few w k v items few is =
    let b = before_of w in
    let ids = listed_ids b.keys w.ids.next_id items in
    let between = next_ver_after_puts b w.ids.next_ver items in
    subst (All PutsFew) (sym is.observed.edits_are)
    (All-append PutsFew (puts b ids w.ids.next_ver items) (deletions b ids between (keys b.local)) (puts_few b ids w.ids.next_ver items few)
    (deletions_few b ids between (keys b.local)))

-- A WATCHED CHANGE
abbrev RecordsFew : Option Edit → Type 0
RecordsFew o = All PutsFew (option_to_list o)

one_more : (e : Edit) → PutsFew e → All PutsFew (e ∷ [])
one_more e its = All-cons PutsFew e [] its (All-nil PutsFew)

made_few : (ver x : ℕ) (base : Ver) (content : Option ContentData) → IfSome content HasFewBlocks → RecordsFew (option_map (edit_by ver x base) content)
made_few ver x base None few = All-nil PutsFew
made_few ver x base (Some content) few = one_more (edit_by ver x base content) few

written_few : (own : Option ℕ) (next x : ℕ) (base : Ver) (content : ContentData) → HasFewBlocks content → RecordsFew (written_edit own next x base content)
written_few None next x base content few = one_more (edit_by next x base content) few
written_few (Some own) next x base content few = All-nil PutsFew

end_few : (k : Kind) (ver x : ℕ) (base : Ver) → RecordsFew (end_of k ver x base)
end_few Folder ver x base = All-nil PutsFew
end_few File ver x base = one_more _ tt

of_edit : (e o : Option Edit) → e ≡ o → RecordsFew o → RecordsFew e
of_edit e o is all = subst RecordsFew (sym is) all

pub watch_few : (r : Nodes) (l : LocalState) (s : Nodes) (edits : List Edit) (ids : Counters) (change : Noticed) (d : _) → IsFewNotice change
    → LeadsTo r l s edits ids change d → All PutsFew (option_to_list d.edit)
watch_few r l s edits ids (noticed.Made item) d few is =
    let (parent, at, inside) = some_and (parent_of l item.parent.0) (MadeIn l ids item d) is.inside in
    of_edit d.edit _ (ap (λ e. e.edit) inside.is) (made_few ids.next_ver ids.next_id (record { 0 = 0 }) item.content few)
watch_few r l s edits ids (noticed.Written key content) d few is =
    let (x, n, there, so) = known_there l key.0 (λ x n. (n.kind ≡ File) × (d ≡ written (own_version_of edits r s content x n) ids.next_ver content x n)) is.known in
    of_edit d.edit _ (ap (λ e. e.edit) so.1) (written_few (own_version_of edits r s content x n) ids.next_ver x n.ver content few)
watch_few r l s edits ids (noticed.Moved key place) d few is =
    let (parent, at, inside) = some_and (parent_of l place.parent.0) (MovedTo l key.0 place d) is in
    let (x, n, there, so) = known_there l key.0 (λ x n. LegalPut l.tree x (moved_node parent place.name n) × (d ≡ moved parent place.name x n)) inside in
    of_edit d.edit None (ap (λ e. e.edit) so.1) (All-nil PutsFew)
watch_few r l s edits ids (noticed.Removed key) d few is =
    let (x, n, there, so) = known_there l key.0 (λ x n. NoChild l.tree x × (d ≡ removed ids.next_ver x n)) is in
    of_edit d.edit _ (ap (λ e. e.edit) so.1) (end_few n.kind ids.next_ver x n.ver)
watch_few r l s edits ids (noticed.Bit key bit) d few is =
    let (x, n, there, so) = known_there l key.0 (λ x n. (n.kind ≡ File) × (d ≡ with_bit bit x n)) is in
    of_edit d.edit None (ap (λ e. e.edit) so.1) (All-nil PutsFew)
