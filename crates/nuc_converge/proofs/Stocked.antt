-- The server keeps the blocks of each file that an entry gave: an edit on the web and a commit that is accepted see to it.
use Rattle.std.specs.Prelude.{All, MatchOption}
use Rattle.std.proofs.Common.{◌≡◌, ◌⊎◌, ◌+◌, ◌-◌, ◌++◌, ℕ, Bool, cond, not, List, [], ◌∷◌, Option, Some, None, is_some, refl, sym, ◌∙◌, ap, subst, inl, inr}
use Rattle.std.proofs.lemmas.List.{append-nil}
use Rattle.std.specs.FinMap.{get}
use Rattle.nuc_base.specs.declared.node.Kind.{Kind}
use Rattle.nuc_base.specs.declared.node.Kind.TheVariants.{Folder, File}
use Rattle.nuc_base.specs.declared.node.Node.{Node}
use Rattle.nuc_base.specs.declared.node.Place.{Place}
use Rattle.nuc_blocks.specs.Blocks.{Blocks, block_of, first_missing}
use Rattle.nuc_blocks.specs.Pieces.{KeepsBlocks, all_stored}
use Rattle.nuc_blocks.proofs.Stored.{keeps, none_missing}
use Rattle.nuc_edits.specs.Edits.{Recorded, WasPut, content_at}
use Rattle.nuc_edits.specs.declared.edit.Edit.{Edit}
use Rattle.nuc_edits.specs.declared.edit.EditKind.TheVariants as put
use Rattle.nuc_edits.proofs.Contents.{content_entered, content_kept, put_entered, put_kept}
use Rattle.nuc_hash.specs.Content.{blocks_of, content_of}
use Rattle.nuc_hash.specs.Filling.{filling_bytes}
use Rattle.nuc_hash.specs.declared.digest.Digest.{Digest}
use Rattle.nuc_journal.specs.Entries.{kind_of, revision_of, tree_of}
use Rattle.nuc_journal.specs.Journal.{IsJournal}
use Rattle.nuc_journal.specs.Laws.{GaveNode}
use Rattle.nuc_journal.specs.declared.entry.Entry.{Entry}
use Rattle.nuc_journal.proofs.Histories.{current_gave}
use Rattle.nuc_server.specs.Judge.{blocks_with, next_entry}
use Rattle.nuc_server.specs.Web.{AnswersAt, WebAnswers}
use Rattle.nuc_server.specs.WebEdits.{CutAnswers, EndsFile, Enters, MkdirAnswers, PutAnswers, SetsBit, WebState, Writes, WritesNew, WritesOver}
use Rattle.nuc_server.specs.declared.web_edit.WebEdit.{WebEdit}
use Rattle.nuc_server.specs.declared.web_edit.WebEdit.TheVariants as edit
use Rattle.nuc_server.specs.declared.web_edit.WebReply.{WebReply}
use Rattle.nuc_server.specs.declared.web_edit.WebReply.TheVariants as reply
use Rattle.nuc_world.specs.Form.{IsShared}
use Rattle.nuc_world.proofs.Items.{all_append, all_front, all_get, all_map, all_none}
use Rattle.nuc_converge.proofs.Contents.{of_bytes}
use Rattle.nuc_converge.proofs.Recordings.{IsRecording}

-- WHAT IS KEPT of a version: it is 0, which has no blocks, or it was put and none of its blocks is missing
abbrev pub IsKept : List Edit → Blocks → ℕ → Type 0
IsKept edits blocks v = (v ≡ 0) ⊎ (WasPut edits v × (first_missing blocks (blocks_with (content_at edits v)) ≡ None))

-- of a value
abbrev pub KeepsValue : WebState → Option Node → Type 0
KeepsValue s None = Unit {0}
KeepsValue s (Some n) = IsKept s.edits.edits s.blocks n.ver.0

abbrev pub KeepsEntry : WebState → Entry → Type 0
KeepsEntry s e = KeepsValue s e.value

pub record IsStocked (s : WebState) : Type 0 where
  pub edits : All IsRecording s.edits.edits
  pub entries : All (KeepsEntry s) s.entries

-- WHAT WAS KEPT is so with more edits and more blocks
there : (o : Option (List ℕ)) (digest : Digest) (rest : Option Digest) → cond (not (is_some o)) (Some digest) rest ≡ None
    → (bytes : List ℕ) × (o ≡ Some bytes) × (rest ≡ None)
there None digest rest none = absurd (let bad : Some digest ≡ None = none in cc)
there (Some bytes) digest rest none = (bytes, refl, none)

pub none_missing_later : (blocks after : Blocks) → KeepsBlocks blocks after → (list : List Digest) → first_missing blocks list ≡ None → first_missing after list ≡ None
none_missing_later blocks after kept [] none = refl
none_missing_later blocks after kept (digest ∷ list) none =
    let (bytes, at, rest) = there (block_of blocks digest) digest (first_missing blocks list) none in
    ap (λ o. cond (not (is_some o)) (Some digest) (first_missing after list)) (kept digest bytes at) ∙ none_missing_later blocks after kept list rest

kept_later : (edits more : List Edit) (blocks after : Blocks) → KeepsBlocks blocks after → (v : ℕ) → IsKept edits blocks v → IsKept (edits ++ more) after v
kept_later edits more blocks after kept v (inl nothing) = inl nothing
kept_later edits more blocks after kept v (inr (was, none)) = inr (
  put_kept edits more v was,
  ap (λ o. first_missing after (blocks_with o)) (content_kept v edits more was) ∙ none_missing_later blocks after kept (blocks_with (content_at edits v)) none,
)

-- the store of another
pub same_blocks : (blocks after : Blocks) → after ≡ blocks → KeepsBlocks blocks after
same_blocks blocks after same digest bytes at = subst (λ (b : Blocks). block_of b digest ≡ Some bytes) (sym same) at

module _ (s t : WebState) (more : List Edit) (edits : t.edits.edits ≡ s.edits.edits ++ more) (blocks : KeepsBlocks s.blocks t.blocks) where
  pub value_later : (o : Option Node) → KeepsValue s o → KeepsValue t o
  value_later None is = tt
  value_later (Some n) is = subst (λ es. IsKept es t.blocks n.ver.0) (sym edits) (kept_later s.edits.edits more s.blocks t.blocks blocks n.ver.0 is)

  pub stocked_later : (new : List Entry) → t.entries ≡ s.entries ++ new → All IsRecording more → All (KeepsEntry t) new → IsStocked s → IsStocked t
  stocked_later new entries recorded came is = record {
    edits = subst (All IsRecording) (sym edits) (all_append IsRecording s.edits.edits more is.edits recorded);
    entries = subst (All (KeepsEntry t)) (sym entries)
        (all_append (KeepsEntry t) s.entries new (all_map (KeepsEntry s) (KeepsEntry t) (λ e was. value_later e.value was) s.entries is.entries) came);
  }

-- no entry came
pub stocked_on : (s t : WebState) (more : List Edit) → t.edits.edits ≡ s.edits.edits ++ more → KeepsBlocks s.blocks t.blocks → t.entries ≡ s.entries → All IsRecording more
    → IsStocked s → IsStocked t
stocked_on s t more edits blocks entries recorded is =
    stocked_later s t more edits blocks [] (entries ∙ sym (append-nil s.entries)) recorded (all_none (KeepsEntry t)) is

-- no edit either
pub stocked_so : (s t : WebState) → t.edits.edits ≡ s.edits.edits → KeepsBlocks s.blocks t.blocks → t.entries ≡ s.entries → IsStocked s → IsStocked t
stocked_so s t edits blocks entries is = stocked_on s t [] (edits ∙ sym (append-nil s.edits.edits)) blocks entries (all_none IsRecording) is

-- one entry came
pub stocked_entered : (s t : WebState) (more : List Edit) → t.edits.edits ≡ s.edits.edits ++ more → KeepsBlocks s.blocks t.blocks → (e : Entry) → t.entries ≡ s.entries ++ e ∷ []
    → All IsRecording more → KeepsValue t e.value → IsStocked s → IsStocked t
stocked_entered s t more edits blocks e entries recorded its is =
    stocked_later s t more edits blocks (e ∷ []) entries recorded (all_front (KeepsEntry t) e [] its (all_none (KeepsEntry t))) is

-- BYTES that are stored
pub nothing_missing : (bytes : List ℕ) (blocks : Blocks) → first_missing (all_stored (blocks_of bytes) blocks) (content_of bytes).blocks ≡ None
unfolding content_of
nothing_missing bytes blocks = none_missing (blocks_of bytes) blocks

-- WHAT STANDS at the server an entry gave
pub stands_kept : (s : WebState) → IsJournal s.entries → IsStocked s → (x : ℕ) (n : Node) → get (tree_of s.entries) x ≡ Some n → KeepsValue s (Some n)
stands_kept s journal is x n at =
    let gave = subst (λ (o : Option Node). MatchOption o (revision_of s.entries x ≡ 0) (λ h. GaveNode s.entries (revision_of s.entries x) x h × (kind_of s.entries x ≡ Some h.kind))) at
    (current_gave s.entries x journal) in
    let (e, some, place, id, value) = gave.0 in
    subst (KeepsValue s) value (all_get (KeepsEntry s) s.entries (revision_of s.entries x - 1) e is.entries place)

-- AN EDIT ON THE WEB
module _ (s t : WebState) (kinds : ℕ → Kind) (shared : IsShared s kinds) (is : IsStocked s) where
  stays : t.entries ≡ s.entries → t.edits ≡ s.edits → KeepsBlocks s.blocks t.blocks → IsStocked t
  stays entries edits blocks = stocked_so s t (ap (λ (r : Recorded). r.edits) edits) blocks entries is

  -- a value without edit
  entered : (x : ℕ) (value : Option Node) (rev : ℕ) → Enters s.entries x value rev t.entries → t.edits ≡ s.edits → t.blocks ≡ s.blocks → KeepsValue s value → IsStocked t
  entered x value rev enters edits blocks kept =
      let same : t.edits.edits ≡ s.edits.edits ++ [] = ap (λ (r : Recorded). r.edits) edits ∙ sym (append-nil s.edits.edits) in
      let store = same_blocks s.blocks t.blocks blocks in
      stocked_entered s t [] same store (next_entry s.entries x value 0) enters.1 (all_none IsRecording) (value_later s t [] same store value kept) is

  made : (place : Place) (a : WebReply) → MkdirAnswers s.entries s.ids place a t.entries t.ids → t.edits ≡ s.edits → t.blocks ≡ s.blocks → IsStocked t
  made place (reply.Accepted rev) so edits blocks = entered s.ids.next_id _ rev so.1 edits blocks (inl refl)
  made place (reply.Taken y) so edits blocks = stays so.1 edits (same_blocks s.blocks t.blocks blocks)
  made place reply.Memory so edits blocks = stays so.0 edits (same_blocks s.blocks t.blocks blocks)
  made place _ so edits blocks = absurd so

  -- another node of the same version
  alike : (x : ℕ) (n new : Node) (rev : ℕ) → get (tree_of s.entries) x ≡ Some n → new.ver.0 ≡ n.ver.0 → Enters s.entries x (Some new) rev t.entries → t.edits ≡ s.edits
      → t.blocks ≡ s.blocks → IsStocked t
  alike x n new rev at ver enters edits blocks =
      entered x (Some new) rev enters edits blocks (subst (IsKept s.edits.edits s.blocks) (sym ver) (stands_kept s shared.journal is x n at))

  moved : (x : ℕ) (n : Node) (target : Place) (a : WebReply) → get (tree_of s.entries) x ≡ Some n → PutAnswers s.entries x (record n { place = target }) a t.entries
      → t.edits ≡ s.edits → t.blocks ≡ s.blocks → IsStocked t
  moved x n target (reply.Accepted rev) here so edits blocks = alike x n (record n { place = target }) rev here refl so.1 edits blocks
  moved x n target (reply.Taken y) here so edits blocks = stays so.1 edits (same_blocks s.blocks t.blocks blocks)
  moved x n target reply.Cycle here so edits blocks = stays so.1 edits (same_blocks s.blocks t.blocks blocks)
  moved x n target reply.Memory here so edits blocks = stays so edits (same_blocks s.blocks t.blocks blocks)
  moved x n target _ here so edits blocks = absurd so

  set : (x : ℕ) (n : Node) (on : Bool) (a : WebReply) → get (tree_of s.entries) x ≡ Some n → SetsBit s.entries x n on a t.entries → t.edits ≡ s.edits → t.blocks ≡ s.blocks
      → IsStocked t
  set x n on (reply.Accepted rev) here so edits blocks = alike x n (record n { bit = on }) rev here refl so.2 edits blocks
  set x n on reply.KindChanged here so edits blocks = stays so.1 edits (same_blocks s.blocks t.blocks blocks)
  set x n on reply.Same here so edits blocks = stays so.2 edits (same_blocks s.blocks t.blocks blocks)
  set x n on reply.Memory here so edits blocks = stays so edits (same_blocks s.blocks t.blocks blocks)
  set x n on _ here so edits blocks = absurd so

  ended : (x : ℕ) (n : Node) (k : Kind) (rev : ℕ) → Enters s.entries x None rev t.entries → EndsFile k x n.ver.0 s.edits s.ids t.edits t.ids → t.blocks ≡ s.blocks → IsStocked t
  ended x n Folder rev enters ends blocks = entered x None rev enters ends.0 blocks tt
  ended x n File rev enters ends blocks =
      stocked_entered s t _ (ap (λ (r : Recorded). r.edits) ends.0) (same_blocks s.blocks t.blocks blocks) (next_entry s.entries x None 0) enters.1
      (all_front IsRecording _ [] (record { some = shared.next_ver.some; what = tt }) (all_none IsRecording)) tt is

  removed : (x : ℕ) (n : Node) (a : WebReply) → CutAnswers s.entries s.edits s.ids x n a t.entries t.edits t.ids → t.blocks ≡ s.blocks → IsStocked t
  removed x n (reply.Accepted rev) so blocks = ended x n n.kind rev so.1 so.2 blocks
  removed x n reply.NotEmpty so blocks = stays so.1 so.2 (same_blocks s.blocks t.blocks blocks)
  removed x n reply.Memory so blocks = stays so.0 so.1 (same_blocks s.blocks t.blocks blocks)
  removed x n _ so blocks = absurd so

  -- bytes were written
  wrote : (x : ℕ) (node : Node) (base : ℕ) (bytes : List ℕ) (rev : ℕ) → Writes s x node base bytes rev t → IsStocked t
  wrote x node base bytes rev w =
      let new : Edit = record { ver = record { 0 = s.ids.next_ver }; id = record { 0 = x }; base = record { 0 = base }; what = put.Put (content_of bytes) } in
      let edits : t.edits.edits ≡ s.edits.edits ++ new ∷ [] = ap (λ (r : Recorded). r.edits) w.edits in
      let has : content_at (s.edits.edits ++ new ∷ []) s.ids.next_ver ≡ Some (content_of bytes) = content_entered s.edits.edits new shared.next_ver in
      let here : IsKept (s.edits.edits ++ new ∷ []) (all_stored (blocks_of bytes) s.blocks) s.ids.next_ver = inr (
        put_entered s.edits.edits new (content_of bytes) shared.next_ver refl,
        ap (λ o. first_missing (all_stored (blocks_of bytes) s.blocks) (blocks_with o)) has ∙ nothing_missing bytes s.blocks,
      ) in
      let its : IsKept t.edits.edits t.blocks node.ver.0 =
      subst (IsKept t.edits.edits t.blocks) (sym w.version)
      (subst (λ es. IsKept es t.blocks s.ids.next_ver) (sym edits) (subst (λ (b : Blocks). IsKept (s.edits.edits ++ new ∷ []) b s.ids.next_ver) (sym w.blocks) here)) in
      stocked_entered s t (new ∷ []) edits (keeps (blocks_of bytes) s.blocks t.blocks w.blocks) (next_entry s.entries x (Some node) 0) w.entries.1
      (all_front IsRecording new [] (record { some = shared.next_ver.some; what = of_bytes bytes }) (all_none IsRecording)) its is

  wrote_new : (place : Place) (bytes : List ℕ) (a : WebReply) → WritesNew s place bytes a t → IsStocked t
  wrote_new place bytes (reply.Accepted rev) so = wrote s.ids.next_id _ 0 bytes rev so.0
  wrote_new place bytes reply.Memory so = stays so.entries so.edits so.blocks
  wrote_new place bytes _ so = absurd so

  wrote_over : (x : ℕ) (n : Node) (bytes : List ℕ) (a : WebReply) → WritesOver s x n bytes a t → IsStocked t
  wrote_over x n bytes (reply.Accepted rev) so = wrote x _ n.ver.0 bytes rev so.2
  wrote_over x n bytes reply.KindChanged so = stays so.1.entries so.1.edits (same_blocks s.blocks t.blocks so.1.blocks)
  wrote_over x n bytes reply.Same so = stays so.2.entries so.2.edits (same_blocks s.blocks t.blocks so.2.blocks)
  wrote_over x n bytes reply.Memory so = stays so.entries so.edits so.blocks
  wrote_over x n bytes _ so = absurd so

  at_place : (e : WebEdit) (place : Place) (a : WebReply) → AnswersAt s e place a t → IsStocked t
  at_place (edit.Mkdir path) place a so = made place a so.0 so.2 so.1
  at_place (edit.Write path filling) place a (inl (vacant, so)) = wrote_new place (filling_bytes filling) a so
  at_place (edit.Write path filling) place a (inr (x, n, here, same, so)) = wrote_over x n (filling_bytes filling) a so
  at_place (edit.Move from to) place a (inl (vacant, none), blocks, edits, ids) = stays none.1 edits (same_blocks s.blocks t.blocks blocks)
  at_place (edit.Move from to) place a (inr (x, n, here, same, inl (nowhere, none)), blocks, edits, ids) = stays none.1 edits (same_blocks s.blocks t.blocks blocks)
  at_place (edit.Move from to) place a (inr (x, n, here, same, inr (target, leads, so)), blocks, edits, ids) = moved x n target a here so edits blocks
  at_place (edit.Remove path) place a (inl (vacant, none), blocks) = stays none.1 none.2 (same_blocks s.blocks t.blocks blocks)
  at_place (edit.Remove path) place a (inr (x, n, here, same, so), blocks) = removed x n a so blocks
  at_place (edit.Bit path on) place a (inl (vacant, none), blocks, edits, ids) = stays none.1 edits (same_blocks s.blocks t.blocks blocks)
  at_place (edit.Bit path on) place a (inr (x, n, here, same, so), blocks, edits, ids) = set x n on a here so edits blocks

  pub web_stocks : (e : WebEdit) (a : WebReply) → WebAnswers s e a t → IsStocked t
  web_stocks e a (inl (nowhere, none)) = stays none.1.entries none.1.edits (same_blocks s.blocks t.blocks none.1.blocks)
  web_stocks e a (inr (place, leads, so)) = at_place e place a so
