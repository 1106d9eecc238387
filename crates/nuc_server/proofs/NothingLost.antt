-- A web edit loses no version.
use Rattle.std.proofs.Common.{◌≡◌, ◌⊎◌, ◌<◌, ℕ, Bool, List, [], ◌∷◌, ◌++◌, Option, None, Some, refl, sym, ◌∙◌, ap, subst, inl, inr, append-nil, arith}
use Rattle.std.specs.FinMap.{get}
use Rattle.nuc_base.specs.Kinds.{Fits}
use Rattle.nuc_base.specs.Trees.{WellFormed}
use Rattle.nuc_base.specs.declared.node.Kind.{Kind}
use Rattle.nuc_base.specs.declared.node.Kind.TheVariants.{Folder, File}
use Rattle.nuc_base.specs.declared.node.Node.{Node}
use Rattle.nuc_base.specs.declared.node.Place.{Place}
use Rattle.nuc_base.proofs.Maps.{get_cut_other, get_put_other, get_put_same, not_both, one_node, same_or_not}
use Rattle.nuc_blocks.specs.Blocks.{Blocks}
use Rattle.nuc_edits.specs.Edits.{Recorded}
use Rattle.nuc_edits.specs.declared.edit.Edit.{Edit}
use Rattle.nuc_hash.specs.Content.{blocks_of}
use Rattle.nuc_hash.specs.Filling.{filling_bytes}
use Rattle.nuc_journal.specs.Entries.{tree_of, with_value}
use Rattle.nuc_journal.specs.declared.entry.Entry.{Entry}
use Rattle.nuc_journal.proofs.Ends.{tree_push}
use Rattle.nuc_journal.proofs.Journals.{form_of}
use Rattle.nuc_server.specs.Judge.{next_entry}
use Rattle.nuc_server.specs.Versions.{HasVersion, IsReplaced, LosesNothing, WebLosesNothing}
use Rattle.nuc_server.specs.Web.{AnswersAt}
use Rattle.nuc_server.specs.WebEdits.{CutAnswers, EndsFile, Enters, IsNextId, IsUnchanged, KeepsBlocks, MkdirAnswers, OnlyGained, PutAnswers, SetsBit, WebState, Writes, WritesNew, WritesOver}
use Rattle.nuc_server.specs.declared.web_edit.WebEdit.{WebEdit}
use Rattle.nuc_server.specs.declared.web_edit.WebEdit.TheVariants as edit
use Rattle.nuc_server.specs.declared.web_edit.WebReply.{WebReply}
use Rattle.nuc_server.specs.declared.web_edit.WebReply.TheVariants as reply
use Rattle.nuc_server.proofs.Fresh.{nobody}
use Rattle.nuc_blocks.proofs.Stored.{stands_on}

same_blocks : (before after : Blocks) → after ≡ before → KeepsBlocks before after
same_blocks before after same = rw same (λ digest bytes at. at)

-- NOTHING CHANGED but that blocks may have come
gained : (s t : WebState) → OnlyGained s t → LosesNothing s t
gained s t o = record {
  entries = [];
  edits = [];
  entered = o.entries ∙ sym (append-nil s.entries);
  recorded = ap (λ (r : Recorded). r.edits) o.edits ∙ sym (append-nil s.edits.edits);
  blocks = o.blocks;
  kept = λ v some has. inl (subst (λ es. HasVersion (tree_of es) v) (sym o.entries) has);
  put = tt;
}

unchanged : (s t : WebState) → IsUnchanged s t → LosesNothing s t
unchanged s t u = gained s t (record { entries = u.entries; blocks = same_blocks s.blocks t.blocks u.blocks; edits = u.edits; ids = u.ids })

-- AN ENTRY CAME, which gave x a value. All versions are kept where that of x's node is
module _ (es now : List Entry) (x : ℕ) (value : Option Node) (rev : ℕ) (entered : Enters es x value rev now) where
  tree_now : tree_of now ≡ with_value (tree_of es) x value
  tree_now = ap tree_of entered.1 ∙ tree_push es (next_entry es x value 0)

  other : (y : ℕ) → ¬ (y ≡ x) → get (with_value (tree_of es) x value) y ≡ get (tree_of es) y
  other y apart = elim value as (λ (o : Option Node). get (with_value (tree_of es) x o) y ≡ get (tree_of es) y) [
    | None ↦ get_cut_other (tree_of es) x y apart
    | Some n ↦ get_put_other (tree_of es) x n y apart
  ]

  all_kept : (edits : List Edit) (v : ℕ) → ((n : Node) → get (tree_of es) x ≡ Some n → n.ver.0 ≡ v → HasVersion (tree_of now) v ⊎ IsReplaced edits v)
      → HasVersion (tree_of es) v → HasVersion (tree_of now) v ⊎ IsReplaced edits v
  all_kept edits v own has = elim (same_or_not has.id x) [
    | inl same ↦ own has.node (subst (λ y. get (tree_of es) y ≡ Some has.node) same has.here) has.ver
    | inr apart ↦ inl (record {
      id = has.id;
      node = has.node;
      here = ap (λ m. get m has.id) tree_now ∙ other has.id apart ∙ has.here;
      ver = has.ver;
    })
  ]

-- who got a node has its version
now_has : (es now : List Entry) (x : ℕ) (n : Node) (rev v : ℕ) → Enters es x (Some n) rev now → n.ver.0 ≡ v → HasVersion (tree_of now) v
now_has es now x n rev v entered ver = record {
  id = x;
  node = n;
  here = ap (λ m. get m x) (tree_now es now x (Some n) rev entered) ∙ get_put_same (tree_of es) x n;
  ver = ver;
}

last_replaced : (es : List Edit) (e : Edit) (v : ℕ) → e.base.0 ≡ v → IsReplaced (es ++ e ∷ []) v
last_replaced [] e v base = inl base
last_replaced (d ∷ es) e v base = inr (last_replaced es e v base)

-- NOBODY stood where the node came
module _ (s t : WebState) (x : ℕ) (value : Option Node) (rev : ℕ) (entered : Enters s.entries x value rev t.entries) (none : get (tree_of s.entries) x ≡ None) where
  came_kept : (v : ℕ) → HasVersion (tree_of s.entries) v → HasVersion (tree_of t.entries) v ⊎ IsReplaced t.edits.edits v
  came_kept v has = all_kept s.entries t.entries x value rev entered t.edits.edits v (λ n at ver. absurd (not_both (tree_of s.entries) x n none at)) has

-- A NODE OF THE SAME VERSION stands where one stood
module _ (s t : WebState) (x : ℕ) (n new : Node) (rev : ℕ) (entered : Enters s.entries x (Some new) rev t.entries)
    (here : get (tree_of s.entries) x ≡ Some n) (ver : new.ver.0 ≡ n.ver.0) (edits : t.edits ≡ s.edits) (blocks : t.blocks ≡ s.blocks) where
  version_stays : (v : ℕ) (k : Node) → get (tree_of s.entries) x ≡ Some k → k.ver.0 ≡ v → HasVersion (tree_of t.entries) v ⊎ IsReplaced t.edits.edits v
  version_stays v k at is =
      let same : k ≡ n = one_node (tree_of s.entries) x k n at here in
      inl (now_has s.entries t.entries x new rev v entered (ver ∙ ap (λ (n : Node). n.ver.0) (sym same) ∙ is))

  replaced_alike : LosesNothing s t
  replaced_alike = record {
    entries = next_entry s.entries x (Some new) 0 ∷ [];
    edits = [];
    entered = entered.1;
    recorded = ap (λ (r : Recorded). r.edits) edits ∙ sym (append-nil s.edits.edits);
    blocks = same_blocks s.blocks t.blocks blocks;
    kept = λ v some has. all_kept s.entries t.entries x (Some new) rev entered t.edits.edits v (version_stays v) has;
    put = tt;
  }

-- BYTES WERE WRITTEN, over the version that x had, if it had one
module _ (s t : WebState) (x : ℕ) (node : Node) (base : ℕ) (bytes : List ℕ) (rev : ℕ) (w : Writes s x node base bytes rev t)
    (before : (n : Node) → get (tree_of s.entries) x ≡ Some n → n.ver.0 ≡ base) where
  is_replaced : IsReplaced t.edits.edits base
  is_replaced = subst (λ (r : Recorded). IsReplaced r.edits base) (sym w.edits) (last_replaced s.edits.edits _ base refl)

  written : LosesNothing s t
  written = record {
    entries = next_entry s.entries x (Some node) 0 ∷ [];
    edits = _;
    entered = w.entries.1;
    recorded = ap (λ (r : Recorded). r.edits) w.edits;
    blocks = rw w.blocks (λ digest bytes' at. stands_on (blocks_of bytes) s.blocks digest bytes' at);
    kept = λ v some has. all_kept s.entries t.entries x (Some node) rev w.entries t.edits.edits v
        (λ n at ver. inr (subst (IsReplaced t.edits.edits) (sym (before n at) ∙ ver) is_replaced)) has;
    put = (now_has s.entries t.entries x node rev s.ids.next_ver w.entries w.version, tt);
  }

-- EACH ANSWER
only_these : (s t : WebState) → t.entries ≡ s.entries → t.blocks ≡ s.blocks → t.edits ≡ s.edits → LosesNothing s t
only_these s t entries blocks edits = record {
  entries = [];
  edits = [];
  entered = entries ∙ sym (append-nil s.entries);
  recorded = ap (λ (r : Recorded). r.edits) edits ∙ sym (append-nil s.edits.edits);
  blocks = same_blocks s.blocks t.blocks blocks;
  kept = λ v some has. inl (subst (λ es. HasVersion (tree_of es) v) (sym entries) has);
  put = tt;
}

made : (s t : WebState) (place : Place) (a : WebReply) → IsNextId s.ids.next_id s.entries → MkdirAnswers s.entries s.ids place a t.entries t.ids
    → t.blocks ≡ s.blocks → t.edits ≡ s.edits → LosesNothing s t
made s t place (reply.Accepted rev) fresh is blocks edits = record {
  entries = next_entry s.entries s.ids.next_id _ 0 ∷ [];
  edits = [];
  entered = is.1.1;
  recorded = ap (λ (r : Recorded). r.edits) edits ∙ sym (append-nil s.edits.edits);
  blocks = same_blocks s.blocks t.blocks blocks;
  kept = λ v some has. came_kept s t s.ids.next_id _ rev is.1 (nobody s.ids.next_id s.entries fresh) v has;
  put = tt;
}
made s t place (reply.Taken y) fresh is blocks edits = only_these s t is.1 blocks edits
made s t place reply.Memory fresh is blocks edits = only_these s t is.0 blocks edits
made s t place _ fresh is blocks edits = absurd is

moved : (s t : WebState) (x : ℕ) (n : Node) (target : Place) (a : WebReply) → get (tree_of s.entries) x ≡ Some n
    → PutAnswers s.entries x (record n { place = target }) a t.entries → t.blocks ≡ s.blocks → t.edits ≡ s.edits → LosesNothing s t
moved s t x n target (reply.Accepted rev) here is blocks edits = replaced_alike s t x n (record n { place = target }) rev is.1 here refl edits blocks
moved s t x n target (reply.Taken y) here is blocks edits = only_these s t is.1 blocks edits
moved s t x n target reply.Cycle here is blocks edits = only_these s t is.1 blocks edits
moved s t x n target reply.Memory here is blocks edits = only_these s t is blocks edits
moved s t x n target _ here is blocks edits = absurd is

set : (s t : WebState) (x : ℕ) (n : Node) (on : Bool) (a : WebReply) → get (tree_of s.entries) x ≡ Some n
    → SetsBit s.entries x n on a t.entries → t.blocks ≡ s.blocks → t.edits ≡ s.edits → LosesNothing s t
set s t x n on (reply.Accepted rev) here is blocks edits = replaced_alike s t x n (record n { bit = on }) rev is.2 here refl edits blocks
set s t x n on reply.KindChanged here is blocks edits = only_these s t is.1 blocks edits
set s t x n on reply.Same here is blocks edits = only_these s t is.2 blocks edits
set s t x n on reply.Memory here is blocks edits = only_these s t is blocks edits
set s t x n on _ here is blocks edits = absurd is

no_version : (k : Kind) (ver : ℕ) (bit : Bool) (v : ℕ) → k ≡ Folder → Fits k ver bit → ver ≡ v → 0 < v → ⊥
no_version k ver bit v folder fits is some =
    let none = subst (λ k. Fits k ver bit) folder fits in
    let zero = none.0 in omega (arith, zero, is, some)

-- who stood went: a file with an edit that replaces its version, and a folder has none
ended : (s t : WebState) (x : ℕ) (n : Node) (k : Kind) (rev : ℕ) → n.kind ≡ k → Enters s.entries x None rev t.entries → get (tree_of s.entries) x ≡ Some n
    → WellFormed (tree_of s.entries) → EndsFile k x n.ver.0 s.edits s.ids t.edits t.ids → t.blocks ≡ s.blocks → LosesNothing s t
ended s t x n Folder rev kind entered here form ends blocks = record {
  entries = next_entry s.entries x None 0 ∷ [];
  edits = [];
  entered = entered.1;
  recorded = ap (λ (r : Recorded). r.edits) ends.0 ∙ sym (append-nil s.edits.edits);
  blocks = same_blocks s.blocks t.blocks blocks;
  kept = λ v some has. all_kept s.entries t.entries x None rev entered t.edits.edits v
      (λ k at ver. absurd (let same : k ≡ n = one_node (tree_of s.entries) x k n at here in
      no_version n.kind n.ver.0 n.bit v kind (form.fits x n here) (ap (λ (n : Node). n.ver.0) (sym same) ∙ ver) some)) has;
  put = tt;
}
ended s t x n File rev kind entered here form ends blocks = record {
  entries = next_entry s.entries x None 0 ∷ [];
  edits = _;
  entered = entered.1;
  recorded = ap (λ (r : Recorded). r.edits) ends.0;
  blocks = same_blocks s.blocks t.blocks blocks;
  kept = λ v some has. all_kept s.entries t.entries x None rev entered t.edits.edits v
      (λ k at ver. inr (let same : k ≡ n = one_node (tree_of s.entries) x k n at here in
      subst (λ (r : Recorded). IsReplaced r.edits v) (sym ends.0) (last_replaced s.edits.edits _ v (ap (λ (n : Node). n.ver.0) (sym same) ∙ ver)))) has;
  put = (tt, tt);
}

removed : (s t : WebState) (x : ℕ) (n : Node) (a : WebReply) → get (tree_of s.entries) x ≡ Some n → WellFormed (tree_of s.entries)
    → CutAnswers s.entries s.edits s.ids x n a t.entries t.edits t.ids → t.blocks ≡ s.blocks → LosesNothing s t
removed s t x n (reply.Accepted rev) here form is blocks = ended s t x n n.kind rev refl is.1 here form is.2 blocks
removed s t x n reply.NotEmpty here form is blocks = only_these s t is.1 blocks is.2
removed s t x n reply.Memory here form is blocks = only_these s t is.0 blocks is.1
removed s t x n _ here form is blocks = absurd is

wrote_new : (s t : WebState) (place : Place) (bytes : List ℕ) (a : WebReply) → IsNextId s.ids.next_id s.entries → WritesNew s place bytes a t → LosesNothing s t
wrote_new s t place bytes (reply.Accepted rev) fresh is =
    written s t s.ids.next_id _ 0 bytes rev is.0 (λ n at. absurd (not_both (tree_of s.entries) s.ids.next_id n (nobody s.ids.next_id s.entries fresh) at))
wrote_new s t place bytes reply.Memory fresh is = gained s t is
wrote_new s t place bytes _ fresh is = absurd is

wrote_over : (s t : WebState) (x : ℕ) (n : Node) (bytes : List ℕ) (a : WebReply) → get (tree_of s.entries) x ≡ Some n → WritesOver s x n bytes a t → LosesNothing s t
wrote_over s t x n bytes (reply.Accepted rev) here is =
    written s t x _ n.ver.0 bytes rev is.2 (λ k at. ap (λ (n : Node). n.ver.0) (one_node (tree_of s.entries) x k n at here))
wrote_over s t x n bytes reply.KindChanged here is = unchanged s t is.1
wrote_over s t x n bytes reply.Same here is = unchanged s t is.2
wrote_over s t x n bytes reply.Memory here is = gained s t is
wrote_over s t x n bytes _ here is = absurd is

at_place : (s t : WebState) (e : WebEdit) (place : Place) (a : WebReply) → WellFormed (tree_of s.entries) → IsNextId s.ids.next_id s.entries
    → AnswersAt s e place a t → LosesNothing s t
at_place s t (edit.Mkdir path) place a form fresh is = made s t place a fresh is.0 is.1 is.2
at_place s t (edit.Write path filling) place a form fresh (inl (vacant, is)) = wrote_new s t place (filling_bytes filling) a fresh is
at_place s t (edit.Write path filling) place a form fresh (inr (x, n, here, same, is)) = wrote_over s t x n (filling_bytes filling) a here is
at_place s t (edit.Move from to) place a form fresh (inl (vacant, none), blocks, edits, ids) = only_these s t none.1 blocks edits
at_place s t (edit.Move from to) place a form fresh (inr (x, n, here, same, inl (nowhere, none)), blocks, edits, ids) = only_these s t none.1 blocks edits
at_place s t (edit.Move from to) place a form fresh (inr (x, n, here, same, inr (target, leads, is)), blocks, edits, ids) = moved s t x n target a here is blocks edits
at_place s t (edit.Remove path) place a form fresh (inl (vacant, none), blocks) = only_these s t none.1 blocks none.2
at_place s t (edit.Remove path) place a form fresh (inr (x, n, here, same, is), blocks) = removed s t x n a here form is blocks
at_place s t (edit.Bit path on) place a form fresh (inl (vacant, none), blocks, edits, ids) = only_these s t none.1 blocks edits
at_place s t (edit.Bit path on) place a form fresh (inr (x, n, here, same, is), blocks, edits, ids) = set s t x n on a here is blocks edits

pub nothing_lost : WebLosesNothing
nothing_lost s t e a journal fresh (inl (nowhere, none)) = unchanged s t none.1
nothing_lost s t e a journal fresh (inr (place, leads, is)) = at_place s t e place a (form_of s.entries journal) fresh is
