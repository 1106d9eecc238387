-- An edit on the web keeps what all share.
use Rattle.std.proofs.Common.{◌≡◌, ◌≢◌, ◌<◌, ◌≤◌, ◌+◌, ◌++◌, ℕ, Bool, List, [], ◌∷◌, Some, None, refl, sym, ◌∙◌, ap, subst, inl, inr, arith}
use Rattle.std.specs.FinMap.{get}
use Rattle.nuc_base.specs.declared.node.Counters.{Counters}
use Rattle.nuc_base.specs.declared.node.Kind.{Kind}
use Rattle.nuc_base.specs.declared.node.Kind.TheVariants.{Folder, File}
use Rattle.nuc_base.specs.declared.node.Node.{Node}
use Rattle.nuc_base.specs.declared.node.Place.{Place}
use Rattle.nuc_edits.specs.Edits.{IsNext, Recorded, WasPut}
use Rattle.nuc_edits.specs.declared.edit.Edit.{Edit}
use Rattle.nuc_edits.specs.declared.edit.EditKind.{EditKind}
use Rattle.nuc_edits.specs.declared.edit.EditKind.TheVariants as put
use Rattle.nuc_edits.proofs.Contents.{put_entered, put_kept}
use Rattle.nuc_hash.specs.Content.{content_of}
use Rattle.nuc_hash.specs.Filling.{filling_bytes}
use Rattle.nuc_journal.specs.Entries.{tree_of}
use Rattle.nuc_journal.specs.Journal.{IsJournal}
use Rattle.nuc_server.specs.Judge.{next_entry}
use Rattle.nuc_server.specs.Web.{AnswersAt, WebAnswers}
use Rattle.nuc_server.specs.WebEdits.{BitAnswers, CutAnswers, EndsFile, Enters, MkdirAnswers, MoveAnswers, PutAnswers, RemoveAnswers, SetsBit, WebState, WriteAnswers, WritesNew, WritesOver, with_edit}
use Rattle.nuc_server.specs.declared.web_edit.WebEdit.{WebEdit}
use Rattle.nuc_server.specs.declared.web_edit.WebEdit.TheVariants as edit
use Rattle.nuc_server.specs.declared.web_edit.WebReply.{WebReply}
use Rattle.nuc_server.specs.declared.web_edit.WebReply.TheVariants as reply
use Rattle.nuc_world.specs.Form.{IsKnown, IsShared}
use Rattle.nuc_world.proofs.Entered.{entry_passes, next_entered, no_entry_passes, stands_known, with_kind, with_kind_below, with_kind_own}
use Rattle.nuc_world.proofs.Grown.{Grows, Passes, known_grown}

-- of the same identity, kind and version
pub known_along : (s : WebState) (kinds : ℕ → Kind) (x y : ℕ) (k l : Kind) (v w : ℕ) → x ≡ y → k ≡ l → v ≡ w → IsKnown s kinds x k v → IsKnown s kinds y l w
known_along s kinds x y k l v w id kind ver known =
    subst (λ z. IsKnown s kinds z l w) id (subst (λ j. IsKnown s kinds x j w) kind (subst (λ u. IsKnown s kinds x k u) ver known))

module _ (s t : WebState) (kinds : ℕ → Kind) (shared : IsShared s kinds) (journal : IsJournal t.entries) where
  -- NOTHING IS RECORDED, and no identity given
  stays_grown : t.edits ≡ s.edits → t.ids ≡ s.ids → Grows s t kinds kinds
  stays_grown edits ids = record {
    kind = λ x below. refl;
    below = let next : t.ids.next_id ≡ s.ids.next_id = ap (λ (i : Counters). i.next_id) ids in omega (arith, next);
    put = λ v was. subst (λ (r : Recorded). WasPut r.edits v) (sym edits) was;
  }

  stays_next : t.edits ≡ s.edits → t.ids ≡ s.ids → IsNext t.ids.next_ver t.edits.edits
  stays_next edits ids = subst (λ (r : Recorded). IsNext t.ids.next_ver r.edits) (sym edits) (subst (λ (i : Counters). IsNext i.next_ver s.edits.edits) (sym ids) shared.next_ver)

  stays : t.entries ≡ s.entries → t.edits ≡ s.edits → t.ids ≡ s.ids → Passes s t kinds
  stays entries edits ids = no_entry_passes s t kinds kinds shared (stays_grown edits ids) entries (stays_next edits ids)

  -- a node of the kind and version of one that stands there
  alike : (x : ℕ) (n new : Node) (rev : ℕ) → get (tree_of s.entries) x ≡ Some n → new.kind ≡ n.kind → new.ver.0 ≡ n.ver.0
      → Enters s.entries x (Some new) rev t.entries → t.edits ≡ s.edits → t.ids ≡ s.ids → Passes s t kinds
  alike x n new rev at kind ver entered edits ids =
      let grows = stays_grown edits ids in
      let known : IsKnown t kinds x n.kind n.ver.0 = known_grown s t kinds kinds grows x n.kind n.ver.0 (stands_known s kinds shared x n at) in
      entry_passes s t kinds kinds shared grows (next_entry s.entries x (Some new) 0) entered.1 journal known.below (stays_next edits ids)
      (λ y k v brings. known_along t kinds x y n.kind k n.ver.0 v brings.0 (sym kind ∙ brings.1.0) (sym ver ∙ brings.1.1) known)

  -- AN EDIT MORE, under the next version
  module _ (x base : ℕ) (what : EditKind) (edits : t.edits ≡ with_edit s.edits s.ids.next_ver x base what) (next_ver : t.ids.next_ver ≡ s.ids.next_ver + 1) where
    new_edit : Edit
    new_edit = record { ver = record { 0 = s.ids.next_ver }; id = record { 0 = x }; base = record { 0 = base }; what = what }

    edited_list : t.edits.edits ≡ s.edits.edits ++ new_edit ∷ []
    unfolding new_edit
    edited_list = ap (λ (r : Recorded). r.edits) edits

    edited_put : (v : ℕ) → WasPut s.edits.edits v → WasPut t.edits.edits v
    edited_put v was = subst (λ es. WasPut es v) (sym edited_list) (put_kept s.edits.edits (new_edit ∷ []) v was)

    edited_next : IsNext t.ids.next_ver t.edits.edits
    unfolding new_edit
    edited_next = subst (λ es. IsNext t.ids.next_ver es) (sym edited_list) (subst (λ v. IsNext v (s.edits.edits ++ new_edit ∷ [])) (sym next_ver)
        (next_entered s.edits.edits new_edit shared.next_ver))

    edited_has : (bytes : List ℕ) → what ≡ put.Put (content_of bytes) → WasPut t.edits.edits s.ids.next_ver
    unfolding new_edit
    edited_has bytes is = subst (λ es. WasPut es s.ids.next_ver) (sym edited_list) (put_entered s.edits.edits new_edit (content_of bytes) shared.next_ver is)

    edited_grown : (later : ℕ → Kind) → ((y : ℕ) → y < s.ids.next_id → later y ≡ kinds y) → s.ids.next_id ≤ t.ids.next_id → Grows s t kinds later
    edited_grown later kind below = record { kind = kind; below = below; put = edited_put }

  -- A FOLDER
  made : (place : Place) (answer : WebReply) → answer ≢ reply.Memory → MkdirAnswers s.entries s.ids place answer t.entries t.ids → t.edits ≡ s.edits → Passes s t kinds
  made place (reply.Accepted rev) known (vacant, entered, ids) edits =
      let later : ℕ → Kind = with_kind kinds s.ids.next_id Folder in
      let next : t.ids.next_id ≡ s.ids.next_id + 1 = ap (λ (i : Counters). i.next_id) ids in
      let grows : Grows s t kinds later = record {
        kind = with_kind_below kinds s.ids.next_id Folder;
        below = omega (arith, next);
        put = λ v was. subst (λ (r : Recorded). WasPut r.edits v) (sym edits) was;
      } in
      let its : IsKnown t later s.ids.next_id Folder 0 = record { kind = sym (with_kind_own kinds s.ids.next_id Folder); below = omega (arith, next); put = refl } in
      entry_passes s t kinds later shared grows (next_entry s.entries s.ids.next_id _ 0) entered.1 journal its.below
      (subst (λ (r : Recorded). IsNext t.ids.next_ver r.edits) (sym edits) (subst (λ (i : Counters). IsNext i.next_ver s.edits.edits) (sym ids) shared.next_ver))
      (λ y k v brings. known_along t later s.ids.next_id y Folder k 0 v brings.0 brings.1.0 brings.1.1 its)
  made place (reply.Taken y) known (stands, entries, ids) edits = stays entries edits ids
  made place reply.Memory known is edits = absurd (known refl)
  made place reply.Same known is edits = absurd is
  made place reply.NoSuch known is edits = absurd is
  made place reply.NoParent known is edits = absurd is
  made place reply.KindChanged known is edits = absurd is
  made place reply.NotEmpty known is edits = absurd is
  made place reply.Cycle known is edits = absurd is

  -- A FILE
  new_file : (place : Place) (bytes : List ℕ) (answer : WebReply) → answer ≢ reply.Memory → WritesNew s place bytes answer t → Passes s t kinds
  new_file place bytes (reply.Accepted rev) known (writes, ids) =
      let later : ℕ → Kind = with_kind kinds s.ids.next_id File in
      let next : t.ids.next_id ≡ s.ids.next_id + 1 = ap (λ (i : Counters). i.next_id) ids in
      let next_ver : t.ids.next_ver ≡ s.ids.next_ver + 1 = ap (λ (i : Counters). i.next_ver) ids in
      let what = put.Put (content_of bytes) in
      let its : IsKnown t later s.ids.next_id File s.ids.next_ver = record {
        kind = sym (with_kind_own kinds s.ids.next_id File);
        below = omega (arith, next);
        put = edited_has s.ids.next_id 0 what writes.edits next_ver bytes refl;
      } in
      entry_passes s t kinds later shared
      (edited_grown s.ids.next_id 0 what writes.edits next_ver later (with_kind_below kinds s.ids.next_id File) (omega (arith, next)))
      (next_entry s.entries s.ids.next_id _ 0) writes.entries.1 journal its.below (edited_next s.ids.next_id 0 what writes.edits next_ver)
      (λ y k v brings. known_along t later s.ids.next_id y File k s.ids.next_ver v brings.0 brings.1.0 brings.1.1 its)
  new_file place bytes reply.Memory known is = absurd (known refl)
  new_file place bytes (reply.Taken y) known is = absurd is
  new_file place bytes reply.Same known is = absurd is
  new_file place bytes reply.NoSuch known is = absurd is
  new_file place bytes reply.NoParent known is = absurd is
  new_file place bytes reply.KindChanged known is = absurd is
  new_file place bytes reply.NotEmpty known is = absurd is
  new_file place bytes reply.Cycle known is = absurd is

  old_file : (x : ℕ) (n : Node) (bytes : List ℕ) (answer : WebReply) → answer ≢ reply.Memory → get (tree_of s.entries) x ≡ Some n → WritesOver s x n bytes answer t → Passes s t kinds
  old_file x n bytes (reply.Accepted rev) known at (file, other, writes, ids) =
      let next : t.ids.next_id ≡ s.ids.next_id = ap (λ (i : Counters). i.next_id) ids in
      let next_ver : t.ids.next_ver ≡ s.ids.next_ver + 1 = ap (λ (i : Counters). i.next_ver) ids in
      let what = put.Put (content_of bytes) in
      let old = stands_known s kinds shared x n at in
      let under = old.below in
      let its : IsKnown t kinds x File s.ids.next_ver = record {
        kind = sym file ∙ old.kind;
        below = omega (arith, next, under);
        put = edited_has x n.ver.0 what writes.edits next_ver bytes refl;
      } in
      entry_passes s t kinds kinds shared (edited_grown x n.ver.0 what writes.edits next_ver kinds (λ y below. refl) (omega (arith, next)))
      (next_entry s.entries x _ 0) writes.entries.1 journal its.below (edited_next x n.ver.0 what writes.edits next_ver)
      (λ y k v brings. known_along t kinds x y File k s.ids.next_ver v brings.0 (sym file ∙ brings.1.0) brings.1.1 its)
  old_file x n bytes reply.KindChanged known at (folder, same) = stays same.entries same.edits same.ids
  old_file x n bytes reply.Same known at (file, is, same) = stays same.entries same.edits same.ids
  old_file x n bytes reply.Memory known at is = absurd (known refl)
  old_file x n bytes (reply.Taken y) known at is = absurd is
  old_file x n bytes reply.NoSuch known at is = absurd is
  old_file x n bytes reply.NoParent known at is = absurd is
  old_file x n bytes reply.NotEmpty known at is = absurd is
  old_file x n bytes reply.Cycle known at is = absurd is

  written : (place : Place) (bytes : List ℕ) (answer : WebReply) → answer ≢ reply.Memory → WriteAnswers s place bytes answer t → Passes s t kinds
  written place bytes answer known (inl (vacant, writes)) = new_file place bytes answer known writes
  written place bytes answer known (inr (x, n, at, near, writes)) = old_file x n bytes answer known at writes

  -- A MOVE
  placed : (x : ℕ) (n : Node) (target : Place) (answer : WebReply) → answer ≢ reply.Memory → get (tree_of s.entries) x ≡ Some n
      → PutAnswers s.entries x (record n { place = target }) answer t.entries → t.edits ≡ s.edits → t.ids ≡ s.ids → Passes s t kinds
  placed x n target (reply.Accepted rev) known at (legal, entered) edits ids = alike x n (record n { place = target }) rev at refl refl entered edits ids
  placed x n target (reply.Taken y) known at (faulty, entries) edits ids = stays entries edits ids
  placed x n target reply.Cycle known at (faulty, entries) edits ids = stays entries edits ids
  placed x n target reply.Memory known at is edits ids = absurd (known refl)
  placed x n target reply.Same known at is edits ids = absurd is
  placed x n target reply.NoSuch known at is edits ids = absurd is
  placed x n target reply.NoParent known at is edits ids = absurd is
  placed x n target reply.KindChanged known at is edits ids = absurd is
  placed x n target reply.NotEmpty known at is edits ids = absurd is

  moved : (place : Place) (to : List (List ℕ)) (answer : WebReply) → answer ≢ reply.Memory → MoveAnswers s.entries place to answer t.entries
      → t.edits ≡ s.edits → t.ids ≡ s.ids → Passes s t kinds
  moved place to answer known (inl (vacant, (is, entries))) edits ids = stays entries edits ids
  moved place to answer known (inr (x, n, at, near, inl (nowhere, (is, entries)))) edits ids = stays entries edits ids
  moved place to answer known (inr (x, n, at, near, inr (target, leads, puts))) edits ids = placed x n target answer known at puts edits ids

  -- AN END
  ended : (x : ℕ) (n : Node) (rev : ℕ) (kind : Kind) → get (tree_of s.entries) x ≡ Some n → Enters s.entries x None rev t.entries
      → EndsFile kind x n.ver.0 s.edits s.ids t.edits t.ids → Passes s t kinds
  ended x n rev Folder at entered (edits, ids) =
      let grows = stays_grown edits ids in
      let known : IsKnown t kinds x n.kind n.ver.0 = known_grown s t kinds kinds grows x n.kind n.ver.0 (stands_known s kinds shared x n at) in
      entry_passes s t kinds kinds shared grows (next_entry s.entries x None 0) entered.1 journal known.below (stays_next edits ids)
      (λ y k v brings. absurd brings.1)
  ended x n rev File at entered (edits, ids) =
      let next : t.ids.next_id ≡ s.ids.next_id = ap (λ (i : Counters). i.next_id) ids in
      let next_ver : t.ids.next_ver ≡ s.ids.next_ver + 1 = ap (λ (i : Counters). i.next_ver) ids in
      let under = (stands_known s kinds shared x n at).below in
      entry_passes s t kinds kinds shared (edited_grown x n.ver.0 put.Deleted edits next_ver kinds (λ y below. refl) (omega (arith, next)))
      (next_entry s.entries x None 0) entered.1 journal (omega (arith, next, under)) (edited_next x n.ver.0 put.Deleted edits next_ver)
      (λ y k v brings. absurd brings.1)

  cut : (x : ℕ) (n : Node) (answer : WebReply) → answer ≢ reply.Memory → get (tree_of s.entries) x ≡ Some n
      → CutAnswers s.entries s.edits s.ids x n answer t.entries t.edits t.ids → Passes s t kinds
  cut x n (reply.Accepted rev) known at (legal, entered, ends) = ended x n rev n.kind at entered ends
  cut x n reply.NotEmpty known at (faulty, entries, edits, ids) = stays entries edits ids
  cut x n reply.Memory known at is = absurd (known refl)
  cut x n (reply.Taken y) known at is = absurd is
  cut x n reply.Same known at is = absurd is
  cut x n reply.NoSuch known at is = absurd is
  cut x n reply.NoParent known at is = absurd is
  cut x n reply.KindChanged known at is = absurd is
  cut x n reply.Cycle known at is = absurd is

  removed : (place : Place) (answer : WebReply) → answer ≢ reply.Memory → RemoveAnswers s.entries s.edits s.ids place answer t.entries t.edits t.ids → Passes s t kinds
  removed place answer known (inl (vacant, (is, entries, edits, ids))) = stays entries edits ids
  removed place answer known (inr (x, n, at, near, cuts)) = cut x n answer known at cuts

  -- A BIT
  bit_set : (x : ℕ) (n : Node) (on : Bool) (answer : WebReply) → answer ≢ reply.Memory → get (tree_of s.entries) x ≡ Some n → SetsBit s.entries x n on answer t.entries
      → t.edits ≡ s.edits → t.ids ≡ s.ids → Passes s t kinds
  bit_set x n on (reply.Accepted rev) known at (file, other, entered) edits ids = alike x n (record n { bit = on }) rev at refl refl entered edits ids
  bit_set x n on reply.KindChanged known at (folder, entries) edits ids = stays entries edits ids
  bit_set x n on reply.Same known at (file, same, entries) edits ids = stays entries edits ids
  bit_set x n on reply.Memory known at is edits ids = absurd (known refl)
  bit_set x n on (reply.Taken y) known at is edits ids = absurd is
  bit_set x n on reply.NoSuch known at is edits ids = absurd is
  bit_set x n on reply.NoParent known at is edits ids = absurd is
  bit_set x n on reply.NotEmpty known at is edits ids = absurd is
  bit_set x n on reply.Cycle known at is edits ids = absurd is

  switched : (place : Place) (on : Bool) (answer : WebReply) → answer ≢ reply.Memory → BitAnswers s.entries place on answer t.entries
      → t.edits ≡ s.edits → t.ids ≡ s.ids → Passes s t kinds
  switched place on answer known (inl (vacant, (is, entries))) edits ids = stays entries edits ids
  switched place on answer known (inr (x, n, at, near, sets)) edits ids = bit_set x n on answer known at sets edits ids

  -- EVERY EDIT
  at_place : (e : WebEdit) (place : Place) (answer : WebReply) → answer ≢ reply.Memory → AnswersAt s e place answer t → Passes s t kinds
  at_place (edit.Mkdir path) place answer known (makes, blocks, edits) = made place answer known makes edits
  at_place (edit.Write path filling) place answer known writes = written place (filling_bytes filling) answer known writes
  at_place (edit.Move from to) place answer known (moves, blocks, edits, ids) = moved place to.names answer known moves edits ids
  at_place (edit.Remove path) place answer known (removes, blocks) = removed place answer known removes
  at_place (edit.Bit path on) place answer known (sets, blocks, edits, ids) = switched place on answer known sets edits ids

  pub web_passes : (e : WebEdit) (answer : WebReply) → answer ≢ reply.Memory → WebAnswers s e answer t → Passes s t kinds
  web_passes e answer known (inl (nowhere, (is, same))) = stays same.entries same.edits same.ids
  web_passes e answer known (inr (place, leads, answers)) = at_place e place answer known answers
