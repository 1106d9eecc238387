-- An edit on the web brings the journal the names of its paths, and no other, and gives at most one identity.
use Rattle.std.specs.Prelude.{All}
use Rattle.std.proofs.Common.{◌≡◌, ◌≢◌, ◌≤◌, ◌+◌, ◌++◌, ℕ, Bool, List, [], ◌∷◌, Option, Some, None, refl, sym, ap, subst, inl, inr, arith}
use Rattle.std.specs.FinMap.{empty, get}
use Rattle.std.specs.List.{AllByRecursion}
use Rattle.nuc_base.specs.Names.{IsName}
use Rattle.nuc_base.specs.declared.node.Counters.{Counters}
use Rattle.nuc_base.specs.declared.node.Kind.{Kind}
use Rattle.nuc_base.specs.declared.node.Kind.TheVariants.{Folder, File}
use Rattle.nuc_base.specs.declared.node.Node.{Node}
use Rattle.nuc_base.specs.declared.node.Place.{Place}
use Rattle.nuc_hash.specs.Filling.{filling_bytes}
use Rattle.nuc_journal.specs.Entries.{tree_of}
use Rattle.nuc_journal.specs.declared.entry.Entry.{Entry}
use Rattle.nuc_script.specs.Fitting.{FitsWeb}
use Rattle.nuc_server.specs.Judge.{next_entry}
use Rattle.nuc_server.specs.Web.{AnswersAt, WebAnswers, path_of}
use Rattle.nuc_server.specs.WebEdits.{BitAnswers, CutAnswers, EndsFile, Enters, MkdirAnswers, MoveAnswers, PutAnswers, RemoveAnswers, SetsBit, WebState, WriteAnswers, WritesNew, WritesOver}
use Rattle.nuc_server.specs.declared.web_edit.WebEdit.{WebEdit}
use Rattle.nuc_server.specs.declared.web_edit.WebEdit.TheVariants as edit
use Rattle.nuc_server.specs.declared.web_edit.WebReply.{WebReply}
use Rattle.nuc_server.specs.declared.web_edit.WebReply.TheVariants as reply
use Rattle.nuc_fit.proofs.NamesForm.{Named, NamedEntry, NamedValue}
use Rattle.nuc_fit.proofs.NamesLists.{all_append, all_front, all_none}
use Rattle.nuc_fit.proofs.NamesPaths.{leads_named}
use Rattle.nuc_fit.proofs.NamesTrees.{empty_named, entries_named}

pub record WebNamed (s t : WebState) : Type 0 where
  pub entries : All NamedEntry t.entries
  pub next : t.ids.next_id ≤ s.ids.next_id + 1

-- one entry more
pub entered_named : (es : List Entry) (x : ℕ) (value : Option Node) (by : ℕ) (now : List Entry) → now ≡ es ++ next_entry es x value by ∷ [] → NamedValue value
    → All NamedEntry es → All NamedEntry now
entered_named es x value by now is its all = subst (All NamedEntry) (sym is)
    (all_append NamedEntry es (next_entry es x value by ∷ []) all (all_front NamedEntry (next_entry es x value by) [] its (all_none NamedEntry)))

fits_path : (e : WebEdit) → FitsWeb e → AllByRecursion IsName (path_of e)
fits_path (edit.Mkdir path) fits = fits.1
fits_path (edit.Write path filling) fits = fits.0.1
fits_path (edit.Move from to) fits = fits.0.1
fits_path (edit.Remove path) fits = fits.1
fits_path (edit.Bit path on) fits = fits.1

module _ (s t : WebState) (named : All NamedEntry s.entries) where
  tree_named : Named (tree_of s.entries)
  tree_named = entries_named empty s.entries named empty_named

  same_next : t.ids ≡ s.ids → t.ids.next_id ≤ s.ids.next_id + 1
  same_next ids = let next : t.ids.next_id ≡ s.ids.next_id = ap (λ (i : Counters). i.next_id) ids in omega (arith, next)

  stays : t.entries ≡ s.entries → t.ids ≡ s.ids → WebNamed s t
  stays entries ids = record { entries = subst (All NamedEntry) (sym entries) named; next = same_next ids }

  enters : (x : ℕ) (value : Option Node) (rev : ℕ) → NamedValue value → Enters s.entries x value rev t.entries → t.ids.next_id ≤ s.ids.next_id + 1 → WebNamed s t
  enters x value rev its entered next = record { entries = entered_named s.entries x value 0 t.entries entered.1 its named; next = next }

  -- A FOLDER
  made : (place : Place) (answer : WebReply) → IsName place.name → answer ≢ reply.Memory → MkdirAnswers s.entries s.ids place answer t.entries t.ids → WebNamed s t
  made place (reply.Accepted rev) its known (vacant, entered, ids) =
      let next : t.ids.next_id ≡ s.ids.next_id + 1 = ap (λ (i : Counters). i.next_id) ids in
      enters s.ids.next_id _ rev its entered (omega (arith, next))
  made place (reply.Taken y) its known (stands, entries, ids) = stays entries ids
  made place reply.Memory its known is = absurd (known refl)
  made place reply.Same its known is = absurd is
  made place reply.NoSuch its known is = absurd is
  made place reply.NoParent its known is = absurd is
  made place reply.KindChanged its known is = absurd is
  made place reply.NotEmpty its known is = absurd is
  made place reply.Cycle its known is = absurd is

  -- A FILE
  new_file : (place : Place) (bytes : List ℕ) (answer : WebReply) → IsName place.name → answer ≢ reply.Memory → WritesNew s place bytes answer t → WebNamed s t
  new_file place bytes (reply.Accepted rev) its known (writes, ids) =
      let next : t.ids.next_id ≡ s.ids.next_id + 1 = ap (λ (i : Counters). i.next_id) ids in
      enters s.ids.next_id _ rev its writes.entries (omega (arith, next))
  new_file place bytes reply.Memory its known is = absurd (known refl)
  new_file place bytes (reply.Taken y) its known is = absurd is
  new_file place bytes reply.Same its known is = absurd is
  new_file place bytes reply.NoSuch its known is = absurd is
  new_file place bytes reply.NoParent its known is = absurd is
  new_file place bytes reply.KindChanged its known is = absurd is
  new_file place bytes reply.NotEmpty its known is = absurd is
  new_file place bytes reply.Cycle its known is = absurd is

  old_file : (x : ℕ) (n : Node) (bytes : List ℕ) (answer : WebReply) → answer ≢ reply.Memory → get (tree_of s.entries) x ≡ Some n → WritesOver s x n bytes answer t → WebNamed s t
  old_file x n bytes (reply.Accepted rev) known at (file, other, writes, ids) =
      let next : t.ids.next_id ≡ s.ids.next_id = ap (λ (i : Counters). i.next_id) ids in
      enters x _ rev (tree_named x n at) writes.entries (omega (arith, next))
  old_file x n bytes reply.KindChanged known at (folder, same) = stays same.entries same.ids
  old_file x n bytes reply.Same known at (file, is, same) = stays same.entries same.ids
  old_file x n bytes reply.Memory known at is = absurd (known refl)
  old_file x n bytes (reply.Taken y) known at is = absurd is
  old_file x n bytes reply.NoSuch known at is = absurd is
  old_file x n bytes reply.NoParent known at is = absurd is
  old_file x n bytes reply.NotEmpty known at is = absurd is
  old_file x n bytes reply.Cycle known at is = absurd is

  written : (place : Place) (bytes : List ℕ) (answer : WebReply) → IsName place.name → answer ≢ reply.Memory → WriteAnswers s place bytes answer t → WebNamed s t
  written place bytes answer its known (inl (vacant, writes)) = new_file place bytes answer its known writes
  written place bytes answer its known (inr (x, n, at, near, writes)) = old_file x n bytes answer known at writes

  -- A MOVE
  placed : (x : ℕ) (n : Node) (target : Place) (answer : WebReply) → IsName target.name → answer ≢ reply.Memory
      → PutAnswers s.entries x (record n { place = target }) answer t.entries → t.ids ≡ s.ids → WebNamed s t
  placed x n target (reply.Accepted rev) its known (legal, entered) ids = enters x _ rev its entered (same_next ids)
  placed x n target (reply.Taken y) its known (faulty, entries) ids = stays entries ids
  placed x n target reply.Cycle its known (faulty, entries) ids = stays entries ids
  placed x n target reply.Memory its known is ids = absurd (known refl)
  placed x n target reply.Same its known is ids = absurd is
  placed x n target reply.NoSuch its known is ids = absurd is
  placed x n target reply.NoParent its known is ids = absurd is
  placed x n target reply.KindChanged its known is ids = absurd is
  placed x n target reply.NotEmpty its known is ids = absurd is

  moved : (place : Place) (to : List (List ℕ)) (answer : WebReply) → AllByRecursion IsName to → answer ≢ reply.Memory → MoveAnswers s.entries place to answer t.entries
      → t.ids ≡ s.ids → WebNamed s t
  moved place to answer names known (inl (vacant, (is, entries))) ids = stays entries ids
  moved place to answer names known (inr (x, n, at, near, inl (nowhere, (is, entries)))) ids = stays entries ids
  moved place to answer names known (inr (x, n, at, near, inr (target, leads, puts))) ids =
      placed x n target answer (leads_named (tree_of s.entries) 0 to target names leads) known puts ids

  -- AN END
  ended : (x : ℕ) (n : Node) (rev : ℕ) (kind : Kind) → Enters s.entries x None rev t.entries → EndsFile kind x n.ver.0 s.edits s.ids t.edits t.ids → WebNamed s t
  ended x n rev Folder entered (edits, ids) = enters x None rev tt entered (same_next ids)
  ended x n rev File entered (edits, ids) =
      let next : t.ids.next_id ≡ s.ids.next_id = ap (λ (i : Counters). i.next_id) ids in
      enters x None rev tt entered (omega (arith, next))

  cut : (x : ℕ) (n : Node) (answer : WebReply) → answer ≢ reply.Memory → CutAnswers s.entries s.edits s.ids x n answer t.entries t.edits t.ids → WebNamed s t
  cut x n (reply.Accepted rev) known (legal, entered, ends) = ended x n rev n.kind entered ends
  cut x n reply.NotEmpty known (faulty, entries, edits, ids) = stays entries ids
  cut x n reply.Memory known is = absurd (known refl)
  cut x n (reply.Taken y) known is = absurd is
  cut x n reply.Same known is = absurd is
  cut x n reply.NoSuch known is = absurd is
  cut x n reply.NoParent known is = absurd is
  cut x n reply.KindChanged known is = absurd is
  cut x n reply.Cycle known is = absurd is

  removed : (place : Place) (answer : WebReply) → answer ≢ reply.Memory → RemoveAnswers s.entries s.edits s.ids place answer t.entries t.edits t.ids → WebNamed s t
  removed place answer known (inl (vacant, (is, entries, edits, ids))) = stays entries ids
  removed place answer known (inr (x, n, at, near, cuts)) = cut x n answer known cuts

  -- A BIT
  bit_set : (x : ℕ) (n : Node) (on : Bool) (answer : WebReply) → answer ≢ reply.Memory → get (tree_of s.entries) x ≡ Some n → SetsBit s.entries x n on answer t.entries
      → t.ids ≡ s.ids → WebNamed s t
  bit_set x n on (reply.Accepted rev) known at (file, other, entered) ids = enters x _ rev (tree_named x n at) entered (same_next ids)
  bit_set x n on reply.KindChanged known at (folder, entries) ids = stays entries ids
  bit_set x n on reply.Same known at (file, same, entries) ids = stays entries ids
  bit_set x n on reply.Memory known at is ids = absurd (known refl)
  bit_set x n on (reply.Taken y) known at is ids = absurd is
  bit_set x n on reply.NoSuch known at is ids = absurd is
  bit_set x n on reply.NoParent known at is ids = absurd is
  bit_set x n on reply.NotEmpty known at is ids = absurd is
  bit_set x n on reply.Cycle known at is ids = absurd is

  switched : (place : Place) (on : Bool) (answer : WebReply) → answer ≢ reply.Memory → BitAnswers s.entries place on answer t.entries → t.ids ≡ s.ids → WebNamed s t
  switched place on answer known (inl (vacant, (is, entries))) ids = stays entries ids
  switched place on answer known (inr (x, n, at, near, sets)) ids = bit_set x n on answer known at sets ids

  -- EVERY EDIT
  at_place : (e : WebEdit) (place : Place) (answer : WebReply) → FitsWeb e → IsName place.name → answer ≢ reply.Memory → AnswersAt s e place answer t → WebNamed s t
  at_place (edit.Mkdir path) place answer fits its known (makes, blocks, edits) = made place answer its known makes
  at_place (edit.Write path filling) place answer fits its known writes = written place (filling_bytes filling) answer its known writes
  at_place (edit.Move from to) place answer fits its known (moves, blocks, edits, ids) = moved place to.names answer fits.1.1 known moves ids
  at_place (edit.Remove path) place answer fits its known (removes, blocks) = removed place answer known removes
  at_place (edit.Bit path on) place answer fits its known (sets, blocks, edits, ids) = switched place on answer known sets ids

  pub web_named : (e : WebEdit) (answer : WebReply) → FitsWeb e → answer ≢ reply.Memory → WebAnswers s e answer t → WebNamed s t
  web_named e answer fits known (inl (nowhere, (is, same))) = stays same.entries same.ids
  web_named e answer fits known (inr (place, leads, answers)) =
      at_place e place answer fits (leads_named (tree_of s.entries) 0 (path_of e) place (fits_path e fits) leads) known answers
