-- An edit on the web loses nothing, identity by identity.
use Rattle.std.specs.Prelude.{All, Any}
use Rattle.std.proofs.Common.{◌≡◌, ◌⊎◌, ◌<◌, ◌++◌, ℕ, Bool, List, [], ◌∷◌, Option, Some, None, refl, sym, ◌∙◌, ap, subst, inl, inr, arith}
use Rattle.std.proofs.lemmas.List.{append-nil}
use Rattle.std.specs.FinMap.{empty, get}
use Rattle.nuc_base.specs.Trees.{Nodes}
use Rattle.nuc_base.specs.declared.node.Kind.{Kind}
use Rattle.nuc_base.specs.declared.node.Kind.TheVariants.{Folder, File}
use Rattle.nuc_base.specs.declared.node.Node.{Node}
use Rattle.nuc_base.specs.declared.node.Place.{Place}
use Rattle.nuc_edits.specs.Edits.{Recorded}
use Rattle.nuc_edits.specs.declared.edit.Edit.{Edit}
use Rattle.nuc_edits.specs.declared.edit.EditKind.{EditKind}
use Rattle.nuc_edits.specs.declared.edit.EditKind.TheVariants as put
use Rattle.nuc_hash.specs.Content.{content_of}
use Rattle.nuc_hash.specs.Filling.{filling_bytes}
use Rattle.nuc_journal.specs.Entries.{tree_of}
use Rattle.nuc_journal.specs.declared.entry.Entry.{Entry}
use Rattle.nuc_journal.proofs.Ends.{tree_push}
use Rattle.nuc_journal.proofs.Journals.{form_of}
use Rattle.nuc_server.specs.Judge.{next_entry}
use Rattle.nuc_server.specs.Versions.{HasVersion}
use Rattle.nuc_server.specs.Web.{AnswersAt, WebAnswers}
use Rattle.nuc_server.specs.WebEdits.{CutAnswers, EndsFile, Enters, MkdirAnswers, PutAnswers, SetsBit, WebState, Writes, WritesNew, WritesOver, with_edit}
use Rattle.nuc_server.specs.declared.web_edit.WebEdit.{WebEdit}
use Rattle.nuc_server.specs.declared.web_edit.WebEdit.TheVariants as edit
use Rattle.nuc_server.specs.declared.web_edit.WebReply.{WebReply}
use Rattle.nuc_server.specs.declared.web_edit.WebReply.TheVariants as reply
use Rattle.nuc_world.specs.Form.{IsShared}
use Rattle.nuc_world.proofs.AccountedForm.{Comes, Further, GoneBy, Has, IsKeptJournal, IsVersion, Replaces, has_version, node_at}
use Rattle.nuc_world.proofs.AccountedGrown.{any_behind, any_one, further_by, further_same}
use Rattle.nuc_world.proofs.AccountedJournal.{replaces_map, replaces_push, value_same}
use Rattle.nuc_world.proofs.AccountedWatched.{no_version}
use Rattle.nuc_world.proofs.Entered.{stands_known}
use Rattle.nuc_world.proofs.Items.{all_front, all_none}

pub record WebFares (s t : WebState) : Type 0 where
  pub further : Further s t
  pub new : List Edit
  pub recorded : t.edits.edits ≡ s.edits.edits ++ new
  pub comes : (m : Nodes) → All (Comes t m) new
  pub journal : IsKeptJournal t

-- one edit that came
one_comes : (t : WebState) (m : Nodes) (e : Edit) → Comes t m e → All (Comes t m) (e ∷ [])
one_comes t m e its = all_front (Comes t m) e [] its (all_none (Comes t m))

module _ (s t : WebState) (kinds : ℕ → Kind) (shared : IsShared s kinds) (kept : IsKeptJournal s) where
  -- NO ENTRY, and no edit
  stays_so : t.entries ≡ s.entries → t.edits ≡ s.edits → WebFares s t
  stays_so entries edits =
      let further = further_same s t edits entries in
      record {
        further = further;
        new = [];
        recorded = ap (λ (r : Recorded). r.edits) edits ∙ sym (append-nil s.edits.edits);
        comes = λ m. all_none (Comes t m);
        journal = subst (λ es. Replaces (GoneBy t.edits) empty es) (sym entries) (replaces_map (GoneBy s.edits) (GoneBy t.edits) further.gone s.entries empty kept);
      }

  -- AN ENTRY CAME, that gave x a value, and perhaps an edit
  module _ (x : ℕ) (value : Option Node) (rev : ℕ) (entered : Enters s.entries x value rev t.entries) where
    entry_came : (new : List Edit) → t.edits ≡ record s.edits { edits = s.edits.edits ++ new }
        → ((v : ℕ) → 0 < v → Has (tree_of s.entries) x v → IsVersion v value ⊎ GoneBy t.edits v) → ((m : Nodes) → All (Comes t m) new) → WebFares s t
    entry_came new edits replaced comes =
        let e : Entry = next_entry s.entries x value 0 in
        let further = further_by s t new [] (e ∷ []) (ap (λ (r : Recorded). r.edits) edits)
        (ap (λ (r : Recorded). r.adoptions) edits ∙ sym (append-nil s.edits.adoptions)) entered.1 in
        record {
          further = further;
          new = new;
          recorded = ap (λ (r : Recorded). r.edits) edits;
          comes = comes;
          journal = subst (λ es. Replaces (GoneBy t.edits) empty es) (sym entered.1)
              (replaces_push (GoneBy t.edits) s.entries empty e (replaces_map (GoneBy s.edits) (GoneBy t.edits) further.gone s.entries empty kept) replaced);
        }

    no_edit : t.edits ≡ s.edits → t.edits ≡ record s.edits { edits = s.edits.edits ++ [] }
    no_edit edits = edits ∙ ap (λ list. record s.edits { edits = list }) (sym (append-nil s.edits.edits))

    entry_alone : t.edits ≡ s.edits → ((v : ℕ) → 0 < v → Has (tree_of s.entries) x v → IsVersion v value ⊎ GoneBy t.edits v) → WebFares s t
    entry_alone edits replaced = entry_came [] (no_edit edits) replaced (λ m. all_none (Comes t m))

    now_there : (v : ℕ) → IsVersion v value → HasVersion (tree_of t.entries) v
    now_there v is = has_version (tree_of t.entries) x v
        (subst (λ m. Has m x v) (sym (ap tree_of entered.1 ∙ tree_push s.entries (next_entry s.entries x value 0))) (value_same (tree_of s.entries) x v value is))

  based : (ver x base : ℕ) (what : EditKind) → t.edits ≡ with_edit s.edits ver x base what → GoneBy t.edits base
  based ver x base what edits = inl (subst (λ (r : Recorded). Any (λ (e : Edit). e.base.0 ≡ base) r.edits) (sym edits)
      (any_behind (λ (e : Edit). e.base.0 ≡ base) s.edits.edits _ (any_one (λ (e : Edit). e.base.0 ≡ base) _ refl)))

  -- nobody has the next identity
  nobody : (v : ℕ) → Has (tree_of s.entries) s.ids.next_id v → ⊥
  nobody v has =
      let (n, at, ver) = node_at (tree_of s.entries) s.ids.next_id v has in
      let less = (stands_known s kinds shared s.ids.next_id n at).below in omega (arith, less)

  -- EACH ANSWER
  made : (place : Place) (a : WebReply) → MkdirAnswers s.entries s.ids place a t.entries t.ids → t.edits ≡ s.edits → WebFares s t
  made place (reply.Accepted rev) is edits = entry_alone s.ids.next_id _ rev is.1 edits (λ v some has. absurd (nobody v has))
  made place (reply.Taken y) is edits = stays_so is.1 edits
  made place reply.Memory is edits = stays_so is.0 edits
  made place _ is edits = absurd is

  alike : (x : ℕ) (n new : Node) (rev : ℕ) → get (tree_of s.entries) x ≡ Some n → new.ver.0 ≡ n.ver.0 → Enters s.entries x (Some new) rev t.entries → t.edits ≡ s.edits → WebFares s t
  alike x n new rev at ver entered edits = entry_alone x (Some new) rev entered edits (λ v some has. inl (ver ∙ subst (IsVersion v) at has))

  moved : (x : ℕ) (n : Node) (target : Place) (a : WebReply) → get (tree_of s.entries) x ≡ Some n → PutAnswers s.entries x (record n { place = target }) a t.entries
      → t.edits ≡ s.edits → WebFares s t
  moved x n target (reply.Accepted rev) here is edits = alike x n (record n { place = target }) rev here refl is.1 edits
  moved x n target (reply.Taken y) here is edits = stays_so is.1 edits
  moved x n target reply.Cycle here is edits = stays_so is.1 edits
  moved x n target reply.Memory here is edits = stays_so is edits
  moved x n target _ here is edits = absurd is

  set : (x : ℕ) (n : Node) (on : Bool) (a : WebReply) → get (tree_of s.entries) x ≡ Some n → SetsBit s.entries x n on a t.entries → t.edits ≡ s.edits → WebFares s t
  set x n on (reply.Accepted rev) here is edits = alike x n (record n { bit = on }) rev here refl is.2 edits
  set x n on reply.KindChanged here is edits = stays_so is.1 edits
  set x n on reply.Same here is edits = stays_so is.2 edits
  set x n on reply.Memory here is edits = stays_so is edits
  set x n on _ here is edits = absurd is

  ended : (x : ℕ) (n : Node) (k : Kind) (rev : ℕ) → n.kind ≡ k → Enters s.entries x None rev t.entries → get (tree_of s.entries) x ≡ Some n
      → EndsFile k x n.ver.0 s.edits s.ids t.edits t.ids → WebFares s t
  ended x n Folder rev kind entered here ends = entry_alone x None rev entered ends.0
      (λ v some has. absurd (no_version n.kind n.ver.0 n.bit v kind ((form_of s.entries shared.journal).fits x n here) (subst (IsVersion v) here has) some))
  ended x n File rev kind entered here ends = entry_came x None rev entered _ ends.0
      (λ v some has. inr (subst (GoneBy t.edits) (subst (IsVersion v) here has) (based s.ids.next_ver x n.ver.0 put.Deleted ends.0)))
      (λ m. one_comes t m _ (record { some = shared.next_ver.some; stands = tt }))

  removed : (x : ℕ) (n : Node) (a : WebReply) → get (tree_of s.entries) x ≡ Some n → CutAnswers s.entries s.edits s.ids x n a t.entries t.edits t.ids → WebFares s t
  removed x n (reply.Accepted rev) here is = ended x n n.kind rev refl is.1 here is.2
  removed x n reply.NotEmpty here is = stays_so is.1 is.2
  removed x n reply.Memory here is = stays_so is.0 is.1
  removed x n _ here is = absurd is

  -- BYTES WERE WRITTEN
  wrote : (x : ℕ) (node : Node) (base : ℕ) (bytes : List ℕ) (rev : ℕ) → Writes s x node base bytes rev t
      → ((v : ℕ) → 0 < v → Has (tree_of s.entries) x v → v ≡ base) → WebFares s t
  wrote x node base bytes rev w before = entry_came x (Some node) rev w.entries _ w.edits
      (λ v some has. inr (subst (GoneBy t.edits) (sym (before v some has)) (based s.ids.next_ver x base (put.Put (content_of bytes)) w.edits)))
      (λ m. one_comes t m _ (record { some = shared.next_ver.some; stands = inl (now_there x (Some node) rev w.entries s.ids.next_ver w.version) }))

  wrote_new : (place : Place) (bytes : List ℕ) (a : WebReply) → WritesNew s place bytes a t → WebFares s t
  wrote_new place bytes (reply.Accepted rev) is = wrote s.ids.next_id _ 0 bytes rev is.0 (λ v some has. absurd (nobody v has))
  wrote_new place bytes reply.Memory is = stays_so is.entries is.edits
  wrote_new place bytes _ is = absurd is

  wrote_over : (x : ℕ) (n : Node) (bytes : List ℕ) (a : WebReply) → get (tree_of s.entries) x ≡ Some n → WritesOver s x n bytes a t → WebFares s t
  wrote_over x n bytes (reply.Accepted rev) here is = wrote x _ n.ver.0 bytes rev is.2 (λ v some has. sym (subst (IsVersion v) here has))
  wrote_over x n bytes reply.KindChanged here is = stays_so is.1.entries is.1.edits
  wrote_over x n bytes reply.Same here is = stays_so is.2.entries is.2.edits
  wrote_over x n bytes reply.Memory here is = stays_so is.entries is.edits
  wrote_over x n bytes _ here is = absurd is

  at_place : (e : WebEdit) (place : Place) (a : WebReply) → AnswersAt s e place a t → WebFares s t
  at_place (edit.Mkdir path) place a is = made place a is.0 is.2
  at_place (edit.Write path filling) place a (inl (vacant, is)) = wrote_new place (filling_bytes filling) a is
  at_place (edit.Write path filling) place a (inr (x, n, here, same, is)) = wrote_over x n (filling_bytes filling) a here is
  at_place (edit.Move from to) place a (inl (vacant, none), blocks, edits, ids) = stays_so none.1 edits
  at_place (edit.Move from to) place a (inr (x, n, here, same, inl (nowhere, none)), blocks, edits, ids) = stays_so none.1 edits
  at_place (edit.Move from to) place a (inr (x, n, here, same, inr (target, leads, is)), blocks, edits, ids) = moved x n target a here is edits
  at_place (edit.Remove path) place a (inl (vacant, none), blocks) = stays_so none.1 none.2
  at_place (edit.Remove path) place a (inr (x, n, here, same, is), blocks) = removed x n a here is
  at_place (edit.Bit path on) place a (inl (vacant, none), blocks, edits, ids) = stays_so none.1 edits
  at_place (edit.Bit path on) place a (inr (x, n, here, same, is), blocks, edits, ids) = set x n on a here is edits

  pub web_fares : (e : WebEdit) (a : WebReply) → WebAnswers s e a t → WebFares s t
  web_fares e a (inl (nowhere, none)) = stays_so none.1.entries none.1.edits
  web_fares e a (inr (place, leads, is)) = at_place e place a is
