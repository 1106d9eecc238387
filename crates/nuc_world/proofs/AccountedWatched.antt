-- A watched change loses nothing: an edit is based on what it replaces or deletes, or Remote's version is what the file shows.
use Rattle.std.specs.Prelude.{All, Any, IsSomeAnd, if◌then◌else◌, option_and_then, option_map, option_to_list}
use Rattle.std.proofs.Common.{◌≡◌, ◌⊎◌, ◌<◌, ◌==◌, ◌&&◌, ◌++◌, ℕ, Bool, true, false, List, [], ◌∷◌, Option, Some, None, refl, sym, ◌∙◌, ap, subst, inl, inr, arith}
use Rattle.std.proofs.lemmas.Bool.{eqb-true}
use Rattle.std.proofs.lemmas.List.{append-nil}
use Rattle.std.proofs.lemmas.Option.{none-some, same_Some}
use Rattle.std.specs.FinMap.{empty, get}
use Rattle.nuc_base.specs.Changes.{changed, node_after}
use Rattle.nuc_base.specs.Kinds.{Fits, FitsKind}
use Rattle.nuc_base.specs.Legal.{LegalPut}
use Rattle.nuc_base.specs.Trees.{NoChild, Nodes, WellFormed}
use Rattle.nuc_base.specs.declared.change.Change.{Change}
use Rattle.nuc_base.specs.declared.change.Change.TheVariants as change
use Rattle.nuc_base.specs.declared.node.Kind.{Kind}
use Rattle.nuc_base.specs.declared.node.Kind.TheVariants.{Folder, File}
use Rattle.nuc_base.specs.declared.node.Node.{Node}
use Rattle.nuc_base.specs.declared.node.Ver.{Ver}
use Rattle.nuc_base.proofs.Maps.{same_or_not}
use Rattle.nuc_conflict.specs.FitTogether.{IsBelow}
use Rattle.nuc_edits.specs.Edits.{Recorded}
use Rattle.nuc_edits.specs.declared.edit.Edit.{Edit}
use Rattle.nuc_edits.specs.declared.edit.EditKind.TheVariants as edit
use Rattle.nuc_folder.specs.declared.item.Item.{Item}
use Rattle.nuc_folder.specs.declared.noticed.Noticed.{Noticed}
use Rattle.nuc_folder.specs.declared.noticed.Noticed.TheVariants as noticed
use Rattle.nuc_hash.specs.Content.{ContentData}
use Rattle.nuc_log.specs.declared.reply.Reply.{Reply}
use Rattle.nuc_log.specs.declared.reply.Reply.TheVariants as reply
use Rattle.nuc_observe.specs.Observed.{id_of}
use Rattle.nuc_observe.specs.Versions.{agreed_version, has_hash, kept_version}
use Rattle.nuc_replica.specs.Local.{LocalState}
use Rattle.nuc_replica.specs.Remote.{RemoteState}
use Rattle.nuc_step.specs.Client.{ClientState}
use Rattle.nuc_step.specs.Watching.{IsKnown, IsWatched, LeadsTo, MadeIn, own_version, WatchAnswers, Watching, deletion_of, edit_of, made, made_node, made_version, moved, moved_node, parent_of, removed, with_bit, written}
use Rattle.nuc_step.specs.declared.answers.WatchReply.{WatchReply}
use Rattle.nuc_step.specs.declared.answers.WatchReply.TheVariants as watch
use Rattle.nuc_world.specs.Starts.{with_client}
use Rattle.nuc_world.specs.State.{Turn}
use Rattle.nuc_world.specs.Step.{Watches, watching_of, with_pending, with_watching}
use Rattle.nuc_world.proofs.AccountedForm.{Comes, Fares, GoneBy, Has, IsClear, IsKeptJournal, IsVersion, Replaces, changed_other, has_changed, has_version, node_at, version_at}
use Rattle.nuc_world.proofs.AccountedGrown.{Moves, any_behind, any_one, clear_moved, further_by, gone_later}
use Rattle.nuc_world.proofs.AccountedJournal.{replaces_map}
use Rattle.nuc_world.proofs.AccountedQuiet.{fares_same}
use Rattle.nuc_world.proofs.Items.{all_front, all_none}

-- A LOOK AT THE FOLDER: Local changes, edits come, and all else stays
pub record Looks (t u : Turn) : Type 0 where
  pub entries : u.shared.entries ≡ t.shared.entries
  pub new : List Edit
  pub recorded : u.shared.edits ≡ record t.shared.edits { edits = t.shared.edits.edits ++ new }
  pub remote : u.member.client.remote ≡ t.member.client.remote
  pub synced : u.member.client.synced ≡ t.member.client.synced
  pub flights : u.member.client.flights ≡ t.member.client.flights
  pub comes : All (Comes u.shared u.member.client.local.tree) new
  pub local : (x v : ℕ) → 0 < v → Has t.member.client.local.tree x v → Has u.member.client.local.tree x v ⊎ GoneBy u.shared.edits v

pub look_fares : (t u : Turn) → IsKeptJournal t.shared → IsClear t.shared t.member.client → Looks t u → Fares t u
look_fares t u journal clear looks =
    let edits : u.shared.edits.edits ≡ t.shared.edits.edits ++ looks.new = ap (λ (r : Recorded). r.edits) looks.recorded in
    let further = further_by t.shared u.shared looks.new [] [] edits (ap (λ (r : Recorded). r.adoptions) looks.recorded ∙ sym (append-nil t.shared.edits.adoptions))
    (looks.entries ∙ sym (append-nil t.shared.entries)) in
    let moves : Moves t.shared t.member.client u.shared u.member.client = record {
      further = further;
      local = looks.local;
      remote = λ x v some has. inl (subst (λ (r : RemoteState). Has r.tree x v) (sym looks.remote) has);
    } in
    record {
      further = further;
      local = λ v some has. elim (looks.local has.id v some (version_at t.member.client.local.tree v has)) [
        | inl now ↦ inl (has_version u.member.client.local.tree has.id v now)
        | inr gone ↦ inr gone
      ];
      new = looks.new;
      recorded = edits;
      comes = looks.comes;
      journal = subst (λ es. Replaces (GoneBy u.shared.edits) empty es) (sym looks.entries)
          (replaces_map (GoneBy t.shared.edits) (GoneBy u.shared.edits) further.gone t.shared.entries empty journal);
      clear = clear_moved t.shared t.member.client u.shared u.member.client moves looks.synced looks.flights clear;
    }

-- WHICH VERSION A FILE KEEPS, where Remote has Synced's version or it is gone by: its own, or else its own is gone by
abbrev pub KeptAs : ℕ → Type 0 → Option Ver → Type 0
KeptAs v Gone None = Unit {0}
KeptAs v Gone (Some w) = (w.0 ≡ v) ⊎ Gone

both_first : (a b : Bool) → (a && b) ≡ true → a ≡ true
both_first true b is = refl
both_first false b is = is

module _ (has : Ver → Bool) (n : Node) (Gone : Type 0) where
  agreed_as : (s r : Option Node) → (IsVersion n.ver.0 s → IsVersion n.ver.0 r ⊎ Gone) → KeptAs n.ver.0 Gone (agreed_version has n s r)
  agreed_as None r so = tt
  agreed_as (Some s) None so = tt
  agreed_as (Some s) (Some r) so =
      elim ((n.ver.0 == s.ver.0) && has r.ver) as (λ b. ((n.ver.0 == s.ver.0) && has r.ver) ≡ b → KeptAs n.ver.0 Gone (if b then Some r.ver else None)) [
        | true ↦ λ both. so (sym (eqb-true n.ver.0 s.ver.0 (both_first (n.ver.0 == s.ver.0) (has r.ver) both)))
        | false ↦ λ both. tt
      ] refl

  pub kept_as : (s r : Option Node) → (IsVersion n.ver.0 s → IsVersion n.ver.0 r ⊎ Gone) → KeptAs n.ver.0 Gone (kept_version has (Some n) s r)
  kept_as s r so = elim (has n.ver) as (λ b. KeptAs n.ver.0 Gone (if b then Some n.ver else agreed_version has n s r)) [
    | true ↦ inl refl
    | false ↦ agreed_as s r so
  ]

-- a folder has no version
pub no_version : (k : Kind) (ver : ℕ) (bit : Bool) (v : ℕ) → k ≡ Folder → Fits k ver bit → ver ≡ v → 0 < v → ⊥
no_version k ver bit v folder fits is some =
    let none = subst (λ k. Fits k ver bit) folder fits in
    let zero = none.0 in omega (arith, zero, is, some)

-- WHO HAS THE KEY
known_node : (l : LocalState) (P : ℕ → Node → Type 0) (x : ℕ) (o : Option Node) → get l.tree x ≡ o → IsSomeAnd {T = ℕ × Node} (option_map (λ n. (x, n)) o) (λ k. P k.0 k.1)
    → (y : ℕ) × (n : Node) × (get l.tree y ≡ Some n) × P y n
known_node l P x None at is = absurd is
known_node l P x (Some n) at is = (x, n, at, is)

known_by : (l : LocalState) (P : ℕ → Node → Type 0) (o : Option ℕ) → IsSomeAnd {T = ℕ × Node} (option_and_then (λ x. option_map (λ n. (x, n)) (get l.tree x)) o) (λ k. P k.0 k.1)
    → (x : ℕ) × (n : Node) × (get l.tree x ≡ Some n) × P x n
known_by l P None is = absurd is
known_by l P (Some x) is = known_node l P x (get l.tree x) refl is

known_at : (l : LocalState) (key : ℕ) (P : ℕ → Node → Type 0) → IsKnown l key P → (x : ℕ) × (n : Node) × (get l.tree x ≡ Some n) × P x n
known_at l key P is = known_by l P (id_of l.keys key) is

some_and : (A : ℕ → Type 0) (o : Option ℕ) → IsSomeAnd o A → (p : ℕ) × A p
some_and A None is = absurd is
some_and A (Some p) is = (p, is)

all_option : (P : Edit → Type 0) (o : Option Edit) → ((e : Edit) → o ≡ Some e → P e) → All P (option_to_list o)
all_option P None each = all_none P
all_option P (Some e) each = all_front P e [] (each e refl) (all_none P)

module _ (t u : Turn) (form : WellFormed t.member.client.local.tree) (below : IsBelow t.member.client.local.tree t.shared.ids.next_id) (some_next : 0 < t.shared.ids.next_ver)
    (clear : IsClear t.shared t.member.client) (entries : u.shared.entries ≡ t.shared.entries) where
  abbrev L : LocalState
  L = t.member.client.local

  abbrev M : Nodes
  M = u.member.client.local.tree

  -- by the change of its identity
  module _ (d : _) (is : IsWatched d (watching_of t) (watching_of u)) (ch : Change) (tree_is : M ≡ changed L.tree d.id.0 ch) where
    based : (e : Edit) → d.edit ≡ Some e → GoneBy u.shared.edits e.base.0
    based e at = inl (subst (λ (r : Recorded). Any (λ (f : Edit). f.base.0 ≡ e.base.0) r.edits) (sym is.recorded)
        (any_behind (λ (f : Edit). f.base.0 ≡ e.base.0) t.shared.edits.edits (option_to_list d.edit)
        (subst (λ o. Any (λ (f : Edit). f.base.0 ≡ e.base.0) (option_to_list o)) (sym at) (any_one (λ (f : Edit). f.base.0 ≡ e.base.0) e refl))))

    gone_still : (v : ℕ) → GoneBy t.shared.edits v → GoneBy u.shared.edits v
    gone_still v gone = gone_later t.shared.edits u.shared.edits (option_to_list d.edit) [] (ap (λ (r : Recorded). r.edits) is.recorded)
        (ap (λ (r : Recorded). r.adoptions) is.recorded ∙ sym (append-nil t.shared.edits.adoptions)) v gone

    now_there : (v : ℕ) → IsVersion v (node_after ch (get L.tree d.id.0)) → Has M d.id.0 v
    now_there v after_it = subst (λ m. Has m d.id.0 v) (sym tree_is) (has_changed L.tree d.id.0 ch v after_it)

    looks : ((v : ℕ) → 0 < v → Has L.tree d.id.0 v → IsVersion v (node_after ch (get L.tree d.id.0)) ⊎ GoneBy u.shared.edits v)
        → ((e : Edit) → d.edit ≡ Some e → Comes u.shared M e) → Looks t u
    looks own come = record {
      entries = entries;
      new = option_to_list d.edit;
      recorded = is.recorded;
      remote = ap (λ (c : ClientState). c.remote) is.client;
      synced = ap (λ (c : ClientState). c.synced) is.client;
      flights = ap (λ (c : ClientState). c.flights) is.client;
      comes = all_option (Comes u.shared M) d.edit come;
      local = λ x v some has. elim (same_or_not x d.id.0) [
        | inl same ↦ subst (λ y. Has M y v ⊎ GoneBy u.shared.edits v) (sym same) (elim (own v some (subst (λ y. Has L.tree y v) same has)) [
          | inl after_it ↦ inl (now_there v after_it)
          | inr gone ↦ inr gone
        ])
        | inr apart ↦ inl (subst (IsVersion v) (sym (ap (λ m. get m x) tree_is ∙ changed_other L.tree d.id.0 ch x apart)) has)
      ];
    }

  -- MADE
  made_comes : (content : Option ContentData) (x next : ℕ) → 0 < next → Has M x (made_version content next) → (e : Edit)
      → option_map (edit_of next x (record { 0 = 0 })) content ≡ Some e → Comes u.shared M e
  made_comes None x next some has e at = cc
  made_comes (Some content) x next some has e at =
      let same : edit_of next x (record { 0 = 0 }) content ≡ e = cc in
      subst (Comes u.shared M) same (record { some = some; stands = inr (has_version M x next has) })

  made_looks : (parent : ℕ) (item : Item) → IsWatched (made t.shared.ids parent item) (watching_of t) (watching_of u) → Looks t u
  made_looks parent item is =
      let ch : Change = change.Put (made_node t.shared.ids.next_ver parent item) in
      let tree : M ≡ changed L.tree t.shared.ids.next_id ch = ap (λ (c : ClientState). c.local.tree) is.client in
      looks (made t.shared.ids parent item) is ch tree
      (λ v some has. absurd (let at = node_at L.tree t.shared.ids.next_id v has in let less = below t.shared.ids.next_id at.0 at.1 in omega (arith, less)))
      (λ e at. made_comes item.content t.shared.ids.next_id t.shared.ids.next_ver some_next
      (now_there (made t.shared.ids parent item) is ch tree (made_version item.content t.shared.ids.next_ver) refl) e at)

  -- A NODE OF ITS VERSION
  moved_looks : (parent : ℕ) (name : List ℕ) (x : ℕ) (n : Node) → get L.tree x ≡ Some n → IsWatched (moved parent name x n) (watching_of t) (watching_of u) → Looks t u
  moved_looks parent name x n at is = looks (moved parent name x n) is (change.Put (moved_node parent name n)) (ap (λ (c : ClientState). c.local.tree) is.client)
      (λ v some has. inl (subst (IsVersion v) at has)) (λ e none. cc)

  bit_looks : (bit : Bool) (x : ℕ) (n : Node) → get L.tree x ≡ Some n → IsWatched (with_bit bit x n) (watching_of t) (watching_of u) → Looks t u
  bit_looks bit x n at is = looks (with_bit bit x n) is (change.Put (record n { bit = bit })) (ap (λ (c : ClientState). c.local.tree) is.client)
      (λ v some has. inl (subst (IsVersion v) at has)) (λ e none. cc)

  -- WRITTEN
  module _ (x : ℕ) (n : Node) (content : ContentData) (at : get L.tree x ≡ Some n) where
    abbrev Next : ℕ
    Next = t.shared.ids.next_ver

    written_looks : (kept : Option Ver) → KeptAs n.ver.0 (GoneBy t.shared.edits n.ver.0) kept
        → IsWatched (written (option_map (λ v. v.0) kept) t.shared.ids.next_ver content x n) (watching_of t) (watching_of u) → Looks t u
    written_looks None so is =
        let ch : Change = change.Put (record n { ver = record { 0 = Next } }) in
        let tree : M ≡ changed L.tree x ch = ap (λ (c : ClientState). c.local.tree) is.client in
        looks (written None Next content x n) is ch tree
        (λ v some has. inr (subst (GoneBy u.shared.edits) (subst (IsVersion v) at has) (based (written None Next content x n) is ch tree (edit_of Next x n.ver content) refl)))
        (λ e put. let same : edit_of Next x n.ver content ≡ e = cc in
        subst (Comes u.shared M) same (record { some = some_next; stands = inr (has_version M x Next (now_there (written None Next content x n) is ch tree Next refl)) }))
    written_looks (Some w) (inl own) is =
        looks (written (Some w.0) Next content x n) is (change.Put (record n { ver = record { 0 = w.0 } })) (ap (λ (c : ClientState). c.local.tree) is.client)
        (λ v some has. inl (own ∙ subst (IsVersion v) at has)) (λ e none. cc)
    written_looks (Some w) (inr gone) is =
        let ch : Change = change.Put (record n { ver = record { 0 = w.0 } }) in
        let tree : M ≡ changed L.tree x ch = ap (λ (c : ClientState). c.local.tree) is.client in
        looks (written (Some w.0) Next content x n) is ch tree
        (λ v some has. inr (subst (GoneBy u.shared.edits) (subst (IsVersion v) at has) (gone_still (written (Some w.0) Next content x n) is ch tree n.ver.0 gone))) (λ e none. cc)

  -- REMOVED
  module _ (x : ℕ) (n : Node) (at : get L.tree x ≡ Some n) (is : IsWatched (removed t.shared.ids.next_ver x n) (watching_of t) (watching_of u)) where
    abbrev Deletion : Edit
    Deletion = record { ver = record { 0 = t.shared.ids.next_ver }; id = record { 0 = x }; base = n.ver; what = edit.Deleted }

    without : M ≡ changed L.tree x change.Cut
    without = ap (λ (c : ClientState). c.local.tree) is.client

    removed_own : (k : Kind) → n.kind ≡ k → (v : ℕ) → 0 < v → Has L.tree x v → GoneBy u.shared.edits v
    removed_own Folder kind v some has = absurd (no_version n.kind n.ver.0 n.bit v kind (form.fits x n at) (subst (IsVersion v) at has) some)
    removed_own File kind v some has = subst (GoneBy u.shared.edits) (subst (IsVersion v) at has)
        (based (removed t.shared.ids.next_ver x n) is change.Cut without Deletion (ap (λ k. deletion_of k t.shared.ids.next_ver x n.ver) kind))

    removed_comes : (k : Kind) → n.kind ≡ k → (e : Edit) → deletion_of n.kind t.shared.ids.next_ver x n.ver ≡ Some e → Comes u.shared M e
    removed_comes Folder kind e put = absurd (let none = sym (ap (λ k. deletion_of k t.shared.ids.next_ver x n.ver) kind) ∙ put in none-some e none)
    removed_comes File kind e put = subst (Comes u.shared M) (same_Some Deletion e (sym (ap (λ k. deletion_of k t.shared.ids.next_ver x n.ver) kind) ∙ put))
        (record { some = some_next; stands = tt })

    removed_looks : Looks t u
    removed_looks = looks (removed t.shared.ids.next_ver x n) is change.Cut without (λ v some has. inr (removed_own n.kind refl v some has)) (λ e put. removed_comes n.kind refl e put)

  -- BY THE CHANGE
  synced_so : (x : ℕ) (n : Node) → get L.tree x ≡ Some n → 0 < n.ver.0 → IsVersion n.ver.0 (get t.member.client.synced x)
      → IsVersion n.ver.0 (get t.member.client.remote.tree x) ⊎ GoneBy t.shared.edits n.ver.0
  synced_so x n at some has = clear.remote x n.ver.0 some has

  file_some : (n : Node) → FitsKind n → n.kind ≡ File → 0 < n.ver.0
  file_some n fits is = subst (λ kind. Fits kind n.ver.0 n.bit) is fits

  leads_look : (notice : Noticed) (d : _) → LeadsTo t.member.client.remote.tree L t.member.client.synced t.shared.edits.edits t.shared.ids notice d
      → IsWatched d (watching_of t) (watching_of u) → Looks t u
  leads_look (noticed.Made item) d leads is =
      let inside = some_and (MadeIn L t.shared.ids item d) (parent_of L item.parent.0) leads.inside in
      made_looks inside.0 item (subst (λ e. IsWatched e (watching_of t) (watching_of u)) inside.1.is is)
  leads_look (noticed.Written key content) d leads is =
      let (x, n, at, known) = known_at L key.0 (λ x n. (n.kind ≡ File) × (d ≡ written
      (own_version t.shared.edits.edits t.member.client.remote.tree t.member.client.synced content x n) t.shared.ids.next_ver content x n)) leads.known in
      written_looks x n content at (kept_version (has_hash t.shared.edits.edits content.hash) (Some n) (get t.member.client.synced x) (get t.member.client.remote.tree x))
      (kept_as (has_hash t.shared.edits.edits content.hash) n (GoneBy t.shared.edits n.ver.0) (get t.member.client.synced x) (get t.member.client.remote.tree x)
      (synced_so x n at (file_some n (form.fits x n at) known.0)))
      (subst (λ e. IsWatched e (watching_of t) (watching_of u)) known.1 is)
  leads_look (noticed.Moved key place) d leads is =
      let inside = some_and (λ parent. IsKnown L key.0 (λ x n. LegalPut L.tree x (moved_node parent place.name n) × (d ≡ moved parent place.name x n))) (parent_of L place.parent.0) leads in
      let (x, n, at, known) = known_at L key.0 (λ x n. LegalPut L.tree x (moved_node inside.0 place.name n) × (d ≡ moved inside.0 place.name x n)) inside.1 in
      moved_looks inside.0 place.name x n at (subst (λ e. IsWatched e (watching_of t) (watching_of u)) known.1 is)
  leads_look (noticed.Removed key) d leads is =
      let (x, n, at, known) = known_at L key.0 (λ x n. NoChild L.tree x × (d ≡ removed t.shared.ids.next_ver x n)) leads in
      removed_looks x n at (subst (λ e. IsWatched e (watching_of t) (watching_of u)) known.1 is)
  leads_look (noticed.Bit key bit) d leads is =
      let (x, n, at, known) = known_at L key.0 (λ x n. (n.kind ≡ File) × (d ≡ with_bit bit x n)) leads in
      bit_looks bit x n at (subst (λ e. IsWatched e (watching_of t) (watching_of u)) known.1 is)

module _ (t u : Turn) (journal : IsKeptJournal t.shared) (form : WellFormed t.member.client.local.tree) (below : IsBelow t.member.client.local.tree t.shared.ids.next_id)
    (some_next : 0 < t.shared.ids.next_ver) (clear : IsClear t.shared t.member.client) where
  answers_fare : (notice : Noticed) (notices : List Noticed) (answer : WatchReply) → WatchAnswers (watching_of t) notice answer (watching_of u)
      → u ≡ record (with_watching (watching_of u) t) { member = with_pending notices (with_client u.member.client t.member) } → Fares t u
  answers_fare notice notices (watch.Changed x) (d, leads, at, is) now =
      look_fares t u journal clear (leads_look t u form below some_next clear (ap (λ (v : Turn). v.shared.entries) now) notice d leads is)
  answers_fare notice notices watch.Rescan (none, same) now =
      let stays : u ≡ record t { member = with_pending notices t.member } =
      now ∙ ap (λ (w : Watching). record (with_watching w t) { member = with_pending notices (with_client w.client t.member) }) same in
      fares_same t u (ap (λ (v : Turn). v.shared) stays) (ap (λ (v : Turn). v.member.client) stays) journal clear

  pub watch_fares : (pending : List Noticed) (r : Reply) → Watches pending r t u → Fares t u
  watch_fares [] reply.Nothing same = fares_same t u (ap (λ (v : Turn). v.shared) same) (ap (λ (v : Turn). v.member.client) same) journal clear
  watch_fares (notice ∷ notices) (reply.Watch answer) (answers, now) = answers_fare notice notices answer answers now
  watch_fares [] (reply.User answer) is = absurd is
  watch_fares [] (reply.Web answer) is = absurd is
  watch_fares [] (reply.Listed changes items) is = absurd is
  watch_fares [] (reply.Scan answer) is = absurd is
  watch_fares [] (reply.Watch answer) is = absurd is
  watch_fares [] (reply.Pulled entries cursor) is = absurd is
  watch_fares [] (reply.Plan answer) is = absurd is
  watch_fares [] (reply.Started answer) is = absurd is
  watch_fares [] (reply.Took answer) is = absurd is
  watch_fares [] (reply.Done answer) is = absurd is
  watch_fares [] (reply.Marked answer) is = absurd is
  watch_fares [] reply.Restarted is = absurd is
  watch_fares (notice ∷ notices) (reply.User answer) is = absurd is
  watch_fares (notice ∷ notices) (reply.Web answer) is = absurd is
  watch_fares (notice ∷ notices) (reply.Listed changes items) is = absurd is
  watch_fares (notice ∷ notices) (reply.Scan answer) is = absurd is
  watch_fares (notice ∷ notices) (reply.Pulled entries cursor) is = absurd is
  watch_fares (notice ∷ notices) (reply.Plan answer) is = absurd is
  watch_fares (notice ∷ notices) (reply.Started answer) is = absurd is
  watch_fares (notice ∷ notices) (reply.Took answer) is = absurd is
  watch_fares (notice ∷ notices) (reply.Done answer) is = absurd is
  watch_fares (notice ∷ notices) (reply.Marked answer) is = absurd is
  watch_fares (notice ∷ notices) reply.Restarted is = absurd is
  watch_fares (notice ∷ notices) reply.Nothing is = absurd is
