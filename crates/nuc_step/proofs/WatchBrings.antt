-- What a watched change brings: a file has a version that was put, and a key that comes is that of what was made.
use Rattle.std.specs.Prelude.{option_map, option_to_list, unwrap_or}
use Rattle.std.proofs.Common.{◌≡◌, ◌<◌, ◌≤◌, ◌++◌, ℕ, List, [], ◌∷◌, Option, Some, None, refl, sym, ◌∙◌, ap, subst, inl, inr, arith}
use Rattle.std.specs.FinMap.{get, insert}
use Rattle.nuc_base.specs.Legal.{LegalPut}
use Rattle.nuc_base.specs.Trees.{NoChild, Nodes}
use Rattle.nuc_base.specs.declared.node.Counters.{Counters}
use Rattle.nuc_base.specs.declared.node.Kind.TheVariants.{Folder, File}
use Rattle.nuc_base.specs.declared.node.Node.{Node}
use Rattle.nuc_base.specs.declared.node.NodeId.{NodeId}
use Rattle.nuc_base.specs.declared.node.Ver.{Ver}
use Rattle.nuc_base.proofs.Maps.{after_cut, after_put}
use Rattle.nuc_edits.specs.Edits.{IsNext, Recorded, WasPut}
use Rattle.nuc_edits.specs.declared.edit.Edit.{Edit}
use Rattle.nuc_edits.proofs.Contents.{put_entered, put_kept}
use Rattle.nuc_folder.specs.declared.item.Item.{Item}
use Rattle.nuc_folder.specs.declared.noticed.Noticed.{Noticed}
use Rattle.nuc_folder.specs.declared.noticed.Noticed.TheVariants as noticed
use Rattle.nuc_hash.specs.Content.{ContentData}
use Rattle.nuc_lookup.proofs.Maps as numbers
use Rattle.nuc_observe.specs.Listing.{kind_of}
use Rattle.nuc_observe.specs.Versions.{has_hash, kept_version}
use Rattle.nuc_observe.proofs.KeptPut.{kept_put}
use Rattle.nuc_replica.specs.Local.{IsLocal, LocalState}
use Rattle.nuc_step.specs.Watching.{CanTurn, CanWatch, IsWatched, Leads, LeadsTo, MadeIn, WatchAnswers, Watching, edit_of, made_version, moved, moved_node, next_id_after, next_ver_after, node_after, own_version, parent_of, removed, turned, with_bit, written, written_edit}
use Rattle.nuc_step.specs.declared.answers.WatchReply.TheVariants as watch
use Rattle.nuc_step.specs.declared.watched.Turn.{Turn}
use Rattle.nuc_step.specs.declared.watched.Turn.TheVariants as turn
use Rattle.nuc_step.specs.declared.watched.Watched.{Watched}
use Rattle.nuc_step.proofs.Lasting.{watches_keep}
use Rattle.nuc_step.proofs.Leading.{AddsNext, MovedTo, adds_next, known_there, some_and, watched_may}
use Rattle.nuc_step.proofs.LocalAfter.{key_before, turned_sound}
use Rattle.nuc_step.proofs.Observes.{AreBelow, FilesPut, Observes}

node_of_some : {n m : Node} → Some n ≡ Some m → n ≡ m
node_of_some is = cc

-- WHAT IT LEADS TO. A file that it puts has a version that was put, then at the latest; and a key that comes was given
module _ (r : Nodes) (l : LocalState) (s : Nodes) (edits : List Edit) (ids : Counters) (next : IsNext ids.next_ver edits)
    (known : FilesPut l.tree edits) where
  abbrev PutsFiles : Watched → Type 0
  PutsFiles d = (node : Node) → node_after d.turn ≡ Some node → node.kind ≡ File → WasPut (edits ++ option_to_list d.edit) node.ver.0

  made_put : (content : Option ContentData) (x : ℕ) (base : Ver) → kind_of content ≡ File
      → WasPut (edits ++ option_to_list (option_map (edit_of ids.next_ver x base) content)) (made_version content ids.next_ver)
  made_put None x base is = let bad : Folder ≡ File = is in cc
  made_put (Some content) x base is = put_entered edits (edit_of ids.next_ver x base content) content next refl

  written_put : (own : Option ℕ) → ((v : ℕ) → own ≡ Some v → WasPut edits v) → (x : ℕ) (base : Ver) (content : ContentData)
      → WasPut (edits ++ option_to_list (written_edit own ids.next_ver x base content)) (unwrap_or own ids.next_ver)
  written_put None was x base content = put_entered edits (edit_of ids.next_ver x base content) content next refl
  written_put (Some own) was x base content = put_kept edits [] own (was own refl)

  own_put : (content : ContentData) (o p q : Option Node) (v : ℕ) → option_map (λ w. w.0) (kept_version (has_hash edits content.hash) o p q) ≡ Some v → WasPut edits v
  own_put content o p q v is = by (kept_version (has_hash edits content.hash) o p q) refl is
    where
      by : (kept : Option Ver) → kept_version (has_hash edits content.hash) o p q ≡ kept → option_map (λ w. w.0) kept ≡ Some v → WasPut edits v
      by None at is = cc
      by (Some w) at is = let same : w.0 ≡ v = cc in subst (WasPut edits) same (kept_put edits content.hash o p q w at)

  -- a node of the kind and version of one that stands there
  stays_put : (x : ℕ) (n new : Node) → get l.tree x ≡ Some n → new.kind ≡ n.kind → new.ver.0 ≡ n.ver.0 → (node : Node) → Some new ≡ Some node → node.kind ≡ File
      → WasPut (edits ++ []) node.ver.0
  stays_put x n new there kind ver node is file =
      let same : new ≡ node = cc in
      let old : n.kind ≡ File = sym kind ∙ ap (λ (m : Node). m.kind) same ∙ file in
      subst (WasPut (edits ++ [])) (sym ver ∙ ap (λ (m : Node). m.ver.0) same) (put_kept edits [] n.ver.0 (known x n there old))

  leads_put : (change : Noticed) (d : Watched) → LeadsTo r l s edits ids change d → PutsFiles d
  leads_put (noticed.Made item) d is =
      let inside = some_and (parent_of l item.parent.0) (MadeIn l ids item d) is.inside in
      subst PutsFiles (sym inside.2.is) (λ node at file. (
      let same = node_of_some at in
      subst (WasPut (edits ++ option_to_list (option_map (edit_of ids.next_ver ids.next_id (record { 0 = 0 })) item.content))) (ap (λ (m : Node). m.ver.0) same)
      (made_put item.content ids.next_id (record { 0 = 0 }) (ap (λ (m : Node). m.kind) same ∙ file))))
  leads_put (noticed.Written key content) d is =
      let (x, n, there, so) = known_there l key.0 (λ x n. (n.kind ≡ File) × (d ≡ written (own_version edits r s content x n) ids.next_ver content x n)) is.known in
      subst PutsFiles (sym so.1) (λ node at file.
      subst (WasPut (edits ++ option_to_list (written_edit (own_version edits r s content x n) ids.next_ver x n.ver content))) (ap (λ (m : Node). m.ver.0) (node_of_some at))
      (written_put (own_version edits r s content x n) (own_put content (Some n) (get s x) (get r x)) x n.ver content))
  leads_put (noticed.Moved key place) d is =
      let inside = some_and (parent_of l place.parent.0) (MovedTo l key.0 place d) is in
      let (x, n, there, so) = known_there l key.0 (λ x n. LegalPut l.tree x (moved_node inside.0 place.name n) × (d ≡ moved inside.0 place.name x n)) inside.2 in
      subst PutsFiles (sym so.1) (stays_put x n (moved_node inside.0 place.name n) there refl refl)
  leads_put (noticed.Removed key) d is =
      let (x, n, there, so) = known_there l key.0 (λ x n. NoChild l.tree x × (d ≡ removed ids.next_ver x n)) is in
      subst PutsFiles (sym so.1) (λ node at file. absurd (let bad : None ≡ Some node = at in cc))
  leads_put (noticed.Bit key bit) d is =
      let (x, n, there, so) = known_there l key.0 (λ x n. (n.kind ≡ File) × (d ≡ with_bit bit x n)) is in
      subst PutsFiles (sym so.1) (stays_put x n (record n { bit = bit }) there refl refl)

  -- LOCAL THEN
  turned_put : (x : ℕ) (t : Turn) (e : Option Edit) → ((node : Node) → node_after t ≡ Some node → node.kind ≡ File → WasPut (edits ++ option_to_list e) node.ver.0)
      → (y : ℕ) (n : Node) → get (turned l x t).tree y ≡ Some n → n.kind ≡ File → WasPut (edits ++ option_to_list e) n.ver.0
  turned_put x (turn.Add key node) e puts y n at file = elim (after_put l.tree x node y n at) [
    | inl (same, is) ↦ puts n (ap Some (sym is)) file
    | inr (apart, there) ↦ put_kept edits (option_to_list e) n.ver.0 (known y n there file)
  ]
  turned_put x (turn.Put node) e puts y n at file = elim (after_put l.tree x node y n at) [
    | inl (same, is) ↦ puts n (ap Some (sym is)) file
    | inr (apart, there) ↦ put_kept edits (option_to_list e) n.ver.0 (known y n there file)
  ]
  turned_put x turn.Cut e puts y n at file = put_kept edits (option_to_list e) n.ver.0 (known y n (after_cut l.tree x y n at).1 file)

-- WHO STANDS THERE, and with which keys
module _ (r : Nodes) (l : LocalState) (s : Nodes) (edits : List Edit) (ids : Counters) where
  -- a key that comes
  abbrev ComesBelow : ℕ → Turn → Type 0
  ComesBelow most (turn.Add key node) = key.0 < most
  ComesBelow most (turn.Put node) = Unit {0}
  ComesBelow most turn.Cut = Unit {0}

  leads_below : (most : ℕ) (change : Noticed) (d : Watched) → LeadsTo r l s edits ids change d → ((item : Item) → change ≡ noticed.Made item → item.key.0 < most) → ComesBelow most d.turn
  leads_below most (noticed.Made item) d is below =
      let inside = some_and (parent_of l item.parent.0) (MadeIn l ids item d) is.inside in
      subst (λ (w : Watched). ComesBelow most w.turn) (sym inside.2.is) (below item refl)
  leads_below most (noticed.Written key content) d is below =
      let (x, n, there, so) = known_there l key.0 (λ x n. (n.kind ≡ File) × (d ≡ written (own_version edits r s content x n) ids.next_ver content x n)) is.known in
      subst (λ (w : Watched). ComesBelow most w.turn) (sym so.1) tt
  leads_below most (noticed.Moved key place) d is below =
      let inside = some_and (parent_of l place.parent.0) (MovedTo l key.0 place d) is in
      let (x, n, there, so) = known_there l key.0 (λ x n. LegalPut l.tree x (moved_node inside.0 place.name n) × (d ≡ moved inside.0 place.name x n)) inside.2 in
      subst (λ (w : Watched). ComesBelow most w.turn) (sym so.1) tt
  leads_below most (noticed.Removed key) d is below =
      let (x, n, there, so) = known_there l key.0 (λ x n. NoChild l.tree x × (d ≡ removed ids.next_ver x n)) is in
      subst (λ (w : Watched). ComesBelow most w.turn) (sym so.1) tt
  leads_below most (noticed.Bit key bit) d is below =
      let (x, n, there, so) = known_there l key.0 (λ x n. (n.kind ≡ File) × (d ≡ with_bit bit x n)) is in
      subst (λ (w : Watched). ComesBelow most w.turn) (sym so.1) tt

  turned_kinds : (x : ℕ) (t : Turn) → CanTurn l x t → AddsNext t x ids.next_id → (y : ℕ) (n : Node) → get (turned l x t).tree y ≡ Some n → y < ids.next_id
      → (h : Node) × (get l.tree y ≡ Some h) × (h.kind ≡ n.kind)
  turned_kinds x (turn.Add key node) can adds y n at below = elim (after_put l.tree x node y n at) [
    | inl (same, is) ↦ absurd (omega (arith, same, adds, below))
    | inr (apart, there) ↦ (n, there, refl)
  ]
  turned_kinds x (turn.Put node) can adds y n at below = elim (after_put l.tree x node y n at) [
    | inl (same, is) ↦ (let (old, there) = can.there in
        (old, subst (λ z. get l.tree z ≡ Some old) (sym same) there, can.legal.kind old there ∙ sym (ap (λ (m : Node). m.kind) is)))
    | inr (apart, there) ↦ (n, there, refl)
  ]
  turned_kinds x turn.Cut can adds y n at below = (n, (after_cut l.tree x y n at).1, refl)

  turned_keys : (most : ℕ) → AreBelow l.keys most → (x : ℕ) (t : Turn) → ComesBelow most t → AreBelow (turned l x t).keys most
  turned_keys most given x (turn.Add key node) below y other at = elim (numbers.same_or_not y x) [
    | inl same ↦ (let put = numbers.get_put_same l.keys x key.0 in
        let here : get (insert l.keys x key.0) x ≡ Some other = subst (λ z. get (insert l.keys x key.0) z ≡ Some other) same at in
        let one : key.0 ≡ other = cc in subst (λ k. k < most) one below)
    | inr apart ↦ given y other (sym (numbers.get_put_other l.keys x key.0 y apart) ∙ at)
  ]
  turned_keys most given x (turn.Put node) below y key at = given y key at
  turned_keys most given x turn.Cut below y key at = given y key (key_before l.keys x y key at).1

-- ALL OF IT
module _ (w : Watching) (change : Noticed) (d : Watched) (can : CanWatch w.client w.recorded w.ids) (local : IsLocal w.client.local) (leads : Leads w change d) where
  abbrev Comes : ℕ → Type 0
  Comes most = (item : Item) → change ≡ noticed.Made item → item.key.0 < most

  abbrev After : ℕ → Watching
  After changes = record {
    client = record w.client { local = turned w.client.local d.id.0 d.turn; changes = changes };
    recorded = record w.recorded { edits = w.recorded.edits ++ option_to_list d.edit };
    ids = record { next_id = next_id_after d.turn w.ids.next_id; next_ver = next_ver_after d.edit w.ids.next_ver };
  }

  id_later : (t : Turn) (next : ℕ) → next ≤ next_id_after t next
  id_later (turn.Add key node) next = omega arith
  id_later (turn.Put node) next = omega arith
  id_later turn.Cut next = omega arith

  after_observes : (changes : ℕ) → CanWatch (After changes).client (After changes).recorded (After changes).ids → Observes w (After changes) Comes
  after_observes changes after =
      let r = w.client.remote.tree in
      let l = w.client.local in
      let s = w.client.synced in
      let es = w.recorded.edits in
      let may = watched_may r s l w.client w.recorded w.ids change d refl refl refl can leads in
      record {
        client = refl;
        local = turned_sound l d.id.0 d.turn local may.0;
        after = after;
        later = id_later d.turn w.ids.next_id;
        more = option_to_list d.edit;
        recorded = refl;
        kinds = turned_kinds r l s es w.ids d.id.0 d.turn may.0 (adds_next r l s es w.ids change d leads);
        put = λ known. turned_put r l s es w.ids can.next known d.id.0 d.turn d.edit (leads_put r l s es w.ids can.next known change d leads);
        keys = λ most comes given. turned_keys r l s es w.ids most given d.id.0 d.turn (leads_below r l s es w.ids most change d leads comes);
      }

  watched_observes : (v : Watching) → IsWatched d w v → Observes w v Comes
  watched_observes v is =
      let after = watches_keep w v change (watch.Changed d.id) can (d, leads, refl, is) in
      let so : v ≡ After v.client.changes = λ i. record { client = is.client i; recorded = is.recorded i; ids = is.ids i } in
      subst (λ (u : Watching). Observes w u Comes) (sym so)
      (after_observes v.client.changes (subst (λ (u : Watching). CanWatch u.client u.recorded u.ids) so after))

-- what was made has a key below this, if anything was
abbrev pub MadeBelow : Noticed → ℕ → Type 0
MadeBelow change most = (item : Item) → change ≡ noticed.Made item → item.key.0 < most

pub watch_observes : (w v : Watching) (change : Noticed) (x : NodeId) → CanWatch w.client w.recorded w.ids → IsLocal w.client.local
    → WatchAnswers w change (watch.Changed x) v → Observes w v (MadeBelow change)
watch_observes w v change x can local (d, leads, id, is) = watched_observes w change d can local leads v is
