-- A listing of a folder that is taken over: the folder holds just what Local says then.
use Rattle.std.specs.Prelude.{is_some, option_map}
use Rattle.std.proofs.Common.{◌≡◌, ◌++◌, ℕ, true, false, List, Option, Some, None, refl, sym, ◌∙◌, ap, subst, inl, inr}
use Rattle.std.proofs.lemmas.List.{append_assoc}
use Rattle.std.specs.FinMap.{get, keys}
use Rattle.nuc_base.specs.Kinds.{Fits}
use Rattle.nuc_base.specs.declared.node.Kind.{Kind}
use Rattle.nuc_base.specs.declared.node.Kind.TheVariants.{Folder, File}
use Rattle.nuc_base.specs.declared.node.Node.{Node}
use Rattle.nuc_base.proofs.Maps.{not_both, one_node}
use Rattle.nuc_edits.specs.declared.edit.Edit.{Edit}
use Rattle.nuc_filework.specs.Calls.{key_of, known_place}
use Rattle.nuc_folder.specs.Listing.{IsListing, item_of}
use Rattle.nuc_folder.specs.State.{FolderState}
use Rattle.nuc_folder.specs.declared.item.Item.{Item}
use Rattle.nuc_folder.proofs.ByName.{item_parts}
use Rattle.nuc_folder.proofs.OneListing.{Has}
use Rattle.nuc_follow.specs.Matches.{HasContent, HasRecorded, IsHeldAs, Matches, held_ver}
use Rattle.nuc_follow.proofs.Shown.{key_is, key_root}
use Rattle.nuc_hash.specs.Content.{content_of}
use Rattle.nuc_lookup.specs.Rows.{Numbers}
use Rattle.nuc_lookup.proofs.Maps.{one_number}
use Rattle.nuc_observe.specs.Keys.{key_map}
use Rattle.nuc_observe.specs.Listing.{kind_of}
use Rattle.nuc_observe.specs.Made.{MakeLocal, nodes_in}
use Rattle.nuc_observe.specs.Observed.{Before, bit_of, deletions, identity, listed_ids, next_ver_after_puts, node_of, observed_nodes, puts}
use Rattle.nuc_observe.proofs.Made.{makes_local}
use Rattle.nuc_replica.specs.Local.{IsLocal, LocalState}
use Rattle.nuc_replica.proofs.Scanned.{scanned_local}
use Rattle.nuc_shelf.specs.Shelf.{IsShelf}
use Rattle.nuc_step.specs.Scanning.{IsScanned, before_of}
use Rattle.nuc_step.specs.Watching.{CanWatch, Watching}
use Rattle.nuc_step.proofs.Lasting.{sound}
use Rattle.nuc_quiet.proofs.Bound.{keyed, unlisted}
use Rattle.nuc_quiet.proofs.Covered.{listed_at, listed_is}
use Rattle.nuc_quiet.proofs.Hashed.{Comes, IsNoted, each_comes, noted_more}

-- WHAT AN ITEM SAYS of the node that the folder holds
abbrev shown : Item → Node
shown i = record {
  place = record { parent = record { 0 = i.parent.0 }; name = i.name };
  kind = kind_of i.content;
  ver = record { 0 = held_ver (kind_of i.content) };
  bit = bit_of i.content i.bit;
}

-- a file has bytes, and nothing else has
abbrev Agrees : Kind → Option (List ℕ) → Type 0
Agrees Folder None = Unit {0}
Agrees Folder (Some bytes) = ⊥
Agrees File None = ⊥
Agrees File (Some bytes) = Unit {0}

by_kind : (k : ℕ) (h : Node) (bytes : Option (List ℕ)) (kind : Kind) → h.kind ≡ kind → Fits kind h.ver.0 h.bit
    → (kind ≡ File → h.ver.0 ≡ 1) → Agrees kind bytes → h ≡ shown (item_of k h bytes)
by_kind k h None Folder is (ver, bit) first agrees = λ i. record { place = h.place; kind = is i; ver = record { 0 = ver i }; bit = bit i }
by_kind k h (Some bytes) File is fits first agrees = λ i. record { place = h.place; kind = is i; ver = record { 0 = first refl i }; bit = h.bit }
by_kind k h (Some bytes) Folder is fits first agrees = absurd agrees
by_kind k h None File is fits first agrees = absurd agrees

agree : (s : FolderState) (k : ℕ) (h : Node) → IsShelf s → get s.tree k ≡ Some h → (kind : Kind) → h.kind ≡ kind
    → (bytes : Option (List ℕ)) → get s.bytes k ≡ bytes → Agrees kind bytes
agree s k h shelf at Folder is None none = tt
agree s k h shelf at Folder is (Some bytes) some =
    let (n, there, file) = shelf.files k (ap is_some some) in
    let same : h ≡ n = one_node s.tree k h n at there in
    let bad : Folder ≡ File = sym is ∙ ap (λ (g : Node). g.kind) same ∙ file in
    absurd (let b = bad in cc)
agree s k h shelf at File is (Some bytes) some = tt
agree s k h shelf at File is None none =
    let bad : is_some {T = List ℕ} None ≡ true = sym (ap is_some none) ∙ shelf.filled k (h, at, is) in
    absurd (let b : false ≡ true = bad in cc)

shown_so : (s : FolderState) (i : Item) (h : Node) → IsShelf s → get s.tree i.key.0 ≡ Some h → h ≡ shown (item_of i.key.0 h (get s.bytes i.key.0))
shown_so s i h shelf at =
    by_kind i.key.0 h (get s.bytes i.key.0) h.kind refl (shelf.form.fits i.key.0 h at) (shelf.versions i.key.0 h at)
    (agree s i.key.0 h shelf at h.kind refl (get s.bytes i.key.0) refl)

pub its_kind : (s : FolderState) → IsShelf s → (i : Item) (h : Node) → get s.tree i.key.0 ≡ Some h → i ≡ item_of i.key.0 h (get s.bytes i.key.0)
    → h.kind ≡ kind_of i.content
its_kind s shelf i h at is = ap (λ (n : Node). n.kind) (shown_so s i h shelf at) ∙ ap (λ (j : Item). kind_of j.content) (sym is)

-- the content of an item that was noted is the folder's
content_has : (es : List Edit) (bytes : Option (List ℕ)) (ver : ℕ) → IsNoted es (option_map content_of bytes) ver
    → HasContent es (kind_of (option_map content_of bytes)) ver bytes
content_has es None ver noted = refl
content_has es (Some bytes) ver (c, at, same) = subst (λ o. HasRecorded o (Some bytes)) (sym at) (sym same)

module _ (s : FolderState) (shelf : IsShelf s) (items : List Item) (listing : IsListing s items) (w : Watching) (local : IsLocal w.client.local)
    (can : CanWatch w.client w.recorded w.ids) (k : ℕ) (v : Watching) (is : IsScanned w k v items) where
  abbrev b : Before
  b = before_of w

  abbrev Ids : Numbers
  Ids = listed_ids b.keys w.ids.next_id items

  abbrev Local : LocalState
  Local = record { tree = nodes_in is.nodes; keys = key_map is.bindings }

  abbrev All_edits : List Edit
  All_edits = w.recorded.edits ++ is.edits

  made : MakeLocal is.nodes is.bindings × (nodes_in is.nodes ≡ nodes_in (observed_nodes b Ids w.ids.next_ver items))
  made = makes_local b items w.ids is.nodes is.bindings is.edits v.ids
      (sound w items is.nodes is.bindings is.edits v.ids local can is.good is.observed) is.good is.observed

  is_local : IsLocal Local
  is_local = scanned_local is.nodes is.bindings made.0

  -- each item's identity has its key
  own_key : (i : Item) → Has items i → get Local.keys (identity Ids i.key.0) ≡ Some i.key.0
  own_key i has = keyed b.keys b.local w.ids.next_id items is.good is.bindings is.observed.keys_are made.0.bindings.apart.ids i has

  -- each item is that of a node
  its_node : (i : Item) → Has items i → (h : Node) × (get s.tree i.key.0 ≡ Some h) × (i ≡ item_of i.key.0 h (get s.bytes i.key.0))
  its_node i has = item_parts i.key.0 (get s.tree i.key.0) (get s.bytes i.key.0) i (listed_is s items listing i has)

  root : identity Ids 0 ≡ 0
  root = unlisted b.keys b.local w.ids.next_id items is.good 0 (λ i has zero.
      let h = its_node i has in not_both s.tree 0 h.0 shelf.form.no_root (subst (λ z. get s.tree z ≡ Some h.0) zero h.1))

  parent_key : (i : Item) → Has items i → key_of Local.keys (identity Ids i.parent.0) ≡ Some i.parent.0
  parent_key i has =
      let h = its_node i has in
      let above : i.parent.0 ≡ h.0.place.parent.0 = ap (λ (j : Item). j.parent.0) h.2 in
      elim (shelf.form.parents i.key.0 h.0 h.1) [
        | inl top ↦ key_root Local.keys (identity Ids i.parent.0) (ap (identity Ids) (above ∙ top) ∙ root) ∙ ap Some (sym (above ∙ top))
        | inr (g, there, folder) ↦ (let row = listed_at s items listing shelf.form h.0.place.parent.0 g there in
            key_is Local.keys (identity Ids i.parent.0) i.parent.0 is_local.keys
            (subst (λ z. get Local.keys (identity Ids z) ≡ Some z) (row.2 ∙ sym above) (own_key row.0 row.1)))
      ]

  item_held : (i : Item) (ver : ℕ) → Has items i → IsNoted All_edits i.content ver → IsHeldAs All_edits Local.keys (node_of Ids ver i) i.key.0 s
  item_held i ver has noted =
      let h = its_node i has in
      let bytes = get s.bytes i.key.0 in
      let content : i.content ≡ option_map content_of bytes = ap (λ (j : Item). j.content) h.2 in
      let same : h.0 ≡ shown (item_of i.key.0 h.0 bytes) = shown_so s i h.0 shelf h.1 in
      record {
        place = record { parent = record { 0 = i.parent.0 }; name = i.name };
        known = ap (λ o. known_place o (node_of Ids ver i).place) (parent_key i has);
        node = h.1 ∙ ap Some (same ∙ ap shown (sym h.2));
        bytes = subst (λ o. HasContent All_edits (kind_of o) ver bytes) (sym content)
            (content_has All_edits bytes ver (subst (λ o. IsNoted All_edits o ver) content noted));
      }

  held : (x key : ℕ) (n : Node) → get Local.keys x ≡ Some key → get Local.tree x ≡ Some n → IsHeldAs All_edits Local.keys n key s
  held x key n at there =
      let first = puts b Ids w.ids.next_ver items in
      let rest = deletions b Ids (next_ver_after_puts b w.ids.next_ver items) (keys b.local) in
      let from : Comes Ids (w.recorded.edits ++ first) items x n =
      each_comes b Ids w.ids.next_ver items can.next x n (sym (ap (λ m. get m x) made.1) ∙ there) in
      let all : (w.recorded.edits ++ first) ++ rest ≡ All_edits =
      append_assoc w.recorded.edits first rest ∙ ap (λ es. w.recorded.edits ++ es) (sym is.observed.edits_are) in
      let noted = subst (λ es. IsNoted es from.item.content from.ver) all (noted_more (w.recorded.edits ++ first) rest from.item.content from.ver from.noted) in
      let its : from.item.key.0 ≡ key = one_number (get Local.keys x) from.item.key.0 key (ap (get Local.keys) from.id ∙ own_key from.item from.among) at in
      subst (λ j. IsHeldAs All_edits Local.keys n j s) its
      (subst (λ m. IsHeldAs All_edits Local.keys m from.item.key.0 s) (sym from.node) (item_held from.item from.ver from.among noted))

  known : (key : ℕ) (h : Node) → get s.tree key ≡ Some h → (x : ℕ) × (get Local.keys x ≡ Some key)
  known key h at =
      let row = listed_at s items listing shelf.form key h at in
      (identity Ids row.0.key.0, own_key row.0 row.1 ∙ ap Some row.2)

  pub scanned_matches : Matches All_edits Local s
  scanned_matches = record { local = is_local; held = held; known = known }
