-- What a scan brings: each file has a version that was put, and each key is that of a listed item.
use Rattle.std.specs.Prelude.{IsSomeAnd, if◌then◌else◌, option_map, unwrap_or}
use Rattle.std.proofs.Common.{◌≡◌, ◌<◌, ◌≤◌, ◌+◌, ◌++◌, ℕ, All, List, [], ◌∷◌, map, Option, Some, None, refl, sym, ◌∙◌, ap, subst, inl, inr, arith}
use Rattle.std.proofs.lemmas.List.{append-nil, append_assoc}
use Rattle.std.proofs.lemmas.List.Elements.{All-append, All-cons, All-map, All-nil, All-tail}
use Rattle.std.proofs.lemmas.List.Sorted.{All-permutation}
use Rattle.std.specs.FinMap.{empty, get, get-empty, keys}
use Rattle.std.specs.Ordering.{nat_cmp}
use Rattle.nuc_base.specs.declared.node.Counters.{Counters}
use Rattle.nuc_base.specs.declared.node.Kind.TheVariants.{Folder, File}
use Rattle.nuc_base.specs.declared.node.Node.{Node}
use Rattle.nuc_base.specs.declared.node.Ver.{Ver}
use Rattle.nuc_base.proofs.Maps.{after_put, not_both}
use Rattle.nuc_edits.specs.Edits.{IsNext, WasPut}
use Rattle.nuc_edits.specs.declared.edit.Edit.{Edit}
use Rattle.nuc_edits.specs.declared.edit.EditKind.TheVariants.{Put}
use Rattle.nuc_edits.proofs.Contents.{put_entered, put_kept}
use Rattle.nuc_folder.specs.declared.item.Item.{Item}
use Rattle.nuc_hash.specs.Content.{ContentData}
use Rattle.nuc_lookup.specs.Rows.{Numbers}
use Rattle.nuc_lookup.specs.declared.row.Row.{Row}
use Rattle.nuc_lookup.proofs.Maps as numbers
use Rattle.nuc_observe.specs.Keys.{KeyMap, key_map}
use Rattle.nuc_observe.specs.Listing.{kind_of}
use Rattle.nuc_observe.specs.Made.{nodes_in}
use Rattle.nuc_observe.specs.Observed.{Before, base_of, bindings, deletions, id_of, identity, identity_rows, known_node, listed_ids, next_ver_after_puts, node_of, observed_nodes, own_version, own_version_by, put_by, puts}
use Rattle.nuc_observe.specs.Turns.{next_after}
use Rattle.nuc_observe.specs.Versions.{has_hash, kept_version}
use Rattle.nuc_observe.specs.declared.binding.Binding.{Binding}
use Rattle.nuc_observe.proofs.KeptPut.{kept_put}
use Rattle.nuc_observe.proofs.Made.{makes_local}
use Rattle.nuc_replica.specs.Local.{IsLocal}
use Rattle.nuc_replica.proofs.Scanned.{scanned_local}
use Rattle.nuc_step.specs.Scanning.{IsScanned, before_of, changes_after}
use Rattle.nuc_step.specs.Watching.{CanWatch, Watching}
use Rattle.nuc_step.proofs.Lasting.{old_in_local, origin, rise, scanned_keeps, sound}
use Rattle.nuc_step.proofs.Observes.{AreBelow, FilesPut, Observes}

-- AN ITEM'S VERSION: one of its own was put, and only a file draws one
abbrev CanOwn : List Edit → Option ℕ → Option ContentData → Type 0
CanOwn es (Some v) content = kind_of content ≡ File → WasPut es v
CanOwn es None (Some content) = Unit {0}
CanOwn es None None = ⊥

module _ (b : Before) (es : List Edit) (has : (v : ℕ) → WasPut b.edits v → WasPut es v) where
  by_kept : (content : ContentData) (l s r : Option Node) (kept : Option Ver) → kept_version (has_hash b.edits content.hash) l s r ≡ kept
      → CanOwn es (option_map (λ v. v.0) kept) (Some content)
  by_kept content l s r None is = tt
  by_kept content l s r (Some v) is = λ file. has v.0 (kept_put b.edits content.hash l s r v is)

  can_own : (key : ℕ) (content : Option ContentData) → CanOwn es (own_version_by b key content) content
  can_own key None = λ file. absurd (let bad : Folder ≡ File = file in cc)
  can_own key (Some content) =
      by_kept content (known_node b.keys b.local key) (known_node b.keys b.synced key) (known_node b.keys b.remote key)
      (kept_version (has_hash b.edits content.hash) (known_node b.keys b.local key) (known_node b.keys b.synced key) (known_node b.keys b.remote key)) refl

-- after its turn the next version is so again, and a file's was put
record Turned (es : List Edit) (next : ℕ) (own : Option ℕ) (content : Option ContentData) (added : List Edit) : Type 0 where
  follows : IsNext (next_after own next) (es ++ added)
  put : kind_of content ≡ File → WasPut (es ++ added) (unwrap_or own next)

next_entered : (edits : List Edit) (e : Edit) → IsNext e.ver.0 edits → IsNext (e.ver.0 + 1) (edits ++ e ∷ [])
next_entered edits e next = record {
  some = omega arith;
  above = All-append (λ edit. edit.ver.0 < e.ver.0 + 1) edits (e ∷ [])
      (λ k d within. let below = next.above k d within in omega (arith, below))
      (All-cons (λ edit. edit.ver.0 < e.ver.0 + 1) e [] (omega arith) (All-nil (λ edit. edit.ver.0 < e.ver.0 + 1)));
}

turned : (es : List Edit) (next : ℕ) (own : Option ℕ) (content : Option ContentData) (base : Ver) (x : ℕ) → IsNext next es → CanOwn es own content
    → Turned es next own content (put_by own content base x (unwrap_or own next))
turned es next (Some v) content base x is can = record {
  follows = subst (IsNext next) (sym (append-nil es)) is;
  put = λ file. put_kept es [] v (can file);
}
turned es next None (Some content) base x is can =
    let e : Edit = record { ver = record { 0 = next }; id = record { 0 = x }; base = base; what = Put content } in
    record { follows = next_entered es e is; put = λ file. put_entered es e content is refl }
turned es next None None base x is can = absurd can

-- FILES, item by item
module _ (b : Before) (ids : Numbers) where
  files_put : (es : List Edit) → ((v : ℕ) → WasPut b.edits v → WasPut es v) → (next : ℕ) (items : List Item) → IsNext next es
      → FilesPut (nodes_in (observed_nodes b ids next items)) (es ++ puts b ids next items)
  files_put es has next [] is y n at file = absurd (not_both empty y n (get-empty nat_cmp y) at)
  files_put es has next (item ∷ items) is y n at file =
      let own = own_version b item in
      let ver = unwrap_or own next in
      let after = next_after own next in
      let added = put_by own item.content (base_of (known_node b.keys b.local item.key.0)) (identity ids item.key.0) ver in
      let more = puts b ids after items in
      let its = turned es next own item.content (base_of (known_node b.keys b.local item.key.0)) (identity ids item.key.0) is (can_own b es has item.key.0 item.content) in
      subst (λ all. WasPut all n.ver.0) (append_assoc es added more)
      (elim (after_put (nodes_in (observed_nodes b ids after items)) (identity ids item.key.0) (node_of ids ver item) y n at) [
        | inl (same, here) ↦ put_kept (es ++ added) more n.ver.0
            (subst (WasPut (es ++ added)) (sym (ap (λ (m : Node). m.ver.0) here)) (its.put (sym (ap (λ (m : Node). m.kind) here) ∙ file)))
        | inr (other, later) ↦ files_put (es ++ added) (λ v was. put_kept es added v (has v was)) after items its.follows y n later file
      ])

-- KEYS
rows_below : (most : ℕ) (ks : KeyMap) (next : ℕ) (items : List Item) → All (λ item. item.key.0 < most) items → All (λ row. row.from < most) (identity_rows ks next items)
rows_below most ks next [] below = All-nil (λ (row : Row). row.from < most)
rows_below most ks next (item ∷ items) below =
    All-cons (λ (row : Row). row.from < most) (record { from = item.key.0; to = unwrap_or (id_of ks item.key.0) next }) _ (below 0 item (omega arith))
    (rows_below most ks (next_after (id_of ks item.key.0) next) items (All-tail (λ (i : Item). i.key.0 < most) item items below))

bound_below : (most : ℕ) (given : List Binding) → All (λ b. b.key.0 < most) given → AreBelow (key_map given) most
bound_below most [] below x key at = absurd (numbers.not_both (get (key_map []) x) key (get-empty nat_cmp x) at)
bound_below most (b ∷ given) below x key at = elim (numbers.same_or_not x b.id.0) [
  | inl same ↦ (let put = numbers.get_put_same (key_map given) b.id.0 b.key.0 in
      let here : get (key_map (b ∷ given)) b.id.0 ≡ Some key = subst (λ z. get (key_map (b ∷ given)) z ≡ Some key) same at in
      let first : b.key.0 < most = below 0 b (omega arith) in
      let one : b.key.0 ≡ key = cc in subst (λ k. k < most) one first)
  | inr apart ↦ bound_below most given (All-tail (λ (c : Binding). c.key.0 < most) b given below) x key
      (sym (numbers.get_put_other (key_map given) b.id.0 b.key.0 x apart) ∙ at)
]

-- ALL OF IT
abbrev pub ItemsBelow : List Item → ℕ → Type 0
ItemsBelow items most = All (λ item. item.key.0 < most) items

module _ (w : Watching) (items : List Item) (local : IsLocal w.client.local) (can : CanWatch w.client w.recorded w.ids) (k : ℕ) (v : Watching) (is : IsScanned w k v items) where
  abbrev b : Before
  b = before_of w

  abbrev After : Watching
  After = record {
    client = record w.client { local = record { tree = nodes_in is.nodes; keys = key_map is.bindings }; changes = changes_after k w.client.changes };
    recorded = record w.recorded { edits = w.recorded.edits ++ is.edits };
    ids = v.ids;
  }

  is_after : v ≡ After
  is_after i = record { client = is.takes.client i; recorded = is.takes.recorded i; ids = v.ids }

  all_put : FilesPut (nodes_in is.nodes) (w.recorded.edits ++ is.edits)
  all_put y n at file =
      let ids = listed_ids b.keys w.ids.next_id items in
      let made = makes_local b items w.ids is.nodes is.bindings is.edits v.ids (sound w items is.nodes is.bindings is.edits v.ids local can is.good is.observed) is.good is.observed in
      let first = puts b ids w.ids.next_ver items in
      let rest = deletions b ids (next_ver_after_puts b w.ids.next_ver items) (keys b.local) in
      let put = files_put b ids w.recorded.edits (λ u was. was) w.ids.next_ver items can.next y n (sym (ap (λ m. get m y) made.1) ∙ at) file in
      subst (λ es. WasPut (w.recorded.edits ++ es) n.ver.0) (sym is.observed.edits_are)
      (subst (λ all. WasPut all n.ver.0) (append_assoc w.recorded.edits first rest) (put_kept (w.recorded.edits ++ first) rest n.ver.0 put))

  all_below : (most : ℕ) → ItemsBelow items most → AreBelow (key_map is.bindings) most
  all_below most below =
      bound_below most is.bindings
      (All-permutation (λ c. c.key.0 < most) (bindings (identity_rows b.keys w.ids.next_id items)) is.bindings is.observed.keys_are.0
      (All-map (λ (c : Binding). c.key.0 < most) (λ (row : Row). record { id = record { 0 = row.to }; key = record { 0 = row.from } }) (identity_rows b.keys w.ids.next_id items)
      (rows_below most b.keys w.ids.next_id items below)))

  pub scan_observes : Observes w v (ItemsBelow items)
  scan_observes =
      let made = makes_local b items w.ids is.nodes is.bindings is.edits v.ids (sound w items is.nodes is.bindings is.edits v.ids local can is.good is.observed) is.good is.observed in
      let after = scanned_keeps w v k items local can is in
      subst (λ (u : Watching). Observes w u (ItemsBelow items)) (sym is_after) (record {
        client = refl;
        local = scanned_local is.nodes is.bindings made.0;
        after = subst (λ (u : Watching). CanWatch u.client u.recorded u.ids) is_after after;
        later = rise w items is.nodes is.bindings is.edits v.ids local can is.good is.observed;
        more = is.edits;
        recorded = refl;
        kinds = λ y n at less. elim (origin w items is.nodes is.bindings is.edits v.ids local can is.good is.observed y n at) [
          | inl (key, held, same) ↦ (let old = old_in_local w items is.nodes is.bindings is.edits v.ids local can is.good is.observed y key held in (old.0, old.1, same old.0 old.1))
          | inr (from, to) ↦ absurd (omega (arith, less, from))
        ];
        put = λ known. all_put;
        keys = λ most below given. all_below most below;
      })
