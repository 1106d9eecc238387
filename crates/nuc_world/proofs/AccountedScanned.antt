-- A scan loses nothing: an edit is based on what it replaces or deletes, or Remote's version is what the file shows.
use Rattle.std.specs.Prelude.{All, Any, AllPairs, Contains, IsSomeAnd, ◌||◌, find, is_some, option_and_then, option_map, unwrap_or, slice_index_or}
use Rattle.std.proofs.Common.{◌≡◌, ◌≢◌, ◌⊎◌, ◌<◌, ℕ, zero, suc, Bool, true, false, cond, length, List, [], ◌∷◌, Option, Some, None, refl, sym, ◌∙◌, ap, subst, inl, inr, arith}
use Rattle.std.proofs.lemmas.Bool.{eqb-true, eq-eqb}
use Rattle.std.proofs.lemmas.List.{append-nil}
use Rattle.std.proofs.lemmas.List.Sorted.{Contains-permutation}
use Rattle.std.specs.Cmp.{unsigned_tied}
use Rattle.std.specs.FinMap as map
use Rattle.std.specs.FinMap.{contains_key-keys, get, get-empty}
use Rattle.std.specs.List.{list_any}
use Rattle.std.specs.Ordering.{eq_by_cmp, nat_cmp}
use Rattle.nuc_base.specs.Kinds.{Fits}
use Rattle.nuc_base.specs.Trees.{Nodes}
use Rattle.nuc_base.specs.declared.node.Kind.{Kind}
use Rattle.nuc_base.specs.declared.node.Kind.TheVariants.{Folder, File}
use Rattle.nuc_base.specs.declared.node.Node.{Node}
use Rattle.nuc_base.specs.declared.node.Ver.{Ver}
use Rattle.nuc_base.proofs.Maps.{get_put_other, get_put_same}
use Rattle.nuc_edits.specs.Edits.{Recorded}
use Rattle.nuc_edits.specs.declared.edit.Edit.{Edit}
use Rattle.nuc_edits.specs.declared.edit.EditKind.{EditKind}
use Rattle.nuc_edits.specs.declared.edit.EditKind.TheVariants as edit
use Rattle.nuc_folder.specs.declared.item.Item.{Item}
use Rattle.nuc_hash.specs.Content.{ContentData}
use Rattle.nuc_lookup.specs.Rows.{Numbers, numbers_in}
use Rattle.nuc_lookup.proofs.Maps as numbers
use Rattle.nuc_observe.specs.Keys.{AreKeys, KeyMap}
use Rattle.nuc_observe.specs.Listing.{IsGoodListing, KeepsItemKind, kind_of, nothing, more}
use Rattle.nuc_observe.specs.Made.{MakeLocal, nodes_in}
use Rattle.nuc_observe.specs.Observed.{Before, base_of, deletion_of, deletions, gone, gone_by, gone_version, id_of, identity, identity_rows, is_key, is_listed, known_node, listed_ids, next_ver_after_puts, observed_node, observed_nodes, own_of_gone, own_version, own_version_by, put_by, put_of, puts}
use Rattle.nuc_observe.specs.Turns.{next_after}
use Rattle.nuc_observe.specs.Versions.{has_hash, kept_version}
use Rattle.nuc_observe.specs.declared.observed_node.ObservedNode.{ObservedNode}
use Rattle.nuc_observe.proofs.Made.{makes_local}
use Rattle.nuc_replica.specs.Local.{HasKey, IsLocal}
use Rattle.nuc_step.specs.Client.{ClientState}
use Rattle.nuc_step.specs.Held.{HeldData}
use Rattle.nuc_step.specs.Scanning.{IsScanned, before_of}
use Rattle.nuc_step.specs.Watching.{CanWatch, Watching}
use Rattle.nuc_step.specs.declared.answers.Scanned.{Scanned}
use Rattle.nuc_step.specs.declared.answers.Scanned.TheVariants as scan
use Rattle.nuc_step.proofs.Lasting.{sound}
use Rattle.nuc_world.specs.Starts.{with_client}
use Rattle.nuc_world.specs.State.{Turn}
use Rattle.nuc_world.specs.Step.{Scans, watching_of, with_watching}
use Rattle.nuc_world.proofs.AccountedForm.{Comes, Fares, GoneBy, Has, IsClear, IsKeptJournal, IsVersion, StandsAs, node_at}
use Rattle.nuc_world.proofs.AccountedGrown.{any_behind, any_front, any_one, gone_later}
use Rattle.nuc_world.proofs.AccountedQuiet.{fares_same}
use Rattle.nuc_world.proofs.AccountedWatched.{KeptAs, Looks, kept_as, look_fares, no_version}
use Rattle.nuc_world.proofs.Items.{all_append, all_first, all_front, all_map, all_none, all_rest}

-- WHO HAS A KEY is found by it
key_is : (key : ℕ) (o : Option ℕ) → is_key key o ≡ true → o ≡ Some key
key_is key None e = let f : false ≡ true = e in cc
key_is key (Some own) e = ap Some (eqb-true own key e)

module _ (p : ℕ → Bool) where
  found_passes : (xs : List ℕ) (y : ℕ) → find p xs ≡ Some y → p y ≡ true
  found_passes [] y e = cc
  found_passes (x ∷ xs) y e =
      elim (p x) as (λ t. p x ≡ t → cond t (Some x) (find p xs) ≡ Some y → p y ≡ true) [
        | true ↦ λ is same. (let same_x : x ≡ y = cc in subst (λ z. p z ≡ true) same_x is)
        | false ↦ λ is same. found_passes xs y same
      ] refl e

  none_passes : (xs : List ℕ) (y : ℕ) → find p xs ≡ None → list_any (eq_by_cmp nat_cmp y) xs ≡ true → p y ≡ false
  none_passes [] y e among = let f : false ≡ true = among in cc
  none_passes (x ∷ xs) y e among =
      elim (p x) as (λ t. p x ≡ t → cond t (Some x) (find p xs) ≡ None → p y ≡ false) [
        | true ↦ λ is none. cc
        | false ↦ λ is none. elim (eq_by_cmp nat_cmp y x) as (λ t. eq_by_cmp nat_cmp y x ≡ t → (t || list_any (eq_by_cmp nat_cmp y) xs) ≡ true → p y ≡ false) [
          | true ↦ λ same rest. subst (λ z. p z ≡ false) (sym (eqb-true y x (sym (unsigned_tied y x) ∙ same))) is
          | false ↦ λ other rest. none_passes xs y none rest
        ] refl among
      ] refl e

is_among : {V : Type 0} (m : map.FinMap nat_cmp V) (x : ℕ) (v : V) → get m x ≡ Some v → list_any (eq_by_cmp nat_cmp x) (map.keys m) ≡ true
is_among m x v is = sym (contains_key-keys m x) ∙ ap is_some is

found_by : (keys : KeyMap) → AreKeys keys → (x k : ℕ) → get keys x ≡ Some k → (o : Option ℕ) → id_of keys k ≡ o → id_of keys k ≡ Some x
found_by keys are x k has None e =
    let not : is_key k (get keys x) ≡ false = none_passes (λ y. is_key k (get keys y)) (map.keys keys) x e (is_among keys x k has) in
    let is : is_key k (get keys x) ≡ true = ap (is_key k) has ∙ eq-eqb k k refl in
    cc
found_by keys are x k has (Some y) e =
    e ∙ ap Some (are.one_to_one y x k (key_is k (get keys y) (found_passes (λ z. is_key k (get keys z)) (map.keys keys) y e)) has)

-- the identity of a listed key that somebody has is theirs
row_to : (keys : KeyMap) (k x : ℕ) → id_of keys k ≡ Some x → (next : ℕ) (items : List Item) (y : ℕ) → get (numbers_in (identity_rows keys next items)) k ≡ Some y → y ≡ x
row_to keys k x id next [] y at = absurd (numbers.not_both (get (numbers_in []) k) y (get-empty nat_cmp k) at)
row_to keys k x id next (item ∷ items) y at =
    let to = unwrap_or (id_of keys item.key.0) next in
    let rest = numbers_in (identity_rows keys (next_after (id_of keys item.key.0) next) items) in
    elim (numbers.same_or_not k item.key.0) [
      | inl same ↦ numbers.one_number (get (map.insert rest item.key.0 to) item.key.0) y x
          (subst (λ j. get (map.insert rest item.key.0 to) j ≡ Some y) same at)
          (numbers.get_put_same rest item.key.0 to ∙ ap (λ o. Some (unwrap_or o next)) (ap (id_of keys) (sym same) ∙ id))
      | inr apart ↦ row_to keys k x id (next_after (id_of keys item.key.0) next) items y (sym (numbers.get_put_other rest item.key.0 to k apart) ∙ at)
    ]

-- the key is that of an item
abbrev IsIn : ℕ → List Item → Type 0
IsIn k [] = ⊥
IsIn k (item ∷ items) = (item.key.0 ≡ k) ⊎ IsIn k items

row_in : (keys : KeyMap) (k next : ℕ) (items : List Item) (y : ℕ) → get (numbers_in (identity_rows keys next items)) k ≡ Some y → IsIn k items
row_in keys k next [] y at = numbers.not_both (get (numbers_in []) k) y (get-empty nat_cmp k) at
row_in keys k next (item ∷ items) y at =
    let to = unwrap_or (id_of keys item.key.0) next in
    let rest = numbers_in (identity_rows keys (next_after (id_of keys item.key.0) next) items) in
    elim (numbers.same_or_not k item.key.0) [
      | inl same ↦ inl (sym same)
      | inr apart ↦ inr (row_in keys k (next_after (id_of keys item.key.0) next) items y (sym (numbers.get_put_other rest item.key.0 to k apart) ∙ at))
    ]

-- EACH NODE of a list in which no identity comes twice stands in its tree
stands : (nodes : List ObservedNode) → AllPairs (λ n k. n.id.0 ≢ k.id.0) nodes → (i : ℕ) (n : ObservedNode) → i < length nodes → slice_index_or nodes i n ≡ n
    → get (nodes_in nodes) n.id.0 ≡ Some n.node
stands [] apart i n within at = absurd (omega (arith, within))
stands (k ∷ nodes) apart zero n within at =
    let same : k ≡ n = at in subst (λ (h : ObservedNode). get (map.insert (nodes_in nodes) k.id.0 k.node) h.id.0 ≡ Some h.node) same (get_put_same (nodes_in nodes) k.id.0 k.node)
stands (k ∷ nodes) apart (suc i) n within at =
    let off : k.id.0 ≢ n.id.0 = subst (λ (h : ObservedNode). k.id.0 ≢ h.id.0) at (apart 0 (suc i) n (omega arith) within) in
    get_put_other (nodes_in nodes) k.id.0 k.node n.id.0 (λ same. off (sym same))
    ∙ stands nodes (λ a b d lt inside. apart (suc a) (suc b) d (omega (arith, lt)) (omega (arith, inside))) i n (omega (arith, within)) at

-- a node of the list
record Shows (nodes : List ObservedNode) (P : ObservedNode → Type 0) : Type 0 where
  node : ObservedNode
  is : Contains nodes node
  has : P node

shows_first : (P : ObservedNode → Type 0) (n : ObservedNode) (nodes : List ObservedNode) → P n → Shows (n ∷ nodes) P
shows_first P n nodes its = record { node = n; is = (0, omega arith, refl); has = its }

shows_rest : (P : ObservedNode → Type 0) (n : ObservedNode) (nodes : List ObservedNode) → Shows nodes P → Shows (n ∷ nodes) P
shows_rest P n nodes shows = let (i, within, at) = shows.is in record { node = shows.node; is = (suc i, omega (arith, within), at); has = shows.has }

good_kinds : (keys : KeyMap) (l : Nodes) (items : List Item) → IsGoodListing keys l items → All (λ i. KeepsItemKind keys l i.key.0 (kind_of i.content)) items
good_kinds keys l items nothing = all_none (λ (i : Item). KeepsItemKind keys l i.key.0 (kind_of i.content))
good_kinds keys l items (more earlier item good is) =
    all_append (λ (i : Item). KeepsItemKind keys l i.key.0 (kind_of i.content)) earlier (item ∷ []) (good_kinds keys l earlier good)
    (all_front (λ (i : Item). KeepsItemKind keys l i.key.0 (kind_of i.content)) item [] is.kind (all_none (λ (i : Item). KeepsItemKind keys l i.key.0 (kind_of i.content))))

-- WHAT BECOMES OF A VERSION that Local has at x, under the key k
module _ (b : Before) (ids : Numbers) (x k : ℕ) (n : Node) (key : get b.keys x ≡ Some k) (id : id_of b.keys k ≡ Some x) (here : get b.local x ≡ Some n)
    (fits : Fits n.kind n.ver.0 n.bit) (some : 0 < n.ver.0) (Gone : Type 0)
    (so : IsVersion n.ver.0 (get b.synced x) → IsVersion n.ver.0 (get b.remote x) ⊎ Gone) where
  abbrev Based : List Edit → Type 0
  Based edits = Any (λ (e : Edit). e.base.0 ≡ n.ver.0) edits

  known : (item : Item) → item.key.0 ≡ k → (m : Nodes) → known_node b.keys m item.key.0 ≡ get m x
  known item same m = ap (λ j. option_and_then (get m) (id_of b.keys j)) same ∙ ap (option_and_then (get m)) id

  -- by the version that it keeps
  by_kept : (content : ContentData) (next y : ℕ) (kept : Option Ver) → KeptAs n.ver.0 Gone kept
      → (unwrap_or (option_map (λ v. v.0) kept) next ≡ n.ver.0) ⊎ (Based (put_by (option_map (λ v. v.0) kept) (Some content) n.ver y (unwrap_or (option_map (λ v. v.0) kept) next)) ⊎ Gone)
  by_kept content next y None as_kept = inr (inl (any_one (λ (e : Edit). e.base.0 ≡ n.ver.0) _ refl))
  by_kept content next y (Some w) (inl same) = inl same
  by_kept content next y (Some w) (inr is) = inr (inr is)

  by_content : (item : Item) → item.key.0 ≡ k → KeepsItemKind b.keys b.local item.key.0 (kind_of item.content) → (content : Option ContentData) → item.content ≡ content
      → (next y : ℕ) → (unwrap_or (own_version_by b item.key.0 content) next ≡ n.ver.0)
      ⊎ (Based (put_by (own_version_by b item.key.0 content) content (base_of (known_node b.keys b.local item.key.0)) y (unwrap_or (own_version_by b item.key.0 content) next)) ⊎ Gone)
  by_content item same keeps None is next y =
      absurd (no_version n.kind n.ver.0 n.bit n.ver.0 (keeps x n (key ∙ ap Some (sym same)) here ∙ ap kind_of is) fits refl some)
  by_content item same keeps (Some content) is next y =
      let has = has_hash b.edits content.hash in
      let local : known_node b.keys b.local item.key.0 ≡ Some n = known item same b.local ∙ here in
      let kept : kept_version has (known_node b.keys b.local item.key.0) (known_node b.keys b.synced item.key.0) (known_node b.keys b.remote item.key.0)
      ≡ kept_version has (Some n) (get b.synced x) (get b.remote x) =
      ap (λ o. kept_version has o (known_node b.keys b.synced item.key.0) (known_node b.keys b.remote item.key.0)) local
      ∙ ap (λ o. kept_version has (Some n) o (known_node b.keys b.remote item.key.0)) (known item same b.synced)
      ∙ ap (kept_version has (Some n) (get b.synced x)) (known item same b.remote) in
      subst (λ o. (unwrap_or (option_map (λ v. v.0) o) next ≡ n.ver.0)
      ⊎ (Based (put_by (option_map (λ v. v.0) o) (Some content) (base_of (known_node b.keys b.local item.key.0)) y (unwrap_or (option_map (λ v. v.0) o) next)) ⊎ Gone)) (sym kept)
      (subst (λ o. (unwrap_or (option_map (λ v. v.0) (kept_version has (Some n) (get b.synced x) (get b.remote x))) next ≡ n.ver.0)
      ⊎ (Based (put_by (option_map (λ v. v.0) (kept_version has (Some n) (get b.synced x) (get b.remote x))) (Some content) (base_of o) y
      (unwrap_or (option_map (λ v. v.0) (kept_version has (Some n) (get b.synced x) (get b.remote x))) next)) ⊎ Gone)) (sym local)
      (by_kept content next y (kept_version has (Some n) (get b.synced x) (get b.remote x)) (kept_as has n Gone (get b.synced x) (get b.remote x) so)))

  -- listed: it shows it, or an edit is based on it
  abbrev IsShown : ObservedNode → Type 0
  IsShown o = (o.id.0 ≡ x) × (o.node.ver.0 ≡ n.ver.0)

  listed_fate : identity ids k ≡ x → (next : ℕ) (items : List Item) → All (λ i. KeepsItemKind b.keys b.local i.key.0 (kind_of i.content)) items → IsIn k items
      → Shows (observed_nodes b ids next items) IsShown ⊎ (Based (puts b ids next items) ⊎ Gone)
  listed_fate mine next [] keep none = absurd none
  listed_fate mine next (item ∷ items) keep (inl same) =
      let keeps = all_first (λ (i : Item). KeepsItemKind b.keys b.local i.key.0 (kind_of i.content)) item items keep in
      elim (by_content item same keeps item.content refl next (identity ids item.key.0)) [
        | inl ver ↦ inl (shows_first IsShown (observed_node ids (unwrap_or (own_version b item) next) item) _ (ap (identity ids) same ∙ mine, ver))
        | inr rest ↦ elim rest [
          | inl based ↦ inr (inl (any_front (λ (e : Edit). e.base.0 ≡ n.ver.0) (put_of b ids (unwrap_or (own_version b item) next) item) _ based))
          | inr is ↦ inr (inr is)
        ]
      ]
  listed_fate mine next (item ∷ items) keep (inr later) =
      let after = next_after (own_version b item) next in
      elim (listed_fate mine after items (all_rest (λ (i : Item). KeepsItemKind b.keys b.local i.key.0 (kind_of i.content)) item items keep) later) [
        | inl shown ↦ inl (shows_rest IsShown (observed_node ids (unwrap_or (own_version b item) next) item) _ shown)
        | inr rest ↦ elim rest [
          | inl based ↦ inr (inl (any_behind (λ (e : Edit). e.base.0 ≡ n.ver.0) (put_of b ids (unwrap_or (own_version b item) next) item) _ based))
          | inr is ↦ inr (inr is)
        ]
      ]

  -- not listed: a deletion is based on it
  by_kind : (kd : Kind) → n.kind ≡ kd → (ver y : ℕ) → Based (deletion_of (gone_version kd n.ver) ver y)
  by_kind Folder kind ver y = absurd (no_version n.kind n.ver.0 n.bit n.ver.0 kind fits refl some)
  by_kind File kind ver y = any_one (λ (e : Edit). e.base.0 ≡ n.ver.0) _ refl

  deleted_fate : is_listed b.keys ids x ≡ false → (next : ℕ) (xs : List ℕ) → list_any (eq_by_cmp nat_cmp x) xs ≡ true → Based (deletions b ids next xs)
  deleted_fate unlisted next [] among = let f : false ≡ true = among in cc
  deleted_fate unlisted next (y ∷ ys) among =
      elim (eq_by_cmp nat_cmp x y) as (λ t. eq_by_cmp nat_cmp x y ≡ t → (t || list_any (eq_by_cmp nat_cmp x) ys) ≡ true → Based (deletions b ids next (y ∷ ys))) [
        | true ↦ λ same rest. (let is : x ≡ y = eqb-true x y (sym (unsigned_tied x y) ∙ same) in
            let ver = unwrap_or (own_of_gone (gone b ids y)) next in
            let its : gone b ids y ≡ gone_version n.kind n.ver = ap (gone b ids) (sym is) ∙ ap (λ q. gone_by q (get b.local x)) unlisted ∙ ap (gone_by false) here in
            any_front (λ (e : Edit). e.base.0 ≡ n.ver.0) (deletion_of (gone b ids y) ver y) _
            (subst (λ o. Any (λ (e : Edit). e.base.0 ≡ n.ver.0) (deletion_of o ver y)) (sym its) (by_kind n.kind refl ver y)))
        | false ↦ λ other rest. any_behind (λ (e : Edit). e.base.0 ≡ n.ver.0) (deletion_of (gone b ids y) (unwrap_or (own_of_gone (gone b ids y)) next) y) _
            (deleted_fate unlisted (next_after (own_of_gone (gone b ids y)) next) ys rest)
      ] refl among

-- WHAT COMES: each edit that puts has its node
abbrev Bears : List ObservedNode → Edit → Type 0
Bears nodes e = (0 < e.ver.0) × ((content : ContentData) → e.what ≡ edit.Put content → Shows nodes (λ o. o.node.ver.0 ≡ e.ver.0))

bears_rest : (n : ObservedNode) (nodes : List ObservedNode) (edits : List Edit) → All (Bears nodes) edits → All (Bears (n ∷ nodes)) edits
bears_rest n nodes edits all i d within =
    let its = all i d within in (its.0, λ content put. shows_rest (λ (o : ObservedNode). o.node.ver.0 ≡ (slice_index_or edits i d).ver.0) n nodes (its.1 content put))

bears_first : (nodes : List ObservedNode) (n : ObservedNode) (own : Option ℕ) (content : Option ContentData) (base : Ver) (y next : ℕ) → 0 < next
    → n.node.ver.0 ≡ unwrap_or own next → All (Bears (n ∷ nodes)) (put_by own content base y (unwrap_or own next))
bears_first nodes n (Some own) content base y next some ver = all_none (Bears (n ∷ nodes))
bears_first nodes n None None base y next some ver = all_none (Bears (n ∷ nodes))
bears_first nodes n None (Some content) base y next some ver =
    all_front (Bears (n ∷ nodes)) _ [] (some, λ c put. shows_first (λ (o : ObservedNode). o.node.ver.0 ≡ next) n nodes ver) (all_none (Bears (n ∷ nodes)))

rises : (o : Option ℕ) (next : ℕ) → 0 < next → 0 < next_after o next
rises None next some = omega (arith, some)
rises (Some own) next some = some

puts_bear : (b : Before) (ids : Numbers) (next : ℕ) (items : List Item) → 0 < next → All (Bears (observed_nodes b ids next items)) (puts b ids next items)
puts_bear b ids next [] some = all_none (Bears [])
puts_bear b ids next (item ∷ items) some =
    let own = own_version b item in
    let node = observed_node ids (unwrap_or own next) item in
    let after = next_after own next in
    all_append (Bears (node ∷ observed_nodes b ids after items)) (put_of b ids (unwrap_or own next) item) (puts b ids after items)
    (bears_first (observed_nodes b ids after items) node own item.content (base_of (known_node b.keys b.local item.key.0)) (identity ids item.key.0) next some refl)
    (bears_rest node (observed_nodes b ids after items) (puts b ids after items) (puts_bear b ids after items (rises own next some)))

deletion_bears : (nodes : List ObservedNode) (next y : ℕ) → 0 < next → (o : Option Ver) → All (Bears nodes) (deletion_of o (unwrap_or (own_of_gone o) next) y)
deletion_bears nodes next y some None = all_none (Bears nodes)
deletion_bears nodes next y some (Some base) = all_front (Bears nodes) _ [] (some, λ content put. cc) (all_none (Bears nodes))

deletions_bear : (b : Before) (ids : Numbers) (nodes : List ObservedNode) (next : ℕ) (xs : List ℕ) → 0 < next → All (Bears nodes) (deletions b ids next xs)
deletions_bear b ids nodes next [] some = all_none (Bears nodes)
deletions_bear b ids nodes next (y ∷ ys) some =
    let after = next_after (own_of_gone (gone b ids y)) next in
    all_append (Bears nodes) (deletion_of (gone b ids y) (unwrap_or (own_of_gone (gone b ids y)) next) y) (deletions b ids after ys)
    (deletion_bears nodes next y some (gone b ids y)) (deletions_bear b ids nodes after ys (rises (own_of_gone (gone b ids y)) next some))

next_some : (b : Before) (next : ℕ) (items : List Item) → 0 < next → 0 < next_ver_after_puts b next items
next_some b next [] some = some
next_some b next (item ∷ items) some = next_some b (next_after (own_version b item) next) items (rises (own_version b item) next some)

-- ALL OF IT
module _ (t u : Turn) (local : IsLocal t.member.client.local) (can : CanWatch t.member.client t.shared.edits t.shared.ids) (clear : IsClear t.shared t.member.client)
    (entries : u.shared.entries ≡ t.shared.entries) (count : ℕ) (items : List Item) (is : IsScanned (watching_of t) count (watching_of u) items) where
  abbrev B : Before
  B = before_of (watching_of t)

  abbrev Ids : Numbers
  Ids = listed_ids B.keys t.shared.ids.next_id items

  abbrev Listed : List ObservedNode
  Listed = observed_nodes B Ids t.shared.ids.next_ver items

  made : MakeLocal is.nodes is.bindings × (nodes_in is.nodes ≡ nodes_in Listed)
  made = makes_local B items t.shared.ids is.nodes is.bindings is.edits u.shared.ids
      (sound (watching_of t) items is.nodes is.bindings is.edits u.shared.ids local can is.good is.observed) is.good is.observed

  tree_is : u.member.client.local.tree ≡ nodes_in is.nodes
  tree_is = ap (λ (c : ClientState). c.local.tree) is.takes.client

  shown : (P : ObservedNode → Type 0) → Shows Listed P → (o : ObservedNode) × (get u.member.client.local.tree o.id.0 ≡ Some o.node) × P o
  shown P shows =
      let (i, within, at) = Contains-permutation Listed is.nodes shows.node is.observed.nodes_are.0 shows.is in
      (shows.node, ap (λ m. get m shows.node.id.0) tree_is ∙ stands is.nodes made.0.apart i shows.node within at, shows.has)

  gone_still : (v : ℕ) → GoneBy t.shared.edits v → GoneBy u.shared.edits v
  gone_still v gone = gone_later t.shared.edits u.shared.edits is.edits [] (ap (λ (r : Recorded). r.edits) is.takes.recorded)
      (ap (λ (r : Recorded). r.adoptions) is.takes.recorded ∙ sym (append-nil t.shared.edits.adoptions)) v gone

  based : (v : ℕ) → Any (λ (e : Edit). e.base.0 ≡ v) is.edits → GoneBy u.shared.edits v
  based v some = inl (subst (λ (r : Recorded). Any (λ (f : Edit). f.base.0 ≡ v) r.edits) (sym is.takes.recorded)
      (any_behind (λ (f : Edit). f.base.0 ≡ v) t.shared.edits.edits is.edits some))

  abbrev Puts : List Edit
  Puts = puts B Ids t.shared.ids.next_ver items

  abbrev Deletions : List Edit
  Deletions = deletions B Ids (next_ver_after_puts B t.shared.ids.next_ver items) (map.keys B.local)

  put_based : (v : ℕ) → Any (λ (e : Edit). e.base.0 ≡ v) Puts → GoneBy u.shared.edits v
  put_based v some = based v (subst (Any (λ (e : Edit). e.base.0 ≡ v)) (sym is.observed.edits_are) (any_front (λ (f : Edit). f.base.0 ≡ v) Puts Deletions some))

  cut_based : (v : ℕ) → Any (λ (e : Edit). e.base.0 ≡ v) Deletions → GoneBy u.shared.edits v
  cut_based v some = based v (subst (Any (λ (e : Edit). e.base.0 ≡ v)) (sym is.observed.edits_are) (any_behind (λ (f : Edit). f.base.0 ≡ v) Puts Deletions some))

  module _ (x : ℕ) (n : Node) (here : get B.local x ≡ Some n) (some : 0 < n.ver.0) (k : ℕ) (key : get B.keys x ≡ Some k) where
    id_is : id_of B.keys k ≡ Some x
    id_is = found_by B.keys local.keys x k key (id_of B.keys k) refl

    fits_so : Fits n.kind n.ver.0 n.bit
    fits_so = local.form.fits x n here

    of_listed : (y : ℕ) → get Ids k ≡ Some y → Has u.member.client.local.tree x n.ver.0 ⊎ GoneBy u.shared.edits n.ver.0
    of_listed y at = elim (listed_fate B Ids x k n key id_is here fits_so some (GoneBy t.shared.edits n.ver.0) (clear.remote x n.ver.0 some)
        (ap (λ o. unwrap_or o 0) at ∙ row_to B.keys k x id_is t.shared.ids.next_id items y at) t.shared.ids.next_ver items (good_kinds B.keys B.local items is.good)
        (row_in B.keys k t.shared.ids.next_id items y at)) [
          | inl shows ↦ (let (o, at_o, its) = shown (λ o. (o.id.0 ≡ x) × (o.node.ver.0 ≡ n.ver.0)) shows in inl (subst (λ z. Has u.member.client.local.tree z n.ver.0) its.0 (subst (IsVersion n.ver.0) (sym at_o) its.1)))
          | inr rest ↦ elim rest [
            | inl put ↦ inr (put_based n.ver.0 put)
            | inr gone ↦ inr (gone_still n.ver.0 gone)
          ]
        ]

    by_listed : (o : Option ℕ) → get Ids k ≡ o → Has u.member.client.local.tree x n.ver.0 ⊎ GoneBy u.shared.edits n.ver.0
    by_listed (Some y) at = of_listed y at
    by_listed None at = inr (cut_based n.ver.0 (deleted_fate B Ids x k n key id_is here fits_so some (GoneBy t.shared.edits n.ver.0) (clear.remote x n.ver.0 some)
        (ap (λ o. is_some (option_and_then (get Ids) o)) key ∙ ap is_some at) (next_ver_after_puts B t.shared.ids.next_ver items) (map.keys B.local)
        (is_among B.local x n here)))

  by_key : (x : ℕ) (n : Node) → get B.local x ≡ Some n → 0 < n.ver.0 → (o : Option ℕ) → get B.keys x ≡ o → Has u.member.client.local.tree x n.ver.0 ⊎ GoneBy u.shared.edits n.ver.0
  by_key x n here some None key = absurd (subst (HasKey (Some n)) key (subst (λ o. HasKey o (get B.keys x)) here (local.follow x)))
  by_key x n here some (Some k) key = by_listed x n here some k key (get Ids k) refl

  kept_local : (x v : ℕ) → 0 < v → Has B.local x v → Has u.member.client.local.tree x v ⊎ GoneBy u.shared.edits v
  kept_local x v some has =
      let (n, here, ver) = node_at B.local x v has in
      subst (λ w. Has u.member.client.local.tree x w ⊎ GoneBy u.shared.edits w) ver (by_key x n here (omega (arith, some, ver)) (get B.keys x) refl)

  all_bear : All (Bears Listed) is.edits
  all_bear =
      let next = can.next.some in
      subst (All (Bears Listed)) (sym is.observed.edits_are)
      (all_append (Bears Listed) Puts Deletions (puts_bear B Ids t.shared.ids.next_ver items next)
      (deletions_bear B Ids Listed (next_ver_after_puts B t.shared.ids.next_ver items) (map.keys B.local) (next_some B t.shared.ids.next_ver items next)))

  stands_as : (what : EditKind) (ver : ℕ) → ((content : ContentData) → what ≡ edit.Put content → Shows Listed (λ o. o.node.ver.0 ≡ ver))
      → StandsAs u.shared u.member.client.local.tree what ver
  stands_as (edit.Put content) ver shows =
      let (o, at, is_ver) = shown (λ o. o.node.ver.0 ≡ ver) (shows content refl) in inr (record { id = o.id.0; node = o.node; here = at; ver = is_ver })
  stands_as edit.Deleted ver shows = tt

  scan_looks : Looks t u
  scan_looks = record {
    entries = entries;
    new = is.edits;
    recorded = is.takes.recorded;
    remote = ap (λ (c : ClientState). c.remote) is.takes.client;
    synced = ap (λ (c : ClientState). c.synced) is.takes.client;
    flights = ap (λ (c : ClientState). c.flights) is.takes.client;
    comes = all_map (Bears Listed) (Comes u.shared u.member.client.local.tree) (λ e bears. record { some = bears.0; stands = stands_as e.what e.ver.0 bears.1 }) is.edits all_bear;
    local = kept_local;
  }

module _ (t u : Turn) (journal : IsKeptJournal t.shared) (local : IsLocal t.member.client.local) (can : CanWatch t.member.client t.shared.edits t.shared.ids)
    (clear : IsClear t.shared t.member.client) where
  same_watching : watching_of u ≡ watching_of t → u ≡ record (with_watching (watching_of u) t) { member = record (with_client u.member.client t.member) { listing = u.member.listing } } → Fares t u
  same_watching same now =
      let client : u.member.client ≡ t.member.client = ap (λ (w : Watching). w.client) same in
      fares_same t u (ap (λ (v : Turn). v.shared) now ∙ ap (λ (w : Watching). (with_watching w t).shared) same) client journal clear

  by_held : (k : ℕ) (held : Option HeldData) → u.shared.entries ≡ t.shared.entries
      → IsSomeAnd held (λ h. (h.changes ≡ t.member.client.changes) × IsScanned (watching_of t) k (watching_of u) h.items) → Fares t u
  by_held k None entries is = absurd is
  by_held k (Some h) entries is = look_fares t u journal clear (scan_looks t u local can clear entries k h.items is.1)

  pub scan_fares : (answer : Scanned) → Scans answer t u → Fares t u
  scan_fares scan.NoListing ((none, dropped, same), now) = same_watching same now
  scan_fares (scan.Stale changes) ((stale, count, dropped, same), now) = same_watching same now
  scan_fares (scan.Bad number) ((bad, dropped, same), now) = same_watching same now
  scan_fares (scan.Changed k) ((is, dropped), now) = by_held k t.member.listing (ap (λ (v : Turn). v.shared.entries) now) is
