-- Each node of a scan is that of an item, and a file has a version whose recorded content has the item's hash.
use Rattle.std.specs.Prelude.{All, if◌then◌else◌, is_some, option_map, unwrap_or}
use Rattle.std.proofs.Common.{◌≡◌, ◌<◌, ◌+◌, ◌++◌, ◌==◌, ◌&&◌, ℕ, Bool, true, false, List, [], ◌∷◌, Option, Some, None, refl, ◌∙◌, ap, subst, inl, inr, arith}
use Rattle.std.proofs.lemmas.List.{append_assoc}
use Rattle.std.proofs.lemmas.List.Elements.{All-append, All-cons, All-nil}
use Rattle.std.proofs.lemmas.Slice.Eq.{bytes_eq-Decides}
use Rattle.std.specs.FinMap.{empty, get, get-empty}
use Rattle.std.specs.Ordering.{nat_cmp}
use Rattle.nuc_base.specs.declared.node.Node.{Node}
use Rattle.nuc_base.specs.declared.node.Ver.{Ver}
use Rattle.nuc_base.proofs.Maps.{after_put, not_both}
use Rattle.nuc_edits.specs.Edits.{IsNext, content_at}
use Rattle.nuc_edits.specs.declared.edit.Edit.{Edit}
use Rattle.nuc_edits.specs.declared.edit.EditKind.TheVariants.{Put}
use Rattle.nuc_edits.proofs.Contents.{content_entered, content_kept}
use Rattle.nuc_folder.specs.declared.item.Item.{Item}
use Rattle.nuc_folder.proofs.OneListing.{Has}
use Rattle.nuc_hash.specs.Content.{ContentData}
use Rattle.nuc_hash.specs.declared.digest.Digest.{Digest}
use Rattle.nuc_lookup.specs.Rows.{Numbers}
use Rattle.nuc_observe.specs.Made.{nodes_in}
use Rattle.nuc_observe.specs.Observed.{Before, base_of, identity, known_node, node_of, observed_nodes, own_version, own_version_by, put_by, puts}
use Rattle.nuc_observe.specs.Turns.{next_after}
use Rattle.nuc_observe.specs.Versions.{agreed_version, has_hash, is_of_hash, kept_version}

-- WHAT IS RECORDED of the version has this hash
abbrev pub HasHash : List Edit → Digest → ℕ → Type 0
HasHash es hash ver = (c : ContentData) × (content_at es ver ≡ Some c) × (c.hash ≡ hash)

-- a folder has no content
abbrev pub IsNoted : List Edit → Option ContentData → ℕ → Type 0
IsNoted es None ver = Unit {0}
IsNoted es (Some content) ver = HasHash es content.hash ver

pub noted_more : (es more : List Edit) (content : Option ContentData) (ver : ℕ) → IsNoted es content ver → IsNoted (es ++ more) content ver
noted_more es more None ver noted = tt
noted_more es more (Some content) ver (c, at, same) = (c, content_kept ver es more (ap is_some at) ∙ at, same)

-- A VERSION THAT IS KEPT
of_hash : (hash : Digest) (o : Option ContentData) → is_of_hash hash o ≡ true → (c : ContentData) × (o ≡ Some c) × (c.hash ≡ hash)
of_hash hash None is = absurd (let bad : false ≡ true = is in cc)
of_hash hash (Some c) is =
    let same : c.hash ≡ hash = ap (λ (xs : List ℕ). record { 0 = xs }) ((bytes_eq-Decides c.hash.0 hash.0).0 is) in
    (c, refl, same)

both_second : (a b : Bool) → (a && b) ≡ true → b ≡ true
both_second true b is = is
both_second false b is = let bad : false ≡ true = is in cc

module _ (edits : List Edit) (hash : Digest) where
  abbrev has : Ver → Bool
  has v = has_hash edits hash v

  agreed_noted : (l : Node) (s r : Option Node) (v : Ver) → agreed_version (has_hash edits hash) l s r ≡ Some v → HasHash edits hash v.0
  agreed_noted l None r v is = absurd (let bad : None ≡ Some v = is in cc)
  agreed_noted l (Some s) None v is = absurd (let bad : None ≡ Some v = is in cc)
  agreed_noted l (Some s) (Some r) v is =
      elim ((l.ver.0 == s.ver.0) && has r.ver) as (λ t. ((l.ver.0 == s.ver.0) && has r.ver) ≡ t → (if t then Some r.ver else None) ≡ Some v → HasHash edits hash v.0) [
        | true ↦ λ both e. (let same : r.ver ≡ v = cc in
            subst (λ (w : Ver). HasHash edits hash w.0) same (of_hash hash (content_at edits r.ver.0) (both_second (l.ver.0 == s.ver.0) (has r.ver) both)))
        | false ↦ λ both e. absurd (let bad : None ≡ Some v = e in cc)
      ] refl is

  kept_noted : (l s r : Option Node) (v : Ver) → kept_version (has_hash edits hash) l s r ≡ Some v → HasHash edits hash v.0
  kept_noted None s r v is = absurd (let bad : None ≡ Some v = is in cc)
  kept_noted (Some l) s r v is =
      elim (has l.ver) as (λ t. has l.ver ≡ t → (if t then Some l.ver else agreed_version (has_hash edits hash) l s r) ≡ Some v → HasHash edits hash v.0) [
        | true ↦ λ yes e. (let same : l.ver ≡ v = cc in subst (λ (w : Ver). HasHash edits hash w.0) same (of_hash hash (content_at edits l.ver.0) yes))
        | false ↦ λ not e. agreed_noted l s r v e
      ] refl is

-- AN ITEM'S VERSION: one of its own is noted, and only a file draws one
abbrev CanOwn : List Edit → Option ℕ → Option ContentData → Type 0
CanOwn es (Some v) content = IsNoted es content v
CanOwn es None (Some content) = Unit {0}
CanOwn es None None = ⊥

module _ (b : Before) (es : List Edit) (keeps : (content : Option ContentData) (v : ℕ) → IsNoted b.edits content v → IsNoted es content v) where
  by_kept : (content : ContentData) (l s r : Option Node) (kept : Option Ver) → kept_version (has_hash b.edits content.hash) l s r ≡ kept
      → CanOwn es (option_map (λ v. v.0) kept) (Some content)
  by_kept content l s r None is = tt
  by_kept content l s r (Some v) is = keeps (Some content) v.0 (kept_noted b.edits content.hash l s r v is)

  can_own : (key : ℕ) (content : Option ContentData) → CanOwn es (own_version_by b key content) content
  can_own key None = tt
  can_own key (Some content) =
      by_kept content (known_node b.keys b.local key) (known_node b.keys b.synced key) (known_node b.keys b.remote key)
      (kept_version (has_hash b.edits content.hash) (known_node b.keys b.local key) (known_node b.keys b.synced key) (known_node b.keys b.remote key)) refl

-- after its turn the next version is so again, and its own is noted
record Turned (es : List Edit) (next : ℕ) (own : Option ℕ) (content : Option ContentData) (added : List Edit) : Type 0 where
  follows : IsNext (next_after own next) (es ++ added)
  noted : IsNoted (es ++ added) content (unwrap_or own next)

next_entered : (edits : List Edit) (e : Edit) → IsNext e.ver.0 edits → IsNext (e.ver.0 + 1) (edits ++ e ∷ [])
next_entered edits e next = record {
  some = omega arith;
  above = All-append (λ edit. edit.ver.0 < e.ver.0 + 1) edits (e ∷ [])
      (λ k d within. let below = next.above k d within in omega (arith, below))
      (All-cons (λ edit. edit.ver.0 < e.ver.0 + 1) e [] (omega arith) (All-nil (λ edit. edit.ver.0 < e.ver.0 + 1)));
}

next_same : (edits : List Edit) (next : ℕ) → IsNext next edits → IsNext next (edits ++ [])
next_same edits next is = record {
  some = is.some;
  above = All-append (λ edit. edit.ver.0 < next) edits [] is.above (All-nil (λ edit. edit.ver.0 < next));
}

turned : (es : List Edit) (next : ℕ) (own : Option ℕ) (content : Option ContentData) (base : Ver) (x : ℕ) → IsNext next es → CanOwn es own content
    → Turned es next own content (put_by own content base x (unwrap_or own next))
turned es next (Some v) content base x is can = record { follows = next_same es next is; noted = noted_more es [] content v can }
turned es next None (Some content) base x is can =
    let e : Edit = record { ver = record { 0 = next }; id = record { 0 = x }; base = base; what = Put content } in
    record { follows = next_entered es e is; noted = (content, content_entered es e is, refl) }
turned es next None None base x is can = absurd can

-- ITEM BY ITEM: the node y comes from an item
pub record Comes (ids : Numbers) (es : List Edit) (items : List Item) (y : ℕ) (n : Node) : Type 0 where
  pub item : Item
  pub ver : ℕ
  pub among : Has items item
  pub id : y ≡ identity ids item.key.0
  pub node : n ≡ node_of ids ver item
  pub noted : IsNoted es item.content ver

module _ (b : Before) (ids : Numbers) where
  all_come : (es : List Edit) → ((content : Option ContentData) (v : ℕ) → IsNoted b.edits content v → IsNoted es content v)
      → (next : ℕ) (items : List Item) → IsNext next es
      → (y : ℕ) (n : Node) → get (nodes_in (observed_nodes b ids next items)) y ≡ Some n → Comes ids (es ++ puts b ids next items) items y n
  all_come es keeps next [] is y n at = absurd (not_both empty y n (get-empty nat_cmp y) at)
  all_come es keeps next (item ∷ items) is y n at =
      let own = own_version b item in
      let ver = unwrap_or own next in
      let after = next_after own next in
      let base = base_of (known_node b.keys b.local item.key.0) in
      let added = put_by own item.content base (identity ids item.key.0) ver in
      let more = puts b ids after items in
      let its = turned es next own item.content base (identity ids item.key.0) is (can_own b es keeps item.key.0 item.content) in
      subst (λ all. Comes ids all (item ∷ items) y n) (append_assoc es added more)
      (elim (after_put (nodes_in (observed_nodes b ids after items)) (identity ids item.key.0) (node_of ids ver item) y n at) [
        | inl (same, here) ↦ record {
          item = item;
          ver = ver;
          among = inl refl;
          id = same;
          node = here;
          noted = noted_more (es ++ added) more item.content ver its.noted;
        }
        | inr (other, later) ↦ (let still = λ (content : Option ContentData) (v : ℕ) (was : IsNoted b.edits content v). noted_more es added content v (keeps content v was) in
            let rest = all_come (es ++ added) still after items its.follows y n later in
            record { item = rest.item; ver = rest.ver; among = inr rest.among; id = rest.id; node = rest.node; noted = rest.noted })
      ])

  -- by what was recorded before and what the scan puts
  pub each_comes : (next : ℕ) (items : List Item) → IsNext next b.edits → (y : ℕ) (n : Node) → get (nodes_in (observed_nodes b ids next items)) y ≡ Some n
      → Comes ids (b.edits ++ puts b ids next items) items y n
  each_comes next items is y n at = all_come b.edits (λ content v was. was) next items is y n at
