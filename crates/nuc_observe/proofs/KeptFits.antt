-- The version that an item gets fits its kind.
use Rattle.std.proofs.Common.{◌≡◌, ◌∙◌, ◌==◌, ◌&&◌, ◌<◌, ℕ, Bool, true, false, Option, None, Some, refl, subst}
use Rattle.std.specs.Prelude.{if◌then◌else◌, option_and_then, option_map, unwrap_or}
use Rattle.std.specs.FinMap.{get}
use Rattle.nuc_base.specs.Kinds.{Fits, FitsKind}
use Rattle.nuc_base.specs.Trees.{Nodes, OneKind, WellFormed}
use Rattle.nuc_base.specs.declared.node.Kind.TheVariants.{File}
use Rattle.nuc_base.specs.declared.node.Node.{Node}
use Rattle.nuc_base.specs.declared.node.Ver.{Ver}
use Rattle.nuc_folder.specs.declared.item.Item.{Item}
use Rattle.nuc_hash.specs.Content.{ContentData}
use Rattle.nuc_lookup.specs.Rows.{Numbers}
use Rattle.nuc_observe.specs.Keys.{KeyMap}
use Rattle.nuc_observe.specs.Listing.{KeepsItemKind, kind_of}
use Rattle.nuc_observe.specs.Observed.{Before, bit_of, id_of, known_node, node_of, own_version, own_version_by}
use Rattle.nuc_observe.specs.Versions.{agreed_version, has_hash, kept_version}
use Rattle.nuc_observe.proofs.Whose.{id_holds}

-- a file has a version
abbrev pub HasVersion : Option Node → Type 0
HasVersion None = Unit {0}
HasVersion (Some n) = 0 < n.ver.0

pub file_has : (n : Node) → FitsKind n → n.kind ≡ File → 0 < n.ver.0
file_has n fits is = subst (λ kind. Fits kind n.ver.0 n.bit) is fits

agreed_above : (has : Ver → Bool) (l : Node) (s r : Option Node) (v : Ver) → HasVersion r → agreed_version has l s r ≡ Some v → 0 < v.0
agreed_above has l None r v up is = cc
agreed_above has l (Some s) None v up is = cc
agreed_above has l (Some s) (Some r) v up is =
    elim ((l.ver.0 == s.ver.0) && has r.ver) as (λ t. (if t then Some r.ver else None) ≡ Some v → 0 < v.0) [
      | true ↦ λ e. (let same : r.ver ≡ v = cc in subst (λ (w : Ver). 0 < w.0) same up)
      | false ↦ λ e. cc
    ] is

pub kept_above : (has : Ver → Bool) (l s r : Option Node) (v : Ver) → HasVersion l → HasVersion r → kept_version has l s r ≡ Some v → 0 < v.0
kept_above has None s r v up also is = cc
kept_above has (Some l) s r v up also is =
    elim (has l.ver) as (λ t. (if t then Some l.ver else agreed_version has l s r) ≡ Some v → 0 < v.0) [
      | true ↦ λ e. (let same : l.ver ≡ v = cc in subst (λ (w : Ver). 0 < w.0) same up)
      | false ↦ λ e. agreed_above has l s r v also e
    ] is

-- what Local has of the key is a file, and so is what Remote has, where Local has it
module _ (keys : KeyMap) (r l : Nodes) (remote : WellFormed r) (local : WellFormed l) (kinds : OneKind r l) (key : ℕ) (keeps : KeepsItemKind keys l key File) where
  local_has : (x : ℕ) → get keys x ≡ Some key → (o : Option Node) → get l x ≡ o → HasVersion o
  local_has x is None at = tt
  local_has x is (Some n) at = file_has n (local.fits x n at) (keeps x n is at)

  remote_has : (x : ℕ) → get keys x ≡ Some key → (h : Node) → get l x ≡ Some h → (o : Option Node) → get r x ≡ o → HasVersion o
  remote_has x is h there None at = tt
  remote_has x is h there (Some n) at = file_has n (remote.fits x n at) (kinds x n h at there ∙ keeps x h is there)

  -- where Local has nothing, nothing is kept
  both_kept : (has : Ver → Bool) (s : Option Node) (x : ℕ) → get keys x ≡ Some key → (o : Option Node) → get l x ≡ o → (v : Ver) → kept_version has o s (get r x) ≡ Some v → 0 < v.0
  both_kept has s x is None at v kept = cc
  both_kept has s x is (Some h) at v kept = kept_above has (Some h) s (get r x) v (local_has x is (Some h) at) (remote_has x is h at (get r x) refl) kept

  known_kept : (has : Ver → Bool) (s : Option Node) (own : Option ℕ) → id_of keys key ≡ own → (v : Ver) → kept_version has (option_and_then (get l) own) s (option_and_then (get r) own) ≡ Some v → 0 < v.0
  known_kept has s None is v kept = cc
  known_kept has s (Some x) is v kept = both_kept has s x (id_holds keys key x is) (get l x) refl v kept

pub drawn_above : (ver : ℕ) (kept : Option Ver) → ((v : Ver) → kept ≡ Some v → 0 < v.0) → 0 < ver → 0 < unwrap_or (option_map (λ v. v.0) kept) ver
drawn_above ver None up some = some
drawn_above ver (Some v) up some = up v refl

by_content : (b : Before) (key ver : ℕ) (content : Option ContentData) (bit : Bool) → WellFormed b.remote → WellFormed b.local → OneKind b.remote b.local
    → KeepsItemKind b.keys b.local key (kind_of content) → 0 < ver → Fits (kind_of content) (unwrap_or (own_version_by b key content) ver) (bit_of content bit)
by_content b key ver None bit remote local kinds keeps some = (refl, refl)
by_content b key ver (Some content) bit remote local kinds keeps some =
    drawn_above ver _ (known_kept b.keys b.remote b.local remote local kinds key keeps (has_hash b.edits content.hash) (known_node b.keys b.synced key) (id_of b.keys key) refl) some

pub item_fits : (b : Before) (ids : Numbers) → WellFormed b.remote → WellFormed b.local → OneKind b.remote b.local → (i : Item) (ver : ℕ)
    → KeepsItemKind b.keys b.local i.key.0 (kind_of i.content) → 0 < ver → FitsKind (node_of ids (unwrap_or (own_version b i) ver) i)
item_fits b ids remote local kinds i ver keeps some = by_content b i.key.0 ver i.content i.bit remote local kinds keeps some
