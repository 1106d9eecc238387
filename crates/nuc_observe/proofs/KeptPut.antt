-- A version that a file keeps, by its content, was put.
use Rattle.std.specs.Prelude.{IsSome, if◌then◌else◌}
use Rattle.std.proofs.Common.{◌≡◌, ◌==◌, ◌&&◌, Bool, true, false, List, Option, Some, None, refl, subst}
use Rattle.nuc_base.specs.declared.node.Node.{Node}
use Rattle.nuc_base.specs.declared.node.Ver.{Ver}
use Rattle.nuc_edits.specs.Edits.{WasPut, content_at}
use Rattle.nuc_edits.specs.declared.edit.Edit.{Edit}
use Rattle.nuc_hash.specs.Content.{ContentData}
use Rattle.nuc_hash.specs.declared.digest.Digest.{Digest}
use Rattle.nuc_observe.specs.Versions.{agreed_version, has_hash, is_of_hash, kept_version}

hash_some : (hash : Digest) (o : Option ContentData) → is_of_hash hash o ≡ true → IsSome o
hash_some hash None is = let bad : false ≡ true = is in cc
hash_some hash (Some content) is = refl

both_second : (a b : Bool) → (a && b) ≡ true → b ≡ true
both_second true b is = is
both_second false b is = let bad : false ≡ true = is in cc

module _ (edits : List Edit) (hash : Digest) where
  has_put : (v : Ver) → has_hash edits hash v ≡ true → WasPut edits v.0
  has_put v has = hash_some hash (content_at edits v.0) has

  agreed_put : (l : Node) (s r : Option Node) (v : Ver) → agreed_version (has_hash edits hash) l s r ≡ Some v → WasPut edits v.0
  agreed_put l None r v is = cc
  agreed_put l (Some s) None v is = cc
  agreed_put l (Some s) (Some r) v is =
      elim ((l.ver.0 == s.ver.0) && has_hash edits hash r.ver) as (λ t. ((l.ver.0 == s.ver.0) && has_hash edits hash r.ver) ≡ t → (if t then Some r.ver else None) ≡ Some v → WasPut edits v.0) [
        | true ↦ λ both e. (let same : r.ver ≡ v = cc in subst (λ (w : Ver). WasPut edits w.0) same (has_put r.ver (both_second (l.ver.0 == s.ver.0) (has_hash edits hash r.ver) both)))
        | false ↦ λ both e. cc
      ] refl is

  pub kept_put : (l s r : Option Node) (v : Ver) → kept_version (has_hash edits hash) l s r ≡ Some v → WasPut edits v.0
  kept_put None s r v is = cc
  kept_put (Some l) s r v is =
      elim (has_hash edits hash l.ver) as (λ t. has_hash edits hash l.ver ≡ t → (if t then Some l.ver else agreed_version (has_hash edits hash) l s r) ≡ Some v → WasPut edits v.0) [
        | true ↦ λ has e. (let same : l.ver ≡ v = cc in subst (λ (w : Ver). WasPut edits w.0) same (has_put l.ver has))
        | false ↦ λ has e. agreed_put l s r v e
      ] refl is
