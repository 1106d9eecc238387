-- The edits of a scan have the next versions in turn, and what a scan gives may come in place of Local.
use Rattle.std.specs.Prelude.{MatchBool, is_some, unwrap_or}
use Rattle.std.proofs.Common.{◌≡◌, ◌<◌, ◌+◌, ◌++◌, ℕ, zero, suc, Bool, true, false, List, [], ◌∷◌, length, Option, None, Some, refl, sym, ◌∙◌, ap, subst, arith}
use Rattle.std.proofs.lemmas.List.{length-append}
use Rattle.std.specs.FinMap as map
use Rattle.std.specs.FinMap.{get}
use Rattle.nuc_base.specs.Trees.{Nodes}
use Rattle.nuc_base.specs.declared.node.Counters.{Counters}
use Rattle.nuc_base.specs.declared.node.Node.{Node}
use Rattle.nuc_base.specs.declared.node.Ver.{Ver}
use Rattle.nuc_conflict.specs.FitTogether.{IsBelow}
use Rattle.nuc_edits.specs.declared.edit.Edit.{Edit}
use Rattle.nuc_edits.specs.declared.edit.EditKind.TheVariants.{Put, Deleted}
use Rattle.nuc_folder.specs.declared.item.Item.{Item}
use Rattle.nuc_hash.specs.Content.{ContentData}
use Rattle.nuc_lookup.specs.Rows.{Numbers}
use Rattle.nuc_observe.specs.Keys.{KeyMap, key_map}
use Rattle.nuc_observe.specs.Made.{AreDrawn, AreSound, ComeInTurn, MakeLocal, nodes_in}
use Rattle.nuc_observe.specs.Observed.{Before, IsObserved, base_of, deletion_of, deletions, gone, identity, known_node, listed_ids, next_ver_after_deletions, next_ver_after_puts, own_of_gone, own_version, own_version_by, put_by, put_of, puts}
use Rattle.nuc_observe.specs.Turns.{in_turn, next_after, next_after_all}
use Rattle.nuc_observe.specs.declared.binding.Binding.{Binding}
use Rattle.nuc_observe.specs.declared.observed_node.ObservedNode.{ObservedNode}
use Rattle.nuc_observe.specs.declared.scanned.Observed.{Observed}
use Rattle.nuc_observe.proofs.Made.{all_come, makes_local}
use Rattle.nuc_replica.specs.Local.{HasKey, HaveKeys, IsLocal}
use Rattle.nuc_step.specs.Held.{HeldData}
use Rattle.nuc_step.specs.Scanning.{CanTake, Gives, Reads, VersionsFrom, before_of, changes_after}
use Rattle.nuc_step.specs.Watching.{CanWatch, Watching}
use Rattle.nuc_step.specs.declared.reading.Read.{Read}
use Rattle.nuc_step.specs.declared.reading.Read.TheVariants as read

-- who has no number of their own gives one edit, of the next version
abbrev One : Option ℕ → ℕ → List Edit → Type 0
One (Some own) next es = es ≡ []
One None next es = (e : Edit) × (es ≡ e ∷ []) × (e.ver.0 ≡ next)

-- the versions go on after some
pub record GoesOn (next : ℕ) (es : List Edit) (after : ℕ) : Type 0 where
  pub versions : VersionsFrom next es
  pub ends : after ≡ next + length es

appended : (next : ℕ) (es fs : List Edit) → VersionsFrom next es → VersionsFrom (next + length es) fs → VersionsFrom next (es ++ fs)
appended next [] fs first rest = subst (λ n. VersionsFrom n fs) (omega arith) rest
appended next (e ∷ es) fs first rest =
    (first.0, appended (next + 1) es fs first.1 (let same : next + length (e ∷ es) ≡ (next + 1) + length es = omega arith in subst (λ n. VersionsFrom n fs) same rest))

both : (next between after : ℕ) (es fs : List Edit) → GoesOn next es between → GoesOn between fs after → GoesOn next (es ++ fs) after
both next between after es fs first rest = record {
  versions = appended next es fs first.versions (subst (λ n. VersionsFrom n fs) first.ends rest.versions);
  ends = let size = length-append es fs in omega (arith, size, first.ends, rest.ends);
}

one_turn : (own : Option ℕ) (next : ℕ) (es : List Edit) → One own next es → GoesOn next es (next_after own next)
one_turn (Some o) next es is = subst (λ fs. GoesOn next fs next) (sym is) (record { versions = tt; ends = omega arith })
one_turn None next es (e, is, ver) = subst (λ fs. GoesOn next fs (next + 1)) (sym is) (record { versions = (ver, tt); ends = refl })

module _ {X : Type 0} (own : X → Option ℕ) (gives : ℕ → X → List Edit) (one : (n : ℕ) (x : X) → One (own x) n (gives (unwrap_or (own x) n) x)) where
  all_in_turn : (next : ℕ) (xs : List X) → GoesOn next (in_turn own gives next xs) (next_after_all own next xs)
  all_in_turn next [] = record { versions = tt; ends = omega arith }
  all_in_turn next (x ∷ xs) =
      both next (next_after (own x) next) (next_after_all own (next_after (own x) next) xs) (gives (unwrap_or (own x) next) x) (in_turn own gives (next_after (own x) next) xs)
      (one_turn (own x) next (gives (unwrap_or (own x) next) x) (one next x)) (all_in_turn (next_after (own x) next) xs)

-- WHAT IS PUT
by_kept : (own : Option ℕ) (content : ContentData) (base : Ver) (x n : ℕ) → One own n (put_by own (Some content) base x (unwrap_or own n))
by_kept (Some o) content base x n = refl
by_kept None content base x n = (record { ver = record { 0 = n }; id = record { 0 = x }; base = base; what = Put content }, refl, refl)

put_one : (b : Before) (key : ℕ) (content : Option ContentData) (base : Ver) (x n : ℕ)
    → One (own_version_by b key content) n (put_by (own_version_by b key content) content base x (unwrap_or (own_version_by b key content) n))
put_one b key None base x n = refl
put_one b key (Some content) base x n = by_kept (own_version_by b key (Some content)) content base x n

all_put : (b : Before) (ids : Numbers) (next : ℕ) (items : List Item) → GoesOn next (puts b ids next items) (next_ver_after_puts b next items)
all_put b ids next items =
    all_in_turn (own_version b) (put_of b ids)
    (λ n item. put_one b item.key.0 item.content (base_of (known_node b.keys b.local item.key.0)) (identity ids item.key.0) n) next items

-- WHAT IS DELETED
gone_one : (o : Option Ver) (x n : ℕ) → One (own_of_gone o) n (deletion_of o (unwrap_or (own_of_gone o) n) x)
gone_one None x n = refl
gone_one (Some base) x n = (record { ver = record { 0 = n }; id = record { 0 = x }; base = base; what = Deleted }, refl, refl)

all_deleted : (b : Before) (ids : Numbers) (next : ℕ) (xs : List ℕ) → GoesOn next (deletions b ids next xs) (next_ver_after_deletions b ids next xs)
all_deleted b ids next xs = all_in_turn (λ x. own_of_gone (gone b ids x)) (λ ver x. deletion_of (gone b ids x) ver x) (λ n x. gone_one (gone b ids x) x n) next xs

goes_on : (next after last : ℕ) (es fs : List Edit) → fs ≡ es → last ≡ after → GoesOn next es after → GoesOn next fs last
goes_on next after last es fs is ends on = subst (λ gs. GoesOn next gs last) (sym is) (subst (λ n. GoesOn next es n) (sym ends) on)

-- ALL OF IT
pub scan_goes_on : (b : Before) (items : List Item) (before : Counters) (nodes : List ObservedNode) (keys : List Binding) (edits : List Edit) (after : Counters)
    → IsObserved b items before nodes keys edits after → GoesOn before.next_ver edits after.next_ver
scan_goes_on b items before nodes keys edits after is =
    let ids = listed_ids b.keys before.next_id items in
    let between = next_ver_after_puts b before.next_ver items in
    goes_on before.next_ver (next_ver_after_deletions b ids between (map.keys b.local)) after.next_ver
    (puts b ids before.next_ver items ++ deletions b ids between (map.keys b.local)) edits is.edits_are is.next_ver_is
    (both before.next_ver between (next_ver_after_deletions b ids between (map.keys b.local)) (puts b ids before.next_ver items) (deletions b ids between (map.keys b.local))
    (all_put b ids before.next_ver items) (all_deleted b ids between (map.keys b.local)))

pub can_take : (b : Before) (ids : Counters) (items : List Item) (all : Observed) → AreSound b ids → Gives b ids items all → CanTake ids.next_ver all
can_take b ids items all sound gives =
    let made = makes_local b items ids all.nodes.items all.keys.items all.edits.items all.ids sound gives.good gives.observed in
    let on = scan_goes_on b items ids all.nodes.items all.keys.items all.edits.items all.ids gives.observed in
    record {
      make = record {
        turn = subst ComeInTurn (sym gives.listed) (all_come b ids items sound gives.good);
        makes = made.0;
        same = made.1 ∙ ap nodes_in (sym gives.listed);
      };
      versions = on.versions;
      next_ver = on.ends;
    }

-- OF A CLIENT
pub has_node : (o : Option Node) (key : Option ℕ) (k : ℕ) → key ≡ Some k → HasKey o key → (n : Node) × (o ≡ Some n)
has_node None None k is has = absurd (let bad : None ≡ Some k = is in cc)
has_node None (Some j) k is has = absurd has
has_node (Some n) key k is has = (n, refl)

drawn : (m : Nodes) (keys : KeyMap) (next : ℕ) → IsBelow m next → HaveKeys m keys → AreDrawn keys next
drawn m keys next below have x k is = let at = has_node (get m x) (get keys x) k is (have x) in below x at.0 at.1

pub sound_before : (w : Watching) → IsLocal w.client.local → CanWatch w.client w.recorded w.ids → AreSound (before_of w) w.ids
sound_before w local can = record {
  remote = can.fit.fit.remote;
  local = can.fit.fit.local;
  kinds = can.fit.fit.remote_local;
  keys = local.keys;
  drawn = drawn w.client.local.tree w.client.local.keys w.ids.next_id can.fit.local local.follow;
  next_id = can.some;
  next_ver = can.next.some;
}

-- just the identities of the tree have keys
by_some : (o : Option Node) (key : Option ℕ) → is_some o ≡ is_some key → HasKey o key
by_some None None same = tt
by_some None (Some k) same = absurd (let bad : false ≡ true = same in cc)
by_some (Some n) None same = absurd (let bad : true ≡ false = same in cc)
by_some (Some n) (Some k) same = tt

pub made_follow : (m : Nodes) (keys : KeyMap) (nodes : List ObservedNode) (given : List Binding) → m ≡ nodes_in nodes → keys ≡ key_map given → MakeLocal nodes given → HaveKeys m keys
made_follow m keys nodes given tree is makes =
    subst (λ (k : Nodes). HaveKeys k keys) (sym tree) (subst (λ ks. HaveKeys (nodes_in nodes) ks) (sym is) (λ x. by_some _ _ (makes.follow x)))

-- HOW MANY
pub counted_more : (b : Bool) (k changes n : ℕ) → MatchBool b (0 < k) (¬ (0 < k)) → MatchBool b (n ≡ changes + 1) (n ≡ changes) → n ≡ changes_after k changes
counted_more true zero changes n some is = absurd (omega (arith, some))
counted_more true (suc k) changes n some is = is
counted_more false zero changes n none is = is
counted_more false (suc k) changes n none is = absurd (none (omega arith))

-- A GOOD LISTING may be taken over
by_read : (b : Before) (ids : Counters) (changes : ℕ) (held : Option HeldData) (all : Observed) → AreSound b ids → Reads held changes b ids (read.Good all) → CanTake ids.next_ver all
by_read b ids changes None all sound reads = absurd reads
by_read b ids changes (Some h) all sound reads = can_take b ids h.items all sound reads.1

pub good_can_take : (w : Watching) (held : Option HeldData) (found : Read) (all : Observed) → IsLocal w.client.local → CanWatch w.client w.recorded w.ids → found ≡ read.Good all
    → Reads held w.client.changes (before_of w) w.ids found → CanTake w.ids.next_ver all
good_can_take w held found all local can is reads =
    by_read (before_of w) w.ids w.client.changes held all (sound_before w local can) (subst (λ f. Reads held w.client.changes (before_of w) w.ids f) is reads)
