-- A watched change brings a client names alone, and gives at most one identity.
use Rattle.std.specs.Prelude.{IsSomeAnd, option_and_then, option_map}
use Rattle.std.proofs.Common.{◌≡◌, ◌+◌, ℕ, Bool, List, Option, Some, None, refl, sym, ap, subst, arith}
use Rattle.std.specs.FinMap.{get}
use Rattle.nuc_base.specs.Legal.{LegalPut}
use Rattle.nuc_base.specs.Names.{IsName}
use Rattle.nuc_base.specs.Trees.{NoChild}
use Rattle.nuc_base.specs.declared.node.Counters.{Counters}
use Rattle.nuc_base.specs.declared.node.Kind.TheVariants.{File}
use Rattle.nuc_base.specs.declared.node.Node.{Node}
use Rattle.nuc_folder.specs.declared.item.Item.{Item}
use Rattle.nuc_folder.specs.declared.noticed.Noticed.{Noticed}
use Rattle.nuc_folder.specs.declared.noticed.Noticed.TheVariants as noticed
use Rattle.nuc_hash.specs.Content.{ContentData}
use Rattle.nuc_observe.specs.Observed.{id_of}
use Rattle.nuc_replica.specs.Local.{LocalState}
use Rattle.nuc_step.specs.Watching.{IsKnown, IsWatched, LeadsTo, MadeIn, WatchAnswers, Watching, made, made_node, moved, moved_node, own_version, parent_of, removed, with_bit, written}
use Rattle.nuc_step.specs.declared.answers.WatchReply.{WatchReply}
use Rattle.nuc_step.specs.declared.answers.WatchReply.TheVariants as watch
use Rattle.nuc_fit.proofs.NamesForm.{Named, NamedClient, NamedNotice}
use Rattle.nuc_fit.proofs.NamesScan.{ObservesNamed, stays}
use Rattle.nuc_fit.proofs.NamesTrees.{cut_named, put_named}

-- WHO HAS THE KEY, with a node that has a name
record Known (P : ℕ → Node → Type 0) : Type 0 where
  x : ℕ
  node : Node
  name : IsName node.place.name
  its : P x node

module _ (l : LocalState) (named : Named l.tree) (P : ℕ → Node → Type 0) where
  by_node : (x : ℕ) (o : Option Node) → get l.tree x ≡ o → IsSomeAnd {T = ℕ × Node} (option_map (λ n. (x, n)) o) (λ k. P k.0 k.1) → Known P
  by_node x None at is = absurd is
  by_node x (Some n) at is = record { x = x; node = n; name = named x n at; its = is }

  by_id : (o : Option ℕ) → IsSomeAnd {T = ℕ × Node} (option_and_then (λ x. option_map (λ n. (x, n)) (get l.tree x)) o) (λ k. P k.0 k.1) → Known P
  by_id None is = absurd is
  by_id (Some x) is = by_node x (get l.tree x) refl is

  known : (key : ℕ) → IsKnown l key P → Known P
  known key is = by_id (id_of l.keys key) is

some_and : (A : ℕ → Type 0) (o : Option ℕ) → IsSomeAnd o A → (p : ℕ) × A p
some_and A None is = absurd is
some_and A (Some p) is = (p, is)

module _ (w v : Watching) (named : NamedClient w.client) where
  -- BY WHAT COMES OF IT
  made_named : (parent : ℕ) (item : Item) → IsName item.name → IsWatched (made w.ids parent item) w v → ObservesNamed w v 1
  made_named parent item its is = record {
    client = subst NamedClient (sym is.client) (record {
      remote = named.remote;
      local = put_named w.client.local.tree w.ids.next_id (made_node w.ids.next_ver parent item) its named.local;
      synced = named.synced;
      flights = named.flights;
    });
    next = let next : v.ids.next_id ≡ w.ids.next_id + 1 = ap (λ (i : Counters). i.next_id) is.ids in omega (arith, next);
  }

  written_named : (own : Option ℕ) (content : ContentData) (x : ℕ) (n : Node) → IsName n.place.name → IsWatched (written own w.ids.next_ver content x n) w v → ObservesNamed w v 1
  written_named own content x n its is = record {
    client = subst NamedClient (sym is.client) (record {
      remote = named.remote;
      local = put_named w.client.local.tree x _ its named.local;
      synced = named.synced;
      flights = named.flights;
    });
    next = let next : v.ids.next_id ≡ w.ids.next_id = ap (λ (i : Counters). i.next_id) is.ids in omega (arith, next);
  }

  moved_named : (parent : ℕ) (name : List ℕ) (x : ℕ) (n : Node) → IsName name → IsWatched (moved parent name x n) w v → ObservesNamed w v 1
  moved_named parent name x n its is = record {
    client = subst NamedClient (sym is.client) (record {
      remote = named.remote;
      local = put_named w.client.local.tree x (moved_node parent name n) its named.local;
      synced = named.synced;
      flights = named.flights;
    });
    next = let next : v.ids.next_id ≡ w.ids.next_id = ap (λ (i : Counters). i.next_id) is.ids in omega (arith, next);
  }

  bit_named : (bit : Bool) (x : ℕ) (n : Node) → IsName n.place.name → IsWatched (with_bit bit x n) w v → ObservesNamed w v 1
  bit_named bit x n its is = record {
    client = subst NamedClient (sym is.client) (record {
      remote = named.remote;
      local = put_named w.client.local.tree x (record n { bit = bit }) its named.local;
      synced = named.synced;
      flights = named.flights;
    });
    next = let next : v.ids.next_id ≡ w.ids.next_id = ap (λ (i : Counters). i.next_id) is.ids in omega (arith, next);
  }

  removed_named : (x : ℕ) (n : Node) → IsWatched (removed w.ids.next_ver x n) w v → ObservesNamed w v 1
  removed_named x n is = record {
    client = subst NamedClient (sym is.client) (record {
      remote = named.remote;
      local = cut_named w.client.local.tree x named.local;
      synced = named.synced;
      flights = named.flights;
    });
    next = let next : v.ids.next_id ≡ w.ids.next_id = ap (λ (i : Counters). i.next_id) is.ids in omega (arith, next);
  }

  -- BY THE CHANGE
  abbrev L : LocalState
  L = w.client.local

  leads_named : (d : _) (notice : Noticed) → NamedNotice notice → LeadsTo w.client.remote.tree L w.client.synced w.recorded.edits w.ids notice d → IsWatched d w v → ObservesNamed w v 1
  leads_named d (noticed.Made item) its is watched =
      let inside = some_and (MadeIn L w.ids item d) (parent_of L item.parent.0) is.inside in
      made_named inside.0 item inside.1.name (subst (λ e. IsWatched e w v) inside.1.is watched)
  leads_named d (noticed.Written key content) its is watched =
      let own : ℕ → Node → Option ℕ = λ x n. own_version w.recorded.edits w.client.remote.tree w.client.synced content x n in
      let who = known L named.local (λ x n. (n.kind ≡ File) × (d ≡ written (own x n) w.ids.next_ver content x n)) key.0 is.known in
      written_named (own who.x who.node) content who.x who.node who.name (subst (λ e. IsWatched e w v) who.its.1 watched)
  leads_named d (noticed.Moved key place) its is watched =
      let inside = some_and (λ parent. IsKnown L key.0 (λ x n. LegalPut L.tree x (moved_node parent place.name n) × (d ≡ moved parent place.name x n))) (parent_of L place.parent.0) is in
      let who = known L named.local (λ x n. LegalPut L.tree x (moved_node inside.0 place.name n) × (d ≡ moved inside.0 place.name x n)) key.0 inside.1 in
      moved_named inside.0 place.name who.x who.node its (subst (λ e. IsWatched e w v) who.its.1 watched)
  leads_named d (noticed.Removed key) its is watched =
      let who = known L named.local (λ x n. NoChild L.tree x × (d ≡ removed w.ids.next_ver x n)) key.0 is in
      removed_named who.x who.node (subst (λ e. IsWatched e w v) who.its.1 watched)
  leads_named d (noticed.Bit key bit) its is watched =
      let who = known L named.local (λ x n. (n.kind ≡ File) × (d ≡ with_bit bit x n)) key.0 is in
      bit_named bit who.x who.node who.name (subst (λ e. IsWatched e w v) who.its.1 watched)

  pub watch_named : (notice : Noticed) (answer : WatchReply) → NamedNotice notice → WatchAnswers w notice answer v → ObservesNamed w v 1
  watch_named notice (watch.Changed x) its (d, leads, same, is) = leads_named d notice its leads is
  watch_named notice watch.Rescan its (none, same) = stays w v 1 same named
