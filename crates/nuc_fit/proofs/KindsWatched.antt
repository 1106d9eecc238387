-- A watched change keeps to the kinds of the keys, where what was made is of the kind of its key.
use Rattle.std.proofs.Common.{◌≡◌, ℕ, List, Some, refl, sym, ap, subst}
use Rattle.std.specs.FinMap.{get}
use Rattle.nuc_base.specs.Legal.{LegalPut}
use Rattle.nuc_base.specs.Trees.{NoChild}
use Rattle.nuc_base.specs.declared.node.Kind.TheVariants.{File}
use Rattle.nuc_base.specs.declared.node.Node.{Node}
use Rattle.nuc_folder.specs.declared.item.Item.{Item}
use Rattle.nuc_folder.specs.declared.noticed.Noticed.{Noticed}
use Rattle.nuc_folder.specs.declared.noticed.Noticed.TheVariants as noticed
use Rattle.nuc_hash.specs.Content.{ContentData}
use Rattle.nuc_replica.specs.Local.{HaveKeys, LocalState}
use Rattle.nuc_step.specs.Client.{ClientState}
use Rattle.nuc_step.specs.Watching.{IsWatched, Leads, MadeIn, Watching, made, made_node, moved, moved_node, own_version, parent_of, removed, with_bit, written}
use Rattle.nuc_step.proofs.Leading.{MovedTo, known_there, some_and}
use Rattle.nuc_fit.proofs.KindsForm.{AreNamed, IsItemOf, IsNoticeOf, Kinds}
use Rattle.nuc_fit.proofs.KindsLocal.{comes, goes, over}

module _ (kinds : Kinds) (w v : Watching) (have : HaveKeys w.client.local.tree w.client.local.keys) (are : AreNamed kinds w.client.local) where
  abbrev Was : LocalState
  Was = w.client.local

  -- LOCAL THEN
  becomes : (l : LocalState) → v.client.local ≡ l → AreNamed kinds l → AreNamed kinds v.client.local
  becomes l is named = subst (AreNamed kinds) (sym is) named

  -- who comes is of the kind of its key
  made_named : (parent : ℕ) (item : Item) → IsItemOf kinds item → IsWatched (made w.ids parent item) w v → AreNamed kinds v.client.local
  made_named parent item of is = becomes _ (ap (λ (c : ClientState). c.local) is.client)
      (comes kinds Was.tree Was.keys have are w.ids.next_id item.key.0 (made_node w.ids.next_ver parent item) of)

  -- who stays keeps its kind
  written_named : (own : _) (content : ContentData) (x : ℕ) (n : Node) → get Was.tree x ≡ Some n → IsWatched (written own w.ids.next_ver content x n) w v → AreNamed kinds v.client.local
  written_named own content x n at is = becomes _ (ap (λ (c : ClientState). c.local) is.client) (over kinds Was.tree Was.keys have are x n _ at refl)

  moved_named : (parent : ℕ) (name : List ℕ) (x : ℕ) (n : Node) → get Was.tree x ≡ Some n → IsWatched (moved parent name x n) w v → AreNamed kinds v.client.local
  moved_named parent name x n at is = becomes _ (ap (λ (c : ClientState). c.local) is.client) (over kinds Was.tree Was.keys have are x n (moved_node parent name n) at refl)

  bit_named : (bit : _) (x : ℕ) (n : Node) → get Was.tree x ≡ Some n → IsWatched (with_bit bit x n) w v → AreNamed kinds v.client.local
  bit_named bit x n at is = becomes _ (ap (λ (c : ClientState). c.local) is.client) (over kinds Was.tree Was.keys have are x n (record n { bit = bit }) at refl)

  removed_named : (x : ℕ) (n : Node) → IsWatched (removed w.ids.next_ver x n) w v → AreNamed kinds v.client.local
  removed_named x n is = becomes _ (ap (λ (c : ClientState). c.local) is.client) (goes kinds Was.tree Was.keys have are x)

  pub watched_named : (change : Noticed) (d : _) → IsNoticeOf kinds change → Leads w change d → IsWatched d w v → AreNamed kinds v.client.local
  watched_named (noticed.Made item) d of leads is =
      let inside = some_and (parent_of Was item.parent.0) (MadeIn Was w.ids item d) leads.inside in
      made_named inside.0 item of (subst (λ e. IsWatched e w v) inside.2.is is)
  watched_named (noticed.Written key content) d of leads is =
      let own = own_version w.recorded.edits w.client.remote.tree w.client.synced content in
      let (x, n, at, so) = known_there Was key.0 (λ x n. (n.kind ≡ File) × (d ≡ written (own x n) w.ids.next_ver content x n)) leads.known in
      written_named (own x n) content x n at (subst (λ e. IsWatched e w v) so.1 is)
  watched_named (noticed.Moved key place) d of leads is =
      let inside = some_and (parent_of Was place.parent.0) (MovedTo Was key.0 place d) leads in
      let (x, n, at, so) = known_there Was key.0 (λ x n. LegalPut Was.tree x (moved_node inside.0 place.name n) × (d ≡ moved inside.0 place.name x n)) inside.2 in
      moved_named inside.0 place.name x n at (subst (λ e. IsWatched e w v) so.1 is)
  watched_named (noticed.Removed key) d of leads is =
      let (x, n, at, so) = known_there Was key.0 (λ x n. NoChild Was.tree x × (d ≡ removed w.ids.next_ver x n)) leads in
      removed_named x n (subst (λ e. IsWatched e w v) so.1 is)
  watched_named (noticed.Bit key bit) d of leads is =
      let (x, n, at, so) = known_there Was key.0 (λ x n. (n.kind ≡ File) × (d ≡ with_bit bit x n)) leads in
      bit_named bit x n at (subst (λ e. IsWatched e w v) so.1 is)
