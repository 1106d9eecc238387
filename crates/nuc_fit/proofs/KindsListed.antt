-- A listing of a folder, and a scan of it, keep to the kinds of the keys.
use Rattle.std.specs.Prelude.{All, IsSomeAnd}
use Rattle.std.proofs.Common.{◌≡◌, ◌++◌, ℕ, List, [], ◌∷◌, Option, Some, None, refl, sym, ◌∙◌, ap, subst, inl, inr}
use Rattle.std.specs.FinMap.{get}
use Rattle.nuc_base.specs.declared.node.Kind.{Kind}
use Rattle.nuc_base.specs.declared.node.Node.{Node}
use Rattle.nuc_folder.specs.Listing.{IsListing}
use Rattle.nuc_folder.specs.State.{FolderState}
use Rattle.nuc_folder.specs.declared.item.Item.{Item}
use Rattle.nuc_folder.proofs.ByName.{item_parts}
use Rattle.nuc_folder.proofs.OneListing.{Has}
use Rattle.nuc_lookup.specs.Rows.{Numbers}
use Rattle.nuc_lookup.proofs.Maps.{one_number}
use Rattle.nuc_observe.specs.Keys.{key_map}
use Rattle.nuc_observe.specs.Made.{MakeLocal, nodes_in}
use Rattle.nuc_observe.specs.Observed.{Before, identity, listed_ids, observed_nodes, puts}
use Rattle.nuc_observe.proofs.Made.{makes_local}
use Rattle.nuc_replica.specs.Local.{IsLocal, LocalState}
use Rattle.nuc_shelf.specs.Shelf.{IsShelf}
use Rattle.nuc_step.specs.Client.{ClientState}
use Rattle.nuc_step.specs.Held.{HeldData, HeldState}
use Rattle.nuc_step.specs.Scanning.{IsScanned, before_of}
use Rattle.nuc_step.specs.Watching.{CanWatch, Watching}
use Rattle.nuc_step.specs.declared.answers.Scanned.{Scanned}
use Rattle.nuc_step.specs.declared.answers.Scanned.TheVariants as scan
use Rattle.nuc_step.proofs.Lasting.{sound}
use Rattle.nuc_world.specs.Form.{IsMember, IsShared}
use Rattle.nuc_world.specs.Starts.{with_client}
use Rattle.nuc_world.specs.State.{MemberState, Turn}
use Rattle.nuc_world.specs.Step.{Lists, Scans, watching_of}
use Rattle.nuc_world.proofs.Items.{all_front, all_none}
use Rattle.nuc_world.proofs.Ready.{member_can_watch}
use Rattle.nuc_quiet.proofs.Bound.{keyed}
use Rattle.nuc_quiet.proofs.Covered.{all_has, listed_is}
use Rattle.nuc_quiet.proofs.Hashed.{Comes, each_comes}
use Rattle.nuc_quiet.proofs.Matching.{its_kind}
use Rattle.nuc_fit.proofs.KindsForm.{AreHeld, AreNamed, IsItemOf, IsListedOf, IsNoticeOf, Kinds}
use Rattle.nuc_fit.proofs.KindsMember.{AreAlike, HasKinds, OfClient, of_client}

-- A LISTING: each item is of the kind of what is held under its key
all_of : (P : Item → Type 0) (items : List Item) → ((i : Item) → Has items i → P i) → All P items
all_of P [] each = all_none P
all_of P (i ∷ items) each = all_front P i items (each i (inl refl)) (all_of P items (λ j has. each j (inr has)))

listed_kinds : (kinds : Kinds) (s : FolderState) (items : List Item) → IsShelf s → IsListing s items → AreHeld kinds s.tree → All (IsItemOf kinds) items
listed_kinds kinds s items shelf listing held = all_of (IsItemOf kinds) items (λ i has.
    let h = item_parts i.key.0 (get s.tree i.key.0) (get s.bytes i.key.0) i (listed_is s items listing i has) in
    sym (its_kind s shelf i h.0 h.1 h.2) ∙ held i.key.0 h.0 h.1)

pub list_kinds : (kinds : Kinds) (changes : ℕ) (items : List Item) (t u : Turn) → IsShelf t.member.folder.held → AreAlike kinds t.member → Lists changes items t u → HasKinds u.member
list_kinds kinds changes items t u shelf are lists = record {
  kinds = kinds;
  are = subst (AreAlike kinds) (sym (ap (λ (v : Turn). v.member) lists.now)) (record {
    held = are.held;
    pending = all_none (IsNoticeOf kinds);
    listed = listed_kinds kinds t.member.folder.held items shelf lists.items_are are.held;
    local = are.local;
    flights = are.flights;
  });
}

-- A SCAN of items of these kinds: what Local has then under a key is that of the key's item
module _ (kinds : Kinds) (w : Watching) (items : List Item) (local : IsLocal w.client.local) (can : CanWatch w.client w.recorded w.ids) (k : ℕ) (v : Watching)
    (is : IsScanned w k v items) (of : All (IsItemOf kinds) items) where
  abbrev B : Before
  B = before_of w

  abbrev Ids : Numbers
  Ids = listed_ids B.keys w.ids.next_id items

  abbrev Local : LocalState
  Local = record { tree = nodes_in is.nodes; keys = key_map is.bindings }

  made : MakeLocal is.nodes is.bindings × (nodes_in is.nodes ≡ nodes_in (observed_nodes B Ids w.ids.next_ver items))
  made = makes_local B items w.ids is.nodes is.bindings is.edits v.ids
      (sound w items is.nodes is.bindings is.edits v.ids local can is.good is.observed) is.good is.observed

  own_key : (i : Item) → Has items i → get Local.keys (identity Ids i.key.0) ≡ Some i.key.0
  own_key i has = keyed B.keys B.local w.ids.next_id items is.good is.bindings is.observed.keys_are made.0.bindings.apart.ids i has

  scanned_named : AreNamed kinds Local
  scanned_named x key n at there =
      let from : Comes Ids (w.recorded.edits ++ puts B Ids w.ids.next_ver items) items x n =
      each_comes B Ids w.ids.next_ver items can.next x n (sym (ap (λ m. get m x) made.1) ∙ there) in
      let its : from.item.key.0 ≡ key = one_number (get Local.keys x) from.item.key.0 key (ap (get Local.keys) from.id ∙ own_key from.item from.among) at in
      ap (λ (h : Node). h.kind) from.node ∙ all_has (IsItemOf kinds) items from.item of from.among ∙ ap kinds its

  pub scanned_of : OfClient kinds w.client → OfClient kinds v.client
  scanned_of was = subst (OfClient kinds) (sym is.takes.client) (record { local = scanned_named; flights = was.flights })

-- no listing is held then
abbrev scanned : ClientState → Option HeldData → MemberState → MemberState
scanned c listing m = record (with_client c m) { listing = listing }

module _ (kinds : Kinds) (t u : Turn) (all : ℕ → Kind) (shared : IsShared t.shared all) (member : IsMember t.shared all t.member) (are : AreAlike kinds t.member)
    (now : u.member ≡ scanned u.member.client u.member.listing t.member) where
  let_go : u.member.listing ≡ None → OfClient kinds u.member.client → HasKinds u.member
  let_go none of = record {
    kinds = kinds;
    are = subst (AreAlike kinds) (sym now) (record {
      held = are.held;
      pending = are.pending;
      listed = subst (IsListedOf kinds) (sym none) tt;
      local = of.local;
      flights = of.flights;
    });
  }

  same_client : watching_of u ≡ watching_of t → OfClient kinds u.member.client
  same_client same = subst (λ (w : Watching). OfClient kinds w.client) (sym same) (of_client kinds t.member are)

  by_held : (k : ℕ) (held : Option HeldData) → IsListedOf kinds held
      → IsSomeAnd held (λ h. (h.changes ≡ t.member.client.changes) × IsScanned (watching_of t) k (watching_of u) h.items) → OfClient kinds u.member.client
  by_held k None of is = absurd is
  by_held k (Some h) of is =
      scanned_of kinds (watching_of t) h.items member.client.local (member_can_watch t.shared all t.member member shared) k (watching_of u) is.1 of (of_client kinds t.member are)

pub scan_kinds : (kinds : Kinds) (t u : Turn) (all : ℕ → Kind) → IsShared t.shared all → IsMember t.shared all t.member → AreAlike kinds t.member → (a : Scanned) → Scans a t u
    → HasKinds u.member
scan_kinds kinds t u all shared member are scan.NoListing ((none, dropped, same), now) =
    let so = ap (λ (v : Turn). v.member) now in
    let_go kinds t u all shared member are so (ap (λ (h : HeldState). h.now) dropped) (same_client kinds t u all shared member are so same)
scan_kinds kinds t u all shared member are (scan.Stale changes) ((stale, count, dropped, same), now) =
    let so = ap (λ (v : Turn). v.member) now in
    let_go kinds t u all shared member are so (ap (λ (h : HeldState). h.now) dropped) (same_client kinds t u all shared member are so same)
scan_kinds kinds t u all shared member are (scan.Bad number) ((bad, dropped, same), now) =
    let so = ap (λ (v : Turn). v.member) now in
    let_go kinds t u all shared member are so (ap (λ (h : HeldState). h.now) dropped) (same_client kinds t u all shared member are so same)
scan_kinds kinds t u all shared member are (scan.Changed k) ((is, dropped), now) =
    let so = ap (λ (v : Turn). v.member) now in
    let_go kinds t u all shared member are so (ap (λ (h : HeldState). h.now) dropped) (by_held kinds t u all shared member are so k t.member.listing are.listed is)
