-- After a watched change, and after a scan, all is there that another asks for.
use Rattle.std.specs.Prelude.{All, IfSome, IsSomeAnd, option_to_list}
use Rattle.std.proofs.Common.{◌≡◌, ◌<◌, ◌≤◌, ◌+◌, ◌++◌, [], ◌∷◌, ℕ, zero, suc, List, length, Option, None, Some, refl, sym, ◌∙◌, ap, subst, inl, inr, arith}
use Rattle.std.proofs.lemmas.List.Elements.{All-append, All-cons, All-nil, All-weaker}
use Rattle.std.specs.FinMap.{get}
use Rattle.nuc_base.specs.Changes.{FitsChange, IsLegal, KeepsKind, changed}
use Rattle.nuc_base.specs.Trees.{Nodes, OneKind}
use Rattle.nuc_base.specs.declared.change.Change.{Change}
use Rattle.nuc_base.specs.declared.change.Change.TheVariants.{Put, Cut}
use Rattle.nuc_base.specs.declared.node.Counters.{Counters}
use Rattle.nuc_base.specs.declared.node.Node.{Node}
use Rattle.nuc_base.proofs.Changed.{get_changed_other, kinds_after, tree_after}
use Rattle.nuc_base.proofs.Maps.{not_both, same_or_not}
use Rattle.nuc_conflict.specs.FitTogether.{FitBelow, IsBelow}
use Rattle.nuc_edits.specs.Edits.{IsNext, Recorded}
use Rattle.nuc_edits.specs.declared.edit.Edit.{Edit}
use Rattle.nuc_folder.specs.declared.item.Item.{Item}
use Rattle.nuc_folder.specs.declared.noticed.Noticed.{Noticed}
use Rattle.nuc_folder.specs.declared.noticed.Noticed.TheVariants as noticed
use Rattle.nuc_observe.specs.Keys.{key_map}
use Rattle.nuc_observe.specs.Listing.{IsGoodListing}
use Rattle.nuc_observe.specs.Made.{AreDrawn, AreSound, nodes_in}
use Rattle.nuc_observe.specs.Observed.{IsObserved, next_id_after}
use Rattle.nuc_observe.specs.declared.binding.Binding.{Binding}
use Rattle.nuc_observe.specs.declared.observed_node.ObservedNode.{ObservedNode}
use Rattle.nuc_observe.proofs.Fresh.{rises}
use Rattle.nuc_observe.proofs.Made.{makes_local}
use Rattle.nuc_observe.proofs.Origin.{KeptOrNew, kept_or_new}
use Rattle.nuc_replica.specs.Local.{HasKey, HaveKeys, IsLocal, LocalState}
use Rattle.nuc_step.specs.Client.{ClientState}
use Rattle.nuc_step.specs.Held.{HeldData, HeldState}
use Rattle.nuc_step.specs.Laws.{ScansKeep, WatchesKeep}
use Rattle.nuc_step.specs.Scanning.{IsScanned, ScanAnswers, VersionsFrom, before_of, changes_after}
use Rattle.nuc_step.specs.Watching.{CanTurn, CanWatch, IsWatched, LeadsTo, Watching, next_ver_after, turned}
use Rattle.nuc_step.specs.Watching as watching
use Rattle.nuc_step.specs.declared.answers.Scanned.TheVariants as scan
use Rattle.nuc_step.specs.declared.answers.WatchReply.TheVariants as watch
use Rattle.nuc_step.specs.declared.watched.Turn.{Turn}
use Rattle.nuc_step.specs.declared.watched.Turn.TheVariants as turn
use Rattle.nuc_step.specs.declared.watched.Watched.{Watched}
use Rattle.nuc_step.proofs.Leading.{AddsNext, adds_next, sound_at, watched_may}
use Rattle.nuc_step.proofs.Versions.{has_node, scan_goes_on, sound_before}

-- LOCAL CHANGES at one identity
flip : (m k : Nodes) → OneKind m k → OneKind k m
flip m k one x n h e f = sym (one x h n f e)

module _ (r l s : Nodes) (next : ℕ) (fit : FitBelow r l s next) where
  fit_after : (later x : ℕ) (c : Change) → next ≤ later → 0 < x → x < later → FitsChange c → IsLegal l x c → KeepsKind r x c → KeepsKind s x c
      → FitBelow r (changed l x c) s later
  fit_after later x c rise some less fits legal in_r in_s = record {
    fit = record {
      remote = fit.fit.remote;
      local = tree_after l x c fit.fit.local some fits legal;
      synced = fit.fit.synced;
      remote_local = flip (changed l x c) r (kinds_after l r x c (flip r l fit.fit.remote_local) in_r);
      remote_synced = fit.fit.remote_synced;
      local_synced = kinds_after l s x c fit.fit.local_synced in_s;
    };
    remote = λ y n at. let was = fit.remote y n at in omega (arith, was, rise);
    local = λ y n at. elim (same_or_not y x) [
      | inl same ↦ omega (arith, same, less)
      | inr apart ↦ (let was = fit.local y n (sym (get_changed_other l x c y apart) ∙ at) in omega (arith, was, rise))
    ];
    synced = λ y n at. let was = fit.synced y n at in omega (arith, was, rise);
  }

  none_at : (m : Nodes) (x : ℕ) → IsBelow m next → x ≡ next → (n : Node) → get m x ≡ Some n → ⊥
  none_at m x below is n at = let less = below x n at in omega (arith, less, is)

turned_fits : (r : Nodes) (l : LocalState) (s : Nodes) (next x : ℕ) (t : Turn) → FitBelow r l.tree s next → 0 < next → CanTurn l x t → AddsNext t x next
    → FitBelow r (turned l x t).tree s (watching.next_id_after t next)
turned_fits r l s next x (turn.Add key node) fit some can is =
    fit_after r l.tree s next fit (next + 1) x (Put node) (omega arith) can.some (omega (arith, is)) can.fits can.legal
    (λ n at. absurd (none_at r l.tree s next fit r x fit.remote is n at)) (λ n at. absurd (none_at r l.tree s next fit s x fit.synced is n at))
turned_fits r l s next x (turn.Put node) fit some can is =
    let (n, at) = can.there in
    let kind : n.kind ≡ node.kind = can.legal.kind n at in
    fit_after r l.tree s next fit next x (Put node) (omega arith) (sound_at l.tree x n fit.fit.local at).0 (fit.local x n at) can.fits can.legal
    (λ h e. fit.fit.remote_local x h n e at ∙ kind) (λ h e. sym (fit.fit.local_synced x n h at e) ∙ kind)
turned_fits r l s next x turn.Cut fit some can is =
    let (n, at) = can.there in
    fit_after r l.tree s next fit next x Cut (omega arith) (sound_at l.tree x n fit.fit.local at).0 (fit.local x n at) tt can tt tt

-- THE VERSIONS GO ON
below_each : (next : ℕ) (es : List Edit) → VersionsFrom next es → All (λ e. e.ver.0 < next + length es) es
below_each next [] from = All-nil (λ e. e.ver.0 < next + 0)
below_each next (e ∷ es) from =
    let first = from.0 in
    All-cons (λ d. d.ver.0 < next + length (e ∷ es)) e es (omega (arith, first))
    (All-weaker (λ d. d.ver.0 < (next + 1) + length es) (λ d. d.ver.0 < next + length (e ∷ es)) (λ d less. omega (arith, less)) es (below_each (next + 1) es from.1))

next_after_edits : (next : ℕ) (es fs : List Edit) → IsNext next es → VersionsFrom next fs → IsNext (next + length fs) (es ++ fs)
next_after_edits next es fs is from = record {
  some = let some = is.some in omega (arith, some);
  above = All-append (λ e. e.ver.0 < next + length fs) es fs
      (All-weaker (λ e. e.ver.0 < next) (λ e. e.ver.0 < next + length fs) (λ e less. omega (arith, less)) es is.above) (below_each next fs from);
}

one_edit : (o : Option Edit) (next : ℕ) → IfSome o (λ e. e.ver.0 ≡ next) → VersionsFrom next (option_to_list o) × (next_ver_after o next ≡ next + length (option_to_list o))
one_edit None next is = (tt, omega arith)
one_edit (Some e) next is = ((is, tt), refl)

rising : (t : Turn) (next : ℕ) → 0 < next → 0 < watching.next_id_after t next
rising (turn.Add key node) next some = omega arith
rising (turn.Put node) next some = some
rising turn.Cut next some = some

-- A WATCHED CHANGE
watched_keeps : (d : Watched) (change : Noticed) (w v : Watching) → CanWatch w.client w.recorded w.ids
    → LeadsTo w.client.remote.tree w.client.local w.client.synced w.recorded.edits w.ids change d → IsWatched d w v → CanWatch v.client v.recorded v.ids
watched_keeps d change w v can leads is =
    let may = watched_may w.client.remote.tree w.client.synced w.client.local w.client w.recorded w.ids change d refl refl refl can leads in
    let edits = one_edit d.edit w.ids.next_ver may.1 in
    let fit = turned_fits w.client.remote.tree w.client.local w.client.synced w.ids.next_id d.id.0 d.turn can.fit can.some may.0
    (adds_next w.client.remote.tree w.client.local w.client.synced w.recorded.edits w.ids change d leads) in
    let known : CanWatch (record w.client { local = turned w.client.local d.id.0 d.turn; changes = v.client.changes })
    (record w.recorded { edits = w.recorded.edits ++ option_to_list d.edit })
    (record { next_id = watching.next_id_after d.turn w.ids.next_id; next_ver = next_ver_after d.edit w.ids.next_ver }) = record {
      fit = fit;
      some = rising d.turn w.ids.next_id can.some;
      next = subst (λ n. IsNext n (w.recorded.edits ++ option_to_list d.edit)) (sym edits.1)
          (next_after_edits w.ids.next_ver w.recorded.edits (option_to_list d.edit) can.next edits.0);
    } in
    subst (λ (c : ClientState). CanWatch c v.recorded v.ids) (sym is.client)
    (subst (λ (e : Recorded). CanWatch (record w.client { local = turned w.client.local d.id.0 d.turn; changes = v.client.changes }) e v.ids) (sym is.recorded)
    (subst (λ (ids : Counters). CanWatch (record w.client { local = turned w.client.local d.id.0 d.turn; changes = v.client.changes })
    (record w.recorded { edits = w.recorded.edits ++ option_to_list d.edit }) ids) (sym is.ids) known))

pub watches_keep : WatchesKeep
watches_keep w v change (watch.Changed x) can (d, leads, same, is) = watched_keeps d change w v can leads is
watches_keep w v change watch.Rescan can (none, same) = subst (λ (u : Watching). CanWatch u.client u.recorded u.ids) (sym same) can

-- A SCAN
module _ (w : Watching) (items : List Item) (nodes : List ObservedNode) (bindings : List Binding) (edits : List Edit) (after : Counters)
    (local : IsLocal w.client.local) (can : CanWatch w.client w.recorded w.ids) (good : IsGoodListing w.client.local.keys w.client.local.tree items)
    (is : IsObserved (before_of w) items w.ids nodes bindings edits after) where
  abbrev r : Nodes
  r = w.client.remote.tree

  abbrev l : Nodes
  l = w.client.local.tree

  abbrev s : Nodes
  s = w.client.synced

  pub sound : AreSound (before_of w) w.ids
  sound = sound_before w local can

  pub rise : w.ids.next_id ≤ after.next_id
  rise = let more = rises w.client.local.keys w.ids.next_id items in let same = is.next_id_is in omega (arith, more, same)

  pub origin : (y : ℕ) (n : Node) → get (nodes_in nodes) y ≡ Some n → KeptOrNew w.client.local.keys l w.ids.next_id (next_id_after w.client.local.keys w.ids.next_id items) y n
  origin y n at =
      let made = makes_local (before_of w) items w.ids nodes bindings edits after sound good is in
      kept_or_new (before_of w) w.ids items sound good y n (sym (ap (λ m. get m y) made.1) ∙ at)

  pub old_in_local : (y k : ℕ) → get w.client.local.keys y ≡ Some k → (h : Node) × (get l y ≡ Some h)
  old_in_local y k held = has_node (get l y) (get w.client.local.keys y) k held (local.follow y)

  kinds : (m : Nodes) → OneKind m l → IsBelow m w.ids.next_id → OneKind m (nodes_in nodes)
  kinds m one below y n h at there = elim (origin y h there) [
    | inl (k, held, same) ↦ (let old = old_in_local y k held in one y n old.0 at old.1 ∙ same old.0 old.1)
    | inr (from, to) ↦ (let less = below y n at in absurd (omega (arith, less, from)))
  ]

  scan_fits : FitBelow r (nodes_in nodes) s after.next_id
  scan_fits = record {
    fit = record {
      remote = can.fit.fit.remote;
      local = (makes_local (before_of w) items w.ids nodes bindings edits after sound good is).0.form;
      synced = can.fit.fit.synced;
      remote_local = kinds r can.fit.fit.remote_local can.fit.remote;
      remote_synced = can.fit.fit.remote_synced;
      local_synced = flip s (nodes_in nodes) (kinds s (flip l s can.fit.fit.local_synced) can.fit.synced);
    };
    remote = λ y n at. let was = can.fit.remote y n at in omega (arith, was, rise);
    local = λ y n at. elim (origin y n at) [
      | inl (k, held, same) ↦ (let was = sound.drawn y k held in omega (arith, was, rise))
      | inr (from, to) ↦ (let ends = is.next_id_is in omega (arith, to, ends))
    ];
    synced = λ y n at. let was = can.fit.synced y n at in omega (arith, was, rise);
  }

  scan_next : IsNext after.next_ver (w.recorded.edits ++ edits)
  scan_next =
      let on = scan_goes_on (before_of w) items w.ids nodes bindings edits after is in
      subst (λ n. IsNext n (w.recorded.edits ++ edits)) (sym on.ends) (next_after_edits w.ids.next_ver w.recorded.edits edits can.next on.versions)

pub scanned_keeps : (w v : Watching) (k : ℕ) (items : List Item) → IsLocal w.client.local → CanWatch w.client w.recorded w.ids → IsScanned w k v items
    → CanWatch v.client v.recorded v.ids
scanned_keeps w v k items local can is =
    let fit = scan_fits w items is.nodes is.bindings is.edits v.ids local can is.good is.observed in
    let above = rise w items is.nodes is.bindings is.edits v.ids local can is.good is.observed in
    let some = can.some in
    let next = scan_next w items is.nodes is.bindings is.edits v.ids local can is.good is.observed in
    let client : ClientState = record w.client { local = record { tree = nodes_in is.nodes; keys = key_map is.bindings }; changes = changes_after k w.client.changes } in
    subst (λ (c : ClientState). CanWatch c v.recorded v.ids) (sym is.takes.client)
    (subst (λ (e : Recorded). CanWatch client e v.ids) (sym is.takes.recorded) (record { fit = fit; some = omega (arith, some, above); next = next }))

by_held : (w v : Watching) (k : ℕ) (held : Option HeldData) → IsLocal w.client.local → CanWatch w.client w.recorded w.ids
    → IsSomeAnd held (λ h. (h.changes ≡ w.client.changes) × IsScanned w k v h.items) → CanWatch v.client v.recorded v.ids
by_held w v k None local can is = absurd is
by_held w v k (Some h) local can is = scanned_keeps w v k h.items local can is.1

same_keeps : (w v : Watching) → v ≡ w → CanWatch w.client w.recorded w.ids → CanWatch v.client v.recorded v.ids
same_keeps w v same can = subst (λ (u : Watching). CanWatch u.client u.recorded u.ids) (sym same) can

pub scans_keep : ScansKeep
scans_keep h g w v (scan.Changed k) local can (is, dropped) = by_held w v k h.now local can is
scans_keep h g w v scan.NoListing local can (none, dropped, same) = same_keeps w v same can
scans_keep h g w v (scan.Stale n) local can (stale, count, dropped, same) = same_keeps w v same can
scans_keep h g w v (scan.Bad n) local can (bad, dropped, same) = same_keeps w v same can
