-- A watched change has one answer, and leads to one client.
use Rattle.std.proofs.Common.{◌≡◌, ◌≢◌, ℕ, List, refl, sym, ◌∙◌, ap, subst, inl, inr}
use Rattle.nuc_base.specs.Legal.{LegalPut}
use Rattle.nuc_base.specs.Trees.{NoChild, Nodes}
use Rattle.nuc_base.specs.declared.node.Counters.{Counters}
use Rattle.nuc_base.specs.declared.node.Kind.TheVariants.{File}
use Rattle.nuc_base.specs.declared.node.Node.{Node}
use Rattle.nuc_base.proofs.Maps.{same_or_not}
use Rattle.nuc_edits.specs.declared.edit.Edit.{Edit}
use Rattle.nuc_folder.specs.declared.noticed.Noticed.{Noticed}
use Rattle.nuc_folder.specs.declared.noticed.Noticed.TheVariants as noticed
use Rattle.nuc_replica.specs.Local.{LocalState}
use Rattle.nuc_step.specs.Client.{ClientState}
use Rattle.nuc_step.specs.Planning.{CountsChange}
use Rattle.nuc_step.specs.Watching.{IsWatched, IsKnown, LeadsTo, MadeIn, WatchAnswers, Watching, known_of, moved, moved_node, own_version, parent_of, removed, turned, with_bit, written}
use Rattle.nuc_step.specs.declared.answers.WatchReply.{WatchReply}
use Rattle.nuc_step.specs.declared.answers.WatchReply.TheVariants as watch
use Rattle.nuc_world.proofs.OneScan.{both_and, watching_one}

-- ONE COUNT of the changes, whether the tree is the same or not
pub changes_one : (m k : Nodes) (before a b : ℕ) → CountsChange m k before a → CountsChange m k before b → a ≡ b
changes_one m k before a b x y = elim (same_or_not a b) [
  | inl same ↦ same
  | inr other ↦
      let apart : k ≢ m = λ is. other (x.same is ∙ sym (y.same is)) in
      absurd (other (x.other apart ∙ sym (y.other apart)))
]

-- ONE THING that it leads to
both_known : {C : Type 0} (l : LocalState) (key : ℕ) (P Q : ℕ → Node → Type 0) → IsKnown l key P → IsKnown l key Q → ((x : ℕ) (n : Node) → P x n → Q x n → C) → C
both_known l key P Q is was f = both_and (known_of l key) (λ k. P k.0 k.1) (λ k. Q k.0 k.1) is was (λ k p q. f k.0 k.1 p q)

leads_one : (r : Nodes) (l : LocalState) (s : Nodes) (edits : List Edit) (ids : Counters) (change : Noticed) (a b : _)
    → LeadsTo r l s edits ids change a → LeadsTo r l s edits ids change b → a ≡ b
leads_one r l s edits ids (noticed.Made item) a b x y =
    both_and (parent_of l item.parent.0) (MadeIn l ids item a) (MadeIn l ids item b) x.inside y.inside (λ parent p q. p.is ∙ sym q.is)
leads_one r l s edits ids (noticed.Written key content) a b x y =
    both_known l key.0 (λ z n. (n.kind ≡ File) × (a ≡ written (own_version edits r s content z n) ids.next_ver content z n))
    (λ z n. (n.kind ≡ File) × (b ≡ written (own_version edits r s content z n) ids.next_ver content z n)) x.known y.known (λ z n p q. p.1 ∙ sym q.1)
leads_one r l s edits ids (noticed.Moved key place) a b x y =
    both_and (parent_of l place.parent.0)
    (λ parent. IsKnown l key.0 (λ z n. LegalPut l.tree z (moved_node parent place.name n) × (a ≡ moved parent place.name z n)))
    (λ parent. IsKnown l key.0 (λ z n. LegalPut l.tree z (moved_node parent place.name n) × (b ≡ moved parent place.name z n))) x y
    (λ parent p q. both_known l key.0 (λ z n. LegalPut l.tree z (moved_node parent place.name n) × (a ≡ moved parent place.name z n))
    (λ z n. LegalPut l.tree z (moved_node parent place.name n) × (b ≡ moved parent place.name z n)) p q (λ z n i j. i.1 ∙ sym j.1))
leads_one r l s edits ids (noticed.Removed key) a b x y =
    both_known l key.0 (λ z n. NoChild l.tree z × (a ≡ removed ids.next_ver z n)) (λ z n. NoChild l.tree z × (b ≡ removed ids.next_ver z n)) x y (λ z n p q. p.1 ∙ sym q.1)
leads_one r l s edits ids (noticed.Bit key bit) a b x y =
    both_known l key.0 (λ z n. (n.kind ≡ File) × (a ≡ with_bit bit z n)) (λ z n. (n.kind ≡ File) × (b ≡ with_bit bit z n)) x y (λ z n p q. p.1 ∙ sym q.1)

abbrev with_local : ClientState → LocalState → ℕ → ClientState
with_local c local changes = record c { local = local; changes = changes }

watched_one : (d : _) (w v x : Watching) → IsWatched d w v → IsWatched d w x → v ≡ x
watched_one d w v x is was =
    let local : v.client.local ≡ x.client.local = ap (λ (c : ClientState). c.local) is.client ∙ sym (ap (λ (c : ClientState). c.local) was.client) in
    let moved : CountsChange w.client.local.tree x.client.local.tree w.client.changes v.client.changes =
    subst (λ (l : LocalState). CountsChange w.client.local.tree l.tree w.client.changes v.client.changes) local is.changes in
    let count = changes_one w.client.local.tree x.client.local.tree w.client.changes v.client.changes x.client.changes moved was.changes in
    let it = turned w.client.local d.id.0 d.turn in
    watching_one v x (is.client ∙ ap (λ z. with_local w.client it z) count ∙ sym was.client) (is.recorded ∙ sym was.recorded) (is.ids ∙ sym was.ids)

pub watch_one : (w v x : Watching) (change : Noticed) (a b : WatchReply) → WatchAnswers w change a v → WatchAnswers w change b x → (a ≡ b) × (v ≡ x)
watch_one w v x change (watch.Changed i) (watch.Changed j) (d, leads, id, is) (e, led, its, was) =
    let one = leads_one w.client.remote.tree w.client.local w.client.synced w.recorded.edits w.ids change d e leads led in
    let ids : d.id ≡ e.id = λ k. (one k).id in
    (ap watch.Changed (id ∙ ids ∙ sym its), watched_one e w v x (subst (λ z. IsWatched z w v) one is) was)
watch_one w v x change (watch.Changed i) watch.Rescan (d, leads, id, is) (never, same) = absurd (never d leads)
watch_one w v x change watch.Rescan (watch.Changed j) (never, same) (e, led, its, was) = absurd (never e led)
watch_one w v x change watch.Rescan watch.Rescan (never, same) (none, stays) = (refl, same ∙ sym stays)
