-- Where one key is changed in a folder as one identity is in Local, the two match again.
use Rattle.std.proofs.Common.{◌≡◌, ◌≢◌, ◌∙◌, ℕ, List, None, Some, sym, ap, subst, inl, inr}
use Rattle.std.specs.FinMap.{get}
use Rattle.nuc_base.specs.declared.node.Node.{Node}
use Rattle.nuc_base.proofs.Maps.{not_both, one_node, same_or_not}
use Rattle.nuc_edits.specs.declared.edit.Edit.{Edit}
use Rattle.nuc_filework.specs.Calls.{key_place}
use Rattle.nuc_folder.specs.State.{FolderState}
use Rattle.nuc_follow.specs.Matches.{HasContent, IsHeldAs, Matches}
use Rattle.nuc_lookup.proofs.Maps.{one_number}
use Rattle.nuc_observe.specs.Keys.{IsUnheld}
use Rattle.nuc_replica.specs.Local.{IsLocal, LocalState}

-- z changes in Local, and the key k in the folder; all else stays
module _ (es : List Edit) (l m : LocalState) (s t : FolderState) (is : Matches es l s) (local : IsLocal m) (z k : ℕ)
    (others : (y j : ℕ) (n : Node) → y ≢ z → get m.keys y ≡ Some j → get m.tree y ≡ Some n
    → (get l.keys y ≡ Some j) × (get l.tree y ≡ Some n) × (key_place m.keys n.place ≡ key_place l.keys n.place))
    (stays : (y j : ℕ) → j ≢ k → get l.keys y ≡ Some j → get m.keys y ≡ Some j)
    (tree : (j : ℕ) → j ≢ k → get t.tree j ≡ get s.tree j) (bytes : (j : ℕ) → j ≢ k → get t.bytes j ≡ get s.bytes j) where
  other_held : (y j : ℕ) (n : Node) → y ≢ z → j ≢ k → get m.keys y ≡ Some j → get m.tree y ≡ Some n → IsHeldAs es m.keys n j t
  other_held y j n other apart keyed at =
      let (key_was, was, places) = others y j n other keyed at in
      let held = is.held y j n key_was was in
      record {
        place = held.place;
        known = places ∙ held.known;
        node = tree j apart ∙ held.node;
        bytes = subst (HasContent es n.kind n.ver.0) (sym (bytes j apart)) held.bytes;
      }

  still_known : (j : ℕ) (h : Node) → j ≢ k → get t.tree j ≡ Some h → (x : ℕ) × (get m.keys x ≡ Some j)
  still_known j h apart there = let own = is.known j h (sym (tree j apart) ∙ there) in (own.0, stays own.0 j apart own.1)

  -- z has the key k
  pub matched_with : (n : Node) → get m.tree z ≡ Some n → get m.keys z ≡ Some k → IsHeldAs es m.keys n k t → Matches es m t
  matched_with n at key own = record {
    local = local;
    held = λ y j h keyed there. elim (same_or_not y z) [
      | inl same ↦
          let node : n ≡ h = one_node m.tree z n h at (subst (λ x. get m.tree x ≡ Some h) same there) in
          let its : k ≡ j = one_number (get m.keys z) k j key (subst (λ x. get m.keys x ≡ Some j) same keyed) in
          subst (λ i. IsHeldAs es m.keys h i t) its (subst (λ g. IsHeldAs es m.keys g k t) node own)
      | inr other ↦ other_held y j h other (λ e. other (local.keys.one_to_one y z k (keyed ∙ ap Some e) key)) keyed there
    ];
    known = λ j h there. elim (same_or_not j k) [
      | inl same ↦ (z, key ∙ ap Some (sym same))
      | inr apart ↦ still_known j h apart there
    ];
  }

  -- z is gone, and so is what had the key k
  pub matched_without : get m.tree z ≡ None → get t.tree k ≡ None → IsUnheld m.keys k → Matches es m t
  matched_without gone empty unheld = record {
    local = local;
    held = λ y j h keyed there. elim (same_or_not y z) [
      | inl same ↦ absurd (not_both m.tree z h gone (subst (λ x. get m.tree x ≡ Some h) same there))
      | inr other ↦ other_held y j h other (λ e. unheld y (keyed ∙ ap Some e)) keyed there
    ];
    known = λ j h there. elim (same_or_not j k) [
      | inl same ↦ absurd (not_both t.tree k h empty (subst (λ x. get t.tree x ≡ Some h) same there))
      | inr apart ↦ still_known j h apart there
    ];
  }
