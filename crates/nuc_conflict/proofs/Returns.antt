-- A folder that comes back to where Remote has it, or moves there, may do so.
use Rattle.std.proofs.Common.{◌≡◌, ℕ, Bool, false, None, Some, refl, sym, ap, subst, ◌∙◌, inl, inr}
use Rattle.std.specs.FinMap.{get}
use Rattle.nuc_base.specs.Kinds.{Fits, FitsKind}
use Rattle.nuc_base.specs.Legal.{IsFree, LegalPut}
use Rattle.nuc_base.specs.SamePlace.{SamePlace, same_place-refl}
use Rattle.nuc_base.specs.Trees.{Nodes, OneKind, WellFormed}
use Rattle.nuc_base.specs.declared.change.Change.TheVariants.{Keep, Put}
use Rattle.nuc_base.specs.declared.node.Kind.{Kind}
use Rattle.nuc_base.specs.declared.node.Kind.TheVariants.{Folder}
use Rattle.nuc_base.specs.declared.node.Node.{Node}
use Rattle.nuc_base.specs.declared.node.Place.{Place}
use Rattle.nuc_base.proofs.Alike.{legal_alike}
use Rattle.nuc_base.proofs.Depths.{above_in}
use Rattle.nuc_base.proofs.Maps.{one_node, not_both}
use Rattle.nuc_class.specs.declared.op.Effect.TheVariants.{Disk}
use Rattle.nuc_class.specs.declared.op.Verb.TheVariants as verb
use Rattle.nuc_class.specs.declared.wishes.Wish.TheVariants as wish
use Rattle.nuc_conflict.specs.Facts.{RevivalFacts, MoveBackFacts}
use Rattle.nuc_conflict.specs.Mends.{local_mend}
use Rattle.nuc_conflict.specs.Remedies.{IsAstray, IsBlocker}
use Rattle.nuc_conflict.specs.Topmost.{NoSplit, IsTopmost}
use Rattle.nuc_conflict.proofs.Calm.{above_synced}

-- two folders at one place are one node
one_folder : (n k : Node) → n.place ≡ k.place → n.kind ≡ Folder → k.kind ≡ Folder → FitsKind n → FitsKind k → n ≡ k
one_folder n k place folder too fits more =
    let own : (n.ver.0 ≡ 0) × (n.bit ≡ false) = subst (λ z. Fits z n.ver.0 n.bit) folder fits in
    let other : (k.ver.0 ≡ 0) × (k.bit ≡ false) = subst (λ z. Fits z k.ver.0 k.bit) too more in
    ap (λ (z : Place). record n { place = z }) place
    ∙ ap (λ (z : Kind). let h : Node = record { place = k.place; kind = z; ver = n.ver; bit = n.bit } in h) (folder ∙ sym too)
    ∙ ap (λ (z : ℕ). let h : Node = record { place = k.place; kind = k.kind; ver = record { 0 = z }; bit = n.bit } in h) (own.0 ∙ sym other.0)
    ∙ ap (λ (z : Bool). record k { bit = z }) (own.1 ∙ sym other.1)

module _ (same : ℕ → ℕ → Bool) (r l s : Nodes) (remote : WellFormed r) (local : WellFormed l) (remote_local : OneKind r l) (whole : NoSplit same r l s)
    (x : ℕ) (n : Node) (at : get r x ≡ Some n) (top : IsTopmost same r l s r wish.Down x)
    (m : ℕ) (node : Node) (blocks : IsBlocker r l n.place.parent.0 m node) (free : IsFree l m node.place) where
  synced : get s m ≡ Some node
  synced = above_synced same r l s remote local whole x n at top m node blocks.above blocks.there

  folder : node.kind ≡ Folder
  folder = elim (above_in r m x remote (n, at, blocks.above)) [
    | inl root ↦ absurd (not_both r 0 node remote.no_root (subst (λ z. get r z ≡ Some node) root blocks.there))
    | inr (p, there, is) ↦ ap (λ (h : Node). h.kind) (one_node r m node p blocks.there there) ∙ is
  ]

  legal : (k : Node) → k.place ≡ node.place → k.kind ≡ node.kind → LegalPut l m k
  legal k place kind =
      legal_alike r l m node k remote local remote_local blocks.there blocks.highest (subst (λ z. SamePlace z node.place) (sym place) (same_place-refl node.place)) kind
      (subst (λ z. IsFree l m z) (sym place) free)

  pub revival_facts : get l m ≡ None → RevivalFacts r l s (local_mend verb.Revive m 0 (Put node) Keep (get l m) (get s m) Disk)
  revival_facts gone = record {
    carried = record { node = node; there = blocks.there; is = refl };
    node = node;
    there = blocks.there;
    synced = synced;
    folder = folder;
    gone = gone;
    legal = record { remote = tt; local = legal node refl refl; synced = tt };
    fits = record { remote = tt; local = remote.fits m node blocks.there; synced = tt };
  }

  pub move_back_facts : (own : Node) → get l m ≡ Some own
      → MoveBackFacts r l s (local_mend verb.Unmove m 0 (Put (record own { place = node.place })) Keep (get l m) (get s m) Disk)
  move_back_facts own there =
      let kind : own.kind ≡ node.kind = sym (remote_local m node own blocks.there there) in record {
        carried = record { node = node; own = own; there = blocks.there; own_there = there; is = refl };
        node = node;
        own = own;
        there = blocks.there;
        synced = synced;
        folder = folder;
        own_there = there;
        apart = subst (IsAstray node) there blocks.astray;
        becomes = one_folder (record own { place = node.place }) node refl (kind ∙ folder) folder (local.fits m own there) (remote.fits m node blocks.there);
        legal = record { remote = tt; local = legal (record own { place = node.place }) refl kind; synced = tt };
        fits = record { remote = tt; local = local.fits m own there; synced = tt };
      }
