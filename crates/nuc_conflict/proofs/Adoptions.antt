-- Two that are made one: Local stays well formed.
use Rattle.std.proofs.Common.{◌≡◌, ◌<◌, ℕ, Bool, Some, List, refl, sym, ap, subst, ◌∙◌, arith}
use Rattle.std.specs.FinMap.{get}
use Rattle.nuc_base.specs.Kinds.{Fits, FitsKind}
use Rattle.nuc_base.specs.Legal.{IsFree}
use Rattle.nuc_base.specs.SamePlace.{SamePlace, same_place-refl}
use Rattle.nuc_base.specs.Trees.{Nodes, WellFormed}
use Rattle.nuc_base.specs.declared.change.Change.TheVariants.{Keep, Put}
use Rattle.nuc_base.specs.declared.node.Kind.{Kind}
use Rattle.nuc_base.specs.declared.node.Kind.TheVariants.{Folder, File}
use Rattle.nuc_base.specs.declared.node.Node.{Node}
use Rattle.nuc_base.specs.declared.node.Place.{Place}
use Rattle.nuc_base.proofs.Maps.{one_node, not_both}
use Rattle.nuc_base.proofs.Renamed.{renamed_keeps}
use Rattle.nuc_class.specs.declared.op.Effect.TheVariants.{Nothing}
use Rattle.nuc_class.specs.declared.op.Verb.TheVariants as verb
use Rattle.nuc_conflict.specs.Facts.{AdoptionFacts}
use Rattle.nuc_conflict.specs.Mends.{local_mend}
use Rattle.nuc_conflict.specs.Remedies.{CanAdopt, IsAlike}

pub one_place : (p q : Place) → p.parent.0 ≡ q.parent.0 → p.name ≡ q.name → p ≡ q
one_place p q parent name =
    ap (λ (x : ℕ). let z : Place = record { parent = record { 0 = x }; name = p.name } in z) parent
    ∙ ap (λ (x : List ℕ). let z : Place = record { parent = q.parent; name = x } in z) name

alike_kind : (same : ℕ → ℕ → Bool) (a b : Kind) (v w : ℕ) → IsAlike same a v b w → b ≡ a
alike_kind same Folder Folder v w alike = refl
alike_kind same Folder File v w alike = absurd alike
alike_kind same File Folder v w alike = absurd alike
alike_kind same File File v w alike = refl

-- the version of one and the bit of another of one kind
bit_fits : (kind : Kind) (v w : ℕ) (b c : Bool) → Fits kind v b → Fits kind w c → Fits kind v c
bit_fits Folder v w b c one other = (one.0, other.1)
bit_fits File v w b c one other = one

pub above_root : (m : Nodes) (x : ℕ) (n : Node) → WellFormed m → get m x ≡ Some n → 0 < x
above_root m x n form at = omega (arith, λ (e : x ≡ 0). not_both m 0 n form.no_root (subst (λ z. get m z ≡ Some n) e at))

module _ (same : ℕ → ℕ → Bool) (r l s : Nodes) (remote : WellFormed r) (local : WellFormed l) (x y : ℕ) (node own : Node)
    (at : get r x ≡ Some node) (there : get l y ≡ Some own) (near : SamePlace own.place node.place) (free : IsFree s x node.place)
    (can : CanAdopt same r l s x node y) where
  one : can.node ≡ own
  one = one_node l y can.node own can.there there

  place : own.place ≡ node.place
  place = one_place own.place node.place near.parent (sym (can.name ∙ ap (λ (h : Node). h.place.name) one))

  alike : IsAlike same node.kind node.ver.0 own.kind own.ver.0
  alike = subst (λ (h : Node). IsAlike same node.kind node.ver.0 h.kind h.ver.0) one can.alike

  kind : own.kind ≡ node.kind
  kind = alike_kind same node.kind own.kind node.ver.0 own.ver.0 alike

  fits : FitsKind (record node { bit = own.bit })
  fits = bit_fits node.kind node.ver.0 own.ver.0 node.bit own.bit (remote.fits x node at)
      (subst (λ k. Fits k own.ver.0 own.bit) kind (local.fits y own there))

  pub adoption_facts : AdoptionFacts same r l s (local_mend verb.Adopt x y (Put (record node { bit = own.bit })) Keep (get l x) (get s x) Nothing)
  adoption_facts = record {
    carried = record { node = node; own = own; there = at; own_there = there; is = refl };
    node = node;
    own = own;
    there = at;
    own_there = there;
    alone = can.new_in_remote;
    own_alone = can.new_in_local;
    place = place;
    kind = kind;
    alike = alike;
    free = free;
    renamed = λ k is. renamed_keeps l y x own (record node { bit = own.bit }) k local (above_root r x node remote at) there can.new_in_remote.0
        (subst (λ z. SamePlace z own.place) place (same_place-refl own.place)) (sym kind) is fits;
    fits = record { remote = tt; local = fits; synced = tt };
  }
