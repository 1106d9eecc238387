-- What the tests of equality tell.
use Rattle.std.proofs.Common.{◌≡◌, ◌⊎◌, ℕ, Bool, true, false, Option, None, Some, List, sym, ap, refl, inl, inr, ◌∙◌, Decides}
use Rattle.std.specs.Bool.{beq}
use Rattle.std.specs.Cmp.{booleans_Decides}
use Rattle.std.proofs.lemmas.Bool.{cases_Bool}
use Rattle.std.proofs.lemmas.Bool.Decides.{Decides-and, Decides-eqb, Decides-like, not_from_Decides}
use Rattle.std.proofs.lemmas.Slice.Eq.{bytes_eq-Decides}
use Rattle.nuc_base.specs.Codes.{is_file, kind_of, kind_again}
use Rattle.nuc_base.specs.declared.node.Kind.{Kind}
use Rattle.nuc_base.specs.declared.node.Node.{Node}
use Rattle.nuc_base.specs.declared.node.Place.{Place}
use Rattle.nuc_class.specs.Equal.{place_eq, node_eq, value_eq}

pub place_eq-Decides : (p q : Place) → Decides (place_eq p q) (p ≡ q)
place_eq-Decides p q = Decides-like (place_eq p q)
    (λ (parent, name). ap (λ (x : ℕ). let r : Place = record { parent = record { 0 = x }; name = p.name } in r) parent
    ∙ ap (λ (x : List ℕ). let r : Place = record { parent = q.parent; name = x } in r) name)
    (λ e. (ap (λ (r : Place). r.parent.0) e, ap (λ (r : Place). r.name) e))
    (Decides-and _ _ (Decides-eqb p.parent.0 q.parent.0) (bytes_eq-Decides p.name q.name))

kind_eq-Decides : (a b : Kind) → Decides (beq (is_file a) (is_file b)) (a ≡ b)
kind_eq-Decides a b = Decides-like _ (λ e. sym (kind_again a) ∙ ap kind_of e ∙ kind_again b) (ap is_file) (booleans_Decides (is_file a) (is_file b))

pub node_eq-Decides : (n k : Node) → Decides (node_eq n k) (n ≡ k)
node_eq-Decides n k = Decides-like (node_eq n k)
    (λ (((place, kind), ver), set). ap (λ (x : Place). record n { place = x }) place
    ∙ ap (λ (x : Kind). let r : Node = record { place = k.place; kind = x; ver = n.ver; bit = n.bit } in r) kind
    ∙ ap (λ (x : ℕ). let r : Node = record { place = k.place; kind = k.kind; ver = record { 0 = x }; bit = n.bit } in r) ver
    ∙ ap (λ (x : Bool). record k { bit = x }) set)
    (λ e. (((ap (λ (r : Node). r.place) e, ap (λ (r : Node). r.kind) e), ap (λ (r : Node). r.ver.0) e), ap (λ (r : Node). r.bit) e))
    (Decides-and _ _ (Decides-and _ _ (Decides-and _ _ (place_eq-Decides n.place k.place) (kind_eq-Decides n.kind k.kind)) (Decides-eqb n.ver.0 k.ver.0))
    (booleans_Decides n.bit k.bit))

pub value_eq-Decides : (a b : Option Node) → Decides (value_eq a b) (a ≡ b)
value_eq-Decides None None = (λ e. refl, λ e. refl)
value_eq-Decides None (Some k) = (λ e. let no : false ≡ true = e in cc, λ e. let no : None ≡ Some k = e in cc)
value_eq-Decides (Some n) None = (λ e. let no : false ≡ true = e in cc, λ e. let no : Some n ≡ None = e in cc)
value_eq-Decides (Some n) (Some k) = Decides-like _ (ap Some) (λ e. let same : Some n ≡ Some k = e in cc) (node_eq-Decides n k)

-- what a test decides holds or not
pub or_not : {P : Type 0} → (r : Bool) → Decides r P → P ⊎ ¬ P
or_not r decides = elim (cases_Bool r) [
  | inl holds ↦ inl (decides.0 holds)
  | inr fails ↦ inr (not_from_Decides r decides fails)
]

pub place_or_not : (p q : Place) → (p ≡ q) ⊎ ¬ (p ≡ q)
place_or_not p q = or_not (place_eq p q) (place_eq-Decides p q)

pub value_or_not : (a b : Option Node) → (a ≡ b) ⊎ ¬ (a ≡ b)
value_or_not a b = or_not (value_eq a b) (value_eq-Decides a b)
