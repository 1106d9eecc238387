-- What a folder holds that matches Local, and what Local has, lead to each other.
use Rattle.std.proofs.Common.{◌≡◌, ◌≢◌, ◌∙◌, ℕ, if◌then◌else◌, List, Option, None, Some, refl, sym, ap, subst, inl, inr}
use Rattle.std.specs.FinMap.{get}
use Rattle.std.proofs.lemmas.Bool.Decides.{eqb_tells}
use Rattle.nuc_base.specs.Legal.{IsFree}
use Rattle.nuc_base.specs.SamePlace.{SameName, SamePlace}
use Rattle.nuc_base.specs.Trees.{IsFolder, IsUnder, IsVacant, NoChild}
use Rattle.nuc_base.specs.Trees.Under.{here, up}
use Rattle.nuc_base.specs.declared.node.Node.{Node}
use Rattle.nuc_base.specs.declared.node.Place.{Place}
use Rattle.nuc_base.proofs.Maps.{not_both, same_or_not}
use Rattle.nuc_edits.specs.declared.edit.Edit.{Edit}
use Rattle.nuc_filework.specs.Calls.{key_of, key_place, known_place}
use Rattle.nuc_folder.specs.State.{FolderState, place_of}
use Rattle.nuc_folder.specs.declared.key_place.KeyPlace.{KeyPlace}
use Rattle.nuc_follow.specs.Matches.{Matches, held_as}
use Rattle.nuc_observe.specs.Keys.{AreKeys, KeyMap}
use Rattle.nuc_replica.specs.Local.{HasKey, LocalState}

-- KEYS
pub key_other : (m : KeyMap) (x : ℕ) → x ≢ 0 → key_of m x ≡ get m x
key_other m x apart = elim (eqb_tells x 0) [
  | inl (t, e) ↦ absurd (apart e)
  | inr (t, e) ↦ ap (λ b. if b then Some 0 else get m x) t
]

pub key_root : (m : KeyMap) (x : ℕ) → x ≡ 0 → key_of m x ≡ Some 0
key_root m x root = elim (eqb_tells x 0) [
  | inl (t, e) ↦ ap (λ b. if b then Some 0 else get m x) t
  | inr (t, e) ↦ absurd (e root)
]

one_of : (o : Option ℕ) (j k : ℕ) → o ≡ Some j → o ≡ Some k → j ≡ k
one_of o j k e f = cc

pub key_is : (m : KeyMap) (x k : ℕ) → AreKeys m → get m x ≡ Some k → key_of m x ≡ Some k
key_is m x k are at = key_other m x (λ root. let none : None ≡ Some k = sym are.no_root ∙ ap (get m) (sym root) ∙ at in cc) ∙ at

-- a key is that of one identity, where the root has 0
pub one_key : (m : KeyMap) (a b k : ℕ) → AreKeys m → key_of m a ≡ Some k → key_of m b ≡ Some k → a ≡ b
one_key m a b k are e f = elim (same_or_not a 0) [
  | inl a_root ↦
      let zero : k ≡ 0 = one_of (key_of m a) k 0 e (key_root m a a_root) in
      elim (same_or_not b 0) [
        | inl b_root ↦ a_root ∙ sym b_root
        | inr b_other ↦ absurd (are.no_zero b (sym (key_other m b b_other) ∙ f ∙ ap Some zero))
      ]
  | inr a_other ↦ elim (same_or_not b 0) [
    | inl b_root ↦ absurd (are.no_zero a (sym (key_other m a a_other) ∙ e ∙ ap Some (one_of (key_of m b) k 0 f (key_root m b b_root))))
    | inr b_other ↦ are.one_to_one a b k (sym (key_other m a a_other) ∙ e) (sym (key_other m b b_other) ∙ f)
  ]
]

known_by : (o : Option ℕ) (place : Place) (p : KeyPlace) → known_place o place ≡ Some p → (o ≡ Some p.parent.0) × (place.name ≡ p.name)
known_by None place p e = cc
known_by (Some k) place p e =
    let same : record { parent = record { 0 = k }; name = place.name } ≡ p = cc in
    (ap (λ (q : KeyPlace). Some q.parent.0) same, ap (λ (q : KeyPlace). q.name) same)

-- a place that the folder knows: its parent's key, and its name
pub known_parts : (m : KeyMap) (place : Place) (p : KeyPlace) → key_place m place ≡ Some p → (key_of m place.parent.0 ≡ Some p.parent.0) × (place.name ≡ p.name)
known_parts m place p e = known_by (key_of m place.parent.0) place p e

-- two maps that have one key for the parent know the place alike
pub known_alike : (m n : KeyMap) (place : Place) → key_of m place.parent.0 ≡ key_of n place.parent.0 → key_place m place ≡ key_place n place
known_alike m n place same = ap (λ o. known_place o place) same

pub place_known : (m : KeyMap) (place : Place) (k : ℕ) → key_of m place.parent.0 ≡ Some k → (p : KeyPlace) × (key_place m place ≡ Some p)
place_known m place k key = (record { parent = record { 0 = k }; name = place.name }, ap (λ o. known_place o place) key)

has_key : (n : Node) (o : Option ℕ) → HasKey (Some n) o → (k : ℕ) × (o ≡ Some k)
has_key n None has = absurd has
has_key n (Some k) has = (k, refl)

has_node : (o : Option Node) (k : ℕ) → HasKey o (Some k) → (n : Node) × (o ≡ Some n)
has_node None k has = absurd has
has_node (Some n) k has = (n, refl)

module _ (es : List Edit) (l : LocalState) (s : FolderState) (is : Matches es l s) where
  -- what stands has a key, and what has one stands
  pub key_there : (x : ℕ) (n : Node) → get l.tree x ≡ Some n → (k : ℕ) × (get l.keys x ≡ Some k)
  key_there x n at = has_key n (get l.keys x) (subst (λ o. HasKey o (get l.keys x)) at (is.local.follow x))

  pub node_there : (x k : ℕ) → get l.keys x ≡ Some k → (n : Node) × (get l.tree x ≡ Some n)
  node_there x k at = has_node (get l.tree x) k (subst (λ o. HasKey (get l.tree x) o) at (is.local.follow x))

  -- whose key it is
  pub found : (k : ℕ) (h : Node) → get s.tree k ≡ Some h
      → (x : ℕ) × (n : Node) × (p : KeyPlace) × (get l.keys x ≡ Some k) × (get l.tree x ≡ Some n) × (key_place l.keys n.place ≡ Some p) × (h ≡ held_as p n)
  found k h at =
      let own = is.known k h at in
      let node = node_there own.0 k own.1 in
      let held = is.held own.0 k node.0 own.1 node.1 in
      let same : h ≡ held_as held.place node.0 = one_node_of (get s.tree k) h (held_as held.place node.0) at held.node in
      (own.0, node.0, held.place, own.1, node.1, held.known, same)
    where
      one_node_of : (o : Option Node) (a b : Node) → o ≡ Some a → o ≡ Some b → a ≡ b
      one_node_of o a b e f = cc

  -- a folder of Local has a key, under which a folder is held
  pub folder_key : (q : ℕ) → IsFolder l.tree q → (k : ℕ) × (key_of l.keys q ≡ Some k)
  folder_key q (inl root) = (0, key_root l.keys q root)
  folder_key q (inr (n, at, folder)) = let own = key_there q n at in (own.0, key_is l.keys q own.0 is.local.keys own.1)

  pub folder_held : (q k : ℕ) → key_of l.keys q ≡ Some k → IsFolder l.tree q → IsFolder s.tree k
  folder_held q k key (inl root) = inl (one_of (key_of l.keys q) k 0 key (key_root l.keys q root))
  folder_held q k key (inr (n, at, folder)) =
      let own = key_there q n at in
      let same : own.0 ≡ k = one_of (key_of l.keys q) own.0 k (key_is l.keys q own.0 is.local.keys own.1) key in
      let held = is.held q own.0 n own.1 at in
      inr (held_as held.place n, subst (λ j. get s.tree j ≡ Some (held_as held.place n)) same held.node, folder)

  -- chains of parents in the folder are chains in Local
  module _ (b k : ℕ) (key_b : key_of l.keys b ≡ Some k) where
    pub under_held : (j : ℕ) → IsUnder s.tree j k → (a : ℕ) → key_of l.keys a ≡ Some j → IsUnder l.tree a b
    under_held j here a key = subst (λ z. IsUnder l.tree a z) (one_key l.keys a b k is.local.keys key key_b) here
    under_held j (up y h e rest) a key =
        let (x, n, p, keyed, at, known, same) = found y h e in
        let own : x ≡ a = one_key l.keys x a y is.local.keys (key_is l.keys x y is.local.keys keyed) key in
        let parent : key_of l.keys n.place.parent.0 ≡ Some h.place.parent.0 =
        (known_parts l.keys n.place p known).0 ∙ ap (λ (g : Node). Some g.place.parent.0) (sym same) in
        subst (λ z. IsUnder l.tree z b) own (up x n at (under_held h.place.parent.0 rest n.place.parent.0 parent))

  -- who has a place in the folder has it in Local
  pub holder : (place : Place) (q : KeyPlace) → key_place l.keys place ≡ Some q → (j : ℕ) (h : Node) → get s.tree j ≡ Some h → SamePlace h.place (place_of q)
      → (y : ℕ) × (n : Node) × (get l.keys y ≡ Some j) × (get l.tree y ≡ Some n) × SamePlace n.place place
  holder place q known_q j h e near =
      let (y, n, p, keyed, at, known, same) = found j h e in
      let mine = known_parts l.keys n.place p known in
      let its = known_parts l.keys place q known_q in
      let parent : p.parent.0 ≡ q.parent.0 = ap (λ (g : Node). g.place.parent.0) (sym same) ∙ near.parent in
      let name : SameName p.name q.name = subst (λ (g : Node). SameName g.place.name q.name) same near.name in (
        y,
        n,
        keyed,
        at,
        record {
          parent = one_key l.keys n.place.parent.0 place.parent.0 q.parent.0 is.local.keys (mine.0 ∙ ap Some parent) its.0;
          name = subst (λ a. SameName a place.name) (sym mine.1) (subst (λ b. SameName p.name b) (sym its.1) name);
        },
      )

  pub free_held : (x k : ℕ) (place : Place) (q : KeyPlace) → get l.keys x ≡ Some k → key_place l.keys place ≡ Some q → IsFree l.tree x place → IsFree s.tree k (place_of q)
  free_held x k place q key known free j h e near =
      let (y, n, keyed, at, same) = holder place q known j h e near in
      one_of (get l.keys y) j k keyed (ap (get l.keys) (free y n at same) ∙ key)

  pub vacant_held : (x : ℕ) (place : Place) (q : KeyPlace) → get l.tree x ≡ None → key_place l.keys place ≡ Some q → IsFree l.tree x place → IsVacant s.tree (place_of q)
  vacant_held x place q absent known free j h e near =
      let (y, n, keyed, at, same) = holder place q known j h e near in
      not_both l.tree x n absent (ap (get l.tree) (sym (free y n at same)) ∙ at)

  -- who has no child in Local has none in the folder
  pub childless_held : (x k : ℕ) → get l.keys x ≡ Some k → NoChild l.tree x → NoChild s.tree k
  childless_held x k key none j h e child =
      let (y, n, p, keyed, at, known, same) = found j h e in
      let up_key : key_of l.keys n.place.parent.0 ≡ Some k = (known_parts l.keys n.place p known).0 ∙ ap (λ (g : Node). Some g.place.parent.0) (sym same) ∙ ap Some child in
      none y n at (one_key l.keys n.place.parent.0 x k is.local.keys up_key (key_is l.keys x k is.local.keys key))
