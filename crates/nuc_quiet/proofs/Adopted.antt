-- Where an identity of Local comes in place of another, with its key and its children, the folder matches Local as before.
use Rattle.std.proofs.Common.{◌≡◌, ◌≢◌, ◌<◌, ◌∙◌, ℕ, Bool, List, Option, None, Some, refl, sym, ap, subst, inl, inr, arith}
use Rattle.std.specs.FinMap.{get, remove}
use Rattle.nuc_base.specs.Renamed.{IsRenamed, with_parent}
use Rattle.nuc_base.specs.Trees.{IsFolder, IsUnder}
use Rattle.nuc_base.specs.Trees.Under.{here}
use Rattle.nuc_base.specs.declared.node.Kind.{Kind}
use Rattle.nuc_base.specs.declared.node.Node.{Node}
use Rattle.nuc_base.specs.declared.node.Place.{Place}
use Rattle.nuc_base.proofs.Came.{Came, came_from}
use Rattle.nuc_base.proofs.Came.Came.{renamed, stood, child}
use Rattle.nuc_base.proofs.Depths.{no_loop}
use Rattle.nuc_base.proofs.Maps.{not_both, same_or_not}
use Rattle.nuc_edits.specs.declared.edit.Edit.{Edit}
use Rattle.nuc_filework.specs.Calls.{key_of, key_place, known_place}
use Rattle.nuc_folder.specs.State.{FolderState}
use Rattle.nuc_folder.specs.declared.key_place.KeyPlace.{KeyPlace}
use Rattle.nuc_follow.specs.Matches.{HasContent, IsHeldAs, Matches, held_as}
use Rattle.nuc_follow.proofs.Shown.{key_other, key_root, known_alike, node_there}
use Rattle.nuc_lookup.proofs.Maps as numbers
use Rattle.nuc_replica.specs.Local.{IsLocal, LocalState, moved_key}

-- of a place the parent's key and the name tell
known_name : (o : Option ℕ) (p q : Place) → p.name ≡ q.name → known_place o p ≡ known_place o q
known_name None p q same = refl
known_name (Some k) p q same = ap (λ (name : List ℕ). let r : KeyPlace = record { parent = record { 0 = k }; name = name } in Some r) same

-- x comes in place of y, which was own and has the key k, and m is Local afterwards
module _ (es : List Edit) (l m : LocalState) (s : FolderState) (is : Matches es l s) (local : IsLocal m) (x y k : ℕ) (own new : Node)
    (some : 0 < x) (there : get l.tree y ≡ Some own) (absent : get l.tree x ≡ None) (key : get l.keys y ≡ Some k)
    (tree : IsRenamed l.tree y x new m.tree) (keys : m.keys ≡ moved_key l.keys y x (get l.keys y))
    (place : new.place ≡ own.place) (kind : new.kind ≡ own.kind) (bit : new.bit ≡ own.bit)
    (content : HasContent es own.kind own.ver.0 (get s.bytes k) → HasContent es new.kind new.ver.0 (get s.bytes k)) where
  -- KEYS
  moved : m.keys ≡ moved_key l.keys y x (Some k)
  moved = keys ∙ ap (moved_key l.keys y x) key

  key_new : get m.keys x ≡ Some k
  key_new = ap (λ ks. get ks x) moved ∙ numbers.get_put_same (remove l.keys y) x k

  key_stays : (w : ℕ) → w ≢ x → w ≢ y → get m.keys w ≡ get l.keys w
  key_stays w other apart = ap (λ ks. get ks w) moved ∙ numbers.get_put_other (remove l.keys y) x k w other ∙ numbers.get_cut_other l.keys y w apart

  y_some : y ≢ 0
  y_some root = not_both l.tree 0 own is.local.form.no_root (subst (λ z. get l.tree z ≡ Some own) root there)

  x_some : x ≢ 0
  x_some root = absurd (omega (arith, root, some))

  -- a parent that isn't y has its key still
  parent_stays : (q : ℕ) → IsFolder l.tree q → q ≢ y → key_of m.keys q ≡ key_of l.keys q
  parent_stays q (inl root) apart = key_root m.keys q root ∙ sym (key_root l.keys q root)
  parent_stays q (inr (h, at, folder)) apart =
      let off : q ≢ 0 = λ root. not_both l.tree 0 h is.local.form.no_root (subst (λ z. get l.tree z ≡ Some h) root at) in
      let other : q ≢ x = λ same. not_both l.tree x h absent (subst (λ z. get l.tree z ≡ Some h) same at) in
      key_other m.keys q off ∙ key_stays q other apart ∙ sym (key_other l.keys q off)

  -- and y's is x's
  parent_moves : key_of m.keys x ≡ key_of l.keys y
  parent_moves = key_other m.keys x x_some ∙ key_new ∙ sym key ∙ sym (key_other l.keys y y_some)

  place_stays : (w : ℕ) (n : Node) → get l.tree w ≡ Some n → n.place.parent.0 ≢ y → key_place m.keys n.place ≡ key_place l.keys n.place
  place_stays w n at apart = known_alike m.keys l.keys n.place (parent_stays n.place.parent.0 (is.local.form.parents w n at) apart)

  -- WHAT IS HELD
  own_off : own.place.parent.0 ≢ y
  own_off same = no_loop l.tree y own is.local.form there (subst (λ z. IsUnder l.tree z y) (sym same) here)

  new_held : IsHeldAs es m.keys new k s
  new_held =
      let held = is.held y k own key there in
      let node : held_as held.place own ≡ held_as held.place new =
      ap (λ (g : Kind). held_as held.place (record own { kind = g })) (sym kind)
      ∙ ap (λ (b : Bool). held_as held.place (record own { kind = new.kind; bit = b })) (sym bit) in
      record {
        place = held.place;
        known = ap (key_place m.keys) place ∙ place_stays y own there own_off ∙ held.known;
        node = held.node ∙ ap Some node;
        bytes = content held.bytes;
      }

  came_held : (w j : ℕ) (n : Node) → get m.keys w ≡ Some j → Came l.tree y x new w n → IsHeldAs es m.keys n j s
  came_held w j n keyed (renamed at same) =
      let its : k ≡ j = numbers.one_number (get m.keys x) k j key_new (subst (λ z. get m.keys z ≡ Some j) at keyed) in
      subst (λ i. IsHeldAs es m.keys n i s) its (subst (λ g. IsHeldAs es m.keys g k s) (sym same) new_held)
  came_held w j n keyed (stood other apart at off) =
      let held = is.held w j n (sym (key_stays w other apart) ∙ keyed) at in
      record { place = held.place; known = place_stays w n at off ∙ held.known; node = held.node; bytes = held.bytes }
  came_held w j n keyed (child h other apart at below same) =
      let held = is.held w j h (sym (key_stays w other apart) ∙ keyed) at in
      let known : key_place m.keys (with_parent x h).place ≡ key_place l.keys h.place =
      known_name (key_of m.keys x) (with_parent x h).place h.place refl
      ∙ ap (λ o. known_place o h.place) (parent_moves ∙ ap (key_of l.keys) (sym below)) in
      subst (λ g. IsHeldAs es m.keys g j s) (sym same) (record { place = held.place; known = known ∙ held.known; node = held.node; bytes = held.bytes })

  -- x had no key
  unkeyed : (w j : ℕ) → get l.keys w ≡ Some j → w ≢ x
  unkeyed w j keyed same =
      let (h, at) = node_there es l s is w j keyed in
      not_both l.tree x h absent (subst (λ z. get l.tree z ≡ Some h) same at)

  still_known : (w j : ℕ) → get l.keys w ≡ Some j → (z : ℕ) × (get m.keys z ≡ Some j)
  still_known w j keyed = elim (same_or_not w y) [
    | inl same ↦ (x, key_new ∙ sym key ∙ subst (λ z. get l.keys z ≡ Some j) same keyed)
    | inr apart ↦ (w, key_stays w (unkeyed w j keyed) apart ∙ keyed)
  ]

  pub renamed_matches : Matches es m s
  renamed_matches = record {
    local = local;
    held = λ w j n keyed at. came_held w j n keyed (came_from l.tree y x new m.tree tree w n at);
    known = λ j h at. let own_key = is.known j h at in still_known own_key.0 j own_key.1;
  }
