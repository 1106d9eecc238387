-- What is there gets another content, another bit and another place: each call that is needed succeeds.
use Rattle.std.proofs.Common.{◌≡◌, ◌≢◌, ◌∙◌, ℕ, Bool, true, false, if◌then◌else◌, List, Option, None, Some, refl, sym, ap, subst}
use Rattle.std.specs.Bool.{beq}
use Rattle.std.specs.Cmp.{booleans_Decides}
use Rattle.std.specs.FinMap.{get}
use Rattle.std.specs.Str.{bytes_eq}
use Rattle.std.proofs.lemmas.Slice.Eq.{bytes_eq-Decides}
use Rattle.nuc_base.specs.Kinds.{Fits, FitsKind}
use Rattle.nuc_base.specs.Legal.{LegalPut}
use Rattle.nuc_base.specs.declared.node.Kind.{Kind}
use Rattle.nuc_base.specs.declared.node.Kind.TheVariants.{Folder, File}
use Rattle.nuc_base.specs.declared.node.Node.{Node}
use Rattle.nuc_base.specs.declared.node.Place.{Place}
use Rattle.nuc_base.specs.declared.node.Ver.{Ver}
use Rattle.nuc_base.proofs.Maps.{get_put_other, get_put_same}
use Rattle.nuc_class.specs.Equal.{place_eq}
use Rattle.nuc_class.proofs.Tells.{place_eq-Decides}
use Rattle.nuc_edits.specs.declared.edit.Edit.{Edit}
use Rattle.nuc_filework.specs.Calls.{bit_step, called, key_place, move_step, moving, replace_step, replacing, switching}
use Rattle.nuc_filework.specs.declared.call.Call.{Call}
use Rattle.nuc_filework.specs.declared.call.Call.TheVariants.{MoveTo, Replace, SetBit}
use Rattle.nuc_folder.specs.Answers.{CanMove, HasBit, HasHash, IsPlaced}
use Rattle.nuc_folder.specs.State.{FolderState, place_of}
use Rattle.nuc_folder.specs.declared.key_place.KeyPlace.{KeyPlace}
use Rattle.nuc_follow.specs.Follows.{over}
use Rattle.nuc_follow.specs.Matches.{HasContent, HasRecorded, Matches, held_as}
use Rattle.nuc_follow.specs.Needs.{AreGiven, IsContentOf, IsSameUnlessFile}
use Rattle.nuc_follow.proofs.Calling.{altered, moved_to}
use Rattle.nuc_follow.proofs.Putting.{legal_in_place, over_matches}
use Rattle.nuc_follow.proofs.Shown.{folder_held, free_held, key_is, known_parts, under_held}
use Rattle.nuc_follow.proofs.Steps.{Leads}
use Rattle.nuc_hash.specs.Content.{ContentData, content_of}
use Rattle.nuc_hash.specs.declared.digest.Digest.{Digest}
use Rattle.nuc_observe.specs.Keys.{KeyMap}
use Rattle.nuc_replica.specs.Local.{LocalState}
use Rattle.nuc_shelf.proofs.Bytes.{led_other, led_same}
use Rattle.nuc_shelf.proofs.Shelves.{changed_is}
use Rattle.nuc_shelf.specs.Shelf.{marked, moved, placed, refilled, with_bit, with_changed}

-- CONTENTS
pub recorded_hash : (c : ContentData) (b : Option (List ℕ)) → HasRecorded (Some c) b → HasHash b c.hash
recorded_hash c None has = has
recorded_hash c (Some bytes) has = has

recorded_alike : (c d : ContentData) (b : Option (List ℕ)) → c.hash ≡ d.hash → HasRecorded (Some c) b → HasRecorded (Some d) b
recorded_alike c d None same has = has
recorded_alike c d (Some bytes) same has = has ∙ same

module _ (es : List Edit) where
  has_hash : (kind : Kind) (ver : ℕ) (seen wanted : ContentData) (b : Option (List ℕ)) → IsContentOf es kind ver seen → HasContent es kind ver b
      → IsSameUnlessFile kind seen.hash wanted.hash → seen.hash ≢ wanted.hash → HasHash b seen.hash
  has_hash Folder ver seen wanted b content has same apart = absurd (apart same)
  has_hash File ver seen wanted b content has same apart = recorded_hash seen b (subst (λ o. HasRecorded o b) content has)

  kept_content : (kind : Kind) (ver new : ℕ) (seen wanted : ContentData) (b : Option (List ℕ)) → IsContentOf es kind ver seen → IsContentOf es kind new wanted
      → seen.hash ≡ wanted.hash → HasContent es kind ver b → HasContent es kind new b
  kept_content Folder ver new seen wanted b one two same has = has
  kept_content File ver new seen wanted b one two same has =
      subst (λ o. HasRecorded o b) (sym two) (recorded_alike seen wanted b same (subst (λ o. HasRecorded o b) one has))

  new_content : (kind : Kind) (new : ℕ) (seen wanted : ContentData) (bytes : List ℕ) → IsContentOf es kind new wanted → IsSameUnlessFile kind seen.hash wanted.hash
      → seen.hash ≢ wanted.hash → (content_of bytes).hash ≡ wanted.hash → HasContent es kind new (Some bytes)
  new_content Folder new seen wanted bytes content same apart hash = absurd (apart same)
  new_content File new seen wanted bytes content same apart hash = subst (λ o. HasRecorded o (Some bytes)) (sym content) hash

-- KINDS
file_of : (kind : Kind) (ver : ℕ) (a b : Bool) → Fits kind ver a → Fits kind ver b → a ≢ b → kind ≡ File
file_of Folder ver a b f g apart = absurd (apart (f.1 ∙ sym g.1))
file_of File ver a b f g apart = refl

pub mixed : (kind : Kind) (v w : ℕ) (a b : Bool) → Fits kind v a → Fits kind w b → Fits kind w a
mixed Folder v w a b f g = (g.0, f.1)
mixed File v w a b f g = g

one_place : (o : Option KeyPlace) (p q : KeyPlace) → o ≡ Some p → o ≡ Some q → p ≡ q
one_place o p q e f = cc

-- THE STEPS of the node that stands at x, under the key k
module _ (es : List Edit) (bytes : List ℕ) (l : LocalState) (x k : ℕ) (old : Node) (at : get l.tree x ≡ Some old) (key : get l.keys x ≡ Some k) where
  module _ (ver : Ver) (seen wanted : ContentData) (given : Bool) (was : IsContentOf es old.kind old.ver.0 seen) (is_new : IsContentOf es old.kind ver.0 wanted)
      (alike : IsSameUnlessFile old.kind seen.hash wanted.hash) (gives : bytes_eq seen.hash.0 wanted.hash.0 ≡ false → AreGiven given bytes wanted.hash)
      (fits : FitsKind (record old { ver = ver })) where
    replaces : (t : Bool) → bytes_eq seen.hash.0 wanted.hash.0 ≡ t
        → (a : Option Call) × ((if t then Some None else called (replacing (Some k) seen.hash given)) ≡ Some a) × Leads es bytes l (over l x (record old { ver = ver })) a
    replaces true e = (
      None,
      refl,
      λ s is shelf.
          let held = is.held x k old key at in
          let same : seen.hash ≡ wanted.hash = ap (λ (y : List ℕ). let r : Digest = record { 0 = y } in r) ((bytes_eq-Decides seen.hash.0 wanted.hash.0).0 e) in
          over_matches es l s s x k old (record old { ver = ver }) held.place is at key (legal_in_place l.tree x old (record old { ver = ver }) is.local.form at refl refl) fits
          held.known held.node (kept_content es old.kind old.ver.0 ver.0 seen wanted (get s.bytes k) was is_new same held.bytes) (λ j apart. refl) (λ j apart. refl),
    )
    replaces false e = (
      Some (Replace (record { 0 = k }) seen.hash),
      ap (λ g. called (replacing (Some k) seen.hash g)) (gives e).0,
      λ s is shelf answer t answers well room.
          let held = is.held x k old key at in
          let apart : seen.hash ≢ wanted.hash = λ h. (let wrong : false ≡ true = sym e ∙ (bytes_eq-Decides seen.hash.0 wanted.hash.0).1 (ap (λ (d : Digest). d.0) h) in cc) in
          let can : HasHash (get s.bytes k) seen.hash = has_hash es old.kind old.ver.0 seen wanted (get s.bytes k) was held.bytes alike apart in
          let (ok, now) = altered (HasHash (get s.bytes k) seen.hash) (refilled s k bytes) s answer t answers can well room in (
            ok,
            subst (Matches es (over l x (record old { ver = ver }))) (sym now)
                (over_matches es l s (refilled s k bytes) x k old (record old { ver = ver }) held.place is at key
                (legal_in_place l.tree x old (record old { ver = ver }) is.local.form at refl refl) fits held.known held.node
                (subst (HasContent es old.kind ver.0) (sym (led_same s.bytes k (Some bytes))) (new_content es old.kind ver.0 seen wanted bytes is_new alike apart (gives e).1))
                (λ j other. refl) (λ j other. led_other s.bytes k (Some bytes) j other)),
          ),
    )

    pub replace_leads : (a : Option Call) × (replace_step (Some k) seen.hash wanted.hash given ≡ Some a) × Leads es bytes l (over l x (record old { ver = ver })) a
    replace_leads = replaces (bytes_eq seen.hash.0 wanted.hash.0) refl

  module _ (f : Node → Node) (s : FolderState) (h : Node) (there : get s.tree k ≡ Some h) where
    pub changed_here : get (with_changed s.tree k f) k ≡ Some (f h)
    changed_here = ap (λ m. get m k) (changed_is s.tree k f h (get s.tree k) there) ∙ get_put_same s.tree k (f h)

    pub changed_else : (j : ℕ) → j ≢ k → get (with_changed s.tree k f) j ≡ get s.tree j
    changed_else j apart = ap (λ m. get m j) (changed_is s.tree k f h (get s.tree k) there) ∙ get_put_other s.tree k (f h) j apart

  module _ (bit : Bool) (fit_old : FitsKind old) (fits : FitsKind (record old { bit = bit })) where
    marks : (t : Bool) → beq old.bit bit ≡ t
        → (a : Option Call) × ((if t then Some None else called (switching (Some k) old.bit bit)) ≡ Some a) × Leads es bytes l (over l x (record old { bit = bit })) a
    marks true e = (
      None,
      refl,
      λ s is shelf.
          let held = is.held x k old key at in
          let same : old.bit ≡ bit = (booleans_Decides old.bit bit).0 e in
          over_matches es l s s x k old (record old { bit = bit }) held.place is at key (legal_in_place l.tree x old (record old { bit = bit }) is.local.form at refl refl) fits
          held.known (held.node ∙ ap (λ b. Some (held_as held.place (record old { bit = b }))) same) held.bytes (λ j apart. refl) (λ j apart. refl),
    )
    marks false e = (
      Some (SetBit (record { 0 = k }) old.bit bit),
      refl,
      λ s is shelf answer t answers well room.
          let held = is.held x k old key at in
          let apart : old.bit ≢ bit = λ h. (let wrong : false ≡ true = sym e ∙ (booleans_Decides old.bit bit).1 h in cc) in
          let can : HasBit (get s.tree k) old.bit = subst (λ o. HasBit o old.bit) (sym held.node) (file_of old.kind old.ver.0 old.bit bit fit_old fits apart, refl) in
          let (ok, now) = altered (HasBit (get s.tree k) old.bit) (marked s k bit) s answer t answers can well room in (
            ok,
            subst (Matches es (over l x (record old { bit = bit }))) (sym now)
                (over_matches es l s (marked s k bit) x k old (record old { bit = bit }) held.place is at key
                (legal_in_place l.tree x old (record old { bit = bit }) is.local.form at refl refl) fits held.known
                (changed_here (with_bit bit) s (held_as held.place old) held.node) held.bytes
                (changed_else (with_bit bit) s (held_as held.place old) held.node) (λ j other. refl)),
          ),
    )

    pub bit_leads : (a : Option Call) × (bit_step (Some k) old.bit bit ≡ Some a) × Leads es bytes l (over l x (record old { bit = bit })) a
    bit_leads = marks (beq old.bit bit) refl

  module _ (own : KeyMap) (place : Place) (p q : KeyPlace) (from : key_place own old.place ≡ Some p) (from_known : key_place l.keys old.place ≡ Some p)
      (to : key_place own place ≡ Some q) (to_known : key_place l.keys place ≡ Some q) (legal : LegalPut l.tree x (record old { place = place })) (fits : FitsKind old) where
    -- nothing is in the way of the move
    pub can_move : (s : FolderState) → (is : Matches es l s) → CanMove k (place_of p) (place_of q) s
    can_move s is =
        let held = is.held x k old key at in
        let mine : held.place ≡ p = one_place (key_place l.keys old.place) held.place p held.known from_known in
        let parent = (known_parts l.keys place q to_known).0 in (
          subst (λ o. IsPlaced o (place_of p)) (sym held.node) (ap place_of mine),
          folder_held es l s is place.parent.0 q.parent.0 parent legal.parent,
          λ u. legal.no_cycle (under_held es l s is x k (key_is l.keys x k is.local.keys key) q.parent.0 u place.parent.0 parent),
        )

    moves : (t : Bool) → place_eq old.place place ≡ t
        → (a : Option Call) × ((if t then Some None else called (moving (Some k) (key_place own old.place) (key_place own place))) ≡ Some a)
        × Leads es bytes l (over l x (record old { place = place })) a
    moves true e = (
      None,
      refl,
      λ s is shelf.
          let held = is.held x k old key at in
          let same : old.place ≡ place = (place_eq-Decides old.place place).0 e in
          let now : held.place ≡ q = one_place (key_place l.keys old.place) held.place q held.known (ap (key_place l.keys) same ∙ to_known) in
          over_matches es l s s x k old (record old { place = place }) q is at key legal fits to_known
          (held.node ∙ ap (λ r. Some (held_as r old)) now) held.bytes (λ j apart. refl) (λ j apart. refl),
    )
    moves false e = (
      Some (MoveTo (record { 0 = k }) p q),
      ap (λ o. called (moving (Some k) o (key_place own place))) from ∙ ap (λ o. called (moving (Some k) (Some p) o)) to,
      λ s is shelf answer t answers well room.
          let held = is.held x k old key at in
          let (ok, now) = moved_to k (place_of p) (place_of q) s answer t answers (can_move s is) (free_held es l s is x k place q key to_known legal.free) well room in (
            ok,
            subst (Matches es (over l x (record old { place = place }))) (sym now)
                (over_matches es l s (moved s k (place_of q)) x k old (record old { place = place }) q is at key legal fits to_known
                (changed_here (placed (place_of q)) s (held_as held.place old) held.node) held.bytes
                (changed_else (placed (place_of q)) s (held_as held.place old) held.node) (λ j other. refl)),
          ),
    )

    pub move_leads : (a : Option Call) × (move_step own (Some k) old.place place ≡ Some a) × Leads es bytes l (over l x (record old { place = place })) a
    move_leads = moves (place_eq old.place place) refl
