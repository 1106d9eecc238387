-- What one more entry makes of the tree, the revisions and the kinds.
use Rattle.std.proofs.Common.{◌≡◌, ◌≢◌, ◌==◌, ℕ, true, false, cond, List, [], ◌∷◌, ◌++◌, Option, Some, None, refl, sym, ◌∙◌, ap, subst, inl, inr}
use Rattle.std.proofs.lemmas.Bool.Decides.{eqb_tells}
use Rattle.std.specs.FinMap as tree
use Rattle.std.specs.Ordering.{nat_cmp}
use Rattle.nuc_base.specs.Trees.{Nodes}
use Rattle.nuc_base.specs.declared.node.Kind.{Kind}
use Rattle.nuc_base.specs.declared.node.Node.{Node}
use Rattle.nuc_base.proofs.Maps.{get_put_same, get_put_other, get_cut_same, get_cut_other}
use Rattle.nuc_journal.specs.Entries.{with_value, tree_after, tree_of, live_revision, revision_after, revision_of, kind_with, kind_after, kind_of, value_after, value_of}
use Rattle.nuc_journal.specs.Tracks.{Tells, IsTrack}
use Rattle.nuc_journal.specs.declared.entry.Entry.{Entry}
use Rattle.nuc_journal.specs.declared.track.Track.{Track}

pub same_yes : (x : ℕ) → (x == x) ≡ true
same_yes x = elim (eqb_tells x x) [ inl (t, e) ↦ t | inr (t, e) ↦ absurd (e refl) ]

pub other_no : (x y : ℕ) → x ≢ y → (x == y) ≡ false
other_no x y apart = elim (eqb_tells x y) [ inl (t, e) ↦ absurd (apart e) | inr (t, e) ↦ t ]

pub tree_after-push : (m : Nodes) (es : List Entry) (e : Entry) → tree_after m (es ++ e ∷ []) ≡ with_value (tree_after m es) e.id.0 e.value
tree_after-push m [] e = refl
tree_after-push m (f ∷ es) e = tree_after-push (with_value m f.id.0 f.value) es e

pub tree_after-append : (m : Nodes) (es fs : List Entry) → tree_after m (es ++ fs) ≡ tree_after (tree_after m es) fs
tree_after-append m [] fs = refl
tree_after-append m (e ∷ es) fs = tree_after-append (with_value m e.id.0 e.value) es fs

pub tree_push : (es : List Entry) (e : Entry) → tree_of (es ++ e ∷ []) ≡ with_value (tree_of es) e.id.0 e.value
tree_push es e = tree_after-push tree.empty es e

revision_after-push : (rev : ℕ) (es : List Entry) (e : Entry) (x : ℕ)
    → revision_after rev (es ++ e ∷ []) x ≡ cond (e.id.0 == x) (live_revision e.value e.rev) (revision_after rev es x)
revision_after-push rev [] e x = refl
revision_after-push rev (f ∷ es) e x = revision_after-push (cond (f.id.0 == x) (live_revision f.value f.rev) rev) es e x

pub revision_push : (es : List Entry) (e : Entry) (x : ℕ)
    → revision_of (es ++ e ∷ []) x ≡ cond (e.id.0 == x) (live_revision e.value e.rev) (revision_of es x)
revision_push es e x = revision_after-push 0 es e x

kind_after-push : (before : Option Kind) (es : List Entry) (e : Entry) (x : ℕ)
    → kind_after before (es ++ e ∷ []) x ≡ cond (e.id.0 == x) (kind_with e.value (kind_after before es x)) (kind_after before es x)
kind_after-push before [] e x = refl
kind_after-push before (f ∷ es) e x = kind_after-push (cond (f.id.0 == x) (kind_with f.value before) before) es e x

pub kind_push : (es : List Entry) (e : Entry) (x : ℕ)
    → kind_of (es ++ e ∷ []) x ≡ cond (e.id.0 == x) (kind_with e.value (kind_of es x)) (kind_of es x)
kind_push es e x = kind_after-push None es e x

value_after-push : (before : Option Node) (es : List Entry) (e : Entry) (x : ℕ)
    → value_after before (es ++ e ∷ []) x ≡ cond (e.id.0 == x) e.value (value_after before es x)
value_after-push before [] e x = refl
value_after-push before (f ∷ es) e x = value_after-push (cond (f.id.0 == x) f.value before) es e x

pub value_push : (es : List Entry) (e : Entry) (x : ℕ)
    → value_of (es ++ e ∷ []) x ≡ cond (e.id.0 == x) e.value (value_of es x)
value_push es e x = value_after-push None es e x

-- an identity's own entry
module _ (es : List Entry) (e : Entry) where
  pub revision_push-same : revision_of (es ++ e ∷ []) e.id.0 ≡ live_revision e.value e.rev
  revision_push-same = revision_push es e e.id.0 ∙ ap (λ b. cond b (live_revision e.value e.rev) (revision_of es e.id.0)) (same_yes e.id.0)

  pub kind_push-same : kind_of (es ++ e ∷ []) e.id.0 ≡ kind_with e.value (kind_of es e.id.0)
  kind_push-same = kind_push es e e.id.0 ∙ ap (λ b. cond b (kind_with e.value (kind_of es e.id.0)) (kind_of es e.id.0)) (same_yes e.id.0)

  pub value_push-same : value_of (es ++ e ∷ []) e.id.0 ≡ e.value
  value_push-same = value_push es e e.id.0 ∙ ap (λ b. cond b e.value (value_of es e.id.0)) (same_yes e.id.0)

  pub track_push-same : (t : Option Track) → Tells t (live_revision e.value e.rev) (kind_with e.value (kind_of es e.id.0)) → IsTrack t (es ++ e ∷ []) e.id.0
  track_push-same t h = rw (revision_push-same, kind_push-same) h

-- and another's
module _ (es : List Entry) (e : Entry) (x : ℕ) (apart : e.id.0 ≢ x) where
  pub revision_push-other : revision_of (es ++ e ∷ []) x ≡ revision_of es x
  revision_push-other = revision_push es e x ∙ ap (λ b. cond b (live_revision e.value e.rev) (revision_of es x)) (other_no e.id.0 x apart)

  pub kind_push-other : kind_of (es ++ e ∷ []) x ≡ kind_of es x
  kind_push-other = kind_push es e x ∙ ap (λ b. cond b (kind_with e.value (kind_of es x)) (kind_of es x)) (other_no e.id.0 x apart)

  pub value_push-other : value_of (es ++ e ∷ []) x ≡ value_of es x
  value_push-other = value_push es e x ∙ ap (λ b. cond b e.value (value_of es x)) (other_no e.id.0 x apart)

  pub track_push-other : (t : Option Track) → IsTrack t es x → IsTrack t (es ++ e ∷ []) x
  track_push-other t h = rw (revision_push-other, kind_push-other) h

  pub track_before-other : (t : Option Track) → IsTrack t (es ++ e ∷ []) x → IsTrack t es x
  track_before-other t h = rw (← revision_push-other, ← kind_push-other) h

with_value_same : (m : Nodes) (x : ℕ) (v : Option Node) → tree.get (with_value m x v) x ≡ v
with_value_same m x None = get_cut_same m x
with_value_same m x (Some n) = get_put_same m x n

with_value_other : (m : Nodes) (x : ℕ) (v : Option Node) (y : ℕ) → y ≢ x → tree.get (with_value m x v) y ≡ tree.get m y
with_value_other m x None y apart = get_cut_other m x y apart
with_value_other m x (Some n) y apart = get_put_other m x n y apart

with_value_get : (m : Nodes) (x : ℕ) (v : Option Node) (y : ℕ) → tree.get (with_value m x v) y ≡ cond (x == y) v (tree.get m y)
with_value_get m x v y = elim (eqb_tells x y) [
  | inl (t, e) ↦ subst (λ z. tree.get (with_value m x v) z ≡ v) e (with_value_same m x v) ∙ sym (ap (λ b. cond b v (tree.get m y)) t)
  | inr (t, e) ↦ with_value_other m x v y (λ s. e (sym s)) ∙ sym (ap (λ b. cond b v (tree.get m y)) t)
]

tree_after-get : (m : Nodes) (es : List Entry) (x : ℕ) → tree.get (tree_after m es) x ≡ value_after (tree.get m x) es x
tree_after-get m [] x = refl
tree_after-get m (e ∷ es) x = tree_after-get (with_value m e.id.0 e.value) es x ∙ ap (λ v. value_after v es x) (with_value_get m e.id.0 e.value x)

-- what stands at x in the tree is what its last entry says
pub last_stands : (es : List Entry) (x : ℕ) → tree.get (tree_of es) x ≡ value_of es x
last_stands es x = tree_after-get tree.empty es x ∙ ap (λ v. value_after v es x) (tree.get-empty nat_cmp x)
