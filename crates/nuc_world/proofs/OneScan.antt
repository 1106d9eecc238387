-- A scan has one answer, and leads to one client.
use Rattle.std.specs.Prelude.{IsSomeAnd}
use Rattle.std.proofs.Common.{◌≡◌, ◌≢◌, ◌⊎◌, ◌+◌, ◌++◌, ℕ, List, [], ◌∷◌, length, Option, Some, None, refl, sym, ◌∙◌, ap, subst, inl, inr}
use Rattle.std.proofs.lemmas.List.Sorted.{IsPermutation-sym}
use Rattle.nuc_base.specs.Trees.{Nodes}
use Rattle.nuc_base.specs.declared.node.Counters.{Counters}
use Rattle.nuc_edits.specs.declared.edit.Edit.{Edit}
use Rattle.nuc_folder.specs.declared.item.Item.{Item}
use Rattle.nuc_observe.specs.Keys.{KeyMap, key_map}
use Rattle.nuc_observe.specs.Listing.{IsFirstBad, IsGood, IsGoodListing}
use Rattle.nuc_observe.specs.Listing.IsGoodListing.{nothing, more}
use Rattle.nuc_observe.specs.Made.{nodes_in}
use Rattle.nuc_observe.specs.Observed.{bindings, identity_rows}
use Rattle.nuc_observe.specs.declared.binding.Binding.{Binding}
use Rattle.nuc_observe.proofs.Made.{makes_local}
use Rattle.nuc_observe.proofs.Reordered.{one_map}
use Rattle.nuc_replica.specs.Local.{IsLocal}
use Rattle.nuc_step.specs.Client.{ClientState}
use Rattle.nuc_step.specs.Held.{HeldData, HeldState}
use Rattle.nuc_step.specs.Scanning.{IsScanned, ScanAnswers, before_of, changed_count, changes_after}
use Rattle.nuc_step.specs.Watching.{CanWatch, Watching}
use Rattle.nuc_step.specs.declared.answers.Scanned.{Scanned}
use Rattle.nuc_step.specs.declared.answers.Scanned.TheVariants as scan
use Rattle.nuc_step.proofs.Versions.{sound_before}

-- LISTS THAT ARE CUT AT AN ELEMENT
no_end : {A : Type 0} (a : List A) (i : A) (b : List A) → [] ≡ a ++ i ∷ b → ⊥
no_end [] i b is = let clash : [] ≡ i ∷ b = is in cc
no_end (x ∷ a) i b is = let clash : [] ≡ x ∷ (a ++ i ∷ b) = is in cc

-- the element is the last, or stands before it
cut_last : {A : Type 0} (xs : List A) (x : A) (a : List A) (i : A) (b : List A) → xs ++ x ∷ [] ≡ a ++ i ∷ b → ((xs ≡ a) × (x ≡ i)) ⊎ ((c : List A) × (xs ≡ a ++ i ∷ c))
cut_last [] x [] i b is = let same : x ∷ [] ≡ i ∷ b = is in inl (refl, (cc))
cut_last [] x (y ∷ a) i b is = let same : x ∷ [] ≡ y ∷ (a ++ i ∷ b) = is in let rest : [] ≡ a ++ i ∷ b = cc in absurd (no_end a i b rest)
cut_last (y ∷ xs) x [] i b is = let same : y ∷ (xs ++ x ∷ []) ≡ i ∷ b = is in let first : y ≡ i = cc in inr (xs, ap (λ z. z ∷ xs) first)
cut_last (y ∷ xs) x (z ∷ a) i b is =
    let same : y ∷ (xs ++ x ∷ []) ≡ z ∷ (a ++ i ∷ b) = is in
    let first : y ≡ z = cc in
    let rest : xs ++ x ∷ [] ≡ a ++ i ∷ b = cc in
    elim (cut_last xs x a i b rest) [
      | inl (front, last) ↦ inl (ap (λ l. y ∷ l) front ∙ ap (λ w. w ∷ a) first, last)
      | inr (c, front) ↦ inr (c, ap (λ l. y ∷ l) front ∙ ap (λ w. w ∷ (a ++ i ∷ c)) first)
    ]

-- of two cuts one is the other, or comes first
two_cuts : {A : Type 0} (a : List A) (i : A) (b c : List A) (j : A) (d : List A) → a ++ i ∷ b ≡ c ++ j ∷ d
    → (a ≡ c) ⊎ (((e : List A) × (c ≡ a ++ i ∷ e)) ⊎ ((e : List A) × (a ≡ c ++ j ∷ e)))
two_cuts [] i b [] j d is = inl refl
two_cuts [] i b (y ∷ c) j d is = let same : i ∷ b ≡ y ∷ (c ++ j ∷ d) = is in let first : i ≡ y = cc in inr (inl (c, ap (λ z. z ∷ c) (sym first)))
two_cuts (x ∷ a) i b [] j d is = let same : x ∷ (a ++ i ∷ b) ≡ j ∷ d = is in let first : x ≡ j = cc in inr (inr (a, ap (λ z. z ∷ a) first))
two_cuts (x ∷ a) i b (y ∷ c) j d is =
    let same : x ∷ (a ++ i ∷ b) ≡ y ∷ (c ++ j ∷ d) = is in
    let first : x ≡ y = cc in
    let rest : a ++ i ∷ b ≡ c ++ j ∷ d = cc in
    elim (two_cuts a i b c j d rest) [
      | inl front ↦ inl (ap (λ l. x ∷ l) front ∙ ap (λ z. z ∷ c) first)
      | inr (inl (e, later)) ↦ inr (inl (e, ap (λ l. y ∷ l) later ∙ ap (λ z. z ∷ (a ++ i ∷ e)) (sym first)))
      | inr (inr (e, later)) ↦ inr (inr (e, ap (λ l. x ∷ l) later ∙ ap (λ z. z ∷ (c ++ j ∷ e)) first))
    ]

-- ONE FIRST BAD ITEM, or none
module _ (keys : KeyMap) (l : Nodes) where
  -- each item of a good listing is good after those before it
  good_at : (items a : List Item) (i : Item) (b : List Item) → IsGoodListing keys l items → items ≡ a ++ i ∷ b → IsGood keys l a i
  good_at _ a i b nothing is = absurd (no_end a i b is)
  good_at _ a i b (more earlier item rest good) is = elim (cut_last earlier item a i b is) [
    | inl (front, last) ↦ subst (λ z. IsGood keys l a z) last (subst (λ z. IsGood keys l z item) front good)
    | inr (c, front) ↦ good_at earlier a i c rest front
  ]

  bad_one : (items : List Item) (n k : ℕ) → IsFirstBad keys l items (Some n) → IsFirstBad keys l items (Some k) → n ≡ k
  bad_one items n k (a, i, b, are, at, good, bad) (c, j, d, were, place, well, wrong) = elim (two_cuts a i b c j d (sym are ∙ were)) [
    | inl same ↦ at ∙ ap (λ (z : List Item). length z + 1) same ∙ sym place
    | inr (inl (e, later)) ↦ absurd (bad (good_at c a i e well later))
    | inr (inr (e, later)) ↦ absurd (wrong (good_at a c j e good later))
  ]

  not_bad : (items : List Item) (n : ℕ) → IsGoodListing keys l items → ¬ (IsFirstBad keys l items (Some n))
  not_bad items n whole (a, i, b, are, at, good, bad) = bad (good_at items a i b whole are)

-- ONE NEW LOCAL
pub watching_one : (v x : Watching) → v.client ≡ x.client → v.recorded ≡ x.recorded → v.ids ≡ x.ids → v ≡ x
watching_one v x client recorded ids = λ i. record { client = client i; recorded = recorded i; ids = ids i }

counters_one : (a b : Counters) → a.next_id ≡ b.next_id → a.next_ver ≡ b.next_ver → a ≡ b
counters_one a b id ver = λ i. record { next_id = id i; next_ver = ver i }

-- the client with this Local
abbrev scanned : ClientState → ℕ → Nodes → KeyMap → ClientState
scanned c k tree keys = record c { local = record { tree = tree; keys = keys }; changes = changes_after k c.changes }

module _ (w : Watching) (local : IsLocal w.client.local) (can : CanWatch w.client w.recorded w.ids) (items : List Item) where
  keys_one : (k : ℕ) (v : Watching) (is : IsScanned w k v items) → key_map is.bindings ≡ key_map (bindings (identity_rows w.client.local.keys w.ids.next_id items))
  keys_one k v is =
      let made = (makes_local (before_of w) items w.ids is.nodes is.bindings is.edits v.ids (sound_before w local can) is.good is.observed).0 in
      sym (one_map (λ (b : Binding). b.id.0) (λ (b : Binding). b.key.0) is.bindings _ (IsPermutation-sym _ is.bindings is.observed.keys_are.0) made.bindings.apart.ids)

  tree_one : (k n : ℕ) (v x : Watching) (is : IsScanned w k v items) (was : IsScanned w n x items) → nodes_in is.nodes ≡ nodes_in was.nodes
  tree_one k n v x is was =
      let sound = sound_before w local can in
      (makes_local (before_of w) items w.ids is.nodes is.bindings is.edits v.ids sound is.good is.observed).1
      ∙ sym (makes_local (before_of w) items w.ids was.nodes was.bindings was.edits x.ids sound was.good was.observed).1

  changed_one : (k n : ℕ) (v x : Watching) → IsScanned w k v items → IsScanned w n x items → (k ≡ n) × (v ≡ x)
  changed_one k n v x is was =
      let tree = tree_one k n v x is was in
      let keys = keys_one k v is ∙ sym (keys_one n x was) in
      let count : k ≡ n = is.takes.count ∙ ap (λ (m : Nodes). changed_count w.client.local.tree m) tree ∙ sym was.takes.count in
      let edits : is.edits ≡ was.edits = is.observed.edits_are ∙ sym was.observed.edits_are in (
        count,
        watching_one v x
            (is.takes.client ∙ ap (λ z. scanned w.client z (nodes_in is.nodes) (key_map is.bindings)) count
            ∙ ap (λ (m : Nodes). scanned w.client n m (key_map is.bindings)) tree ∙ ap (λ (m : KeyMap). scanned w.client n (nodes_in was.nodes) m) keys ∙ sym was.takes.client)
            (is.takes.recorded ∙ ap (λ (l : List Edit). record w.recorded { edits = w.recorded.edits ++ l }) edits ∙ sym was.takes.recorded)
            (counters_one v.ids x.ids (is.observed.next_id_is ∙ sym was.observed.next_id_is) (is.observed.next_ver_is ∙ sym was.observed.next_ver_is)),
      )

-- ONE ANSWER
none_and : {A : Type 0} (o : Option A) (P : A → Type 0) → o ≡ None → ¬ (IsSomeAnd o P)
none_and None P none is = is
none_and (Some a) P none is = let clash : Some a ≡ None = none in cc

pub both_and : {A C : Type 0} (o : Option A) (P Q : A → Type 0) → IsSomeAnd o P → IsSomeAnd o Q → ((a : A) → P a → Q a → C) → C
both_and None P Q is was f = absurd is
both_and (Some a) P Q is was f = f a is was

module _ (h g f : HeldState) (w v x : Watching) (local : IsLocal w.client.local) (can : CanWatch w.client w.recorded w.ids) where
  stale_not : (P : HeldData → Type 0) → IsSomeAnd h.now (λ held. held.changes ≢ w.client.changes) → IsSomeAnd h.now (λ held. (held.changes ≡ w.client.changes) × P held) → ⊥
  stale_not P stale fresh = both_and h.now _ _ stale fresh (λ held off on. off on.0)

  pub scan_one : (a b : Scanned) → ScanAnswers h w a g v → ScanAnswers h w b f x → (a ≡ b) × (g ≡ f) × (v ≡ x)
  scan_one scan.NoListing scan.NoListing (none, gone, same) (without, left, stays) = (refl, gone ∙ sym left, same ∙ sym stays)
  scan_one scan.NoListing (scan.Stale k) (none, gone, same) (stale, count, left, stays) = absurd (none_and h.now _ none stale)
  scan_one scan.NoListing (scan.Bad k) (none, gone, same) (bad, left, stays) = absurd (none_and h.now _ none bad)
  scan_one scan.NoListing (scan.Changed k) (none, gone, same) (is, left) = absurd (none_and h.now _ none is)
  scan_one (scan.Stale n) scan.NoListing (stale, count, gone, same) (none, left, stays) = absurd (none_and h.now _ none stale)
  scan_one (scan.Stale n) (scan.Stale k) (stale, count, gone, same) (old, number, left, stays) = (ap scan.Stale (count ∙ sym number), gone ∙ sym left, same ∙ sym stays)
  scan_one (scan.Stale n) (scan.Bad k) (stale, count, gone, same) (bad, left, stays) = absurd (stale_not _ stale bad)
  scan_one (scan.Stale n) (scan.Changed k) (stale, count, gone, same) (is, left) = absurd (stale_not _ stale is)
  scan_one (scan.Bad n) scan.NoListing (bad, gone, same) (none, left, stays) = absurd (none_and h.now _ none bad)
  scan_one (scan.Bad n) (scan.Stale k) (bad, gone, same) (stale, count, left, stays) = absurd (stale_not _ stale bad)
  scan_one (scan.Bad n) (scan.Bad k) (bad, gone, same) (wrong, left, stays) =
      let number : n ≡ k = both_and h.now _ _ bad wrong (λ held p q. bad_one w.client.local.keys w.client.local.tree held.items n k p.1 q.1) in
      (ap scan.Bad number, gone ∙ sym left, same ∙ sym stays)
  scan_one (scan.Bad n) (scan.Changed k) (bad, gone, same) (is, left) =
      absurd (both_and h.now _ _ bad is (λ held p q. not_bad w.client.local.keys w.client.local.tree held.items n q.1.good p.1))
  scan_one (scan.Changed n) scan.NoListing (is, gone) (none, left, stays) = absurd (none_and h.now _ none is)
  scan_one (scan.Changed n) (scan.Stale k) (is, gone) (stale, count, left, stays) = absurd (stale_not _ stale is)
  scan_one (scan.Changed n) (scan.Bad k) (is, gone) (bad, left, stays) =
      absurd (both_and h.now _ _ bad is (λ held p q. not_bad w.client.local.keys w.client.local.tree held.items k q.1.good p.1))
  scan_one (scan.Changed n) (scan.Changed k) (is, gone) (was, left) =
      let one : (n ≡ k) × (v ≡ x) = both_and h.now _ _ is was (λ held p q. changed_one w local can held.items n k v x p.1 q.1) in
      (ap scan.Changed one.0, gone ∙ sym left, one.1)
