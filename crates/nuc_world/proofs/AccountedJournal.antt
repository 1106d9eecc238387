-- From one revision of the journal to a later one a version stays with its identity, or is gone by.
use Rattle.std.specs.Prelude.{length, take, drop}
use Rattle.std.proofs.Common.{◌≡◌, ◌⊎◌, ◌-◌, ◌<◌, ◌≤◌, ◌++◌, ℕ, zero, suc, List, [], ◌∷◌, slice_get, Option, Some, None, MatchOption, refl, sym, ◌∙◌, ap, subst, inl, inr, arith}
use Rattle.std.proofs.lemmas.List.{length-drop, take-append-drop}
use Rattle.std.specs.FinMap.{empty, get}
use Rattle.nuc_base.specs.Trees.{Nodes}
use Rattle.nuc_base.specs.declared.node.Node.{Node}
use Rattle.nuc_base.proofs.Maps.{get_cut_other, get_put_other, get_put_same, same_or_not}
use Rattle.nuc_journal.specs.Entries.{kind_of, revision_of, tree_after, tree_of, with_value}
use Rattle.nuc_journal.specs.Journal.{IsJournal}
use Rattle.nuc_journal.specs.Laws.{GaveNode}
use Rattle.nuc_journal.specs.declared.entry.Entry.{Entry}
use Rattle.nuc_journal.proofs.Ends.{tree_after-append}
use Rattle.nuc_journal.proofs.Histories.{current_gave}
use Rattle.nuc_journal.proofs.Journals.{journal_front}
use Rattle.nuc_journal.proofs.Lists.{front_at, take_front}
use Rattle.nuc_replica.specs.Following.{IsAt, next_entries}
use Rattle.nuc_replica.specs.Remote.{Agree, RemoteState, caught_up, with_entries}
use Rattle.nuc_world.proofs.AccountedForm.{Has, IsVersion, Replaces}

pub value_same : (m : Nodes) (x v : ℕ) (o : Option Node) → IsVersion v o → Has (with_value m x o) x v
value_same m x v None is = absurd is
value_same m x v (Some n) is = subst (IsVersion v) (sym (get_put_same m x n)) is

pub value_other : (m : Nodes) (x y : ℕ) (o : Option Node) → ¬ (y ≡ x) → get (with_value m x o) y ≡ get m y
value_other m x y None apart = get_cut_other m x y apart
value_other m x y (Some n) apart = get_put_other m x n y apart

module _ (G : ℕ → Type 0) where
  pub kept_after : (es : List Entry) (m : Nodes) (x v : ℕ) → 0 < v → Replaces G m es → Has m x v → Has (tree_after m es) x v ⊎ G v
  kept_after [] m x v some is has = inl has
  kept_after (e ∷ es) m x v some (first, rest) has = elim (same_or_not x e.id.0) [
    | inl same ↦ elim (first v some (subst (λ y. Has m y v) same has)) [
      | inl now ↦ kept_after es (with_value m e.id.0 e.value) x v some rest
          (subst (λ y. Has (with_value m e.id.0 e.value) y v) (sym same) (value_same m e.id.0 v e.value now))
      | inr gone ↦ inr gone
    ]
    | inr apart ↦ kept_after es (with_value m e.id.0 e.value) x v some rest (subst (IsVersion v) (sym (value_other m e.id.0 x e.value apart)) has)
  ]

  pub replaces_push : (es : List Entry) (m : Nodes) (e : Entry) → Replaces G m es
      → ((v : ℕ) → 0 < v → Has (tree_after m es) e.id.0 v → IsVersion v e.value ⊎ G v) → Replaces G m (es ++ e ∷ [])
  replaces_push [] m e is last = (last, tt)
  replaces_push (f ∷ es) m e (first, rest) last = (first, replaces_push es (with_value m f.id.0 f.value) e rest last)

  pub replaces_drop : (n : ℕ) (es : List Entry) (m : Nodes) → Replaces G m es → Replaces G (tree_after m (take n es)) (drop n es)
  replaces_drop zero es m is = is
  replaces_drop (suc n) [] m is = tt
  replaces_drop (suc n) (e ∷ es) m (first, rest) = replaces_drop n es (with_value m e.id.0 e.value) rest

  pub replaces_take : (n : ℕ) (es : List Entry) (m : Nodes) → Replaces G m es → Replaces G m (take n es)
  replaces_take zero es m is = tt
  replaces_take (suc n) [] m is = tt
  replaces_take (suc n) (e ∷ es) m (first, rest) = (first, replaces_take n es (with_value m e.id.0 e.value) rest)

  -- what agrees with the journal as far as it goes
  replaces_agree : (known es : List Entry) (m : Nodes) → Agree known es → length known ≤ length es → Replaces G m es → Replaces G m known
  replaces_agree [] es m agree few is = tt
  replaces_agree (k ∷ known) [] m agree few is = absurd (omega (arith, few))
  replaces_agree (k ∷ known) (e ∷ es) m (same, agree) few (first, rest) =
      subst (λ (f : Entry). ((v : ℕ) → 0 < v → Has m f.id.0 v → IsVersion v f.value ⊎ G v) × Replaces G (with_value m f.id.0 f.value) known) (sym same)
      (first, replaces_agree known es (with_value m e.id.0 e.value) agree (omega (arith, few)) rest)

  -- at a revision, and at the last
  pub later_has : (es : List Entry) (n x v : ℕ) → 0 < v → Replaces G empty es → Has (tree_of (take n es)) x v → Has (tree_of es) x v ⊎ G v
  later_has es n x v some is has =
      let whole : tree_after (tree_of (take n es)) (drop n es) ≡ tree_of es = sym (tree_after-append empty (take n es) (drop n es)) ∙ ap tree_of (take-append-drop n es) in
      elim (kept_after (drop n es) (tree_of (take n es)) x v some (replaces_drop n es empty is) has) [
        | inl now ↦ inl (subst (λ m. Has m x v) whole now)
        | inr gone ↦ inr gone
      ]

  -- and at any other behind it
  pub between_has : (es : List Entry) (a b x v : ℕ) → a ≤ b → 0 < v → Replaces G empty es → Has (tree_of (take a es)) x v → Has (tree_of (take b es)) x v ⊎ G v
  between_has es a b x v le some is has =
      later_has (take b es) a x v some (replaces_take b es empty is) (subst (λ fs. Has (tree_of fs) x v) (sym (take_front a b es le)) has)

  -- A REMOTE at its cursor, after entries of the journal
  module _ (es : List Entry) (s : RemoteState) (is : Replaces G empty es) (at : IsAt es s) where
    rest_replaces : Replaces G s.tree (drop s.cursor es)
    rest_replaces = subst (λ m. Replaces G m (drop s.cursor es)) (sym at.tree) (replaces_drop s.cursor es empty is)

    pub next_has : (n x v : ℕ) → 0 < v → Has s.tree x v → Has (with_entries s (next_entries es s n)).tree x v ⊎ G v
    next_has n x v some has = kept_after (next_entries es s n) s.tree x v some (replaces_take n (drop s.cursor es) s.tree rest_replaces) has

    pub caught_up_has : (rev x v : ℕ) → 0 < v → Has s.tree x v → Has (caught_up rev s).tree x v ⊎ G v
    caught_up_has rev x v some has =
        let size = length-drop s.cursor es in
        let old = at.within in
        kept_after (take (rev - s.cursor) s.ahead) s.tree x v some
        (replaces_take (rev - s.cursor) s.ahead s.tree (replaces_agree s.ahead (drop s.cursor es) s.tree at.ahead (omega (arith, size, old)) rest_replaces)) has

pub replaces_map : (G H : ℕ → Type 0) → ((v : ℕ) → G v → H v) → (es : List Entry) (m : Nodes) → Replaces G m es → Replaces H m es
replaces_map G H each [] m is = tt
replaces_map G H each (e ∷ es) m (first, rest) =
    (λ v some has. elim (first v some has) [ inl now ↦ inl now | inr gone ↦ inr (each v gone) ], replaces_map G H each es (with_value m e.id.0 e.value) rest)

-- ONE REVISION, ONE NODE. What x has at a revision that is current still is what it has now
module _ (es : List Entry) (journal : IsJournal es) (n x : ℕ) (same : revision_of (take n es) x ≡ revision_of es x) where
  abbrev Gave : List Entry → ℕ → Option Node → Type 0
  Gave fs rev o = MatchOption o (rev ≡ 0) (λ (h : Node). GaveNode fs rev x h × (kind_of fs x ≡ Some h.kind))

  by_both : (o p : Option Node) → Gave (take n es) (revision_of (take n es) x) o → Gave es (revision_of es x) p → o ≡ p
  by_both None None is also = refl
  by_both None (Some h) none ((e, some, at, id, value), kind) = absurd (omega (arith, none, same, some))
  by_both (Some h) None ((e, some, at, id, value), kind) none = absurd (omega (arith, none, same, some))
  by_both (Some h) (Some g) ((e, some, at, id, value), kind) ((f, more, there, own, put), old) =
      let first : slice_get es (revision_of (take n es) x - 1) ≡ Some e = (front_at es n (revision_of (take n es) x - 1) e at).0 in
      let second : slice_get es (revision_of (take n es) x - 1) ≡ Some f = ap (λ rev. slice_get es (rev - 1)) same ∙ there in
      let one : e ≡ f = cc in
      sym value ∙ ap (λ (i : Entry). i.value) one ∙ put

  pub one_revision : get (tree_of (take n es)) x ≡ get (tree_of es) x
  one_revision = by_both (get (tree_of (take n es)) x) (get (tree_of es) x) (current_gave (take n es) x (journal_front es n journal)) (current_gave es x journal)
