-- An entry more: what all share is sound with it where its node is known.
use Rattle.std.specs.Prelude.{All}
use Rattle.std.proofs.Common.{◌≡◌, ◌<◌, ◌≤◌, ◌+◌, ◌-◌, ◌==◌, ◌++◌, ℕ, cond, List, [], ◌∷◌, slice_get, Option, Some, MatchOption, refl, sym, ◌∙◌, ap, subst, inl, inr, arith}
use Rattle.std.proofs.lemmas.Bool.Decides.{eqb_tells}
use Rattle.std.proofs.lemmas.List.{append-nil}
use Rattle.std.specs.FinMap.{get}
use Rattle.nuc_base.specs.declared.node.Kind.{Kind}
use Rattle.nuc_base.specs.declared.node.Node.{Node}
use Rattle.nuc_edits.specs.Edits.{IsNext}
use Rattle.nuc_edits.specs.declared.edit.Edit.{Edit}
use Rattle.nuc_journal.specs.Entries.{kind_of, revision_of, tree_of}
use Rattle.nuc_journal.specs.Journal.{IsJournal}
use Rattle.nuc_journal.specs.Laws.{GaveNode}
use Rattle.nuc_journal.specs.declared.entry.Entry.{Entry}
use Rattle.nuc_journal.proofs.Histories.{current_gave}
use Rattle.nuc_journal.proofs.Lists.{push_cases}
use Rattle.nuc_server.specs.WebEdits.{IsNextId, WebState}
use Rattle.nuc_step.specs.Holdings.{EntryBrings, IsOf}
use Rattle.nuc_world.specs.Form.{IsKnown, IsShared}
use Rattle.nuc_world.proofs.Grown.{Grows, Passes, known_grown}
use Rattle.nuc_world.proofs.Items.{all_append, all_front, all_get, all_map, all_none}

-- THE NEXT VERSION after an edit more
pub next_entered : (edits : List Edit) (e : Edit) → IsNext e.ver.0 edits → IsNext (e.ver.0 + 1) (edits ++ e ∷ [])
next_entered edits e next = record {
  some = omega arith;
  above = all_append (λ edit. edit.ver.0 < e.ver.0 + 1) edits (e ∷ [])
      (all_map (λ edit. edit.ver.0 < e.ver.0) (λ edit. edit.ver.0 < e.ver.0 + 1) (λ edit below. omega (arith, below)) edits next.above)
      (all_front (λ edit. edit.ver.0 < e.ver.0 + 1) e [] (omega arith) (all_none (λ edit. edit.ver.0 < e.ver.0 + 1)));
}

-- WHAT STANDS in the server's tree an entry gave
module _ (s : WebState) (kinds : ℕ → Kind) (shared : IsShared s kinds) where
  gave_known : (rev x : ℕ) (n : Node) → GaveNode s.entries rev x n → IsKnown s kinds x n.kind n.ver.0
  gave_known rev x n (e, some, at, id, value) =
      all_get (λ e. EntryBrings x n.kind n.ver.0 e → IsKnown s kinds x n.kind n.ver.0) s.entries (rev - 1) e (shared.entries x n.kind n.ver.0) at
      (id, subst (IsOf n.kind n.ver.0) (sym value) (refl, refl))

  pub stands_known : (x : ℕ) (n : Node) → get (tree_of s.entries) x ≡ Some n → IsKnown s kinds x n.kind n.ver.0
  stands_known x n at =
      let gave = subst (λ (o : Option Node). MatchOption o (revision_of s.entries x ≡ 0) (λ h. GaveNode s.entries (revision_of s.entries x) x h × (kind_of s.entries x ≡ Some h.kind))) at
      (current_gave s.entries x shared.journal) in
      gave_known (revision_of s.entries x) x n gave.0

-- THE IDENTITY of a new entry is below the next
pub next_id_entered : (es : List Entry) (e : Entry) (before after : ℕ) → IsNextId before es → before ≤ after → e.id.0 < after → IsNextId after (es ++ e ∷ [])
next_id_entered es e before after next later below = record {
  some = let old = next.some in omega (arith, old, later);
  above = λ k f at. elim (push_cases es e k f at) [
    | inl (lt, old) ↦ let under = next.above k f old in omega (arith, under, later)
    | inr (end, same) ↦ subst (λ (g : Entry). g.id.0 < after) same below
  ];
}

-- what all share, with an entry more whose node is known
module _ (s t : WebState) (kinds later : ℕ → Kind) (shared : IsShared s kinds) (grows : Grows s t kinds later) (e : Entry) (now : t.entries ≡ s.entries ++ e ∷ [])
    (journal : IsJournal t.entries) (below : e.id.0 < t.ids.next_id) (next_ver : IsNext t.ids.next_ver t.edits.edits)
    (known : (x : ℕ) (k : Kind) (v : ℕ) → EntryBrings x k v e → IsKnown t later x k v) where
  pub entry_passes : Passes s t kinds
  entry_passes = record {
    later = later;
    grows = grows;
    more = e ∷ [];
    entries = now;
    shared = record {
      journal = journal;
      next_id = subst (IsNextId t.ids.next_id) (sym now) (next_id_entered s.entries e s.ids.next_id t.ids.next_id shared.next_id grows.below below);
      next_ver = next_ver;
      entries = λ x k v. subst (All (λ f. EntryBrings x k v f → IsKnown t later x k v)) (sym now)
          (all_append (λ f. EntryBrings x k v f → IsKnown t later x k v) s.entries (e ∷ [])
          (all_map (λ f. EntryBrings x k v f → IsKnown s kinds x k v) (λ f. EntryBrings x k v f → IsKnown t later x k v)
          (λ f old brings. known_grown s t kinds later grows x k v (old brings)) s.entries (shared.entries x k v))
          (all_front (λ f. EntryBrings x k v f → IsKnown t later x k v) e [] (known x k v) (all_none (λ f. EntryBrings x k v f → IsKnown t later x k v))));
    };
  }

-- no entry more
module _ (s t : WebState) (kinds later : ℕ → Kind) (shared : IsShared s kinds) (grows : Grows s t kinds later) (now : t.entries ≡ s.entries)
    (next_ver : IsNext t.ids.next_ver t.edits.edits) where
  pub no_entry_passes : Passes s t kinds
  no_entry_passes = record {
    later = later;
    grows = grows;
    more = [];
    entries = now ∙ sym (append-nil s.entries);
    shared = record {
      journal = subst IsJournal (sym now) shared.journal;
      next_id = record {
        some = let old = shared.next_id.some in let more = grows.below in omega (arith, old, more);
        above = λ k f at. let under = shared.next_id.above k f (subst (λ es. slice_get es k ≡ Some f) now at) in let more = grows.below in omega (arith, under, more);
      };
      next_ver = next_ver;
      entries = λ x k v. subst (All (λ f. EntryBrings x k v f → IsKnown t later x k v)) (sym now)
          (all_map (λ f. EntryBrings x k v f → IsKnown s kinds x k v) (λ f. EntryBrings x k v f → IsKnown t later x k v)
          (λ f old brings. known_grown s t kinds later grows x k v (old brings)) s.entries (shared.entries x k v));
    };
  }

  pub no_entry_later : no_entry_passes.later ≡ later
  unfolding no_entry_passes
  no_entry_later = refl

-- KINDS with that of one identity more
abbrev pub with_kind : (ℕ → Kind) → ℕ → Kind → ℕ → Kind
with_kind kinds x k y = cond (y == x) k (kinds y)

pub with_kind_own : (kinds : ℕ → Kind) (x : ℕ) (k : Kind) → with_kind kinds x k x ≡ k
with_kind_own kinds x k = elim (eqb_tells x x) [ inl (hits, same) ↦ ap (λ b. cond b k (kinds x)) hits | inr (miss, apart) ↦ absurd (apart refl) ]

pub with_kind_below : (kinds : ℕ → Kind) (x : ℕ) (k : Kind) (y : ℕ) → y < x → with_kind kinds x k y ≡ kinds y
with_kind_below kinds x k y below = elim (eqb_tells y x) [
  | inl (hits, same) ↦ absurd (omega (arith, below, same))
  | inr (miss, apart) ↦ ap (λ b. cond b k (kinds y)) miss
]
