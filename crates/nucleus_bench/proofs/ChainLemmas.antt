-- One more folder in the last one.
use Rattle.std.proofs.Common.{◌≡◌, ◌+◌, ◌==◌, ℕ, true, false, cond, List, [], ◌∷◌, ◌++◌, length, Option, Some, None, IfSome, refl, sym, ◌∙◌, ap, subst, inl, inr, arith, length-append}
use Rattle.std.specs.FinMap.{get, insert, empty, get-empty}
use Rattle.std.specs.Ordering.{nat_cmp}
use Rattle.nuc_base.specs.Kinds.{FitsKind}
use Rattle.nuc_base.specs.Trees.{Nodes, IsFolder}
use Rattle.nuc_base.specs.declared.node.Kind.{Kind}
use Rattle.nuc_base.specs.declared.node.Kind.TheVariants.{Folder}
use Rattle.nuc_base.specs.declared.node.Node.{Node}
use Rattle.nuc_base.proofs.Alike.{under_absent}
use Rattle.nuc_base.proofs.Maps.{after_put, get_put_same, get_put_other, not_both}
use Rattle.nuc_journal.specs.Entries.{kind_of, tree_of}
use Rattle.nuc_journal.specs.Journal.{HadKind, IsJournal, IsNextEntry}
use Rattle.nuc_journal.specs.declared.entry.Entry.{Entry}
use Rattle.nuc_journal.proofs.Ends.{kind_push, tree_push}
use Rattle.nuc_journal.proofs.Journals.{form_of, journal_none}
use Rattle.nucleus_bench.specs.Chain.{IsChain}

pub chain_none : IsChain []
chain_none = record {
  journal = journal_none;
  parents = λ x n e. absurd (not_both empty x n (get-empty nat_cmp x) e);
  last = inl refl;
  beyond = λ x _. get-empty nat_cmp x;
  kinds = λ x. tt;
}

-- a folder in the last one, under the next identity
abbrev pub next_folder : ℕ → Node → Entry
next_folder rev n = record { rev = rev; id = record { 0 = rev }; value = Some n; by = 1 }

module _ (es : List Entry) (rev : ℕ) (n : Node) (chain : IsChain es) (is_rev : rev ≡ length es + 1) (kind : n.kind ≡ Folder) (parent : n.place.parent.0 ≡ length es) where
  gone : get (tree_of es) rev ≡ None
  gone = chain.beyond rev (omega (arith, is_rev))

  in_last : IsFolder (tree_of es) n.place.parent.0
  in_last = subst (IsFolder (tree_of es)) (sym parent) chain.last

  pub chain_next : FitsKind n → IsNextEntry es (next_folder rev n)
  chain_next fits = record {
    rev = is_rev;
    id = omega (arith, is_rev);
    kind = subst (HadKind es rev) (sym kind) (chain.kinds rev);
    legal = (
      fits,
      record {
        kind = λ k e. absurd (not_both (tree_of es) rev k gone e);
        parent = in_last;
        free = λ y k e same. omega (arith, chain.parents y k e, same.parent, parent, is_rev);
        no_cycle = under_absent (tree_of es) rev n.place.parent.0 (form_of es chain.journal) (omega (arith, is_rev)) in_last gone;
      },
    );
  }

  tree_after_it : tree_of (es ++ next_folder rev n ∷ []) ≡ insert (tree_of es) rev n
  tree_after_it = tree_push es (next_folder rev n)

  stands : get (tree_of (es ++ next_folder rev n ∷ [])) rev ≡ Some n
  stands = ap (λ (m : Nodes). get m rev) tree_after_it ∙ get_put_same (tree_of es) rev n

  longer : length (es ++ next_folder rev n ∷ []) ≡ rev
  longer = length-append es (next_folder rev n ∷ []) ∙ omega (arith, is_rev)

  kind_after : (x : ℕ) → HadKind (es ++ next_folder rev n ∷ []) x Folder
  kind_after x =
      subst (λ (k : Option Kind). IfSome k (λ k. k ≡ Folder)) (sym (kind_push es (next_folder rev n) x))
      (elim (rev == x) as (λ t. IfSome (cond t (Some n.kind) (kind_of es x)) (λ k. k ≡ Folder)) [
        | true ↦ kind
        | false ↦ chain.kinds x
      ])

  pub chain_push : IsJournal (es ++ next_folder rev n ∷ []) → IsChain (es ++ next_folder rev n ∷ [])
  chain_push journal = record {
    journal = journal;
    parents = λ x k e. elim (after_put (tree_of es) rev n x k (sym (ap (λ (m : Nodes). get m x) tree_after_it) ∙ e)) [
      | inl (here, same) ↦ omega (arith, here, ap (λ (k : Node). k.place.parent.0) same, parent, is_rev)
      | inr (apart, old) ↦ chain.parents x k old
    ];
    last = inr (n, ap (get (tree_of (es ++ next_folder rev n ∷ []))) longer ∙ stands, kind);
    beyond = λ x past. ap (λ (m : Nodes). get m x) tree_after_it
        ∙ get_put_other (tree_of es) rev n x (λ same. omega (arith, same, past, longer))
        ∙ chain.beyond x (omega (arith, past, longer, is_rev));
    kinds = kind_after;
  }
