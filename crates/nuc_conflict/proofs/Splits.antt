-- A split is legal.
use Rattle.std.proofs.Common.{rules, ◌≡◌, ◌≢◌, ◌<◌, ℕ, Bool, Option, None, Some, List, refl, sym, ap, subst, ◌∙◌, inl, inr, arith}
use Rattle.std.specs.Prelude.{IsTrue}
use Rattle.std.specs.FinMap.{get, insert}
use Rattle.nuc_base.specs.Changes.{IsLegal, FitsChange}
use Rattle.nuc_base.specs.Legal.{LegalPut, LegalCut}
use Rattle.nuc_base.specs.Trees.{Nodes, IsUnder, NoChild, OneKind, WellFormed}
use Rattle.nuc_base.specs.Trees.Under.{here}
use Rattle.nuc_base.specs.declared.change.Change.TheVariants.{Put}
use Rattle.nuc_base.specs.declared.node.Kind.TheVariants.{Folder, File}
use Rattle.nuc_base.specs.declared.node.Node.{Node}
use Rattle.nuc_base.proofs.Alike.{under_absent}
use Rattle.nuc_base.proofs.Depths.{no_loop}
use Rattle.nuc_base.proofs.Maps.{after_put, get_put_other, one_node, not_both}
use Rattle.nuc_class.specs.Split.{needs_split}
use Rattle.nuc_class.specs.Wishes.{IsWish}
use Rattle.nuc_class.specs.declared.op.Effect.TheVariants.{Disk}
use Rattle.nuc_class.specs.declared.op.Verb.TheVariants as verb
use Rattle.nuc_class.specs.declared.wishes.Wish.TheVariants as wish
use Rattle.nuc_conflict.specs.Facts.{SplitFacts}
use Rattle.nuc_conflict.specs.FitTogether.{IsBelow}
use Rattle.nuc_conflict.specs.FreeName.{IsFreeName, place_of}
use Rattle.nuc_conflict.specs.Mends.{cut_of, local_mend}
use Rattle.nuc_conflict.proofs.Search.{split_there}

pub absent_next : (m : Nodes) (next : ℕ) → IsBelow m next → get m next ≡ None
absent_next m next below = by (get m next) refl
  where
    by : (o : Option Node) → get m next ≡ o → o ≡ None
    by None e = refl
    by (Some n) e = absurd (let less : next < next = below next n e in omega (arith, less))

-- a file has no children
pub childless_file : (m : Nodes) (x : ℕ) (n : Node) → WellFormed m → get m x ≡ Some n → n.kind ≡ File → NoChild m x
childless_file m x n form at file y k there child = elim (form.parents y k there) [
  | inl root ↦ not_both m 0 n form.no_root (subst (λ z. get m z ≡ Some n) (sym child ∙ root) at)
  | inr (p, e, folder) ↦
      let one : p ≡ n = one_node m x p n (subst (λ z. get m z ≡ Some p) child e) at in
      absurd (let no : Folder ≡ File = sym folder ∙ ap (λ (h : Node). h.kind) one ∙ file in cc)
]

-- what needs a split is a file
split_file : (same : ℕ → ℕ → Bool) (r l s : Option Node) (n : Node) → r ≡ Some n → IsTrue (needs_split same r l s) → n.kind ≡ File
split_file same (Some r) (Some l) s n at split = search rules
split_file same (Some r) None s n at split = absurd (cc)
split_file same None l s n at split = absurd (cc)

module _ (same : ℕ → ℕ → Bool) (r l s : Nodes) (next : ℕ) (local : WellFormed l) (synced : WellFormed s) (remote_local : OneKind r l)
    (local_synced : OneKind l s) (below_r : IsBelow r next) (below_l : IsBelow l next) (below_s : IsBelow s next)
    (x : ℕ) (node : Node) (name : List ℕ) (there : get l x ≡ Some node) (free : IsFreeName r l s node.place.parent.0 node.place.name name)
    (wished : IsWish same r l s x wish.Split) where
  copy : Node
  copy = record node { place = place_of node.place.parent.0 name }

  file : node.kind ≡ File
  file =
      let up = (split_there same r l s x wished).0 in
      sym (remote_local x up.0 node up.1 there) ∙ split_file same (get r x) (get l x) (get s x) up.0 up.1 wished

  put_copy : LegalPut l next copy
  unfolding copy
  put_copy = record {
    kind = λ n at. absurd (not_both l next n (absent_next l next below_l) at);
    parent = local.parents x node there;
    free = λ y n at near. absurd (free.unused.local y n at near);
    no_cycle = under_absent l next node.place.parent.0 local (let less = below_l x node there in omega (arith, less)) (local.parents x node there)
        (absent_next l next below_l);
  }

  apart : x ≢ next
  apart e = let less : x < next = below_l x node there in omega (arith, less, e)

  cut_after : LegalCut (insert l next copy) x
  unfolding copy
  cut_after = record {
    there = (node, get_put_other l next copy x apart ∙ there);
    empty = λ y n at child. elim (after_put l next copy y n at) [
      | inl (e, same_node) ↦
          let loop : node.place.parent.0 ≡ x = sym (ap (λ (h : Node). h.place.parent.0) same_node) ∙ child in
          no_loop l x node local there (subst (λ q. IsUnder l q x) (sym loop) here)
      | inr (other, was) ↦ childless_file l x node local there file y n was child
    ];
  }

  cut_synced : (o : Option Node) → get s x ≡ o → IsLegal s x (cut_of o)
  cut_synced None at = tt
  cut_synced (Some n) at = record { there = (n, at); empty = childless_file s x n synced at (sym (local_synced x node n there at) ∙ file) }

  cut_fits : (o : Option Node) → FitsChange (cut_of o)
  cut_fits None = tt
  cut_fits (Some n) = tt

  pub split_facts : SplitFacts same r l s next (local_mend verb.Split x next (Put (record node { place = place_of node.place.parent.0 name })) (cut_of (get s x)) (get l x) (get s x) Disk)
  unfolding copy
  split_facts = record {
    carried = record { node = node; name = name; there = there; free = free; is = refl };
    wished = wished;
    own = node;
    there = there;
    file = file;
    new_in_remote = absent_next r next below_r;
    new_in_local = absent_next l next below_l;
    new_in_synced = absent_next s next below_s;
    local_put = put_copy;
    local_cut = cut_after;
    synced = cut_synced (get s x) refl;
    fits = record { remote = tt; local = local.fits x node there; synced = cut_fits (get s x) };
  }
