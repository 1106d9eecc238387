-- What a plan puts has names: those of the trees that it was made of, and free ones.
use Rattle.std.specs.Prelude.{if◌then◌else◌}
use Rattle.std.proofs.Common.{◌≡◌, ◌<◌, ◌+◌, ◌^◌, ℕ, Bool, true, false, List, Option, Some, None, sym, subst, inl, inr}
use Rattle.std.proofs.lemmas.Option.{none-some, same_Some}
use Rattle.std.specs.FinMap.{get}
use Rattle.nuc_base.specs.Names.{IsName}
use Rattle.nuc_base.specs.SamePlace.{same_name-equal}
use Rattle.nuc_base.specs.Trees.{Nodes, StandsAt}
use Rattle.nuc_base.specs.declared.change.Change.{Change}
use Rattle.nuc_base.specs.declared.change.Change.TheVariants.{Keep, Put, Cut}
use Rattle.nuc_base.specs.declared.node.Node.{Node}
use Rattle.nuc_base.specs.declared.node.Place.{Place}
use Rattle.nuc_class.specs.Equal.{place_eq}
use Rattle.nuc_class.specs.Merge.{target}
use Rattle.nuc_class.specs.Op.{operation}
use Rattle.nuc_class.specs.declared.op.Op.{Op}
use Rattle.nuc_class.specs.declared.op.Verb.{Verb}
use Rattle.nuc_class.specs.declared.op.Verb.TheVariants as verb
use Rattle.nuc_class.specs.declared.wishes.Wish.{Wish}
use Rattle.nuc_class.specs.declared.wishes.Wish.TheVariants as wish
use Rattle.nuc_conflict.specs.Facts.{AdoptionFacts, EvictionFacts, FactsOf, MoveBackFacts, RevivalFacts, SplitFacts}
use Rattle.nuc_conflict.specs.FitTogether.{FitBelow}
use Rattle.nuc_conflict.specs.FreeName.{IsFreeName, place_of}
use Rattle.nuc_conflict.specs.Mends.{IsMend, LeavesFor, cut_of}
use Rattle.nuc_conflict.proofs.MendFacts.{mends_have_facts}
use Rattle.nuc_fit.proofs.NamesForm.{Named, NamedChange, NamedOp, NamedValue}
use Rattle.nuc_fit.proofs.NamesFree.{free_is_name}

-- THE OPERATION of a wish
either_named : (first : Bool) (p q : Place) → IsName p.name → IsName q.name → IsName (if first then p else q).name
either_named true p q one two = one
either_named false p q one two = two

target_named : (r : Node) (l s : Option Node) → IsName r.place.name → NamedValue l → IsName (target r l s).place.name
target_named r None s of_r of_l = of_r
target_named r (Some l) None of_r of_l = of_r
target_named r (Some l) (Some s) of_r of_l = either_named (place_eq r.place s.place) l.place r.place of_l of_r

pub operation_named : (same : ℕ → ℕ → Bool) (w : Wish) (x : ℕ) (r l s : Option Node) (op : Op) → operation same w x r l s ≡ Some op → NamedValue r → NamedValue l → NamedOp op
operation_named same wish.Split x r l s op is of_r of_l = absurd (none-some op is)
operation_named same wish.Nothing x r l s op is of_r of_l = absurd (none-some op is)
operation_named same wish.Down x None l s op is of_r of_l = absurd (none-some op is)
operation_named same wish.Down x (Some r) l s op is of_r of_l =
    subst NamedOp (same_Some _ op is) (record { remote = tt; local = target_named r l s of_r of_l; synced = of_r })
operation_named same wish.Up x r None s op is of_r of_l = absurd (none-some op is)
operation_named same wish.Up x r (Some l) s op is of_r of_l = subst NamedOp (same_Some _ op is) (record { remote = of_l; local = tt; synced = of_l })
operation_named same wish.CutDown x r l s op is of_r of_l = subst NamedOp (same_Some _ op is) (record { remote = tt; local = tt; synced = tt })
operation_named same wish.CutUp x r l s op is of_r of_l = subst NamedOp (same_Some _ op is) (record { remote = tt; local = tt; synced = tt })
operation_named same wish.Forget x r l s op is of_r of_l = subst NamedOp (same_Some _ op is) (record { remote = tt; local = tt; synced = tt })

-- A MEND
leaves_named : (p e : Place) (o : Option Node) (c : Change) → IsName e.name → LeavesFor p e o c → NamedChange c
leaves_named p e (Some n) (Put node) its (near, is) = subst (λ (h : Node). IsName h.place.name) (sym is) its
leaves_named p e (Some n) Keep its leaves = tt
leaves_named p e (Some n) Cut its leaves = absurd leaves
leaves_named p e None (Put node) its leaves = absurd leaves
leaves_named p e None Keep its leaves = tt
leaves_named p e None Cut its leaves = absurd leaves

cut_of_named : (o : Option Node) → NamedChange (cut_of o)
cut_of_named None = tt
cut_of_named (Some n) = tt

module _ (same : ℕ → ℕ → Bool) (r l s : Nodes) (next : ℕ) (of_r : Named r) (of_l : Named l) (of_s : Named s) (fit : FitBelow r l s next)
    (few : next + (next + next) + 1 < 2 ^ 64) (op : Op) where
  free_named : (parent : ℕ) (name free : List ℕ) → IsName name → IsFreeName r l s parent name free → IsName free
  free_named = free_is_name r l s next fit.remote fit.local fit.synced few

  split_named : SplitFacts same r l s next op → NamedOp op
  split_named facts =
      let is = facts.carried in
      subst NamedOp (sym is.is) (record {
        remote = tt;
        local = free_named is.node.place.parent.0 is.node.place.name is.name (of_l op.id.0 is.node is.there) is.free;
        synced = cut_of_named (get s op.id.0);
      })

  -- the place that is to be free is that of a node
  place_named : (m : Nodes) (x : ℕ) (p : Place) → Named m → StandsAt m x p → IsName p.name
  place_named m x p named (n, at, same_place) = subst IsName (same_name-equal n.place.name p.name same_place.name) (named x n at)

  evicted_from : (facts : EvictionFacts same r l s op) → IsName facts.place.name
  evicted_from facts = elim facts.moved [
    | inl in_r ↦ place_named r op.id.0 facts.place of_r in_r
    | inr other ↦ elim other [
      | inl in_l ↦ place_named l op.id.0 facts.place of_l in_l
      | inr in_s ↦ place_named s op.id.0 facts.place of_s in_s
    ]
  ]

  evicted_named : EvictionFacts same r l s op → NamedOp op
  evicted_named facts =
      let is = facts.carried in
      let p = facts.place in
      let free : IsName is.name = free_named p.parent.0 p.name is.name (evicted_from facts) is.free in
      record {
        remote = leaves_named p (place_of p.parent.0 is.name) (get r op.id.0) op.remote free is.remote;
        local = leaves_named p (place_of p.parent.0 is.name) (get l op.id.0) op.local free is.local;
        synced = leaves_named p (place_of p.parent.0 is.name) (get s op.id.0) op.synced free is.synced;
      }

  adopted_named : AdoptionFacts same r l s op → NamedOp op
  adopted_named facts = let is = facts.carried in subst NamedOp (sym is.is) (record { remote = tt; local = of_r op.id.0 is.node is.there; synced = tt })

  revived_named : RevivalFacts r l s op → NamedOp op
  revived_named facts = let is = facts.carried in subst NamedOp (sym is.is) (record { remote = tt; local = of_r op.id.0 is.node is.there; synced = tt })

  moved_named : MoveBackFacts r l s op → NamedOp op
  moved_named facts = let is = facts.carried in subst NamedOp (sym is.is) (record { remote = tt; local = of_r op.id.0 is.node is.there; synced = tt })

  facts_named : (v : Verb) → FactsOf same r l s next op v → NamedOp op
  facts_named verb.Split facts = split_named facts
  facts_named verb.Evict facts = evicted_named facts
  facts_named verb.Adopt facts = adopted_named facts
  facts_named verb.Revive facts = revived_named facts
  facts_named verb.Unmove facts = moved_named facts
  facts_named verb.Down facts = absurd facts
  facts_named verb.Up facts = absurd facts
  facts_named verb.CutDown facts = absurd facts
  facts_named verb.CutUp facts = absurd facts
  facts_named verb.Forget facts = absurd facts

  pub mend_named : IsMend same r l s next op → NamedOp op
  mend_named is = facts_named op.verb (mends_have_facts same r l s next op fit is)
