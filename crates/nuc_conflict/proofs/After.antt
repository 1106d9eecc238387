-- Three trees fit together after a mend.
use Rattle.std.proofs.Common.{◌≡◌, ◌⊎◌, ◌<◌, ◌+◌, ℕ, Bool, Option, None, Some, refl, sym, ap, subst, ◌∙◌, inl, inr, arith}
use Rattle.std.specs.FinMap.{get}
use Rattle.nuc_base.specs.Changes.{changed}
use Rattle.nuc_base.specs.Legal.{SameKind}
use Rattle.nuc_base.specs.Renamed.{IsRenamed}
use Rattle.nuc_base.specs.Trees.{Nodes, OneKind}
use Rattle.nuc_base.specs.declared.change.Change.{Change}
use Rattle.nuc_base.specs.declared.change.Change.TheVariants.{Keep, Put, Cut}
use Rattle.nuc_base.specs.declared.node.Kind.{Kind}
use Rattle.nuc_base.specs.declared.node.Node.{Node}
use Rattle.nuc_base.specs.declared.node.Place.{Place}
use Rattle.nuc_base.proofs.Came.{Came, came_from}
use Rattle.nuc_base.proofs.Came.Came.{renamed, stood, child}
use Rattle.nuc_base.proofs.Changed.{get_changed_other, tree_after}
use Rattle.nuc_base.proofs.Maps.{after_cut, get_cut_same, get_put_same, not_both, one_node, same_or_not}
use Rattle.nuc_class.specs.Due.{FitsOp, IsLegalOp}
use Rattle.nuc_class.specs.declared.op.Op.{Op}
use Rattle.nuc_class.specs.declared.op.Verb.{Verb}
use Rattle.nuc_class.specs.declared.op.Verb.TheVariants as verb
use Rattle.nuc_conflict.specs.After.{ComesFor, IsLocalAfter}
use Rattle.nuc_conflict.specs.Facts.{AdoptionFacts, EvictionFacts, FactsOf, MoveBackFacts, RevivalFacts, SplitFacts}
use Rattle.nuc_conflict.specs.FitTogether.{FitBelow, IsBelow}
use Rattle.nuc_conflict.specs.Laws.{MendsKeepForm}
use Rattle.nuc_conflict.specs.Mends.{LeavesFor, cut_of}
use Rattle.nuc_conflict.proofs.Adoptions.{above_root}
use Rattle.nuc_conflict.proofs.MendFacts.{mends_have_facts}

-- a change puts no node of another kind
abbrev pub PutsKind : Change → Kind → Type 0
PutsKind Keep kind = Unit {0}
PutsKind (Put n) kind = n.kind ≡ kind
PutsKind Cut kind = Unit {0}

kind_after : (m : Nodes) (x : ℕ) (c : Change) (kind : Kind) → SameKind m x kind → PutsKind c kind → SameKind (changed m x c) x kind
kind_after m x Keep kind same puts n at = same n at
kind_after m x (Put node) kind same puts n at = ap (λ (h : Node). h.kind) (one_node (changed m x (Put node)) x n node at (get_put_same m x node)) ∙ puts
kind_after m x Cut kind same puts n at = absurd (not_both (changed m x Cut) x n (get_cut_same m x) at)

one_kind_after : (m k : Nodes) (x : ℕ) (c d : Change) (kind : Kind) → OneKind m k → SameKind (changed m x c) x kind → SameKind (changed k x d) x kind
    → OneKind (changed m x c) (changed k x d)
one_kind_after m k x c d kind one first second y n h e f = elim (same_or_not y x) [
  | inl s ↦
      first n (subst (λ z. get (changed m x c) z ≡ Some n) s e) ∙ sym (second h (subst (λ z. get (changed k x d) z ≡ Some h) s f))
  | inr apart ↦ one y n h (sym (get_changed_other m x c y apart) ∙ e) (sym (get_changed_other k x d y apart) ∙ f)
]

below_after : (m : Nodes) (x : ℕ) (c : Change) (next : ℕ) → IsBelow m next → x < next → IsBelow (changed m x c) (next + 1)
below_after m x c next below less y n at = elim (same_or_not y x) [
  | inl s ↦ omega (arith, s, less)
  | inr apart ↦ let was = below y n (sym (get_changed_other m x c y apart) ∙ at) in omega (arith, was)
]

below_next : (m : Nodes) (next : ℕ) → IsBelow m next → IsBelow m (next + 1)
below_next m next below y n at = let was = below y n at in omega (arith, was)

one_kind_sym : (m k : Nodes) → OneKind m k → OneKind k m
one_kind_sym m k one y n h e f = sym (one y h n f e)

-- the trees, known by equations
fit_as : (r l s a b c : Nodes) (next : ℕ) → a ≡ r → b ≡ l → c ≡ s → FitBelow r l s next → FitBelow a b c next
fit_as r l s a b c next first second third good =
    subst (λ m. FitBelow m b c next) (sym first)
    (subst (λ m. FitBelow r m c next) (sym second) (subst (λ m. FitBelow r l m next) (sym third) good))

-- one identity stands in some tree, and all three change it, each to a node of its kind
pub record ChangesOne (r l s : Nodes) (next : ℕ) (op : Op) : Type 0 where
  pub node : Node
  pub there : (get r op.id.0 ≡ Some node) ⊎ ((get l op.id.0 ≡ Some node) ⊎ (get s op.id.0 ≡ Some node))
  pub remote : PutsKind op.remote node.kind
  pub local : PutsKind op.local node.kind
  pub synced : PutsKind op.synced node.kind
  pub legal : IsLegalOp r l s op
  pub fits : FitsOp op

module _ (r l s : Nodes) (next : ℕ) (good : FitBelow r l s next) where
  abbrev pub Stands : ℕ → Node → Type 0
  Stands x n = (get r x ≡ Some n) ⊎ ((get l x ≡ Some n) ⊎ (get s x ≡ Some n))

  pub kind_in_remote : (x : ℕ) (n : Node) → Stands x n → SameKind r x n.kind
  kind_in_remote x n (inl at) h e = ap (λ (i : Node). i.kind) (one_node r x h n e at)
  kind_in_remote x n (inr (inl at)) h e = good.fit.remote_local x h n e at
  kind_in_remote x n (inr (inr at)) h e = good.fit.remote_synced x h n e at

  pub kind_in_local : (x : ℕ) (n : Node) → Stands x n → SameKind l x n.kind
  kind_in_local x n (inl at) h e = sym (good.fit.remote_local x n h at e)
  kind_in_local x n (inr (inl at)) h e = ap (λ (i : Node). i.kind) (one_node l x h n e at)
  kind_in_local x n (inr (inr at)) h e = good.fit.local_synced x h n e at

  kind_in_synced : (x : ℕ) (n : Node) → Stands x n → SameKind s x n.kind
  kind_in_synced x n (inl at) h e = sym (good.fit.remote_synced x n h at e)
  kind_in_synced x n (inr (inl at)) h e = sym (good.fit.local_synced x n h at e)
  kind_in_synced x n (inr (inr at)) h e = ap (λ (i : Node). i.kind) (one_node s x h n e at)

  pub counted : (x : ℕ) (n : Node) → Stands x n → (0 < x) × (x < next)
  counted x n (inl at) = (above_root r x n good.fit.remote at, good.remote x n at)
  counted x n (inr (inl at)) = (above_root l x n good.fit.local at, good.local x n at)
  counted x n (inr (inr at)) = (above_root s x n good.fit.synced at, good.synced x n at)

  pub changes_one : (op : Op) → ChangesOne r l s next op
      → FitBelow (changed r op.id.0 op.remote) (changed l op.id.0 op.local) (changed s op.id.0 op.synced) (next + 1)
  changes_one op one =
      let x : ℕ = op.id.0 in
      let range = counted x one.node one.there in
      let in_r = kind_after r x op.remote one.node.kind (kind_in_remote x one.node one.there) one.remote in
      let in_l = kind_after l x op.local one.node.kind (kind_in_local x one.node one.there) one.local in
      let in_s = kind_after s x op.synced one.node.kind (kind_in_synced x one.node one.there) one.synced in
      record {
        fit = record {
          remote = tree_after r x op.remote good.fit.remote range.0 one.fits.remote one.legal.remote;
          local = tree_after l x op.local good.fit.local range.0 one.fits.local one.legal.local;
          synced = tree_after s x op.synced good.fit.synced range.0 one.fits.synced one.legal.synced;
          remote_local = one_kind_after r l x op.remote op.local one.node.kind good.fit.remote_local in_r in_l;
          remote_synced = one_kind_after r s x op.remote op.synced one.node.kind good.fit.remote_synced in_r in_s;
          local_synced = one_kind_after l s x op.local op.synced one.node.kind good.fit.local_synced in_l in_s;
        };
        remote = below_after r x op.remote next good.remote range.1;
        local = below_after l x op.local next good.local range.1;
        synced = below_after s x op.synced next good.synced range.1;
      }

  -- what leaves a place keeps its kind
  leaves_kind : (p e : Place) (o : Option Node) (c : Change) (kind : Kind) → LeavesFor p e o c → ((n : Node) → o ≡ Some n → n.kind ≡ kind) → PutsKind c kind
  leaves_kind p e (Some n) (Put k) kind leaves same = ap (λ (h : Node). h.kind) leaves.1 ∙ same n refl
  leaves_kind p e (Some n) Keep kind leaves same = tt
  leaves_kind p e (Some n) Cut kind leaves same = absurd leaves
  leaves_kind p e None (Put k) kind leaves same = absurd leaves
  leaves_kind p e None Keep kind leaves same = tt
  leaves_kind p e None Cut kind leaves same = absurd leaves

  eviction_changes : (same : ℕ → ℕ → Bool) (op : Op) → EvictionFacts same r l s op → ChangesOne r l s next op
  eviction_changes same op facts =
      let who : (n : Node) × Stands op.id.0 n = elim facts.moved [
        | inl (n, at, near) ↦ (n, inl at)
        | inr below ↦ elim below [ inl (n, at, near) ↦ (n, inr (inl at)) | inr (n, at, near) ↦ (n, inr (inr at)) ]
      ] in
      let kind : Kind = who.0.kind in
      record {
        node = who.0;
        there = who.1;
        remote = leaves_kind _ _ (get r op.id.0) op.remote kind facts.carried.remote (kind_in_remote op.id.0 who.0 who.1);
        local = leaves_kind _ _ (get l op.id.0) op.local kind facts.carried.local (kind_in_local op.id.0 who.0 who.1);
        synced = leaves_kind _ _ (get s op.id.0) op.synced kind facts.carried.synced (kind_in_synced op.id.0 who.0 who.1);
        legal = facts.legal;
        fits = facts.fits;
      }

  revival_changes : (op : Op) → RevivalFacts r l s op → ChangesOne r l s next op
  revival_changes op facts =
      let node : Node = facts.carried.node in record {
        node = node;
        there = inl facts.carried.there;
        remote = subst (λ (o : Op). PutsKind o.remote node.kind) (sym facts.carried.is) tt;
        local = subst (λ (o : Op). PutsKind o.local node.kind) (sym facts.carried.is) refl;
        synced = subst (λ (o : Op). PutsKind o.synced node.kind) (sym facts.carried.is) tt;
        legal = facts.legal;
        fits = facts.fits;
      }

  move_back_changes : (op : Op) → MoveBackFacts r l s op → ChangesOne r l s next op
  move_back_changes op facts =
      let own : Node = facts.carried.own in record {
        node = own;
        there = inr (inl facts.carried.own_there);
        remote = subst (λ (o : Op). PutsKind o.remote own.kind) (sym facts.carried.is) tt;
        local = subst (λ (o : Op). PutsKind o.local own.kind) (sym facts.carried.is) refl;
        synced = subst (λ (o : Op). PutsKind o.synced own.kind) (sym facts.carried.is) tt;
        legal = facts.legal;
        fits = facts.fits;
      }

-- SPLIT
-- what stands in the one stands in the other
abbrev IsPart : Nodes → Nodes → Type 0
IsPart k m = (y : ℕ) (n : Node) → get k y ≡ Some n → get m y ≡ Some n

part_cut : (m : Nodes) (x : ℕ) (o : Option Node) → IsPart (changed m x (cut_of o)) m
part_cut m x None y n at = at
part_cut m x (Some k) y n at = (after_cut m x y n at).1

module _ (same : ℕ → ℕ → Bool) (r l s : Nodes) (next : ℕ) (good : FitBelow r l s next) (op : Op) (facts : SplitFacts same r l s next op) where
  abbrev with_copy : Nodes
  with_copy = changed l next op.local

  abbrev after_l : Nodes
  after_l = changed with_copy op.id.0 Cut

  abbrev after_s : Nodes
  after_s = changed s op.id.0 op.synced

  less : op.id.0 < next
  less = good.local op.id.0 facts.own facts.there

  part : IsPart after_s s
  part = subst (λ c. IsPart (changed s op.id.0 c) s) (sym (ap (λ (o : Op). o.synced) facts.carried.is)) (part_cut s op.id.0 (get s op.id.0))

  own_or_new : (y : ℕ) (n : Node) → get after_l y ≡ Some n → (y ≡ next) ⊎ (get l y ≡ Some n)
  own_or_new y n at = elim (same_or_not y next) [
    | inl s ↦ inl s
    | inr apart ↦ inr (sym (get_changed_other l next op.local y apart) ∙ (after_cut with_copy op.id.0 y n at).1)
  ]

  kinds_of_part : (m k : Nodes) → IsPart k m → OneKind m l → get m next ≡ None → OneKind k after_l
  kinds_of_part m k part one new y n h e f = elim (own_or_new y h f) [
    | inl s ↦ absurd (not_both m next n new (subst (λ z. get m z ≡ Some n) s (part y n e)))
    | inr was ↦ one y n h (part y n e) was
  ]

  split_keeps : FitBelow r after_l after_s (next + 1)
  split_keeps = record {
    fit = record {
      remote = good.fit.remote;
      local = tree_after with_copy op.id.0 Cut
          (tree_after l next op.local good.fit.local (omega (arith, less)) facts.fits.local facts.local_put)
          (above_root l op.id.0 facts.own good.fit.local facts.there) tt facts.local_cut;
      synced = tree_after s op.id.0 op.synced good.fit.synced (above_root l op.id.0 facts.own good.fit.local facts.there) facts.fits.synced facts.synced;
      remote_local = kinds_of_part r r (λ y n at. at) good.fit.remote_local facts.new_in_remote;
      remote_synced = λ y n h e f. good.fit.remote_synced y n h e (part y h f);
      local_synced = one_kind_sym after_s after_l
          (kinds_of_part s after_s part (one_kind_sym l s good.fit.local_synced) facts.new_in_synced);
    };
    remote = below_next r next good.remote;
    local = λ y n at. elim (own_or_new y n at) [
      | inl s ↦ omega (arith, s)
      | inr was ↦ let under = good.local y n was in omega (arith, under)
    ];
    synced = λ y n at. let under = good.synced y n (part y n at) in omega (arith, under);
  }

-- ADOPTION
module _ (same : ℕ → ℕ → Bool) (r l s : Nodes) (next : ℕ) (good : FitBelow r l s next) (op : Op) (facts : AdoptionFacts same r l s op)
    (k : Nodes) (comes : ComesFor l op.other.0 op.id.0 op.local k) where
  abbrev node : Node
  node = record facts.node { bit = facts.own.bit }

  is : IsRenamed l op.other.0 op.id.0 node k
  is =
      let named : facts.carried.node ≡ facts.node = one_node r op.id.0 facts.carried.node facts.node facts.carried.there facts.there in
      let owned : facts.carried.own ≡ facts.own = one_node l op.other.0 facts.carried.own facts.own facts.carried.own_there facts.own_there in
      let put : op.local ≡ Put (record facts.carried.node { bit = facts.carried.own.bit }) = ap (λ (o : Op). o.local) facts.carried.is in
      subst (λ (h : Node). IsRenamed l op.other.0 op.id.0 (record facts.node { bit = h.bit }) k) owned
      (subst (λ (h : Node). IsRenamed l op.other.0 op.id.0 (record h { bit = facts.carried.own.bit }) k) named
      (subst (λ c. ComesFor l op.other.0 op.id.0 c k) put comes))

  came_kind : (m : Nodes) → OneKind l m → SameKind m op.id.0 facts.node.kind → (w : ℕ) (g h : Node) → Came l op.other.0 op.id.0 node w g
      → get m w ≡ Some h → g.kind ≡ h.kind
  came_kind m one kind w g h (renamed e now) at = ap (λ (i : Node). i.kind) now ∙ sym (kind h (subst (λ z. get m z ≡ Some h) e at))
  came_kind m one kind w g h (stood other apart was off) at = one w g h was at
  came_kind m one kind w g h (child i other apart was e now) at = ap (λ (j : Node). j.kind) now ∙ one w i h was at

  kinds : (m : Nodes) → OneKind l m → SameKind m op.id.0 facts.node.kind → OneKind k m
  kinds m one kind w g h e f = came_kind m one kind w g h (came_from l op.other.0 op.id.0 node k is w g e) f

  came_below : (w : ℕ) (g : Node) → Came l op.other.0 op.id.0 node w g → w < next + 1
  came_below w g (renamed e now) = let under = good.remote op.id.0 facts.node facts.there in omega (arith, under, e)
  came_below w g (stood other apart was off) = let under = good.local w g was in omega (arith, under)
  came_below w g (child i other apart was e now) = let under = good.local w i was in omega (arith, under)

  adoption_keeps : FitBelow r k s (next + 1)
  adoption_keeps = record {
    fit = record {
      remote = good.fit.remote;
      local = facts.renamed k is;
      synced = good.fit.synced;
      remote_local = one_kind_sym k r
          (kinds r (one_kind_sym r l good.fit.remote_local) (λ h at. ap (λ (i : Node). i.kind) (one_node r op.id.0 h facts.node at facts.there)));
      remote_synced = good.fit.remote_synced;
      local_synced = kinds s good.fit.local_synced (λ h at. absurd (not_both s op.id.0 h facts.alone.1 at));
    };
    remote = below_next r next good.remote;
    local = λ w g at. came_below w g (came_from l op.other.0 op.id.0 node k is w g at);
    synced = below_next s next good.synced;
  }

module _ (same : ℕ → ℕ → Bool) (r l s : Nodes) (next : ℕ) (op : Op) (a b c : Nodes) (good : FitBelow r l s next)
    (remote : a ≡ changed r op.id.0 op.remote) (synced : c ≡ changed s op.id.0 op.synced) where
  abbrev Keeps : Type 0
  Keeps = FitBelow a b c (next + 1)

  of_one : ChangesOne r l s next op → b ≡ changed l op.id.0 op.local → Keeps
  of_one one local = fit_as _ _ _ a b c (next + 1) remote local synced (changes_one r l s next good op one)

  of_split : SplitFacts same r l s next op → b ≡ changed (changed l op.other.0 op.local) op.id.0 Cut → Keeps
  of_split facts local =
      let other : op.other.0 ≡ next = ap (λ (o : Op). o.other.0) facts.carried.is in
      let kept : op.remote ≡ Keep = ap (λ (o : Op). o.remote) facts.carried.is in
      fit_as _ _ _ a b c (next + 1) (remote ∙ ap (λ d. changed r op.id.0 d) kept)
      (local ∙ ap (λ z. changed (changed l z op.local) op.id.0 Cut) other) synced
      (split_keeps same r l s next good op facts)

  of_adoption : AdoptionFacts same r l s op → ComesFor l op.other.0 op.id.0 op.local b → Keeps
  of_adoption facts comes =
      let in_remote : op.remote ≡ Keep = ap (λ (o : Op). o.remote) facts.carried.is in
      let in_synced : op.synced ≡ Keep = ap (λ (o : Op). o.synced) facts.carried.is in
      fit_as _ _ _ a b c (next + 1) (remote ∙ ap (λ d. changed r op.id.0 d) in_remote) refl (synced ∙ ap (λ d. changed s op.id.0 d) in_synced)
      (adoption_keeps same r l s next good op facts b comes)

  by_verb : (v : Verb) → FactsOf same r l s next op v → IsLocalAfter v op l b → Keeps
  by_verb verb.Split facts local = of_split facts local
  by_verb verb.Evict facts local = of_one (eviction_changes r l s next good same op facts) local
  by_verb verb.Adopt facts local = of_adoption facts local
  by_verb verb.Revive facts local = of_one (revival_changes r l s next good op facts) local
  by_verb verb.Unmove facts local = of_one (move_back_changes r l s next good op facts) local
  by_verb verb.Down facts local = absurd facts
  by_verb verb.Up facts local = absurd facts
  by_verb verb.CutDown facts local = absurd facts
  by_verb verb.CutUp facts local = absurd facts
  by_verb verb.Forget facts local = absurd facts

pub mends_keep_form : MendsKeepForm
mends_keep_form same r l s next op a b c good mend after =
    by_verb same r l s next op a b c good after.remote after.synced op.verb (mends_have_facts same r l s next op good mend) after.local
