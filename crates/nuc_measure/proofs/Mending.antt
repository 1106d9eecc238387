-- A mend lowers what is carried.
use Rattle.std.proofs.Common.{◌≡◌, ◌≢◌, ◌<◌, ℕ, Bool, true, false, Option, None, Some, refl, sym, ap, subst, ◌∙◌, inl, inr, arith}
use Rattle.std.specs.FinMap.{get, insert, remove}
use Rattle.std.proofs.lemmas.Option.{same_Some}
use Rattle.nuc_base.specs.Changes.{changed}
use Rattle.nuc_base.specs.Renamed.{IsRenamed}
use Rattle.nuc_base.specs.SamePlace.{SamePlace}
use Rattle.nuc_base.specs.Trees.{Nodes, IsFolder, NoChild, WellFormed}
use Rattle.nuc_base.specs.declared.change.Change.{Change}
use Rattle.nuc_base.specs.declared.change.Change.TheVariants.{Keep, Put, Cut}
use Rattle.nuc_base.specs.declared.node.Kind.TheVariants.{Folder, File}
use Rattle.nuc_base.specs.declared.node.Node.{Node}
use Rattle.nuc_base.specs.declared.node.Place.{Place}
use Rattle.nuc_base.proofs.Changed.{get_changed_other}
use Rattle.nuc_base.proofs.Maps.{get_cut_other, get_cut_same, get_put_other, get_put_same, not_both, one_node}
use Rattle.nuc_class.specs.Split.{needs_split}
use Rattle.nuc_class.specs.declared.op.Op.{Op}
use Rattle.nuc_class.specs.declared.op.Verb.{Verb}
use Rattle.nuc_class.specs.declared.op.Verb.TheVariants as verb
use Rattle.nuc_conflict.specs.After.{AreAfter, ComesFor, IsLocalAfter}
use Rattle.nuc_conflict.specs.Facts.{AdoptionFacts, EvictionFacts, FactsOf, MoveBackFacts, RevivalFacts, SplitFacts}
use Rattle.nuc_conflict.specs.FitTogether.{FitBelow}
use Rattle.nuc_conflict.specs.FreeName.{place_of}
use Rattle.nuc_conflict.specs.Mends.{IsSplit, LeavesFor, cut_of}
use Rattle.nuc_conflict.proofs.Adoptions.{above_root}
use Rattle.nuc_measure.specs.Laws.{MendsLower}
use Rattle.nuc_measure.specs.Pays.{NoMoreFlies, Lowers}
use Rattle.nuc_measure.proofs.Adoptions.{Adopts, adopt_others, pay_adopt}
use Rattle.nuc_measure.proofs.Carried.{pair_lowers, pays_lowers}
use Rattle.nuc_measure.proofs.Evictions.{Evicts, pay_evict}
use Rattle.nuc_measure.proofs.Returns.{pay_return}
use Rattle.nuc_measure.proofs.Splits.{SplitsOff, pay_split, split_others}
use Rattle.nuc_measure.proofs.Steps.{childless, none_some}

module _ (same : ℕ → ℕ → Bool) (fly now : ℕ → Bool) (flies : NoMoreFlies fly now) (r l s nr nl ns : Nodes) (op : Op) where
  abbrev x : ℕ
  x = op.id.0

  -- the trees after, known by equations
  lowers_as : (a b c : Nodes) → nr ≡ a → nl ≡ b → ns ≡ c → Lowers same fly r l s now a b c → Lowers same fly r l s now nr nl ns
  lowers_as a b c in_r in_l in_s lowers =
      subst (λ m. Lowers same fly r l s now m nl ns) (sym in_r)
      (subst (λ m. Lowers same fly r l s now a m ns) (sym in_l) (subst (λ m. Lowers same fly r l s now a b m) (sym in_s) lowers))

  -- a file has no children
  file_leaf : (m : Nodes) (y : ℕ) (n : Node) → WellFormed m → get m y ≡ Some n → n.kind ≡ File → NoChild m y
  file_leaf m y n form at file z h there e = by (form.parents z h there)
    where
      by : IsFolder m h.place.parent.0 → ⊥
      by (inl root) = not_both m y n (subst (λ q. get m q ≡ None) (sym root ∙ e) form.no_root) at
      by (inr (k, stands, folder)) =
          let is : k ≡ n = one_node m y k n (subst (λ q. get m q ≡ Some k) e stands) at in
          let clash : Folder ≡ File = sym folder ∙ ap (λ (i : Node). i.kind) is ∙ file in
          cc

  module _ (next : ℕ) (good : FitBelow r l s next) (after : AreAfter r l s op nr nl ns) where
    -- Remote isn't written
    remote_stays : op.remote ≡ Keep → nr ≡ r
    remote_stays keep = after.remote ∙ ap (changed r x) keep

    synced_stays : op.synced ≡ Keep → ns ≡ s
    synced_stays keep = after.synced ∙ ap (changed s x) keep

    stands_in_remote : (o l' s' : Option Node) → needs_split same o l' s' ≡ true → (n : Node) × (o ≡ Some n)
    stands_in_remote None l' s' e = absurd (let clash : false ≡ true = e in cc)
    stands_in_remote (Some n) l' s' e = (n, refl)

    cut_gone : (o : Option Node) → get s x ≡ o → get (changed s x (cut_of o)) x ≡ None
    cut_gone None e = e
    cut_gone (Some n) e = get_cut_same s x

    module _ (facts : SplitFacts same r l s next op) where
      abbrev made : IsSplit r l s next x op
      made = facts.carried

      abbrev own : Node
      own = facts.carried.node

      abbrev copy : Node
      copy = record own { place = place_of own.place.parent.0 facts.carried.name }

      abbrev nl' : Nodes
      nl' = remove (insert l next copy) x

      abbrev ns' : Nodes
      ns' = changed s x (cut_of (get s x))

      off : x ≢ next
      off e = let less = good.local x own facts.carried.there in omega (arith, e, less)

      in_local : nl ≡ changed (changed l op.other.0 op.local) x Cut → nl ≡ nl'
      in_local local = local ∙ ap (λ (o : Op). remove (changed l o.other.0 o.local) x) facts.carried.is

      node : (n : Node) × (get r x ≡ Some n)
      node = stands_in_remote (get r x) (get l x) (get s x) facts.wished

      cut : needs_split same (Some node.0) (Some own) (get s x) ≡ true
      cut = subst (λ o. needs_split same (Some node.0) o (get s x) ≡ true) facts.carried.there
          (subst (λ o. needs_split same o (get l x) (get s x) ≡ true) node.1 facts.wished)

      own_file : own.kind ≡ File
      own_file = ap (λ (n : Node). n.kind) (one_node l x own facts.own facts.carried.there facts.there) ∙ facts.file

      above : 0 < next
      above = let less = good.local x own facts.carried.there in omega (arith, less)

      splits : SplitsOff r l s nl' ns' x next own copy
      splits = record {
        apart = off;
        there = facts.carried.there;
        came = get_cut_other (insert l next copy) x next (λ e. off (sym e)) ∙ get_put_same l next copy;
        parent = refl;
        gone = get_cut_same (insert l next copy) x;
        gone_too = cut_gone (get s x) refl;
        new_r = facts.new_in_remote;
        new_l = facts.new_in_local;
        new_s = facts.new_in_synced;
        local = λ w off_x off_z. get_cut_other (insert l next copy) x w off_x ∙ get_put_other l next copy w off_z;
        synced = λ w off_x. get_changed_other s x (cut_of (get s x)) w off_x;
        free_r = facts.carried.free.unused.remote;
        free_s = facts.carried.free.unused.synced;
        leaf_r = file_leaf r x node.0 good.fit.remote node.1 (good.fit.remote_local x node.0 own node.1 facts.carried.there ∙ own_file);
        leaf_l = file_leaf l x own good.fit.local facts.carried.there own_file;
        new_leaf_r = childless r next good.fit.remote above facts.new_in_remote;
      }

      split_lowers : nl ≡ changed (changed l op.other.0 op.local) x Cut → Lowers same fly r l s now nr nl ns
      split_lowers local = lowers_as r (remove (insert l next copy) x) (changed s x (cut_of (get s x)))
          (remote_stays (ap (λ (o : Op). o.remote) made.is)) (in_local local) (after.synced ∙ ap (λ (o : Op). changed s x o.synced) made.is)
          (pair_lowers same fly now flies r l s r (remove (insert l next copy) x) (changed s x (cut_of (get s x))) x next off
          (pay_split r l s nl' ns' x next own copy splits same fly now flies node.0 node.1 cut)
          (split_others r l s nl' ns' x next own copy splits same fly now flies node.0 node.1 cut))

    written : (p e : Place) (o : Option Node) (c : Change) (n : Node) → LeavesFor p e o c → o ≡ Some n → SamePlace n.place p → c ≢ Keep
    written p e None c n leaves at near keep = none_some n None refl at
    written p e (Some k) c n leaves at near keep =
        let stays : ¬ (SamePlace k.place p) = subst (λ d. LeavesFor p e (Some k) d) keep leaves in
        stays (subst (λ (h : Node). SamePlace h.place p) (sym (same_Some k n at)) near)

    module _ (facts : EvictionFacts same r l s op) (agrees : op.remote ≢ Keep → get s x ≡ get r x) where
      abbrev p : Place
      p = facts.place

      abbrev e : Place
      e = place_of facts.place.parent.0 facts.carried.name

      evicts : Evicts r l s x p e op.remote op.local op.synced
      evicts = record {
        remote = facts.carried.remote;
        local = facts.carried.local;
        synced = facts.carried.synced;
        free_r = facts.carried.free.unused.remote;
        free_l = facts.carried.free.unused.local;
        free_s = facts.carried.free.unused.synced;
        parent = refl;
        holder = facts.holder;
        other = facts.other;
        kept = facts.kept;
        moved = facts.moved;
        agreed = λ n at near. agrees (written p e (get r x) op.remote n facts.carried.remote at near) ∙ at;
      }

      evict_lowers : nl ≡ changed l x op.local → Lowers same fly r l s now nr nl ns
      evict_lowers local =
          lowers_as (changed r x op.remote) (changed l x op.local) (changed s x op.synced) after.remote local after.synced
          (pays_lowers same fly now flies r l s (changed r x op.remote) (changed l x op.local) (changed s x op.synced) x
          (pay_evict r l s x p e op.remote op.local op.synced good.fit evicts same fly now flies))

    module _ (facts : AdoptionFacts same r l s op) (comes : ComesFor l op.other.0 x op.local nl) where
      abbrev y : ℕ
      y = op.other.0

      abbrev new : Node
      new = record facts.node { bit = facts.own.bit }

      is_node : facts.carried.node ≡ facts.node
      is_node = one_node r x facts.carried.node facts.node facts.carried.there facts.there

      is_own : facts.carried.own ≡ facts.own
      is_own = one_node l y facts.carried.own facts.own facts.carried.own_there facts.own_there

      is_new : record facts.carried.node { bit = facts.carried.own.bit } ≡ new
      is_new = ap (λ (n : Node). record n { bit = facts.carried.own.bit }) is_node ∙ ap (λ (n : Node). record facts.node { bit = n.bit }) is_own

      renames : IsRenamed l y x new nl
      renames = subst (λ (c : Change). ComesFor l y x c nl) (ap (λ (o : Op). o.local) facts.carried.is ∙ ap Put is_new) comes

      not_own : x ≢ y
      not_own e = not_both l x facts.own facts.alone.0 (subst (λ q. get l q ≡ Some facts.own) (sym e) facts.own_there)

      adopts : Adopts r l s nl x y facts.node facts.own new
      adopts = record {
        root = above_root r x facts.node good.fit.remote facts.there;
        own_root = above_root l y facts.own good.fit.local facts.own_there;
        there = facts.there;
        own_there = facts.own_there;
        new_l = facts.alone.0;
        new_s = facts.alone.1;
        own_new_r = facts.own_alone.0;
        own_new_s = facts.own_alone.1;
        place = facts.place;
        free = facts.free;
        renamed = renames;
        form = facts.renamed nl renames;
        new_place = refl;
        new_ver = refl;
      }

      adopt_lowers : Lowers same fly r l s now nr nl ns
      adopt_lowers =
          lowers_as r nl s (remote_stays (ap (λ (o : Op). o.remote) facts.carried.is)) refl (synced_stays (ap (λ (o : Op). o.synced) facts.carried.is))
          (pair_lowers same fly now flies r l s r nl s x y not_own (pay_adopt r l s nl x y facts.node facts.own new good.fit adopts same fly now flies)
          (adopt_others r l s nl x y facts.node facts.own new good.fit adopts same fly now flies))

    return_lowers : (n : Node) → now x ≡ false → op.remote ≡ Keep → op.synced ≡ Keep → op.local ≡ Put n → get r x ≡ Some n → get s x ≡ Some n → get l x ≢ Some n
        → nl ≡ changed l x op.local → Lowers same fly r l s now nr nl ns
    return_lowers n landed keep keep_too puts in_r in_s apart local =
        lowers_as r (insert l x n) s (remote_stays keep) (local ∙ ap (changed l x) puts) (synced_stays keep_too)
        (pays_lowers same fly now flies r l s r (insert l x n) s x (pay_return same fly now flies r l s x good.fit n in_r in_s apart landed))

    revive_lowers : now x ≡ false → RevivalFacts r l s op → nl ≡ changed l x op.local → Lowers same fly r l s now nr nl ns
    revive_lowers landed facts local =
        let is : facts.carried.node ≡ facts.node = one_node r x facts.carried.node facts.node facts.carried.there facts.there in
        return_lowers facts.node landed (ap (λ (o : Op). o.remote) facts.carried.is) (ap (λ (o : Op). o.synced) facts.carried.is)
        (ap (λ (o : Op). o.local) facts.carried.is ∙ ap Put is) facts.there facts.synced (λ at. none_some facts.node (get l x) facts.gone at) local

    move_back_lowers : now x ≡ false → MoveBackFacts r l s op → nl ≡ changed l x op.local → Lowers same fly r l s now nr nl ns
    move_back_lowers landed facts local =
        let is_node : facts.carried.node ≡ facts.node = one_node r x facts.carried.node facts.node facts.carried.there facts.there in
        let is_own : facts.carried.own ≡ facts.own = one_node l x facts.carried.own facts.own facts.carried.own_there facts.own_there in
        let puts : op.local ≡ Put facts.node =
        ap (λ (o : Op). o.local) facts.carried.is
        ∙ ap (λ (n : Node). Put (record facts.carried.own { place = n.place })) is_node
        ∙ ap (λ (n : Node). Put (record n { place = facts.node.place })) is_own
        ∙ ap Put facts.becomes in
        return_lowers facts.node landed (ap (λ (o : Op). o.remote) facts.carried.is) (ap (λ (o : Op). o.synced) facts.carried.is)
        puts facts.there facts.synced
        (λ at. facts.apart (ap (λ (n : Node). n.place.parent.0) (one_node l x facts.own facts.node facts.own_there at))) local

    mend_lowers : now x ≡ false → (op.remote ≢ Keep → get s x ≡ get r x) → (v : Verb) → FactsOf same r l s next op v → IsLocalAfter v op l nl
        → Lowers same fly r l s now nr nl ns
    mend_lowers landed agrees verb.Split facts local = split_lowers facts local
    mend_lowers landed agrees verb.Evict facts local = evict_lowers facts agrees local
    mend_lowers landed agrees verb.Adopt facts local = adopt_lowers facts local
    mend_lowers landed agrees verb.Revive facts local = revive_lowers landed facts local
    mend_lowers landed agrees verb.Unmove facts local = move_back_lowers landed facts local
    mend_lowers landed agrees verb.Down never local = absurd never
    mend_lowers landed agrees verb.Up never local = absurd never
    mend_lowers landed agrees verb.CutDown never local = absurd never
    mend_lowers landed agrees verb.CutUp never local = absurd never
    mend_lowers landed agrees verb.Forget never local = absurd never

pub mends_lower : MendsLower
mends_lower same fly now r l s nr nl ns next op good flies landed facts agrees after =
    mend_lowers same fly now flies r l s nr nl ns op next good after landed agrees op.verb facts after.local
