-- The end of a mend: it lowers what is carried, and leaves no entry behind the cursor.
use Rattle.std.specs.Prelude.{Contains}
use Rattle.std.proofs.Common.{◌≡◌, ◌≢◌, ◌<◌, ◌≤◌, ◌+◌, ◌-◌, ℕ, zero, suc, Bool, true, false, cond, List, [], ◌∷◌, length, take, drop, slice_get, Option, None, Some, refl, sym, ap, subst, ◌∙◌, inl, inr, arith}
use Rattle.std.specs.FinMap.{get, insert, remove}
use Rattle.nuc_base.specs.Changes.{changed}
use Rattle.nuc_base.specs.Ready.{all_changed}
use Rattle.nuc_base.specs.Trees.{Nodes, IsFolder, NoChild, WellFormed}
use Rattle.nuc_base.specs.declared.change.Change.TheVariants.{Keep, Put, Cut}
use Rattle.nuc_base.specs.declared.node.Kind.TheVariants.{Folder, File}
use Rattle.nuc_base.specs.declared.node.Node.{Node}
use Rattle.nuc_base.proofs.Changed.{get_changed_other}
use Rattle.nuc_base.proofs.Maps.{get_cut_other, get_cut_same, get_put_other, get_put_same, not_both, one_node}
use Rattle.nuc_class.specs.Split.{needs_split}
use Rattle.nuc_class.specs.declared.op.Effect.TheVariants as effect
use Rattle.nuc_class.specs.declared.op.Op.{Op}
use Rattle.nuc_class.specs.declared.op.Verb.{Verb}
use Rattle.nuc_class.specs.declared.op.Verb.TheVariants as verb
use Rattle.nuc_conflict.specs.After.{AreAfter, IsLocalAfter}
use Rattle.nuc_conflict.specs.Facts.{AdoptionFacts, FactsOf, SplitFacts}
use Rattle.nuc_conflict.specs.FitTogether.{FitBelow, FitTogether}
use Rattle.nuc_conflict.specs.FreeName.{place_of}
use Rattle.nuc_conflict.specs.Mends.{cut_of}
use Rattle.nuc_flights.specs.Flights.{Flight, taken}
use Rattle.nuc_flights.specs.declared.taken.Taken.TheVariants as came
use Rattle.nuc_journal.specs.Entries.{tree_after, with_value}
use Rattle.nuc_journal.specs.Journal.{IsJournal}
use Rattle.nuc_journal.specs.declared.entry.Entry.{Entry}
use Rattle.nuc_measure.specs.Pays.{Lowers, NoMoreFlies}
use Rattle.nuc_measure.proofs.Carried.{pair_lowers}
use Rattle.nuc_measure.proofs.Mending.{mends_lower}
use Rattle.nuc_measure.proofs.Splits.{SplitsOff, pay_split, split_others}
use Rattle.nuc_measure.proofs.Steps.{childless}
use Rattle.nuc_step.specs.Sound.{HasOther, MayFly}
use Rattle.nuc_step.specs.Steps.{is_split, local_changes, split_changes}
use Rattle.nuc_world.specs.Takes.{committed}
use Rattle.nuc_converge.proofs.Behind.{behind_at}
use Rattle.nuc_converge.proofs.InFlight.{IsEntryOf, IsMend}

-- WHAT LOCAL IS AFTER IT, in the folder and at the server. No adoption is carried out there
local_made : (v : Verb) (op : Op) (l : Nodes) → v ≢ verb.Adopt
    → IsLocalAfter v op l (all_changed l (cond (is_split v) (split_changes op) ((op.id.0, op.local) ∷ [])))
local_made verb.Split op l other = refl
local_made verb.Adopt op l other = absurd (other refl)
local_made verb.Evict op l other = refl
local_made verb.Revive op l other = refl
local_made verb.Unmove op l other = refl
local_made verb.Down op l other = refl
local_made verb.Up op l other = refl
local_made verb.CutDown op l other = refl
local_made verb.CutUp op l other = refl
local_made verb.Forget op l other = refl

local_kept : (v : Verb) (op : Op) (l : Nodes) → v ≢ verb.Adopt → is_split v ≡ false → op.local ≡ Keep → IsLocalAfter v op l l
local_kept verb.Split op l other plain keep = cc
local_kept verb.Adopt op l other plain keep = absurd (other refl)
local_kept verb.Evict op l other plain keep = sym (ap (changed l op.id.0) keep)
local_kept verb.Revive op l other plain keep = sym (ap (changed l op.id.0) keep)
local_kept verb.Unmove op l other plain keep = sym (ap (changed l op.id.0) keep)
local_kept verb.Down op l other plain keep = sym (ap (changed l op.id.0) keep)
local_kept verb.Up op l other plain keep = sym (ap (changed l op.id.0) keep)
local_kept verb.CutDown op l other plain keep = sym (ap (changed l op.id.0) keep)
local_kept verb.CutUp op l other plain keep = sym (ap (changed l op.id.0) keep)
local_kept verb.Forget op l other plain keep = sym (ap (changed l op.id.0) keep)

-- A SPLIT lowers what is carried also where nothing is known of the identity that was the next one, but that it was new
leaf : (m : Nodes) (y : ℕ) (n : Node) → WellFormed m → get m y ≡ Some n → n.kind ≡ File → NoChild m y
leaf m y n form at file z h there e = by (form.parents z h there)
  where
    by : IsFolder m h.place.parent.0 → ⊥
    by (inl root) = not_both m y n (subst (λ q. get m q ≡ None) (sym root ∙ e) form.no_root) at
    by (inr (k, stands, folder)) =
        let is : k ≡ n = one_node m y k n (subst (λ q. get m q ≡ Some k) e stands) at in
        let clash : Folder ≡ File = sym folder ∙ ap (λ (i : Node). i.kind) is ∙ file in
        cc

stands : (same : ℕ → ℕ → Bool) (o l s : Option Node) → needs_split same o l s ≡ true → (n : Node) × (o ≡ Some n)
stands same None l s e = absurd (let clash : false ≡ true = e in cc)
stands same (Some n) l s e = (n, refl)

module _ (same : ℕ → ℕ → Bool) (r l s : Nodes) (fresh : ℕ) (op : Op) (fit : FitTogether r l s) (facts : SplitFacts same r l s fresh op) (above : 0 < fresh) where
  abbrev x : ℕ
  x = op.id.0

  abbrev own : Node
  own = facts.carried.node

  abbrev copy : Node
  copy = record own { place = place_of own.place.parent.0 facts.carried.name }

  abbrev made_l : Nodes
  made_l = remove (insert l fresh copy) x

  abbrev made_s : Nodes
  made_s = changed s x (cut_of (get s x))

  off : x ≢ fresh
  off e = not_both l fresh own facts.new_in_local (subst (λ q. get l q ≡ Some own) e facts.carried.there)

  node : (n : Node) × (get r x ≡ Some n)
  node = stands same (get r x) (get l x) (get s x) facts.wished

  needed : needs_split same (Some node.0) (Some own) (get s x) ≡ true
  needed = subst (λ o. needs_split same (Some node.0) o (get s x) ≡ true) facts.carried.there
      (subst (λ o. needs_split same o (get l x) (get s x) ≡ true) node.1 facts.wished)

  file : own.kind ≡ File
  file = ap (λ (n : Node). n.kind) (one_node l x own facts.own facts.carried.there facts.there) ∙ facts.file

  cut_gone : (o : Option Node) → get s x ≡ o → get (changed s x (cut_of o)) x ≡ None
  cut_gone None e = e
  cut_gone (Some n) e = get_cut_same s x

  splits : SplitsOff r l s made_l made_s x fresh own copy
  splits = record {
    apart = off;
    there = facts.carried.there;
    came = get_cut_other (insert l fresh copy) x fresh (λ e. off (sym e)) ∙ get_put_same l fresh copy;
    parent = refl;
    gone = get_cut_same (insert l fresh copy) x;
    gone_too = cut_gone (get s x) refl;
    new_r = facts.new_in_remote;
    new_l = facts.new_in_local;
    new_s = facts.new_in_synced;
    local = λ w off_x off_z. get_cut_other (insert l fresh copy) x w off_x ∙ get_put_other l fresh copy w off_z;
    synced = λ w off_x. get_changed_other s x (cut_of (get s x)) w off_x;
    free_r = facts.carried.free.unused.remote;
    free_s = facts.carried.free.unused.synced;
    leaf_r = leaf r x node.0 fit.remote node.1 (fit.remote_local x node.0 own node.1 facts.carried.there ∙ file);
    leaf_l = leaf l x own fit.local facts.carried.there file;
    new_leaf_r = childless r fresh fit.remote above facts.new_in_remote;
  }

  module _ (fly now : ℕ → Bool) (flew : NoMoreFlies fly now) (nr nl ns : Nodes) (after : AreAfter r l s op nr nl ns) where
    abbrev Falls : Nodes → Nodes → Nodes → Type 0
    Falls a b c = Lowers same fly r l s now a b c

    split_falls : nl ≡ changed (changed l op.other.0 op.local) x Cut → Falls nr nl ns
    split_falls local =
        subst (λ m. Falls m nl ns) (sym (after.remote ∙ ap (λ (o : Op). changed r x o.remote) facts.carried.is))
        (subst (λ m. Falls r m ns) (sym (local ∙ ap (λ (o : Op). remove (changed l o.other.0 o.local) x) facts.carried.is))
        (subst (λ m. Falls r made_l m) (sym (after.synced ∙ ap (λ (o : Op). changed s x o.synced) facts.carried.is))
        (pair_lowers same fly now flew r l s r made_l made_s x fresh off
        (pay_split r l s made_l made_s x fresh own copy splits same fly now flew node.0 node.1 needed)
        (split_others r l s made_l made_s x fresh own copy splits same fly now flew node.0 node.1 needed))))

-- a split's other identity isn't the root
split_above : (same : ℕ → ℕ → Bool) (r l s : Nodes) (fresh : ℕ) (op : Op) → SplitFacts same r l s fresh op
    → HasOther (is_split op.verb) op.id.0 op.other.0 op.local → 0 < fresh
split_above same r l s fresh op facts other = (subst (λ (o : Op). HasOther (is_split o.verb) o.id.0 o.other.0 o.local) facts.carried.is other).0

-- ANY MEND, of trees that are as they were when it was planned. Only a split looks at the identity that was the next one
module _ (same : ℕ → ℕ → Bool) (r l s : Nodes) (fresh next : ℕ) (op : Op) (good : FitBelow r l s next)
    (other : HasOther (is_split op.verb) op.id.0 op.other.0 op.local)
    (agreed : op.remote ≢ Keep → get s op.id.0 ≡ get r op.id.0) (fly now : ℕ → Bool) (flew : NoMoreFlies fly now) (landed : now op.id.0 ≡ false)
    (nr nl ns : Nodes) (after : AreAfter r l s op nr nl ns) where
  other_lowers : (v : Verb) → op.verb ≡ v → FactsOf same r l s next op v → Lowers same fly r l s now nr nl ns
  other_lowers v is facts = mends_lower same fly now r l s nr nl ns next op good flew landed (subst (FactsOf same r l s next op) (sym is) facts) agreed after

  lowers_by : (v : Verb) → op.verb ≡ v → FactsOf same r l s fresh op v → Lowers same fly r l s now nr nl ns
  lowers_by verb.Split is facts =
      split_falls same r l s fresh op good.fit facts (split_above same r l s fresh op facts other) fly now flew nr nl ns after
      (subst (λ v. IsLocalAfter v op l nl) is after.local)
  lowers_by verb.Evict is facts = other_lowers verb.Evict is facts
  lowers_by verb.Adopt is facts = other_lowers verb.Adopt is facts
  lowers_by verb.Revive is facts = other_lowers verb.Revive is facts
  lowers_by verb.Unmove is facts = other_lowers verb.Unmove is facts
  lowers_by verb.Down is facts = absurd facts
  lowers_by verb.Up is facts = absurd facts
  lowers_by verb.CutDown is facts = absurd facts
  lowers_by verb.CutUp is facts = absurd facts
  lowers_by verb.Forget is facts = absurd facts

-- ONE THAT FLIES. Its facts speak of it as it was before it got its number
module _ (same : ℕ → ℕ → Bool) (r l s : Nodes) (cursor : ℕ) (entries : List Entry) (f : Flight) (mend : IsMend same r l s cursor entries f) where
  abbrev op : Op
  op = mend.op

  of_shown : {X : Type 0} (g : Op → X) → ((o : Op) (number base : ℕ) → g (record o { number = number; base = base }) ≡ g o) → g f.op ≡ g op
  of_shown g keeps = ap g mend.shown ∙ keeps op f.op.number f.op.base

  not_adopted : op.effect ≢ effect.Nothing → op.verb ≢ verb.Adopt
  not_adopted outside is =
      let facts : AdoptionFacts same r l s op = subst (FactsOf same r l s mend.next op) is mend.facts in
      outside (ap (λ (o : Op). o.effect) facts.carried.is)

  pub after_folder : f.op.effect ≡ effect.Disk → f.op.remote ≡ Keep → AreAfter r l s op r (all_changed l (local_changes f.op)) (changed s f.op.id.0 f.op.synced)
  after_folder disk keep = record {
    remote = sym (ap (changed r op.id.0) (sym (of_shown (λ (o : Op). o.remote) (λ o n b. refl)) ∙ keep));
    local =
        subst (IsLocalAfter op.verb op l) (sym (of_shown (λ (o : Op). all_changed l (local_changes o)) (λ o n b. refl)))
        (local_made op.verb op l
        (not_adopted (λ none. let clash : effect.Disk ≡ effect.Nothing = sym disk ∙ of_shown (λ (o : Op). o.effect) (λ o n b. refl) ∙ none in cc)));
    synced = of_shown (λ (o : Op). changed s o.id.0 o.synced) (λ o n b. refl);
  }

  pub after_server : (n : Node) → f.op.effect ≡ effect.Commit → f.op.remote ≡ Put n → f.op.local ≡ Keep → is_split f.op.verb ≡ false
      → AreAfter r l s op (insert r f.op.id.0 n) l (changed s f.op.id.0 f.op.synced)
  after_server n commit puts keep plain = record {
    remote = sym (ap (changed r f.op.id.0) puts) ∙ of_shown (λ (o : Op). changed r o.id.0 o.remote) (λ o n b. refl);
    local = local_kept op.verb op l
        (not_adopted (λ none. let clash : effect.Commit ≡ effect.Nothing = sym commit ∙ of_shown (λ (o : Op). o.effect) (λ o n b. refl) ∙ none in cc))
        (sym (of_shown (λ (o : Op). is_split o.verb) (λ o n b. refl)) ∙ plain)
        (sym (of_shown (λ (o : Op). o.local) (λ o n b. refl)) ∙ keep);
    synced = of_shown (λ (o : Op). changed s o.id.0 o.synced) (λ o n b. refl);
  }

  pub mend_ends : (next : ℕ) → FitBelow r l s next → MayFly f.op → (fly now : ℕ → Bool) → NoMoreFlies fly now → now op.id.0 ≡ false
      → (nr nl ns : Nodes) → AreAfter r l s op nr nl ns → Lowers same fly r l s now nr nl ns
  mend_ends next good may fly now flew landed nr nl ns after =
      lowers_by same r l s mend.next next op good (subst (λ (o : Op). HasOther (is_split o.verb) o.id.0 o.other.0 o.local) mend.shown may.other)
      mend.agreed fly now flew landed nr nl ns after op.verb refl mend.facts

-- ITS ENTRY. Where only entries of one commit are behind the cursor, there is one alone
pub same_revision : (f : Flight) (a b : ℕ) → f.stage ≡ taken (came.Accepted a) → f.stage ≡ taken (came.Accepted b) → a ≡ b
same_revision f a b first second = let both : taken (came.Accepted a) ≡ taken (came.Accepted b) = sym first ∙ second in cc

module _ (cursor rev : ℕ) (entries : List Entry) (f : Flight) (journal : IsJournal entries) (stage : f.stage ≡ taken (came.Accepted rev)) (waits : cursor < rev)
    (news : (e : Entry) → Contains (drop cursor entries) e → IsEntryOf e f) where
  rev_of : (e : Entry) → Contains (drop cursor entries) e → e.rev ≡ rev
  rev_of e comes = same_revision f e.rev rev (news e comes).stage stage

  -- what comes up to it
  pub one_comes : (r : Nodes) (n : Node) (es : List Entry) (k : ℕ) → drop cursor entries ≡ es → f.op.remote ≡ Put n → k ≡ rev - cursor → k ≤ length es
      → tree_after r (take k es) ≡ insert r f.op.id.0 n
  one_comes r n es zero is puts ahead within = absurd (omega (arith, ahead, waits))
  one_comes r n [] (suc k) is puts ahead within = absurd (omega (arith, within))
  one_comes r n (e ∷ es) (suc k) is puts ahead within =
      let comes : Contains (drop cursor entries) e = subst (λ fs. Contains fs e) (sym is) (zero, omega arith, refl) in
      let its : IsEntryOf e f = news e comes in
      let first : e.rev ≡ cursor + 0 + 1 = behind_at entries cursor 0 e journal (ap (λ fs. slice_get fs 0) is) in
      let last : e.rev ≡ rev = rev_of e comes in
      let none : k ≡ 0 = omega (arith, first, last, ahead) in
      ap (λ j. tree_after (with_value r e.id.0 e.value) (take j es)) none ∙ ap (λ x. with_value r x e.value) its.id
      ∙ ap (with_value r f.op.id.0) (its.value ∙ ap committed puts)
