-- What an operation makes of Local keeps to the kinds of the keys.
use Rattle.std.proofs.Common.{◌≡◌, ◌≢◌, ℕ, Bool, true, false, cond, [], ◌∷◌, Option, Some, None, refl, sym, ◌∙◌, ap, subst, inl, inr}
use Rattle.std.specs.FinMap.{get, insert, remove}
use Rattle.nuc_base.specs.Changes.{IsLegal, changed}
use Rattle.nuc_base.specs.Ready.{LegalInTurn, all_changed}
use Rattle.nuc_base.specs.Renamed.{IsRenamed}
use Rattle.nuc_base.specs.Trees.{Nodes}
use Rattle.nuc_base.specs.declared.change.Change.{Change}
use Rattle.nuc_base.specs.declared.change.Change.TheVariants.{Keep, Put, Cut}
use Rattle.nuc_base.specs.declared.node.Node.{Node}
use Rattle.nuc_base.proofs.Came.{Came, came_from}
use Rattle.nuc_base.proofs.Came.Came.{renamed, stood, child}
use Rattle.nuc_base.proofs.Maps.{after_cut, after_put}
use Rattle.nuc_class.specs.declared.op.Op.{Op}
use Rattle.nuc_conflict.specs.After.{ComesFor}
use Rattle.nuc_folder.specs.declared.outcome.Outcome.{Outcome}
use Rattle.nuc_folder.specs.declared.outcome.Outcome.TheVariants as outcome
use Rattle.nuc_lookup.proofs.Maps as numbers
use Rattle.nuc_observe.specs.Keys.{KeyMap}
use Rattle.nuc_replica.specs.Local.{HasKey, HaveKeys, LocalState, moved_key}
use Rattle.nuc_step.specs.Planning.{MayComeFor}
use Rattle.nuc_step.specs.Sound.{HasOther}
use Rattle.nuc_step.specs.Steps.{LocalReady, OtherIsNew, is_split, keys_with, local_after, split_changes}
use Rattle.nuc_step.proofs.LocalAfter.{key_before}
use Rattle.nuc_fit.proofs.KindsForm.{AreNamed, CopiesKind, IsCopy, IsMadeOf, Kinds}

-- WHO HAS A KEY after it went to another
no_key : (o : Option Node) (k : ℕ) → o ≡ None → HasKey o (Some k) → ⊥
no_key None k is has = has
no_key (Some n) k is has = cc

module _ (kinds : Kinds) (m : Nodes) (keys : KeyMap) (have : HaveKeys m keys) (are : AreNamed kinds (record { tree = m; keys = keys })) where
  abbrev pub Named : Nodes → KeyMap → Type 0
  Named t ks = AreNamed kinds (record { tree = t; keys = ks })

  -- who isn't there has no key
  absent : (x k : ℕ) → get m x ≡ None → get keys x ≡ Some k → ⊥
  absent x k gone key = no_key (get m x) k gone (subst (HasKey (get m x)) key (have x))

  unkeyed : (x : ℕ) (n : Node) → get m x ≡ Some n → get keys x ≡ None → ⊥
  unkeyed x n there none = subst (λ o. HasKey o None) there (subst (HasKey (get m x)) none (have x))

  -- ONE CHANGE of x. A node comes under its key, or over one of its kind
  pub comes : (x key : ℕ) (n : Node) → n.kind ≡ kinds key → Named (insert m x n) (insert keys x key)
  comes x key n kind y k h at there = elim (after_put m x n y h there) [
    | inl (same, is) ↦ (
        let own : get (insert keys x key) x ≡ Some k = subst (λ z. get (insert keys x key) z ≡ Some k) same at in
        let one : key ≡ k = numbers.one_number (get (insert keys x key) x) key k (numbers.get_put_same keys x key) own in
        ap (λ (g : Node). g.kind) is ∙ kind ∙ ap kinds one)
    | inr (apart, was) ↦ are y k h (sym (numbers.get_put_other keys x key y apart) ∙ at) was
  ]

  pub over : (x : ℕ) (old n : Node) → get m x ≡ Some old → old.kind ≡ n.kind → Named (insert m x n) keys
  over x old n there kind y k h at here = elim (after_put m x n y h here) [
    | inl (same, is) ↦ (
        let own : get keys x ≡ Some k = subst (λ z. get keys z ≡ Some k) same at in
        ap (λ (g : Node). g.kind) is ∙ sym kind ∙ are x k old own there)
    | inr (apart, was) ↦ are y k h at was
  ]

  -- it comes without a key, where none was
  nameless : (x : ℕ) (n : Node) → get m x ≡ None → Named (insert m x n) keys
  nameless x n gone y k h at here = elim (after_put m x n y h here) [
    | inl (same, is) ↦ absurd (absent x k gone (subst (λ z. get keys z ≡ Some k) same at))
    | inr (apart, was) ↦ are y k h at was
  ]

  pub goes : (x : ℕ) → Named (remove m x) (remove keys x)
  goes x y k h at there = are y k h (key_before keys x y k at).1 (after_cut m x y h there).1

  changes : (x : ℕ) (old : Option Node) (c : Change) (o : Outcome) → get m x ≡ old → IsLegal m x c → IsMadeOf kinds c o
      → Named (changed m x c) (keys_with old c o x keys)
  changes x None Keep o at legal made = are
  changes x (Some old) Keep o at legal made = are
  changes x (Some old) (Put n) o at legal made = over x old n at (legal.kind old at)
  changes x None (Put n) (outcome.Made key) at legal made = comes x key.0 n made
  changes x None (Put n) outcome.Ok at legal made = nameless x n at
  changes x None (Put n) outcome.NotEmpty at legal made = nameless x n at
  changes x None (Put n) outcome.Changed at legal made = nameless x n at
  changes x None (Put n) outcome.Taken at legal made = nameless x n at
  changes x None (Put n) outcome.Failed at legal made = nameless x n at
  changes x None (Put n) outcome.Memory at legal made = nameless x n at
  changes x None Cut o at legal made = goes x
  changes x (Some old) Cut o at legal made = goes x

  -- A SPLIT: the copy at z has the key of x, and x goes
  copy_kind : (x z : ℕ) (old : Option Node) (n : Node) (key : Option ℕ) → get m x ≡ old → get keys x ≡ key → CopiesKind true old (Put n)
      → get m z ≡ None → (k : ℕ) → get (moved_key keys x z key) z ≡ Some k → n.kind ≡ kinds k
  copy_kind x z None n None at none copies new k is = absurd (absent z k new (key_before keys x z k is).1)
  copy_kind x z None n (Some j) at has copies new k is = absurd (absent x j at has)
  copy_kind x z (Some old) n None at none copies new k is = absurd (unkeyed x old at none)
  copy_kind x z (Some old) n (Some j) at has copies new k is =
      let one : j ≡ k = numbers.one_number (get (insert (remove keys x) z j) z) j k (numbers.get_put_same (remove keys x) z j) is in
      copies ∙ are x j old has at ∙ ap kinds one

  -- who is neither has the key that it had
  other_key : (x z y k : ℕ) (key : Option ℕ) → y ≢ x → y ≢ z → get (moved_key keys x z key) y ≡ Some k → get keys y ≡ Some k
  other_key x z y k None off apart is = (key_before keys x y k is).1
  other_key x z y k (Some j) off apart is = (key_before keys x y k (sym (numbers.get_put_other (remove keys x) z j y apart) ∙ is)).1

  splits : (x z : ℕ) (old : Option Node) (c : Change) → get m x ≡ old → CopiesKind true old c → HasOther true x z c → get m z ≡ None
      → Named (remove (changed m z c) x) (moved_key keys x z (get keys x))
  splits x z old Keep at copies other new y k h key there = absurd other.2
  splits x z old Cut at copies other new y k h key there = absurd other.2
  splits x z old (Put n) at copies other new y k h key there =
      let (off, here) = after_cut (insert m z n) x y h there in
      elim (after_put m z n y h here) [
        | inl (same, is) ↦ ap (λ (g : Node). g.kind) is
            ∙ copy_kind x z old n (get keys x) at refl copies new k (subst (λ w. get (moved_key keys x z (get keys x)) w ≡ Some k) same key)
        | inr (apart, was) ↦ are y k h (other_key x z y k (get keys x) off apart key) was
      ]

  -- ONE IN PLACE OF ANOTHER, with its key
  placed : (y x : ℕ) (node own : Node) (t : Nodes) → get m y ≡ Some own → node.kind ≡ own.kind → IsRenamed m y x node t
      → Named t (moved_key keys y x (get keys y))
  placed y x node own t there kind is w k g key at = from (came_from m y x node t is w g at)
    where
      at_x : (o : Option ℕ) → get keys y ≡ o → get (moved_key keys y x o) x ≡ Some k → node.kind ≡ kinds k
      at_x None none has = absurd (unkeyed y own there none)
      at_x (Some j) own_key has =
          let one : j ≡ k = numbers.one_number (get (insert (remove keys y) x j) x) j k (numbers.get_put_same (remove keys y) x j) has in
          kind ∙ are y j own own_key there ∙ ap kinds one

      from : Came m y x node w g → g.kind ≡ kinds k
      from (renamed same here) = ap (λ (n : Node). n.kind) here ∙ at_x (get keys y) refl (subst (λ z. get (moved_key keys y x (get keys y)) z ≡ Some k) same key)
      from (stood other apart was off) = are w k g (other_key y x w k (get keys y) apart other key) was
      from (child h other apart was below same) = ap (λ (n : Node). n.kind) same ∙ are w k h (other_key y x w k (get keys y) apart other key) was

-- WHAT LANDS
module _ (kinds : Kinds) (l : LocalState) (have : HaveKeys l.tree l.keys) (are : AreNamed kinds l) where
  landed_by : (op : Op) (o : Outcome) (split : Bool) → get l.tree op.id.0 ≡ op.old_local → CopiesKind split op.old_local op.local → IsMadeOf kinds op.local o
      → HasOther split op.id.0 op.other.0 op.local → OtherIsNew split l.tree op.other.0 → LegalInTurn l.tree (cond split (split_changes op) ((op.id.0, op.local) ∷ []))
      → AreNamed kinds (record {
        tree = all_changed l.tree (cond split (split_changes op) ((op.id.0, op.local) ∷ []));
        keys = cond split (moved_key l.keys op.id.0 op.other.0 (get l.keys op.id.0)) (keys_with op.old_local op.local o op.id.0 l.keys);
      })
  landed_by op o true at copies made other new legal = splits kinds l.tree l.keys have are op.id.0 op.other.0 op.old_local op.local at copies other new
  landed_by op o false at copies made other new legal = changes kinds l.tree l.keys have are op.id.0 op.old_local op.local o at legal.0 made

  pub landed_named : (op : Op) (o : Outcome) → IsCopy op → IsMadeOf kinds op.local o → HasOther (is_split op.verb) op.id.0 op.other.0 op.local → LocalReady l op o
      → AreNamed kinds (local_after op o l)
  landed_named op o copies made other ready = landed_by op o (is_split op.verb) ready.old copies made other ready.other ready.legal

  -- an adoption
  pub adopted_named : (y x : ℕ) (c : Change) (t : Nodes) → MayComeFor l.tree y c → ComesFor l.tree y x c t
      → AreNamed kinds (record { tree = t; keys = moved_key l.keys y x (get l.keys y) })
  adopted_named y x Keep t may is = absurd may
  adopted_named y x Cut t may is = absurd may
  adopted_named y x (Put node) t may is = placed kinds l.tree l.keys have are y x node may.1.own t may.1.there may.1.kind is
