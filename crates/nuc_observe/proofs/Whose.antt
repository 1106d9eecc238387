-- Which identity has a key, as a look-up tells it and as a search through all identities does.
use Rattle.std.proofs.Common.{◌≡◌, ◌∙◌, ◌==◌, ℕ, Bool, true, false, cond, List, [], ◌∷◌, Option, None, Some, refl, sym, ap, subst, inl, inr}
use Rattle.std.specs.Prelude.{◌||◌, MatchOption, find, is_some, option_map}
use Rattle.std.specs.Cmp.{unsigned_tied}
use Rattle.std.specs.FinMap as map
use Rattle.std.specs.FinMap.{contains_key-keys}
use Rattle.std.specs.List.{list_any}
use Rattle.std.specs.Ordering.{eq_by_cmp, nat_cmp}
use Rattle.std.proofs.lemmas.Bool.{eqb-true, eq-eqb}
use Rattle.std.proofs.lemmas.Cmp.{nat_cmp_total}
use Rattle.nuc_base.specs.declared.node.NodeId.{NodeId}
use Rattle.nuc_observe.specs.Keys.{KeyMap, HasAlone, IsUnheld}
use Rattle.nuc_observe.specs.Observed.{id_of, is_key}

key_is : (key : ℕ) (o : Option ℕ) → is_key key o ≡ true → o ≡ Some key
key_is key None e = let f : false ≡ true = e in cc
key_is key (Some own) e = ap Some (eqb-true own key e)

module _ (p : ℕ → Bool) where
  found_passes : (xs : List ℕ) (y : ℕ) → find p xs ≡ Some y → p y ≡ true
  found_passes [] y e = cc
  found_passes (x ∷ xs) y e =
      elim (p x) as (λ t. p x ≡ t → cond t (Some x) (find p xs) ≡ Some y → p y ≡ true) [
        | true ↦ λ is same. (let same_x : x ≡ y = cc in subst (λ z. p z ≡ true) same_x is)
        | false ↦ λ is same. found_passes xs y same
      ] refl e

  none_passes : (xs : List ℕ) (y : ℕ) → find p xs ≡ None → list_any (eq_by_cmp nat_cmp y) xs ≡ true → p y ≡ false
  none_passes [] y e among = let f : false ≡ true = among in cc
  none_passes (x ∷ xs) y e among =
      elim (p x) as (λ t. p x ≡ t → cond t (Some x) (find p xs) ≡ None → p y ≡ false) [
        | true ↦ λ is none. cc
        | false ↦ λ is none. elim (eq_by_cmp nat_cmp y x) as (λ t. eq_by_cmp nat_cmp y x ≡ t → (t || list_any (eq_by_cmp nat_cmp y) xs) ≡ true → p y ≡ false) [
          | true ↦ λ same rest. subst (λ z. p z ≡ false) (sym (eqb-true y x (sym (unsigned_tied y x) ∙ same))) is
          | false ↦ λ other rest. none_passes xs y none rest
        ] refl among
      ] refl e

held : (keys : KeyMap) (key x : ℕ) → map.get keys x ≡ Some key → is_key key (map.get keys x) ≡ true
held keys key x is = ap (is_key key) is ∙ eq-eqb key key refl

is_among : (keys : KeyMap) (key x : ℕ) → map.get keys x ≡ Some key → list_any (eq_by_cmp nat_cmp x) (map.keys keys) ≡ true
is_among keys key x is = sym (contains_key-keys keys x) ∙ ap is_some is

alone : (keys : KeyMap) (key x : ℕ) → HasAlone keys x key → (o : Option ℕ) → id_of keys key ≡ o → Some x ≡ o
alone keys key x has None e =
    let not : is_key key (map.get keys x) ≡ false = none_passes (λ y. is_key key (map.get keys y)) (map.keys keys) x e (is_among keys key x has.0) in
    let is : is_key key (map.get keys x) ≡ true = held keys key x has.0 in
    cc
alone keys key x has (Some y) e =
    ap Some (sym (has.1 y (key_is key (map.get keys y) (found_passes (λ z. is_key key (map.get keys z)) (map.keys keys) y e))))

unheld : (keys : KeyMap) (key : ℕ) → IsUnheld keys key → (o : Option ℕ) → id_of keys key ≡ o → None ≡ o
unheld keys key not None e = refl
unheld keys key not (Some y) e = absurd (not y (key_is key (map.get keys y) (found_passes (λ z. is_key key (map.get keys z)) (map.keys keys) y e)))

pub told_some : (keys : KeyMap) (key x : ℕ) → HasAlone keys x key → Some x ≡ id_of keys key
told_some keys key x has = alone keys key x has (id_of keys key) refl

pub told_none : (keys : KeyMap) (key : ℕ) → IsUnheld keys key → None ≡ id_of keys key
told_none keys key not = unheld keys key not (id_of keys key) refl

pub id_holds : (keys : KeyMap) (key x : ℕ) → id_of keys key ≡ Some x → map.get keys x ≡ Some key
id_holds keys key x is = key_is key (map.get keys x) (found_passes (λ z. is_key key (map.get keys z)) (map.keys keys) x is)
