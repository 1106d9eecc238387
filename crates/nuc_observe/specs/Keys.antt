-- Which key each identity has.
use Rattle.std.specs.Prelude.{◌≡◌, ◌≢◌, ◌<◌, ℕ, All, AllPairs, List, map, Option, None, Some, option_map}
use Rattle.std.specs.FinMap as map
use Rattle.nuc_folder.specs.declared.item.Key.{Key}
use Rattle.nuc_observe.specs.declared.binding.Binding.{Binding}
use Rattle.nuc_lookup.specs.Rows.{Numbers}
use Rattle.nuc_lookup.specs.Undo.{led}
use Rattle.nuc_lookup.specs.declared.row.Row.{Row}

-- from an identity to its key
abbrev pub KeyMap : Type 0
KeyMap = Numbers

-- x has this key from now on, or none
abbrev pub with_key : KeyMap → ℕ → Option Key → KeyMap
with_key m x key = led m x (option_map (λ k. k.0) key)

-- nobody has the key k
abbrev pub IsUnheld : KeyMap → ℕ → Type 0
IsUnheld m k = (x : ℕ) → map.get m x ≢ Some k

-- nobody but x has the key k
abbrev pub IsFree : KeyMap → ℕ → ℕ → Type 0
IsFree m x k = (y : ℕ) → map.get m y ≡ Some k → y ≡ x

-- x has the key k, and nobody else has it
abbrev pub HasAlone : KeyMap → ℕ → ℕ → Type 0
HasAlone m x k = (map.get m x ≡ Some k) × IsFree m x k

-- what keys always are: the root has none, none is the folder's own, and no two identities have the same
pub record AreKeys (m : KeyMap) : Type 0 where
  pub no_root : map.get m 0 ≡ None
  pub no_zero : IsUnheld m 0
  pub one_to_one : (x y k : ℕ) → map.get m x ≡ Some k → map.get m y ≡ Some k → x ≡ y

-- the keys that bindings give
abbrev pub key_map : List Binding → KeyMap
key_map bindings = map.from_entries (map (λ b. (b.id.0, b.key.0)) bindings)

-- no two have the same identity or the same key
pub record AreApart (bindings : List Binding) : Type 0 where
  pub ids : AllPairs (λ a b. a.id.0 ≢ b.id.0) bindings
  pub keys : AllPairs (λ a b. a.key.0 ≢ b.key.0) bindings

-- bindings that give such keys
pub record AreBindings (bindings : List Binding) : Type 0 where
  pub ids : All (λ b. 0 < b.id.0) bindings
  pub keys : All (λ b. 0 < b.key.0) bindings
  pub apart : AreApart bindings

-- the rows of a binding in the two look-ups
abbrev pub row_by_id : Binding → Row
row_by_id b = record { from = b.id.0; to = b.key.0 }

abbrev pub row_by_key : Binding → Row
row_by_key b = record { from = b.key.0; to = b.id.0 }
