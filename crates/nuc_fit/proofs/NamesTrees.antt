-- The names of a tree after a change of it.
use Rattle.std.specs.Prelude.{All}
use Rattle.std.proofs.Common.{◌≡◌, ℕ, Bool, true, false, cond, List, [], ◌∷◌, Option, Some, None, refl, sym, subst, inl, inr}
use Rattle.std.specs.FinMap.{empty, get, get-empty, insert, remove}
use Rattle.std.specs.Ordering.{nat_cmp}
use Rattle.nuc_base.specs.Changes.{changed}
use Rattle.nuc_base.specs.Names.{IsName}
use Rattle.nuc_base.specs.Renamed.{IsRenamed}
use Rattle.nuc_base.specs.Trees.{Nodes}
use Rattle.nuc_base.specs.declared.change.Change.{Change}
use Rattle.nuc_base.specs.declared.change.Change.TheVariants.{Keep, Put, Cut}
use Rattle.nuc_base.specs.declared.node.Node.{Node}
use Rattle.nuc_base.proofs.Came.{Came, came_from}
use Rattle.nuc_base.proofs.Came.Came.{renamed, stood, child}
use Rattle.nuc_base.proofs.Maps.{after_cut, after_put, not_both}
use Rattle.nuc_class.specs.declared.op.Op.{Op}
use Rattle.nuc_conflict.specs.After.{ComesFor}
use Rattle.nuc_journal.specs.Entries.{tree_after, with_value}
use Rattle.nuc_journal.specs.declared.entry.Entry.{Entry}
use Rattle.nuc_step.specs.Steps.{split_changes}
use Rattle.nuc_base.specs.Ready.{all_changed}
use Rattle.nuc_fit.proofs.NamesForm.{Named, NamedChange, NamedEntry, NamedValue}
use Rattle.nuc_fit.proofs.NamesLists.{all_first, all_rest}

pub empty_named : Named empty
empty_named x n at = absurd (not_both empty x n (get-empty nat_cmp x) at)

pub put_named : (m : Nodes) (x : ℕ) (node : Node) → IsName node.place.name → Named m → Named (insert m x node)
put_named m x node its named y n at = elim (after_put m x node y n at) [
  | inl (same, is) ↦ subst (λ (h : Node). IsName h.place.name) (sym is) its
  | inr (apart, stands) ↦ named y n stands
]

pub cut_named : (m : Nodes) (x : ℕ) → Named m → Named (remove m x)
cut_named m x named y n at = named y n (after_cut m x y n at).1

-- what stands somewhere
pub value_named : (m : Nodes) → Named m → (x : ℕ) → NamedValue (get m x)
value_named m named x = by (get m x) refl
  where
    by : (o : Option Node) → get m x ≡ o → NamedValue o
    by None at = tt
    by (Some n) at = named x n at

-- CHANGES
pub changed_named : (m : Nodes) (x : ℕ) (c : Change) → NamedChange c → Named m → Named (changed m x c)
changed_named m x Keep its named = named
changed_named m x (Put node) its named = put_named m x node its named
changed_named m x Cut its named = cut_named m x named

-- what an operation makes of Local
pub local_named : (m : Nodes) (op : Op) (split : Bool) → NamedChange op.local → Named m
    → Named (all_changed m (cond split (split_changes op) ((op.id.0, op.local) ∷ [])))
local_named m op true its named = cut_named (changed m op.other.0 op.local) op.id.0 (changed_named m op.other.0 op.local its named)
local_named m op false its named = changed_named m op.id.0 op.local its named

-- ENTRIES
with_value_named : (m : Nodes) (x : ℕ) (value : Option Node) → NamedValue value → Named m → Named (with_value m x value)
with_value_named m x None its named = cut_named m x named
with_value_named m x (Some n) its named = put_named m x n its named

pub entries_named : (m : Nodes) (es : List Entry) → All NamedEntry es → Named m → Named (tree_after m es)
entries_named m [] all named = named
entries_named m (e ∷ es) all named =
    entries_named (with_value m e.id.0 e.value) es (all_rest NamedEntry e es all) (with_value_named m e.id.0 e.value (all_first NamedEntry e es all) named)

-- ANOTHER NUMBER
renamed_named : (m : Nodes) (y x : ℕ) (node : Node) (k : Nodes) → IsName node.place.name → Named m → IsRenamed m y x node k → Named k
renamed_named m y x node k its named is w g at = from (came_from m y x node k is w g at)
  where
    from : Came m y x node w g → IsName g.place.name
    from (renamed here same) = subst (λ (h : Node). IsName h.place.name) (sym same) its
    from (stood other apart there off) = named w g there
    from (child h other apart there below same) = subst (λ (h : Node). IsName h.place.name) (sym same) (named w h there)

pub comes_named : (m : Nodes) (y x : ℕ) (c : Change) (k : Nodes) → NamedChange c → Named m → ComesFor m y x c k → Named k
comes_named m y x (Put node) k its named comes = renamed_named m y x node k its named comes
comes_named m y x Keep k its named comes = absurd comes
comes_named m y x Cut k its named comes = absurd comes
