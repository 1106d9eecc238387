-- What an operation that takes place at once makes of a client.
use Rattle.std.specs.Prelude.{IfOk, MatchBool, not}
use Rattle.std.specs.declared.alloc.AllocError.{AllocError}
use Rattle.std.specs.declared.result.Result.{Result}
use Rattle.std.specs.declared.result.Result.TheVariants as result
use Rattle.std.proofs.Common.{◌≡◌, ◌≢◌, ◌+◌, ◌++◌, ◌∷◌, [], ℕ, Bool, true, false, cond, List, None, Some, refl, sym, ap, subst, inl, inr, ◌∙◌}
use Rattle.std.specs.FinMap.{get, insert, remove}
use Rattle.nuc_base.specs.Changes.{changed}
use Rattle.nuc_base.specs.Ready.{all_changed}
use Rattle.nuc_base.specs.Trees.{Nodes}
use Rattle.nuc_base.specs.declared.node.Node.{Node}
use Rattle.nuc_base.proofs.Maps.{get_cut_other, get_cut_same, get_put_other, get_put_same, same_nodes, same_or_not}
use Rattle.nuc_class.specs.declared.op.Op.{Op}
use Rattle.nuc_conflict.specs.After.{ComesFor}
use Rattle.nuc_edits.specs.Edits.{Recorded, same_hash}
use Rattle.nuc_flights.specs.Flights.{Flight}
use Rattle.nuc_flights.specs.declared.taken.Taken.TheVariants as came
use Rattle.nuc_folder.specs.declared.outcome.Outcome.TheVariants as outcome
use Rattle.nuc_observe.specs.Keys.{KeyMap}
use Rattle.nuc_plan.specs.declared.plans.Plan.{Plan}
use Rattle.nuc_replica.specs.Local.{LocalState, moved_key}
use Rattle.nuc_replica.specs.Remote.{RemoteState}
use Rattle.nuc_step.specs.Planning.{CountsChange, IsAdopted, IsNoted}
use Rattle.nuc_step.specs.Steps.{adopted_by, is_split, local_after, split_changes, with_adoptions}

-- what is known of a plan that could be made
pub weaker_plan : (r : Result Plan AllocError) (P Q : Plan → Type 0) → ((p : Plan) → P p → Q p) → IfOk r P → IfOk r Q
weaker_plan (result.Ok p) P Q weaker is = weaker p is
weaker_plan (result.Err e) P Q weaker is = tt

-- A PUT CHANGES A TREE exactly where another value stands there
put_again : (m : Nodes) (x : ℕ) (n : Node) → get m x ≡ Some n → insert m x n ≡ m
put_again m x n there = same_nodes (insert m x n) m (λ y. elim (same_or_not y x) [
  | inl same ↦ subst (λ z. get (insert m x n) z ≡ get m z) (sym same) (get_put_same m x n ∙ sym there)
  | inr apart ↦ get_put_other m x n y apart
])

pub put_differs : (b : Bool) (m : Nodes) (x : ℕ) (n : Node) → MatchBool b (get m x ≡ Some n) (get m x ≢ Some n)
    → MatchBool (not b) (insert m x n ≢ m) (insert m x n ≡ m)
put_differs true m x n there = put_again m x n there
put_differs false m x n other = λ same. other (sym (ap (λ k. get k x) same) ∙ get_put_same m x n)

cut_again : (m : Nodes) (x : ℕ) → get m x ≡ None → remove m x ≡ m
cut_again m x none = same_nodes (remove m x) m (λ y. elim (same_or_not y x) [
  | inl same ↦ subst (λ z. get (remove m x) z ≡ get m z) (sym same) (get_cut_same m x ∙ sym none)
  | inr apart ↦ get_cut_other m x y apart
])

pub cut_differs : (b : Bool) (m : Nodes) (x : ℕ) → MatchBool b (get m x ≡ None) (get m x ≢ None) → MatchBool (not b) (remove m x ≢ m) (remove m x ≡ m)
cut_differs true m x none = cut_again m x none
cut_differs false m x there = λ same. there (sym (ap (λ k. get k x) same) ∙ get_cut_same m x)

-- COUNTED where it changes
pub counts_so : (b : Bool) (m k n : Nodes) (before after : ℕ) → MatchBool b (k ≢ m) (k ≡ m) → MatchBool b (after ≡ before + 1) (after ≡ before) → n ≡ k
    → CountsChange m n before after
counts_so true m k n before after differs counted is = record { same = λ same. absurd (differs (sym is ∙ same)); other = λ _. counted }
counts_so false m k n before after same counted is = record { same = λ _. counted; other = λ differs. absurd (differs (is ∙ same)) }

pub one_change : (op : Op) (l : LocalState) → is_split op.verb ≡ false → (local_after op outcome.Ok l).tree ≡ changed l.tree op.id.0 op.local
one_change op l one = subst (λ b. all_changed l.tree (cond b (split_changes op) ((op.id.0, op.local) ∷ [])) ≡ changed l.tree op.id.0 op.local) (sym one) refl

-- what can land lands
pub it_lands : (b : Bool) (P A B : Type 0) → MatchBool b P (¬ P) → P → MatchBool b A B → A
it_lands true P A B lands can is = is
it_lands false P A B lands can is = absurd (lands can)

pub noted_is : (op : Op) (r : RemoteState) (l m : LocalState) (s t : Nodes) (fs : List Flight) (before after next new : ℕ) (e f : Recorded)
    → m ≡ local_after op outcome.Ok l → t ≡ changed s op.id.0 op.synced → new ≡ next + 1 → f ≡ with_adoptions op (came.Folder outcome.Ok) e
    → CountsChange l.tree m.tree before after
    → IsNoted op (record { remote = r; local = l; synced = s; flights = fs; changes = before; next_op = next }) e
    (record { remote = r; local = m; synced = t; flights = fs; changes = after; next_op = new }) f
noted_is op r l m s t fs before after next new e f local synced number recorded counts = record {
  changes = counts;
  client = rw (local, synced, number);
  recorded = recorded;
}

keys_are : (m : LocalState) (keys : KeyMap) → m.keys ≡ keys → m ≡ record { tree = m.tree; keys = keys }
keys_are m keys is = rw (sym is)

pub adopted_is : (op : Op) (r : RemoteState) (l m : LocalState) (s : Nodes) (fs : List Flight) (before after next new : ℕ) (e f : Recorded)
    → ComesFor l.tree op.other.0 op.id.0 op.local m.tree → m.keys ≡ moved_key l.keys op.other.0 op.id.0 (get l.keys op.other.0)
    → after ≡ before + 1 → new ≡ next + 1 → f ≡ record e { adoptions = e.adoptions ++ adopted_by (same_hash e.edits) (get l.tree op.other.0) op.local }
    → IsAdopted op (record { remote = r; local = l; synced = s; flights = fs; changes = before; next_op = next }) e
    (record { remote = r; local = m; synced = s; flights = fs; changes = after; next_op = new }) f
adopted_is op r l m s fs before after next new e f tree keys count number recorded = record {
  tree = tree;
  client = rw (keys_are m _ keys, count, number);
  recorded = recorded;
}
