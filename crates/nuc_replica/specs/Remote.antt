-- The server's tree at a client's cursor, and what is known beyond it.
use Rattle.std.specs.Prelude.{◌≡◌, ◌+◌, ◌-◌, ◌<◌, ◌≤◌, ◌++◌, ◌∷◌, [], ℕ, List, length, take, drop, Option, None, Some, refl}
use Rattle.std.specs.Coded.{Coded, code_by, coded×, coded_ℕ, coded_list}
use Rattle.std.specs.FinMap.{get, insert, remove}
use Rattle.nuc_base.specs.Codes.{nodes_code}
use Rattle.nuc_base.specs.Trees.{Nodes, WellFormed}
use Rattle.nuc_base.specs.declared.node.Node.{Node}
use Rattle.nuc_journal.specs.Entries.{tree_after, with_value}
use Rattle.nuc_journal.specs.Journal.{IsLegalValue}
use Rattle.nuc_journal.specs.State.{entry_code}
use Rattle.nuc_journal.specs.declared.entry.Entry.{Entry}
use Rattle.nuc_lookup.specs.Lookup.{numbers_code}
use Rattle.nuc_lookup.specs.Rows.{Numbers}

-- the server's tree at the cursor, the revision of each identity there, the cursor, and the entries after it that were
-- heard of
pub record RemoteState : Type 0 where
  pub tree : Nodes
  pub revisions : Numbers
  pub cursor : ℕ
  pub ahead : List Entry

-- what there is now, and what taking back all changes since the last settling leads to
pub record RemoteStates : Type 0 where
  pub now : RemoteState
  pub settled : RemoteState

abbrev pub remote_code : Coded RemoteState
remote_code = code_by (Nodes × (Numbers × (ℕ × List Entry))) (coded× nodes_code (coded× numbers_code (coded× coded_ℕ (coded_list entry_code))))
    (λ s. (s.tree, (s.revisions, (s.cursor, s.ahead))))
    (λ t. record { tree = t.0; revisions = t.1.0; cursor = t.1.1.0; ahead = t.1.1.1 })
    (λ _. refl)

abbrev pub states_code : Coded RemoteStates
states_code = code_by (RemoteState × RemoteState) (coded× remote_code remote_code) (λ s. (s.now, s.settled)) (λ t. record { now = t.0; settled = t.1 }) (λ _. refl)

-- x has this revision where it was given a node, else none
abbrev pub with_revision : Numbers → ℕ → Option Node → ℕ → Numbers
with_revision revisions x None rev = remove revisions x
with_revision revisions x (Some n) rev = insert revisions x rev

abbrev pub revisions_after : Numbers → List Entry → Numbers
revisions_after revisions [] = revisions
revisions_after revisions (e ∷ es) = revisions_after (with_revision revisions e.id.0 e.value e.rev) es

-- the state after these entries, which follow its cursor
abbrev pub with_entries : RemoteState → List Entry → RemoteState
with_entries s es = record {
  tree = tree_after s.tree es;
  revisions = revisions_after s.revisions es;
  cursor = s.cursor + length es;
  ahead = drop (length es) s.ahead;
}

-- the state after some of these entries, from the first on
abbrev pub MovedOn : RemoteState → List Entry → RemoteState → Type 0
MovedOn s es t = (k : ℕ) × (t ≡ with_entries s (take k es))

-- the state after the entries ahead up to this revision
abbrev pub caught_up : ℕ → RemoteState → RemoteState
caught_up rev s = with_entries s (take (rev - s.cursor) s.ahead)

-- of the news, what isn't known yet goes behind what is
abbrev pub heard : List Entry → RemoteState → RemoteState
heard news s = record s { ahead = s.ahead ++ drop (length s.ahead) news }

-- nothing is known beyond the cursor
abbrev pub forgotten : RemoteState → RemoteState
forgotten s = record s { ahead = [] }

-- the entry may come after this cursor, where the tree is m
pub record IsNext (cursor : ℕ) (m : Nodes) (e : Entry) : Type 0 where
  pub rev : e.rev ≡ cursor + 1
  pub id : 0 < e.id.0
  pub legal : IsLegalValue m e.id.0 e.value

-- each entry may come in its turn
abbrev pub GoesOn : ℕ → Nodes → List Entry → Type 0
GoesOn cursor m [] = Unit {0}
GoesOn cursor m (e ∷ es) = IsNext cursor m e × GoesOn (cursor + 1) (with_value m e.id.0 e.value) es

-- the two are the same as far as both go
abbrev pub Agree : List Entry → List Entry → Type 0
Agree [] fs = Unit {0}
Agree (e ∷ es) [] = Unit {0}
Agree (e ∷ es) (f ∷ fs) = (e ≡ f) × Agree es fs

-- these entries may be pulled or heard
pub record Follows (s : RemoteState) (es : List Entry) : Type 0 where
  pub goes_on : GoesOn s.cursor s.tree es
  pub agrees : Agree s.ahead es

-- a node has a revision, from 1 to the cursor, and what isn't there has none
abbrev pub HasRevision : Option Node → Option ℕ → ℕ → Type 0
HasRevision None None cursor = Unit {0}
HasRevision None (Some rev) cursor = ⊥
HasRevision (Some n) None cursor = ⊥
HasRevision (Some n) (Some rev) cursor = (0 < rev) × (rev ≤ cursor)

-- just the tree's identities have a revision
abbrev pub HaveRevisions : Nodes → Numbers → ℕ → Type 0
HaveRevisions m revisions cursor = (x : ℕ) → HasRevision (get m x) (get revisions x) cursor

-- what is always so: the tree is well formed, and what was heard of follows it
pub record IsRemote (s : RemoteState) : Type 0 where
  pub form : WellFormed s.tree
  pub revisions : HaveRevisions s.tree s.revisions s.cursor
  pub ahead : GoesOn s.cursor s.tree s.ahead

-- the number, 0 where there is none
abbrev pub or_zero : Option ℕ → ℕ
or_zero None = 0
or_zero (Some n) = n
