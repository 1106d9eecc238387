-- Two operations that are together.
use Rattle.std.proofs.Common.{◌<◌, ℕ, sym, subst}
use Rattle.std.specs.Prelude.{Bool}
use Rattle.std.specs.FinMap.{get}
use Rattle.nuc_base.specs.Changes.{changed}
use Rattle.nuc_base.specs.Trees.{Nodes, OneKind, WellFormed}
use Rattle.nuc_base.proofs.Commute.{apart-sym, legal_after}
use Rattle.nuc_class.specs.Due.{IsDue}
use Rattle.nuc_class.specs.declared.op.Op.{Op}
use Rattle.nuc_class.proofs.Fits.{operation_id, operations_fit}
use Rattle.nuc_safety.specs.Batch.{IsPossible}
use Rattle.nuc_safety.specs.Together.{Together}

pub together-sym : (r l s : Nodes) (a b : Op) → Together r l s a b → Together r l s b a
together-sym r l s a b both = record {
  ids = λ e. both.ids (sym e);
  remote = apart-sym r a.id.0 b.id.0 a.remote b.remote both.remote;
  local = apart-sym l a.id.0 b.id.0 a.local b.local both.local;
  synced = apart-sym s a.id.0 b.id.0 a.synced b.synced both.synced;
}

-- what was possible is so after an operation that it is together with
pub possible_after : (r l s : Nodes) (a b : Op) → WellFormed r → WellFormed l → WellFormed s → IsPossible r l s a → IsPossible r l s b → Together r l s a b
    → IsPossible (changed r a.id.0 a.remote) (changed l a.id.0 a.local) (changed s a.id.0 a.synced) b
possible_after r l s a b remote local synced first second both = record {
  id = second.id;
  fits = second.fits;
  legal = record {
    remote = legal_after r a.id.0 b.id.0 a.remote b.remote remote first.id both.ids first.legal.remote second.legal.remote both.remote;
    local = legal_after l a.id.0 b.id.0 a.local b.local local first.id both.ids first.legal.local second.legal.local both.local;
    synced = legal_after s a.id.0 b.id.0 a.synced b.synced synced first.id both.ids first.legal.synced second.legal.synced both.synced;
  };
}

-- what is due is possible
pub due_possible : (same : ℕ → ℕ → Bool) (r l s : Nodes) (x : ℕ) (op : Op) → WellFormed r → WellFormed l → OneKind r l → 0 < x → IsDue same r l s x op
    → IsPossible r l s op
due_possible same r l s x op remote local kinds below due = record {
  id = subst (λ y. 0 < y) (sym (operation_id same due.wish x (get r x) (get l x) (get s x) op due.planned)) below;
  fits = operations_fit same r l s x due.wish op remote local kinds due.planned;
  legal = due.legal;
}
