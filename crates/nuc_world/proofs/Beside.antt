-- The calls of an operation leave alone what a folder in memory was when it was settled, and what is pending.
use Rattle.std.proofs.Common.{◌≡◌, ℕ, List, [], ◌∷◌, refl, sym, ◌∙◌, subst, ap, inl, inr}
use Rattle.std.specs.Prelude.{Option, None, Some}
use Rattle.nuc_filework.specs.Runs.{FolderView, Runs, RunsOp, over, stops, goes_on}
use Rattle.nuc_filework.specs.declared.call.Call.{Call}
use Rattle.nuc_folder.specs.Beside.{Beside, InMemory}
use Rattle.nuc_folder.specs.declared.outcome.Outcome.{Outcome}
use Rattle.nuc_folder.specs.declared.outcome.Outcome.TheVariants as outcome
use Rattle.nuc_folder.specs.declared.ran.RanOp.{RanOp}
use Rattle.nuc_observe.specs.Keys.{KeyMap}

-- the same but for the calls that were made, and how many failed
pub record KeepsBeside (a b : Beside) : Type 0 where
  pub settled : b.settled ≡ a.settled
  pub pending : b.pending ≡ a.pending
  pub calls_settled : b.calls.settled ≡ a.calls.settled
  pub failing : b.calls.failing ≡ a.calls.failing

abbrev pub KeepsMemory : Option Beside → Option Beside → Type 0
KeepsMemory None None = Unit {0}
KeepsMemory None (Some b) = ⊥
KeepsMemory (Some a) None = ⊥
KeepsMemory (Some a) (Some b) = KeepsBeside a b

stays : (a : Option Beside) → KeepsMemory a a
stays None = tt
stays (Some a) = record { settled = refl; pending = refl; calls_settled = refl; failing = refl }

goes : (a b c : Option Beside) → KeepsMemory a b → KeepsMemory b c → KeepsMemory a c
goes None None None first second = tt
goes None None (Some c) first second = second
goes None (Some b) c first second = absurd first
goes (Some a) None c first second = absurd first
goes (Some a) (Some b) None first second = absurd second
goes (Some a) (Some b) (Some c) first second = record {
  settled = second.settled ∙ first.settled;
  pending = second.pending ∙ first.pending;
  calls_settled = second.calls_settled ∙ first.calls_settled;
  failing = second.failing ∙ first.failing;
}

one_call : (answer : Outcome) (a : Option Beside) (n : ℕ) (b : Option Beside) (k : ℕ) → InMemory answer a n b k → KeepsMemory a b
one_call answer None n None k is = tt
one_call answer None n (Some b) k is = is
one_call answer (Some a) n None k is = is
one_call answer (Some a) n (Some b) k ((same, fails), gives) = record {
  settled = ap (λ (x : Beside). x.settled) same;
  pending = ap (λ (x : Beside). x.pending) same;
  calls_settled = ap (λ (x : Beside). x.calls.settled) same;
  failing = ap (λ (x : Beside). x.calls.failing) same;
}

runs_keep : (bytes : List ℕ) (last : Outcome) (calls : List Call) (v : FolderView) (a : Outcome) (n : ℕ) (w : FolderView) → Runs bytes last calls v a n w → KeepsMemory v.beside w.beside
runs_keep bytes last calls v a n w (over _ _) = stays v.beside
runs_keep bytes last calls v a n w (stops _ call rest _ _ _ called fails) = one_call a v.beside v.next w.beside w.next called.memory
runs_keep bytes last calls v a n w (goes_on _ call rest _ answer u final m _ called succeeds more) =
    goes v.beside u.beside w.beside (one_call answer v.beside v.next u.beside u.next called.memory) (runs_keep bytes answer rest u a m w more)

same_view : (v w : FolderView) → w ≡ v → KeepsMemory v.beside w.beside
same_view v w is = subst (λ (x : FolderView). KeepsMemory v.beside x.beside) (sym is) (stays v.beside)

pub op_keeps : (m : KeyMap) (bytes : List ℕ) (o : Option (List Call)) (v : FolderView) (ran : RanOp) (w : FolderView) → RunsOp m bytes o v ran w → KeepsMemory v.beside w.beside
op_keeps m bytes None v ran w (inl (is, same)) = same_view v w same
op_keeps m bytes None v ran w (inr (is, same)) = same_view v w same
op_keeps m bytes (Some []) v ran w (is, same) = same_view v w same
op_keeps m bytes (Some (call ∷ calls)) v ran w (inl run) = runs_keep bytes outcome.Ok (call ∷ calls) v run.last ran.made w run.runs
op_keeps m bytes (Some (call ∷ calls)) v ran w (inr (is, same)) = same_view v w same
