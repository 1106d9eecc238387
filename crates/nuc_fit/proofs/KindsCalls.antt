-- A call of the folder keeps to the kinds of the keys: what is made has a key that was never used.
use Rattle.std.proofs.Common.{◌≡◌, ◌<◌, ◌≤◌, ℕ, List, [], ◌∷◌, Option, Some, None, refl, sym, ◌∙◌, subst, arith}
use Rattle.std.specs.FinMap.{get, insert}
use Rattle.nuc_base.specs.declared.node.Kind.{Kind}
use Rattle.nuc_base.specs.declared.node.Kind.TheVariants.{Folder, File}
use Rattle.nuc_base.specs.declared.node.Node.{Node}
use Rattle.nuc_base.specs.declared.node.Place.{Place}
use Rattle.nuc_base.proofs.Maps.{after_cut}
use Rattle.nuc_filework.specs.Runs.{CallAnswers, Succeeds}
use Rattle.nuc_filework.specs.declared.call.Call.{Call}
use Rattle.nuc_filework.specs.declared.call.Call.TheVariants.{MakeDir, WriteNew, Replace, SetBit, MoveTo, Remove}
use Rattle.nuc_folder.specs.Answers.{AlterAnswers, Changes, MakeAnswers, Makes, MoveAnswers, RemoveAnswers}
use Rattle.nuc_folder.specs.State.{FolderState, IsTold, KeysBelow, place_of}
use Rattle.nuc_folder.specs.declared.outcome.Outcome.{Outcome}
use Rattle.nuc_folder.specs.declared.outcome.Outcome.TheVariants as outcome
use Rattle.nuc_folder.specs.declared.seen.Seen.{Seen}
use Rattle.nuc_shelf.specs.Shelf.{file_at, folder_at, placed, with_bit, with_file, with_folder}
use Rattle.nuc_fit.proofs.KindsForm.{Agree, AreHeld, Kinds, with_kind, with_kind_other, with_kind_own}
use Rattle.nuc_fit.proofs.KindsUser.{held_changed, held_new}

-- WHICH CALLS: such as make only what is of this kind
abbrev pub IsCallOf : Kind → Call → Type 0
IsCallOf kind (MakeDir place) = Folder ≡ kind
IsCallOf kind (WriteNew place bit) = File ≡ kind
IsCallOf kind (Replace key expected) = Unit {0}
IsCallOf kind (SetBit key expected bit) = Unit {0}
IsCallOf kind (MoveTo key expected place) = Unit {0}
IsCallOf kind (Remove key expected) = Unit {0}

abbrev pub AreCallsOf : Kind → List Call → Type 0
AreCallsOf kind [] = Unit {0}
AreCallsOf kind (call ∷ calls) = IsCallOf kind call × AreCallsOf kind calls

-- WHAT IS TOLD
abbrev pub IsToldOf : Kinds → Option FolderState → Type 0
IsToldOf kinds None = Unit {0}
IsToldOf kinds (Some s) = AreHeld kinds s.tree

abbrev pub IsToldBelow : ℕ → Option FolderState → Type 0
IsToldBelow next None = Unit {0}
IsToldBelow next (Some s) = KeysBelow next s

pub told_below : (next : ℕ) (o : Option FolderState) → IsTold next o → IsToldBelow next o
told_below next None is = tt
told_below next (Some s) is = is.1

-- what was made has a key of this kind, below the next
abbrev pub IsMadeAs : Kinds → Kind → ℕ → Outcome → Type 0
IsMadeAs kinds kind next (outcome.Made key) = (kind ≡ kinds key.0) × (key.0 < next)
IsMadeAs kinds kind next outcome.Ok = Unit {0}
IsMadeAs kinds kind next outcome.NotEmpty = Unit {0}
IsMadeAs kinds kind next outcome.Changed = Unit {0}
IsMadeAs kinds kind next outcome.Taken = Unit {0}
IsMadeAs kinds kind next outcome.Failed = Unit {0}
IsMadeAs kinds kind next outcome.Memory = Unit {0}

-- the kinds after an answer
abbrev pub kinds_after : Kinds → Kind → Outcome → Kinds
kinds_after kinds kind (outcome.Made key) = with_kind kinds key.0 kind
kinds_after kinds kind outcome.Ok = kinds
kinds_after kinds kind outcome.NotEmpty = kinds
kinds_after kinds kind outcome.Changed = kinds
kinds_after kinds kind outcome.Taken = kinds
kinds_after kinds kind outcome.Failed = kinds
kinds_after kinds kind outcome.Memory = kinds

-- THE KEYS of an answer
pub record Answered (kinds later : Kinds) (kind : Kind) (before after : ℕ) (reply : Outcome) : Type 0 where
  pub agree : Agree before kinds later
  pub made : IsMadeAs later kind after reply
  pub rises : before ≤ after

module _ (kinds : Kinds) (kind : Kind) (before after : ℕ) where
  nothing_made : (reply : Outcome) → before ≤ after → IsMadeAs kinds kind after reply → Answered kinds kinds kind before after reply
  nothing_made reply rises made = record { agree = λ k below. refl; made = made; rises = rises }

  makes_answered : (reply : Outcome) → Makes reply before after → Answered kinds (kinds_after kinds kind reply) kind before after reply
  makes_answered (outcome.Made key) (some, above, below) = record {
    agree = λ k less. with_kind_other kinds key.0 kind k (λ same. absurd (omega (arith, less, same, above)));
    made = (sym (with_kind_own kinds key.0 kind), below);
    rises = omega (arith, above, below);
  }
  makes_answered outcome.Ok is = absurd is
  makes_answered outcome.NotEmpty is = absurd is
  makes_answered outcome.Changed is = nothing_made outcome.Changed is tt
  makes_answered outcome.Taken is = nothing_made outcome.Taken is tt
  makes_answered outcome.Failed is = nothing_made outcome.Failed is tt
  makes_answered outcome.Memory is = nothing_made outcome.Memory is tt

  changes_answered : (reply : Outcome) → Changes reply before after → Answered kinds (kinds_after kinds kind reply) kind before after reply
  changes_answered (outcome.Made key) is = absurd is
  changes_answered outcome.Ok is = nothing_made outcome.Ok is tt
  changes_answered outcome.NotEmpty is = nothing_made outcome.NotEmpty is tt
  changes_answered outcome.Changed is = nothing_made outcome.Changed is tt
  changes_answered outcome.Taken is = nothing_made outcome.Taken is tt
  changes_answered outcome.Failed is = nothing_made outcome.Failed is tt
  changes_answered outcome.Memory is = nothing_made outcome.Memory is tt

  pub call_answered : (call : Call) (reply : Outcome) → Succeeds call reply before after → Answered kinds (kinds_after kinds kind reply) kind before after reply
  call_answered (MakeDir place) reply is = makes_answered reply is
  call_answered (WriteNew place bit) reply is = makes_answered reply is
  call_answered (Replace key expected) reply is = changes_answered reply is
  call_answered (SetBit key expected bit) reply is = changes_answered reply is
  call_answered (MoveTo key expected place) reply is = changes_answered reply is
  call_answered (Remove key expected) reply is = changes_answered reply is

-- WHAT IS HELD after a call
module _ (kinds : Kinds) (kind : Kind) (next : ℕ) (old new : FolderState) (below : KeysBelow next old) (held : AreHeld kinds old.tree) where
  same_held : new ≡ old → AreHeld kinds new.tree
  same_held is = subst (λ (s : FolderState). AreHeld kinds s.tree) (sym is) held

  -- something is made, of the kind
  make_held : (p : Place) (made : ℕ → FolderState → FolderState) (n : Node) → n.kind ≡ kind → ((x : ℕ) → (made x old).tree ≡ insert old.tree x n)
      → (reply : Outcome) → Agree next kinds (kinds_after kinds kind reply) → MakeAnswers p made old reply new → AreHeld (kinds_after kinds kind reply) new.tree
  make_held p made n same tree (outcome.Made key) agree (parent, vacant, is) =
      let later = with_kind kinds key.0 kind in
      subst (λ (s : FolderState). AreHeld later s.tree) (sym is) (subst (AreHeld later) (sym (tree key.0))
      (held_new kinds later next key.0 old.tree n below agree (same ∙ sym (with_kind_own kinds key.0 kind)) held))
  make_held p made n same tree outcome.Changed agree is = same_held is.1
  make_held p made n same tree outcome.Taken agree is = same_held is.2
  make_held p made n same tree outcome.Failed agree is = same_held is
  make_held p made n same tree outcome.Memory agree is = same_held is
  make_held p made n same tree outcome.Ok agree is = absurd is
  make_held p made n same tree outcome.NotEmpty agree is = absurd is

  -- something that is there changes
  alter_held : (Expected : Type 0) (after : FolderState) → AreHeld kinds after.tree → (reply : Outcome) → AlterAnswers Expected after old reply new
      → AreHeld (kinds_after kinds kind reply) new.tree
  alter_held Expected after its outcome.Ok is = subst (λ (s : FolderState). AreHeld kinds s.tree) (sym is.1) its
  alter_held Expected after its outcome.Changed is = same_held is.1
  alter_held Expected after its outcome.Failed is = same_held is
  alter_held Expected after its outcome.Memory is = same_held is
  alter_held Expected after its (outcome.Made key) is = absurd is
  alter_held Expected after its outcome.Taken is = absurd is
  alter_held Expected after its outcome.NotEmpty is = absurd is

  move_held : (x : ℕ) (from to : Place) (reply : Outcome) → MoveAnswers x from to old reply new → AreHeld (kinds_after kinds kind reply) new.tree
  move_held x from to outcome.Ok (can, free, is) =
      subst (λ (s : FolderState). AreHeld kinds s.tree) (sym is) (held_changed kinds old.tree x (placed to) (get old.tree x) refl (λ n. refl) held)
  move_held x from to outcome.Changed is = same_held is.1
  move_held x from to outcome.Taken is = same_held is.2
  move_held x from to outcome.Failed is = same_held is
  move_held x from to outcome.Memory is = same_held is
  move_held x from to (outcome.Made key) is = absurd is
  move_held x from to outcome.NotEmpty is = absurd is

  remove_held : (x : ℕ) (seen : Seen) (reply : Outcome) → RemoveAnswers x seen old reply new → AreHeld (kinds_after kinds kind reply) new.tree
  remove_held x seen outcome.Ok (so, empty, is) =
      subst (λ (s : FolderState). AreHeld kinds s.tree) (sym is) (λ k h at. held k h (after_cut old.tree x k h at).1)
  remove_held x seen outcome.Changed is = same_held is.1
  remove_held x seen outcome.NotEmpty is = same_held is.2
  remove_held x seen outcome.Failed is = same_held is
  remove_held x seen outcome.Memory is = same_held is
  remove_held x seen (outcome.Made key) is = absurd is
  remove_held x seen outcome.Taken is = absurd is

  pub call_held : (bytes : List ℕ) (call : Call) (reply : Outcome) → IsCallOf kind call → Agree next kinds (kinds_after kinds kind reply) → CallAnswers bytes call old reply new
      → AreHeld (kinds_after kinds kind reply) new.tree
  call_held bytes (MakeDir place) reply of agree is =
      make_held (place_of place) (λ x s. with_folder s x (place_of place)) (folder_at (place_of place)) of (λ x. refl) reply agree is
  call_held bytes (WriteNew place bit) reply of agree is =
      make_held (place_of place) (λ x s. with_file s x (place_of place) bit bytes) (file_at (place_of place) bit) of (λ x. refl) reply agree is
  call_held bytes (Replace key expected) reply of agree is = alter_held _ _ held reply is
  call_held bytes (SetBit key expected bit) reply of agree is =
      alter_held _ _ (held_changed kinds old.tree key.0 (with_bit bit) (get old.tree key.0) refl (λ n. refl) held) reply is
  call_held bytes (MoveTo key expected place) reply of agree is = move_held key.0 (place_of expected) (place_of place) reply is
  call_held bytes (Remove key expected) reply of agree is = remove_held key.0 expected reply is
