-- The calls of an operation on a folder in memory come to one outcome, and leave one folder. How often it has failed, and what
-- it was when it was settled, is no part of that.
use Rattle.std.specs.List.{list_any}
use Rattle.std.proofs.Common.{◌≡◌, ◌≢◌, ◌==◌, ℕ, suc, true, false, Bool, List, [], ◌∷◌, Option, Some, None, MatchBool, refl, sym, ◌∙◌, ap, subst, inl, inr, arith}
use Rattle.nuc_base.specs.declared.node.Place.{Place}
use Rattle.nuc_base.proofs.Places.{held-not_free}
use Rattle.nuc_filework.specs.Runs.{Accepts, CallAnswers, Called, FolderView, IsNotRun, IsRun, Runs, RunsOp}
use Rattle.nuc_filework.specs.Runs.Runs.{over, stops, goes_on}
use Rattle.nuc_filework.specs.declared.call.Call.{Call}
use Rattle.nuc_filework.specs.declared.call.Call.TheVariants.{MakeDir, WriteNew, Replace, SetBit, MoveTo, Remove}
use Rattle.nuc_folder.specs.Answers.{AlterAnswers, MakeAnswers, MoveAnswers, RemoveAnswers, Told}
use Rattle.nuc_folder.specs.Beside.{Beside, Counts, InMemory}
use Rattle.nuc_folder.specs.Memory.{GivesKey}
use Rattle.nuc_folder.specs.Outcome.{is_success}
use Rattle.nuc_folder.specs.State.{FolderState, place_of}
use Rattle.nuc_folder.specs.declared.item.Key.{Key}
use Rattle.nuc_folder.specs.declared.outcome.Outcome.{Outcome}
use Rattle.nuc_folder.specs.declared.outcome.Outcome.TheVariants as outcome
use Rattle.nuc_folder.specs.declared.ran.RanOp.{RanOp}
use Rattle.nuc_folder.specs.declared.seen.Seen.{Seen}
use Rattle.nuc_io.specs.Calls.{CallsData, is_to_fail, one_more}
use Rattle.nuc_observe.specs.Keys.{KeyMap}
use Rattle.nuc_shelf.specs.Shelf.{with_file, with_folder}

-- WHAT IS ANSWERED, where the folder doesn't fail and memory isn't wanted
pub record Sure (a : Outcome) : Type 0 where
  pub known : a ≢ outcome.Memory
  pub well : a ≢ outcome.Failed

key_one : (x y : Key) → x.0 ≡ y.0 → x ≡ y
key_one x y same = ap (λ k. record { 0 = k }) same

make_one : (p : Place) (made : ℕ → FolderState → FolderState) (old s t : FolderState) (a b : Outcome) (n i j : ℕ) → Sure a → Sure b → GivesKey a n i → GivesKey b n j
    → MakeAnswers p made old a s → MakeAnswers p made old b t → (a ≡ b) × (s ≡ t)
make_one p made old s t (outcome.Made x) (outcome.Made y) n i j c d g h (folder, vacant, is) (parent, free, was) =
    let key : x ≡ y = key_one x y (g.0 ∙ sym h.0) in (ap outcome.Made key, is ∙ ap (λ (k : Key). made k.0 old) key ∙ sym was)
make_one p made old s t (outcome.Made x) outcome.Changed n i j c d g h a b = absurd (b.0 a.0)
make_one p made old s t (outcome.Made x) outcome.Taken n i j c d g h (folder, vacant, is) (parent, (y, (k, at, near)), was) = absurd (vacant y k at near)
make_one p made old s t outcome.Changed (outcome.Made y) n i j c d g h a b = absurd (a.0 b.0)
make_one p made old s t outcome.Changed outcome.Changed n i j c d g h a b = (refl, a.1 ∙ sym b.1)
make_one p made old s t outcome.Changed outcome.Taken n i j c d g h a b = absurd (a.0 b.0)
make_one p made old s t outcome.Taken (outcome.Made y) n i j c d g h (parent, (x, (k, at, near)), was) (folder, vacant, is) = absurd (vacant x k at near)
make_one p made old s t outcome.Taken outcome.Changed n i j c d g h a b = absurd (b.0 a.0)
make_one p made old s t outcome.Taken outcome.Taken n i j c d g h a b = (refl, a.2 ∙ sym b.2)
make_one p made old s t outcome.Failed _ n i j c d g h a b = absurd (c.well refl)
make_one p made old s t outcome.Memory _ n i j c d g h a b = absurd (c.known refl)
make_one p made old s t _ outcome.Failed n i j c d g h a b = absurd (d.well refl)
make_one p made old s t _ outcome.Memory n i j c d g h a b = absurd (d.known refl)
make_one p made old s t outcome.Ok _ n i j c d g h a b = absurd a
make_one p made old s t outcome.NotEmpty _ n i j c d g h a b = absurd a
make_one p made old s t _ b n i j c d g h x y = absurd y

alter_one : (E : Type 0) (after old s t : FolderState) (a b : Outcome) → Sure a → Sure b → AlterAnswers E after old a s → AlterAnswers E after old b t → (a ≡ b) × (s ≡ t)
alter_one E after old s t outcome.Ok outcome.Ok c d a b = (refl, a.1 ∙ sym b.1)
alter_one E after old s t outcome.Ok outcome.Changed c d a b = absurd (b.0 a.0)
alter_one E after old s t outcome.Changed outcome.Ok c d a b = absurd (a.0 b.0)
alter_one E after old s t outcome.Changed outcome.Changed c d a b = (refl, a.1 ∙ sym b.1)
alter_one E after old s t outcome.Failed _ c d a b = absurd (c.well refl)
alter_one E after old s t outcome.Memory _ c d a b = absurd (c.known refl)
alter_one E after old s t _ outcome.Failed c d a b = absurd (d.well refl)
alter_one E after old s t _ outcome.Memory c d a b = absurd (d.known refl)
alter_one E after old s t outcome.Ok _ c d a b = absurd b
alter_one E after old s t outcome.Changed _ c d a b = absurd b
alter_one E after old s t _ b c d x y = absurd x

move_one : (x : ℕ) (e p : Place) (old s t : FolderState) (a b : Outcome) → Sure a → Sure b → MoveAnswers x e p old a s → MoveAnswers x e p old b t → (a ≡ b) × (s ≡ t)
move_one x e p old s t outcome.Ok outcome.Ok c d a b = (refl, a.2 ∙ sym b.2)
move_one x e p old s t outcome.Ok outcome.Changed c d a b = absurd (b.0 a.0)
move_one x e p old s t outcome.Ok outcome.Taken c d a b = absurd (held-not_free old.tree x p b.1 a.1)
move_one x e p old s t outcome.Changed outcome.Ok c d a b = absurd (a.0 b.0)
move_one x e p old s t outcome.Changed outcome.Changed c d a b = (refl, a.1 ∙ sym b.1)
move_one x e p old s t outcome.Changed outcome.Taken c d a b = absurd (a.0 b.0)
move_one x e p old s t outcome.Taken outcome.Ok c d a b = absurd (held-not_free old.tree x p a.1 b.1)
move_one x e p old s t outcome.Taken outcome.Changed c d a b = absurd (b.0 a.0)
move_one x e p old s t outcome.Taken outcome.Taken c d a b = (refl, a.2 ∙ sym b.2)
move_one x e p old s t outcome.Failed _ c d a b = absurd (c.well refl)
move_one x e p old s t outcome.Memory _ c d a b = absurd (c.known refl)
move_one x e p old s t _ outcome.Failed c d a b = absurd (d.well refl)
move_one x e p old s t _ outcome.Memory c d a b = absurd (d.known refl)
move_one x e p old s t outcome.Ok _ c d a b = absurd b
move_one x e p old s t outcome.Changed _ c d a b = absurd b
move_one x e p old s t outcome.Taken _ c d a b = absurd b
move_one x e p old s t _ b c d y z = absurd y

remove_one : (x : ℕ) (e : Seen) (old s t : FolderState) (a b : Outcome) → Sure a → Sure b → RemoveAnswers x e old a s → RemoveAnswers x e old b t → (a ≡ b) × (s ≡ t)
remove_one x e old s t outcome.Ok outcome.Ok c d a b = (refl, a.2 ∙ sym b.2)
remove_one x e old s t outcome.Ok outcome.Changed c d a b = absurd (b.0 a.0)
remove_one x e old s t outcome.Ok outcome.NotEmpty c d (seen, none, is) (saw, (y, n, at, up), was) = absurd (none y n at up)
remove_one x e old s t outcome.Changed outcome.Ok c d a b = absurd (a.0 b.0)
remove_one x e old s t outcome.Changed outcome.Changed c d a b = (refl, a.1 ∙ sym b.1)
remove_one x e old s t outcome.Changed outcome.NotEmpty c d a b = absurd (a.0 b.0)
remove_one x e old s t outcome.NotEmpty outcome.Ok c d (saw, (y, n, at, up), was) (seen, none, is) = absurd (none y n at up)
remove_one x e old s t outcome.NotEmpty outcome.Changed c d a b = absurd (b.0 a.0)
remove_one x e old s t outcome.NotEmpty outcome.NotEmpty c d a b = (refl, a.2 ∙ sym b.2)
remove_one x e old s t outcome.Failed _ c d a b = absurd (c.well refl)
remove_one x e old s t outcome.Memory _ c d a b = absurd (c.known refl)
remove_one x e old s t _ outcome.Failed c d a b = absurd (d.well refl)
remove_one x e old s t _ outcome.Memory c d a b = absurd (d.known refl)
remove_one x e old s t outcome.Ok _ c d a b = absurd b
remove_one x e old s t outcome.Changed _ c d a b = absurd b
remove_one x e old s t outcome.NotEmpty _ c d a b = absurd b
remove_one x e old s t _ b c d y z = absurd y

-- ONE CALL
module _ (bytes : List ℕ) where
  sure_one : (call : Call) (old s t : FolderState) (a b : Outcome) (n i j : ℕ) → Sure a → Sure b → GivesKey a n i → GivesKey b n j
      → CallAnswers bytes call old a s → CallAnswers bytes call old b t → (a ≡ b) × (s ≡ t)
  sure_one (MakeDir place) old s t a b n i j c d g h x y = make_one (place_of place) (λ z w. with_folder w z (place_of place)) old s t a b n i j c d g h x y
  sure_one (WriteNew place bit) old s t a b n i j c d g h x y = make_one (place_of place) (λ z w. with_file w z (place_of place) bit bytes) old s t a b n i j c d g h x y
  sure_one (Replace key e) old s t a b n i j c d g h x y = alter_one _ _ old s t a b c d x y
  sure_one (SetBit key e bit) old s t a b n i j c d g h x y = alter_one _ _ old s t a b c d x y
  sure_one (MoveTo key e place) old s t a b n i j c d g h x y = move_one key.0 (place_of e) (place_of place) old s t a b c d x y
  sure_one (Remove key e) old s t a b n i j c d g h x y = remove_one key.0 e old s t a b c d x y

  -- a folder that fails changes nothing
  failed_same : (call : Call) (old new : FolderState) → CallAnswers bytes call old outcome.Failed new → new ≡ old
  failed_same (MakeDir place) old new is = is
  failed_same (WriteNew place bit) old new is = is
  failed_same (Replace key e) old new is = is
  failed_same (SetBit key e bit) old new is = is
  failed_same (MoveTo key e place) old new is = is
  failed_same (Remove key e) old new is = is

  answer_one : (fails : Bool) (call : Call) (old s t : FolderState) (a b : Outcome) (n i j : ℕ) → a ≢ outcome.Memory → b ≢ outcome.Memory
      → MatchBool fails (a ≡ outcome.Failed) (¬ (a ≡ outcome.Failed)) → MatchBool fails (b ≡ outcome.Failed) (¬ (b ≡ outcome.Failed))
      → GivesKey a n i → GivesKey b n j → CallAnswers bytes call old a s → CallAnswers bytes call old b t → (a ≡ b) × (s ≡ t)
  answer_one true call old s t a b n i j c d f e g h x y =
      (f ∙ sym e, failed_same call old s (subst (λ o. CallAnswers bytes call old o s) f x) ∙ sym (failed_same call old t (subst (λ o. CallAnswers bytes call old o t) e y)))
  answer_one false call old s t a b n i j c d f e g h x y = sure_one call old s t a b n i j (record { known = c; well = f }) (record { known = d; well = e }) g h x y

next_one : (a : Outcome) (n i j : ℕ) → GivesKey a n i → GivesKey a n j → i ≡ j
next_one (outcome.Made key) n i j g h = g.1 ∙ sym h.1
next_one outcome.Ok n i j g h = g ∙ sym h
next_one outcome.NotEmpty n i j g h = g ∙ sym h
next_one outcome.Changed n i j g h = g ∙ sym h
next_one outcome.Taken n i j g h = g ∙ sym h
next_one outcome.Failed n i j g h = g ∙ sym h
next_one outcome.Memory n i j g h = g ∙ sym h

-- two views of one folder in memory
pub record Alike (v w : FolderView) : Type 0 where
  pub held : FolderState
  pub told : v.told ≡ Some held
  pub also_told : w.told ≡ Some held
  pub next : v.next ≡ w.next
  pub one : Beside
  pub other : Beside
  pub beside : v.beside ≡ Some one
  pub also_beside : w.beside ≡ Some other
  pub made : one.calls.made ≡ other.calls.made
  pub failing : one.calls.failing ≡ other.calls.failing
  pub pending : one.pending ≡ other.pending

same_fails : (a b : CallsData) → a.made ≡ b.made → a.failing ≡ b.failing → is_to_fail b ≡ is_to_fail a
same_fails a b made failing =
    ap (λ m. list_any (λ k. k == one_more m) b.failing) (sym made) ∙ ap (λ (f : List ℕ). list_any (λ k. k == one_more a.made) f) (sym failing)

told_some : (R : FolderState → FolderState → Type 0) (s : FolderState) (o : Option FolderState) → Told R (Some s) o → (t : FolderState) × (o ≡ Some t) × R s t
told_some R s None none = absurd none
told_some R s (Some t) is = (t, refl, is)

beside_some : (a : Outcome) (d : Beside) (n i : ℕ) (o : Option Beside) → InMemory a (Some d) n o i → (e : Beside) × (o ≡ Some e) × Counts a d e × GivesKey a n i
beside_some a d n i None none = absurd none
beside_some a d n i (Some e) is = (e, refl, is.0, is.1)

module _ (bytes : List ℕ) where
  called_one : (call : Call) (v w u x : FolderView) (a b : Outcome) → Alike v w → a ≢ outcome.Memory → b ≢ outcome.Memory
      → Called bytes call v a u → Called bytes call w b x → (a ≡ b) × Alike u x
  called_one call v w u x a b alike c d is was =
      let (s, told, holds) = told_some (λ old new. CallAnswers bytes call old a new) alike.held u.told (subst (λ o. Told (λ old new. CallAnswers bytes call old a new) o u.told) alike.told is.told) in
      let (t, tells, keeps) = told_some (λ old new. CallAnswers bytes call old b new) alike.held x.told (subst (λ o. Told (λ old new. CallAnswers bytes call old b new) o x.told) alike.also_told was.told) in
      let (e, beside, counts, gives) = beside_some a alike.one v.next u.next u.beside (subst (λ o. InMemory a o v.next u.beside u.next) alike.beside is.memory) in
      let (f, apart, count, given) = beside_some b alike.other w.next x.next x.beside (subst (λ o. InMemory b o w.next x.beside x.next) alike.also_beside was.memory) in
      let same = same_fails alike.one.calls alike.other.calls alike.made alike.failing in
      let gave : GivesKey b v.next x.next = subst (λ n. GivesKey b n x.next) (sym alike.next) given in
      let one = answer_one bytes (is_to_fail alike.one.calls) call alike.held s t a b v.next u.next x.next c d counts.1
      (subst (λ (t : Bool). MatchBool t (b ≡ outcome.Failed) (¬ (b ≡ outcome.Failed))) same count.1) gives gave holds keeps in (
        one.0,
        record {
          held = s;
          told = told;
          also_told = tells ∙ ap Some (sym one.1);
          next = next_one a v.next u.next x.next gives (subst (λ o. GivesKey o v.next x.next) (sym one.0) gave);
          one = e;
          other = f;
          beside = beside;
          also_beside = apart;
          made = ap (λ (z : Beside). z.calls.made) counts.0 ∙ ap one_more alike.made ∙ sym (ap (λ (z : Beside). z.calls.made) count.0);
          failing = ap (λ (z : Beside). z.calls.failing) counts.0 ∙ alike.failing ∙ sym (ap (λ (z : Beside). z.calls.failing) count.0);
          pending = ap (λ (z : Beside). z.pending) counts.0 ∙ alike.pending ∙ sym (ap (λ (z : Beside). z.pending) count.0);
        },
      )

success_known : (a : Outcome) → is_success a ≡ true → a ≢ outcome.Memory
success_known a good is = let clash : false ≡ true = sym (ap is_success is) ∙ good in cc

-- ONE RUN
module _ (bytes : List ℕ) where
  pub runs_one : (calls : List Call) (last : Outcome) (v w u x : FolderView) (a b : Outcome) (i j : ℕ) → Alike v w → a ≢ outcome.Memory → b ≢ outcome.Memory
      → Runs bytes last calls v a i u → Runs bytes last calls w b j x → (a ≡ b) × (i ≡ j) × Alike u x
  runs_one _ _ _ _ _ _ _ _ _ _ alike c d (over last v) (over _ w) = (refl, refl, alike)
  runs_one _ _ _ _ _ _ _ _ _ _ alike c d (stops last call calls v a u is fails) (stops _ _ _ w b x was failed) =
      let one = called_one bytes call v w u x a b alike c d is was in (one.0, refl, one.1)
  runs_one _ _ _ _ _ _ _ _ _ _ alike c d (stops last call calls v a u is fails) (goes_on _ _ _ w b y final made x was good rest) =
      let one = called_one bytes call v w u y a b alike c (success_known b good) is was in
      let clash : false ≡ true = sym fails ∙ ap is_success one.0 ∙ good in cc
  runs_one _ _ _ _ _ _ _ _ _ _ alike c d (goes_on last call calls v a y final made u is good rest) (stops _ _ _ w b x was failed) =
      let one = called_one bytes call v w y x a b alike (success_known a good) d is was in
      let clash : false ≡ true = sym failed ∙ ap is_success (sym one.0) ∙ good in cc
  runs_one _ _ _ _ _ _ _ _ _ _ alike c d (goes_on last call calls v a y final made u is good rest) (goes_on _ _ _ w b z end count x was well more) =
      let one = called_one bytes call v w y z a b alike (success_known a good) (success_known b well) is was in
      let next = runs_one calls a y z u x final end made count one.1 c d rest (subst (λ o. Runs bytes o calls z end count x) (sym one.0) more) in
      (next.0, ap suc next.1, next.2)

-- what was made has a key of its own, or not
accepts_one : (m : KeyMap) (last a b : Outcome) → Accepts m last a → Accepts m last b → a ≡ b
accepts_one m (outcome.Made key) (outcome.Made x) (outcome.Made y) p q = ap outcome.Made (p.0 ∙ sym q.0)
accepts_one m (outcome.Made key) (outcome.Made x) outcome.Changed p (inl none) = let some = p.1 in absurd (omega (arith, none, some))
accepts_one m (outcome.Made key) (outcome.Made x) outcome.Changed p (inr held) = absurd (held p.2)
accepts_one m (outcome.Made key) outcome.Changed (outcome.Made y) (inl none) q = let some = q.1 in absurd (omega (arith, none, some))
accepts_one m (outcome.Made key) outcome.Changed (outcome.Made y) (inr held) q = absurd (held q.2)
accepts_one m (outcome.Made key) outcome.Changed outcome.Changed p q = refl
accepts_one m (outcome.Made key) (outcome.Made x) _ p q = absurd q
accepts_one m (outcome.Made key) outcome.Changed _ p q = absurd q
accepts_one m (outcome.Made key) _ b p q = absurd p
accepts_one m outcome.Ok a b p q = p ∙ sym q
accepts_one m outcome.Changed a b p q = p ∙ sym q
accepts_one m outcome.Taken a b p q = p ∙ sym q
accepts_one m outcome.NotEmpty a b p q = p ∙ sym q
accepts_one m outcome.Failed a b p q = p ∙ sym q
accepts_one m outcome.Memory a b p q = p ∙ sym q

accepts_known : (m : KeyMap) (last a : Outcome) → Accepts m last a → a ≢ outcome.Memory → last ≢ outcome.Memory
accepts_known m last a accepts known is = known (subst (λ o. Accepts m o a) is accepts)

ran_one : (a b : RanOp) → a.outcome ≡ b.outcome → a.made ≡ b.made → a ≡ b
ran_one a b outcome made = λ i. record { outcome = outcome i; made = made i }

module _ (m : KeyMap) (bytes : List ℕ) (v w : FolderView) (alike : Alike v w) (r q : RanOp) (c : r.outcome ≢ outcome.Memory) (d : q.outcome ≢ outcome.Memory) (u x : FolderView) where
  not_run : (a : Outcome) → IsNotRun v a r u → IsNotRun w a q x → (r ≡ q) × Alike u x
  not_run a (is, stays) (was, same) = (is ∙ sym was, subst (λ z. Alike z x) (sym stays) (subst (λ z. Alike v z) (sym same) alike))

  wanted : {X : Type 0} → (y : FolderView) (o : FolderView) (p : RanOp) → p.outcome ≢ outcome.Memory → IsNotRun y outcome.Memory p o → X
  wanted y o p known (is, same) = absurd (known (ap (λ (z : RanOp). z.outcome) is))

  run_one : (calls : List Call) → IsRun m bytes calls v r u → IsRun m bytes calls w q x → (r ≡ q) × Alike u x
  run_one calls is was =
      let one = runs_one bytes calls outcome.Ok v w u x is.last was.last r.made q.made alike (accepts_known m is.last r.outcome is.answer c)
      (accepts_known m was.last q.outcome was.answer d) is.runs was.runs in
      (ran_one r q (accepts_one m is.last r.outcome q.outcome is.answer (subst (λ o. Accepts m o q.outcome) (sym one.0) was.answer)) one.1, one.2)

  pub op_one : (o : Option (List Call)) → RunsOp m bytes o v r u → RunsOp m bytes o w q x → (r ≡ q) × Alike u x
  op_one None (inl is) (inl was) = not_run outcome.Changed is was
  op_one None (inr is) was = wanted v u r c is
  op_one None is (inr was) = wanted w x q d was
  op_one (Some []) is was = not_run outcome.Ok is was
  op_one (Some (call ∷ calls)) (inl is) (inl was) = run_one (call ∷ calls) is was
  op_one (Some (call ∷ calls)) (inr is) was = wanted v u r c is
  op_one (Some (call ∷ calls)) is (inr was) = wanted w x q d was
