-- What all share goes on, and what was so of a client's flights is so still.
use Rattle.std.specs.Prelude.{All, Any, length, not, take}
use Rattle.std.proofs.Common.{◌≡◌, ◌⊎◌, ◌<◌, ◌≤◌, ◌==◌, ◌++◌, ◌&&◌, ℕ, zero, suc, Bool, true, false, cond, List, [], ◌∷◌, Option, Some, None, IsSome, refl, sym, ◌∙◌, ap, subst, inl, inr, arith}
use Rattle.std.proofs.lemmas.List.{append-nil, length-append, take-append-le}
use Rattle.nuc_base.specs.declared.change.Change.{Change}
use Rattle.nuc_base.specs.declared.change.Change.TheVariants.{Keep, Put, Cut}
use Rattle.nuc_base.specs.declared.node.Node.{Node}
use Rattle.nuc_class.specs.Effects.{adopts}
use Rattle.nuc_class.specs.declared.op.Effect.{Effect}
use Rattle.nuc_class.specs.declared.op.Effect.TheVariants as effect
use Rattle.nuc_class.specs.declared.op.Op.{Op}
use Rattle.nuc_edits.specs.Edits.{Recorded, both_same, content_at, same_hash}
use Rattle.nuc_edits.specs.declared.edit.Adoption.{Adoption}
use Rattle.nuc_edits.specs.declared.edit.Edit.{Edit}
use Rattle.nuc_edits.proofs.Contents.{content_kept}
use Rattle.nuc_flights.specs.Flights.{Flight, Stage, planned, started, taken}
use Rattle.nuc_flights.specs.declared.taken.Taken.{Taken}
use Rattle.nuc_flights.specs.declared.taken.Taken.TheVariants as came
use Rattle.nuc_hash.specs.Content.{ContentData}
use Rattle.nuc_journal.specs.Entries.{revision_of, tree_of}
use Rattle.nuc_journal.specs.declared.entry.Entry.{Entry}
use Rattle.nuc_server.specs.WebEdits.{WebState}
use Rattle.nuc_step.specs.Client.{ClientState}
use Rattle.nuc_step.specs.Steps.{adopted_by}
use Rattle.nuc_world.proofs.AccountedForm.{AreAlone, Fate, Further, GoneBy, Has, IsClear, IsEntered, IsFine, IsFineOp, IsFineStage, IsFineTaken}
use Rattle.nuc_world.proofs.AccountedForm.Fate.{stays, gone, adopts as is_adopted}
use Rattle.nuc_world.proofs.Items.{all_map}

-- SOME OF A LIST is some of a longer one
pub any_front : {X : Type 0} (P : X → Type 0) (xs ys : List X) → Any P xs → Any P (xs ++ ys)
any_front P [] ys (k, y, below, at, its) = absurd (omega (arith, below))
any_front P (x ∷ xs) ys (zero, y, below, at, its) = (zero, y, omega arith, at, its)
any_front P (x ∷ xs) ys (suc k, y, below, at, its) =
    let (j, z, less, there, has) = any_front P xs ys (k, y, omega (arith, below), at, its) in (suc j, z, omega (arith, less), there, has)

pub any_behind : {X : Type 0} (P : X → Type 0) (xs ys : List X) → Any P ys → Any P (xs ++ ys)
any_behind P [] ys some = some
any_behind P (x ∷ xs) ys some = let (j, z, less, there, has) = any_behind P xs ys some in (suc j, z, omega (arith, less), there, has)

pub any_one : {X : Type 0} (P : X → Type 0) (x : X) → P x → Any P (x ∷ [])
any_one P x its = (0, x, omega arith, refl, its)

-- WHAT HAS ONE HASH
first_put : (a b : Option ContentData) → both_same a b ≡ true → IsSome a
first_put None b is = is
first_put (Some a) b is = refl

second_put : (a b : Option ContentData) → both_same a b ≡ true → IsSome b
second_put None b is = let bad : false ≡ true = is in cc
second_put (Some a) None is = is
second_put (Some a) (Some b) is = refl

pub same_later : (edits more : List Edit) (a b : ℕ) → same_hash edits a b ≡ true → same_hash (edits ++ more) a b ≡ true
same_later edits more a b is =
    let one = content_kept a edits more (first_put (content_at edits a) (content_at edits b) is) in
    let two = content_kept b edits more (second_put (content_at edits a) (content_at edits b) is) in
    ap (λ o. both_same o (content_at (edits ++ more) b)) one ∙ ap (both_same (content_at edits a)) two ∙ is

-- GOES FURTHER where edits, adoptions and entries only came
pub gone_later : (r q : Recorded) (edits : List Edit) (adoptions : List Adoption) → q.edits ≡ r.edits ++ edits → q.adoptions ≡ r.adoptions ++ adoptions
    → (v : ℕ) → GoneBy r v → GoneBy q v
gone_later r q edits adoptions more also v (inl based) = inl (subst (Any (λ (e : Edit). e.base.0 ≡ v)) (sym more) (any_front (λ (e : Edit). e.base.0 ≡ v) r.edits edits based))
gone_later r q edits adoptions more also v (inr adopted) = inr (subst (Any (λ (a : Adoption). a.old.0 ≡ v)) (sym also) (any_front (λ (a : Adoption). a.old.0 ≡ v) r.adoptions adoptions adopted))

pub further_by : (s t : WebState) (edits : List Edit) (adoptions : List Adoption) (more : List Entry) → t.edits.edits ≡ s.edits.edits ++ edits
    → t.edits.adoptions ≡ s.edits.adoptions ++ adoptions → t.entries ≡ s.entries ++ more → Further s t
further_by s t edits adoptions more later also entered = record {
  gone = gone_later s.edits t.edits edits adoptions later also;
  same = λ a b is. subst (λ es. same_hash es a b ≡ true) (sym later) (same_later s.edits.edits edits a b is);
  more = more;
  entries = entered;
}

pub further_same : (s t : WebState) → t.edits ≡ s.edits → t.entries ≡ s.entries → Further s t
further_same s t edits entries = further_by s t [] [] [] (ap (λ (r : Recorded). r.edits) edits ∙ sym (append-nil s.edits.edits))
    (ap (λ (r : Recorded). r.adoptions) edits ∙ sym (append-nil s.edits.adoptions)) (entries ∙ sym (append-nil s.entries))

-- WHAT WAS SO OF AN OPERATION is so when all shared went further, and Local's and Remote's versions are there or gone by
pub record Moves (s : WebState) (c : ClientState) (t : WebState) (d : ClientState) : Type 0 where
  pub further : Further s t
  pub local : (x v : ℕ) → 0 < v → Has c.local.tree x v → Has d.local.tree x v ⊎ GoneBy t.edits v
  pub remote : (x v : ℕ) → 0 < v → Has c.remote.tree x v → Has d.remote.tree x v ⊎ GoneBy t.edits v

module _ (s t : WebState) (further : Further s t) where
  adopts_later : (l n : Node) (v : ℕ) (same : Bool) → Any (λ (a : Adoption). a.old.0 ≡ v) (cond same (record { old = l.ver; into = n.ver } ∷ []) []) → same ≡ true
  adopts_later l n v true some = refl
  adopts_later l n v false (k, y, below, at, its) = absurd (omega (arith, below))

  and_same : (a b c : Bool) → (b ≡ true → c ≡ true) → (a && b) ≡ true → (a && c) ≡ true
  and_same true b c later is = later is
  and_same false b c later is = is

  pub adopted_later : (v : ℕ) (old : Option Node) (ch : Change) → Any (λ (a : Adoption). a.old.0 ≡ v) (adopted_by (same_hash s.edits.edits) old ch)
      → Any (λ (a : Adoption). a.old.0 ≡ v) (adopted_by (same_hash t.edits.edits) old ch)
  adopted_later v None ch some = some
  adopted_later v (Some l) Keep some = some
  adopted_later v (Some l) Cut some = some
  adopted_later v (Some l) (Put n) some =
      let was : adopts (same_hash s.edits.edits) l n ≡ true = adopts_later l n v (adopts (same_hash s.edits.edits) l n) some in
      let now : adopts (same_hash t.edits.edits) l n ≡ true = and_same (not (l.ver.0 == n.ver.0)) (same_hash s.edits.edits l.ver.0 n.ver.0) (same_hash t.edits.edits l.ver.0 n.ver.0)
      (further.same l.ver.0 n.ver.0) was in
      subst (λ b. Any (λ (a : Adoption). a.old.0 ≡ v) (cond b (record { old = l.ver; into = n.ver } ∷ []) [])) (was ∙ sym now) some

  pub fate_later : (op : Op) (v : ℕ) → Fate s.edits op v → Fate t.edits op v
  fate_later op v (stays is) = stays is
  fate_later op v (gone is) = gone (further.gone v is)
  fate_later op v (is_adopted some) = is_adopted (adopted_later v op.old_local op.local some)

  pub or_gone : {A : Type 0} (v : ℕ) → A ⊎ GoneBy s.edits v → A ⊎ GoneBy t.edits v
  or_gone v (inl is) = inl is
  or_gone v (inr is) = inr (further.gone v is)

  longer : length s.entries ≤ length t.entries
  longer = let more = ap length further.entries in let size = length-append s.entries further.more in omega (arith, more, size)

  front_same : (i : ℕ) → i ≤ length s.entries → take i t.entries ≡ take i s.entries
  front_same i within = ap (take i) further.entries ∙ take-append-le i s.entries further.more within

  pub entered_later : (op : Op) (rev : ℕ) → IsEntered s op rev → IsEntered t op rev
  entered_later op rev is = record {
    within = let old = is.within in let more = longer in omega (arith, old, more);
    gave = λ v some puts. subst (λ es. Has (tree_of es) op.id.0 v) (sym (front_same rev is.within)) (is.gave v some puts);
  }

  taken_later : (op : Op) (e : Effect) (came : Taken) → IsFineTaken s op e came → IsFineTaken t op e came
  taken_later op effect.Disk (came.Folder o) is = tt
  taken_later op effect.Disk (came.Accepted rev) is = is
  taken_later op effect.Disk (came.Refused why) is = tt
  taken_later op effect.Commit (came.Folder o) is = is
  taken_later op effect.Commit (came.Accepted rev) is = entered_later op rev is
  taken_later op effect.Commit (came.Refused why) is = tt
  taken_later op effect.Nothing came is = is

  stage_later : (op : Op) (e : Effect) (stage : Stage) → IsFineStage s op e stage → IsFineStage t op e stage
  stage_later op e planned is = tt
  stage_later op e started is = tt
  stage_later op e (taken came) is = taken_later op e came is

pub either : {A B C : Type 0} → A ⊎ C → (A → B ⊎ C) → B ⊎ C
either (inl is) after_it = after_it is
either (inr is) after_it = inr is

module _ (s : WebState) (c : ClientState) (t : WebState) (d : ClientState) (moves : Moves s c t d) where
  op_moved : (op : Op) (e : Effect) → IsFineOp s c op e → IsFineOp t d op e
  op_moved op effect.Nothing is = is
  op_moved op effect.Disk is = record {
    fate = λ v some old. fate_later s t moves.further op v (is.fate v some old);
    both = λ v some has. or_gone s t moves.further v (is.both v some has);
    remote = λ v some has. either (or_gone s t moves.further v (is.remote v some has)) (moves.remote op.id.0 v some);
  }
  op_moved op effect.Commit is = record {
    from = is.from;
    within = let old = is.within in let more = longer s t moves.further in omega (arith, old, more);
    base = is.base ∙ ap (λ es. revision_of es op.id.0) (sym (front_same s t moves.further is.from is.within));
    replaces = λ v some has. or_gone s t moves.further v
        (is.replaces v some (subst (λ es. Has (tree_of es) op.id.0 v) (front_same s t moves.further is.from is.within) has));
    local = λ v some has. either (or_gone s t moves.further v (is.local v some has)) (moves.local op.id.0 v some);
    synced = is.synced;
  }

  pub fine_moved : (f : Flight) → IsFine s c f → IsFine t d f
  fine_moved f is = record { op = op_moved f.op f.op.effect is.op; stage = stage_later s t moves.further f.op f.op.effect f.stage is.stage }

  -- and so of the client, with the same Synced and flights
  pub clear_moved : d.synced ≡ c.synced → d.flights ≡ c.flights → IsClear s c → IsClear t d
  clear_moved synced flights is = record {
    remote = λ x v some has. either (or_gone s t moves.further v (is.remote x v some (subst (λ m. Has m x v) synced has))) (moves.remote x v some);
    local = λ x v some has. either (or_gone s t moves.further v (is.local x v some (subst (λ m. Has m x v) synced has))) (moves.local x v some);
    flights = subst (All (IsFine t d)) (sym flights) (all_map (IsFine s c) (IsFine t d) fine_moved c.flights is.flights);
    alone = subst AreAlone (sym flights) is.alone;
  }

pub same_moves : (s : WebState) (c : ClientState) (t : WebState) → Further s t → Moves s c t c
same_moves s c t further = record { further = further; local = λ x v some has. inl has; remote = λ x v some has. inl has }

-- a client beside what is shared
pub clear_grown : (s : WebState) (c : ClientState) (t : WebState) → Further s t → IsClear s c → IsClear t c
clear_grown s c t further is = clear_moved s c t c (same_moves s c t further) refl refl is
