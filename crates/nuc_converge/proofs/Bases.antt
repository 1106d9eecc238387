-- What the commits in flight of a client that is left alone are based on, and that the server has the blocks of what they put.
use Rattle.std.specs.Prelude.{All, Contains, MatchOption, drop, not, take}
use Rattle.std.proofs.Common.{◌≡◌, ◌==◌, ◌&&◌, ◌||◌, ◌+◌, ◌++◌, ℕ, Bool, true, false, List, [], ◌∷◌, map, Option, Some, None, refl, sym, ◌∙◌, ap, subst, inl, arith}
use Rattle.std.proofs.lemmas.Bool.{eqb-true, eq-eqb}
use Rattle.std.proofs.lemmas.List.{append-nil, take-append-drop}
use Rattle.std.proofs.lemmas.Option.{none-some, same_Some}
use Rattle.std.specs.FinMap.{get}
use Rattle.nuc_base.specs.Kinds.{Fits}
use Rattle.nuc_base.specs.declared.change.Change.{Change}
use Rattle.nuc_base.specs.declared.change.Change.TheVariants.{Keep, Put, Cut}
use Rattle.nuc_base.specs.declared.node.Kind.{Kind}
use Rattle.nuc_base.specs.declared.node.Kind.TheVariants.{Folder, File}
use Rattle.nuc_base.specs.declared.node.Node.{Node}
use Rattle.nuc_base.specs.declared.node.Place.{Place}
use Rattle.nuc_blocks.specs.Pieces.{KeepsBlocks}
use Rattle.nuc_class.specs.Op.{operation}
use Rattle.nuc_class.specs.Wishes.{IsWish, WantsUp}
use Rattle.nuc_class.specs.declared.op.Effect.{Effect}
use Rattle.nuc_class.specs.declared.op.Effect.TheVariants as effect
use Rattle.nuc_class.specs.declared.op.Op.{Op}
use Rattle.nuc_class.specs.declared.op.Verb.{Verb}
use Rattle.nuc_class.specs.declared.op.Verb.TheVariants as verb
use Rattle.nuc_class.specs.declared.wishes.Wish.{Wish}
use Rattle.nuc_class.specs.declared.wishes.Wish.TheVariants as wish
use Rattle.nuc_class.specs.Going.{GoingLocal}
use Rattle.nuc_conflict.specs.Facts.{FactsOf}
use Rattle.nuc_conflict.specs.Mends.{LeavesFor}
use Rattle.nuc_edits.specs.Edits.{same_hash}
use Rattle.nuc_flights.specs.Flights.{Flight, Stage, as_planned, planned, started, taken}
use Rattle.nuc_journal.specs.Entries.{kind_of, revision_of, tree_of}
use Rattle.nuc_journal.specs.Laws.{GaveNode}
use Rattle.nuc_journal.specs.declared.entry.Entry.{Entry}
use Rattle.nuc_journal.proofs.Histories.{current_gave}
use Rattle.nuc_plan.proofs.Cases.{each_is_due}
use Rattle.nuc_plan.specs.Laws.{IsDueOutside}
use Rattle.nuc_replica.specs.Remote.{or_zero}
use Rattle.nuc_server.specs.WebEdits.{WebState}
use Rattle.nuc_step.specs.Client.{ClientState}
use Rattle.nuc_step.specs.Planning.{IsMendedAtOnce, MendGoes, PlanAnswers, Planning}
use Rattle.nuc_step.specs.Steps.{after_fly, base_of, numbered}
use Rattle.nuc_step.specs.declared.answers.Planned.{Planned}
use Rattle.nuc_step.specs.declared.answers.Planned.TheVariants as answer
use Rattle.nuc_step.proofs.Notes.{mend_facts}
use Rattle.nuc_world.specs.Form.{IsMember, IsShared}
use Rattle.nuc_world.specs.Starts.{has_version, is_file, is_upload}
use Rattle.nuc_world.specs.State.{MemberState, Turn}
use Rattle.nuc_world.specs.Step.{planning_of}
use Rattle.nuc_world.specs.Takes.{committed}
use Rattle.nuc_world.proofs.Items.{all_first, all_front, all_none, all_rest}
use Rattle.nuc_world.proofs.Ready.{member_can_plan}
use Rattle.nuc_converge.proofs.InFlight.{IsAlone}
use Rattle.nuc_converge.proofs.InFlight.IsAlone.{batch, mend}
use Rattle.nuc_converge.proofs.Stocked.{IsKept, IsStocked, KeepsValue, stands_kept, value_later}

-- an operation wasn't taken yet
abbrev pub Waits : Stage → Type 0
Waits planned = Unit {0}
Waits started = Unit {0}
Waits (taken t) = ⊥

-- a commit that waits is based on the current revision of its identity; and what is not_up upload puts what the server has the
-- blocks of
pub record IsBased (s : WebState) (f : Flight) : Type 0 where
  pub base : f.op.effect ≡ effect.Commit → Waits f.stage → f.op.base ≡ revision_of s.entries f.op.id.0
  pub kept : is_upload f.op ≡ false → KeepsValue s (committed f.op.remote)

pub record HasBases (s : WebState) (c : ClientState) : Type 0 where
  pub each : All (IsBased s) c.flights

-- the same entries, with more edits and blocks
pub based_later : (s t : WebState) (more : _) → t.edits.edits ≡ s.edits.edits ++ more → KeepsBlocks s.blocks t.blocks → t.entries ≡ s.entries → (f : Flight) → IsBased s f → IsBased t f
based_later s t more edits blocks entries f is = record {
  base = λ commits waits. is.base commits waits ∙ ap (λ es. revision_of es f.op.id.0) (sym entries);
  kept = λ not_up. value_later s t more edits blocks (committed f.op.remote) (is.kept not_up);
}

-- WHERE NOTHING FLIES the client is at the last revision
pub no_items : {X : Type 0} (xs : List X) → ((x : X) → Contains xs x → ⊥) → xs ≡ []
no_items [] none = refl
no_items (x ∷ xs) none = absurd (none x (0, omega arith, refl))

in_none : {X : Type 0} (x : X) (xs : List X) → xs ≡ [] → Contains xs x → ⊥
in_none x [] is (k, below, at) = omega (arith, below)
in_none x (y ∷ xs) is has = cc

nothing_behind : (same : ℕ → ℕ → Bool) (entries : List Entry) (c : ClientState) → IsAlone same entries c → c.flights ≡ [] → drop c.remote.cursor entries ≡ []
nothing_behind same entries c (batch is) none = no_items (drop c.remote.cursor entries) (λ e has. let own = is.news e has in in_none own.f c.flights none own.flies)
nothing_behind same entries c (mend f flies is) none = absurd (let bad : f ∷ [] ≡ [] = sym flies ∙ none in cc)

pub front_is_all : (n : ℕ) (entries : List Entry) → drop n entries ≡ [] → take n entries ≡ entries
front_is_all n entries none = sym (append-nil (take n entries)) ∙ ap (λ es. take n entries ++ es) (sym none) ∙ take-append-drop n entries

pub at_last : (same : ℕ → ℕ → Bool) (entries : List Entry) (c : ClientState) → IsAlone same entries c → c.flights ≡ [] → take c.remote.cursor entries ≡ entries
at_last same entries c alone none = front_is_all c.remote.cursor entries (nothing_behind same entries c alone none)

-- TESTS
or_not : (a b : Bool) → (a || not b) ≡ false → (a ≡ false) × (b ≡ true)
or_not false true is = (refl, refl)
or_not false false is = let bad : true ≡ false = is in cc
or_not true b is = let bad : true ≡ false = is in cc

-- WHAT IS PLANNED by a client that is at the last revision
module _ (s : WebState) (kinds : ℕ → Kind) (shared : IsShared s kinds) (m : MemberState) (member : IsMember s kinds m) (stocked : IsStocked s)
    (latest : take m.client.remote.cursor s.entries ≡ s.entries) where
  abbrev C : ClientState
  C = m.client

  abbrev Same : ℕ → ℕ → Bool
  Same = same_hash s.edits.edits

  base_is : (x : ℕ) → or_zero (get C.remote.revisions x) ≡ revision_of s.entries x
  base_is x = member.at.revisions x ∙ ap (λ es. revision_of es x) latest

  at_server : (x : ℕ) (o : Option Node) → get C.remote.tree x ≡ o → get (tree_of s.entries) x ≡ o
  at_server x o at = sym (ap (λ t. get t x) (member.at.tree ∙ ap tree_of latest)) ∙ at

  no_revision : (x : ℕ) → get C.remote.tree x ≡ None → revision_of s.entries x ≡ 0
  no_revision x none = subst (λ (o : Option Node). MatchOption o (revision_of s.entries x ≡ 0) (λ h. GaveNode s.entries (revision_of s.entries x) x h × (kind_of s.entries x ≡ Some h.kind)))
      (at_server x None none) (current_gave s.entries x shared.journal)

  -- an operation with its number and base
  abbrev Numbered : ℕ → Op → Op
  Numbered n op = record op { number = n; base = base_of op.effect C.remote op.id.0 }

  abbrev IsKeptOp : ℕ → Op → Type 0
  IsKeptOp n op = is_upload (Numbered n op) ≡ false → KeepsValue s (committed op.remote)

  based : (op : Op) (n : ℕ) → IsKeptOp n op → IsBased s (as_planned (Numbered n op))
  based op n kept = record { base = λ commits waits. ap (λ e. base_of e C.remote op.id.0) commits ∙ base_is op.id.0; kept = kept }

  -- AN UP that is not_up upload: a folder, or what the server has already
  by_remote : (Goes : Type 0) (x : ℕ) (ln : Node) (base : ℕ) (o z : Option Node) → get C.remote.tree x ≡ o → WantsUp Goes o (Some ln) z → base ≡ revision_of s.entries x
      → ((base == 0) || not (has_version z ln.ver.0)) ≡ false → IsKept s.edits.edits s.blocks ln.ver.0
  by_remote Goes x ln base None z at wants is not_up =
      let nothing : (base == 0) ≡ false = (or_not (base == 0) (has_version z ln.ver.0) not_up).0 in
      absurd (let same : (base == 0) ≡ true = eq-eqb base 0 (is ∙ no_revision x at) in let bad : true ≡ false = sym same ∙ nothing in cc)
  by_remote Goes x ln base (Some rn) z at wants is not_up =
      let has : has_version (Some rn) ln.ver.0 ≡ true = ap (λ o. has_version o ln.ver.0) (sym wants.0) ∙ (or_not (base == 0) (has_version z ln.ver.0) not_up).1 in
      subst (IsKept s.edits.edits s.blocks) (eqb-true rn.ver.0 ln.ver.0 has) (stands_kept s shared.journal stocked x rn (at_server x (Some rn) at))

  by_kind : (Goes : Type 0) (x : ℕ) (ln : Node) (base : ℕ) (o z : Option Node) (k : Kind) → ln.kind ≡ k → get C.local.tree x ≡ Some ln → get C.remote.tree x ≡ o → WantsUp Goes o (Some ln) z
      → base ≡ revision_of s.entries x → (is_file k && ((base == 0) || not (has_version z ln.ver.0))) ≡ false → IsKept s.edits.edits s.blocks ln.ver.0
  by_kind Goes x ln base o z Folder kind here at wants is not_up = inl ((subst (λ k. Fits k ln.ver.0 ln.bit) kind (member.client.local.form.fits x ln here)).0)
  by_kind Goes x ln base o z File kind here at wants is not_up = by_remote Goes x ln base o z at wants is not_up

  -- BY THE WISH
  by_wish : (n x : ℕ) (wi : Wish) (o p z : Option Node) (op : Op) → get C.remote.tree x ≡ o → get C.local.tree x ≡ p → get C.synced x ≡ z
      → IsWish Same C.remote.tree C.local.tree C.synced x wi → operation Same wi x o p z ≡ Some op → IsKeptOp n op
  by_wish n x wish.Split o p z op ro lp sz wished e = absurd (none-some op e)
  by_wish n x wish.Nothing o p z op ro lp sz wished e = absurd (none-some op e)
  by_wish n x wish.Down None p z op ro lp sz wished e = absurd (none-some op e)
  by_wish n x wish.Down (Some rn) p z op ro lp sz wished e = subst (IsKeptOp n) (same_Some _ op e) (λ not_up. tt)
  by_wish n x wish.Up o None z op ro lp sz wished e = absurd (none-some op e)
  by_wish n x wish.Up o (Some ln) z op ro lp sz wished e =
      let wants : WantsUp (GoingLocal C.remote.tree C.local.tree C.synced x) o (Some ln) z =
      subst (λ q. WantsUp (GoingLocal C.remote.tree C.local.tree C.synced x) q (Some ln) z) ro
      (subst (λ q. WantsUp (GoingLocal C.remote.tree C.local.tree C.synced x) (get C.remote.tree x) q z) lp
      (subst (λ q. WantsUp (GoingLocal C.remote.tree C.local.tree C.synced x) (get C.remote.tree x) (get C.local.tree x) q) sz wished)) in
      subst (IsKeptOp n) (same_Some _ op e)
      (λ not_up. by_kind (GoingLocal C.remote.tree C.local.tree C.synced x) x ln (or_zero (get C.remote.revisions x)) o z ln.kind refl lp ro wants (base_is x) not_up)
  by_wish n x wish.CutDown o p z op ro lp sz wished e = subst (IsKeptOp n) (same_Some _ op e) (λ not_up. tt)
  by_wish n x wish.CutUp o p z op ro lp sz wished e = subst (IsKeptOp n) (same_Some _ op e) (λ not_up. tt)
  by_wish n x wish.Forget o p z op ro lp sz wished e = subst (IsKeptOp n) (same_Some _ op e) (λ not_up. tt)

  due_kept : (n : ℕ) (op : Op) → IsDueOutside Same C.remote.tree C.local.tree C.synced op → IsKeptOp n op
  due_kept n op is =
      by_wish n op.id.0 is.due.wish (get C.remote.tree op.id.0) (get C.local.tree op.id.0) (get C.synced op.id.0) op refl refl refl is.due.wished is.due.planned

  all_based : (n : ℕ) (ops : List Op) → All (IsDueOutside Same C.remote.tree C.local.tree C.synced) ops → All (IsBased s) (map as_planned (numbered n C.remote ops))
  all_based n [] all = all_none (IsBased s)
  all_based n (op ∷ ops) all =
      all_front (IsBased s) _ _ (based op n (due_kept n op (all_first (IsDueOutside Same C.remote.tree C.local.tree C.synced) op ops all)))
      (all_based (n + 1) ops (all_rest (IsDueOutside Same C.remote.tree C.local.tree C.synced) op ops all))

  -- A MEND writes Remote where it evicts alone, and that keeps the version
  leaves_kept : (p e : Place) (x : ℕ) (o : Option Node) (c : Change) → get C.remote.tree x ≡ o → LeavesFor p e o c → KeepsValue s (committed c)
  leaves_kept p e x (Some n) (Put node) at (near, is) =
      subst (IsKept s.edits.edits s.blocks) (sym (ap (λ (k : Node). k.ver.0) is)) (stands_kept s shared.journal stocked x n (at_server x (Some n) at))
  leaves_kept p e x (Some n) Keep at leaves = tt
  leaves_kept p e x (Some n) Cut at leaves = absurd leaves
  leaves_kept p e x None (Put node) at leaves = absurd leaves
  leaves_kept p e x None Keep at leaves = tt
  leaves_kept p e x None Cut at leaves = absurd leaves

  keeps_remote : (op : Op) → op.remote ≡ Keep → KeepsValue s (committed op.remote)
  keeps_remote op is = subst (λ c. KeepsValue s (committed c)) (sym is) tt

  mend_kept : (n next : ℕ) (op : Op) (v : Verb) → FactsOf Same C.remote.tree C.local.tree C.synced next op v → IsKeptOp n op
  mend_kept n next op verb.Split facts not_up = keeps_remote op (ap (λ (o : Op). o.remote) facts.carried.is)
  mend_kept n next op verb.Evict facts not_up = leaves_kept _ _ op.id.0 (get C.remote.tree op.id.0) op.remote refl facts.carried.remote
  mend_kept n next op verb.Adopt facts not_up = keeps_remote op (ap (λ (o : Op). o.remote) facts.carried.is)
  mend_kept n next op verb.Revive facts not_up = keeps_remote op (ap (λ (o : Op). o.remote) facts.carried.is)
  mend_kept n next op verb.Unmove facts not_up = keeps_remote op (ap (λ (o : Op). o.remote) facts.carried.is)
  mend_kept n next op verb.Down facts not_up = absurd facts
  mend_kept n next op verb.Up facts not_up = absurd facts
  mend_kept n next op verb.CutDown facts not_up = absurd facts
  mend_kept n next op verb.CutUp facts not_up = absurd facts
  mend_kept n next op verb.Forget facts not_up = absurd facts

  -- what flies after the plan, where nothing flew
  after_flying : (ops : List Op) (d : ClientState) → C.flights ≡ [] → d ≡ after_fly ops C → All (IsBased s) (map as_planned (numbered C.next_op C.remote ops)) → All (IsBased s) d.flights
  after_flying ops d none is all =
      let same : d.flights ≡ map as_planned (numbered C.next_op C.remote ops) =
      ap (λ (e : ClientState). e.flights) is ∙ ap (λ fs. fs ++ map as_planned (numbered C.next_op C.remote ops)) none in
      subst (All (IsBased s)) (sym same) all

  same_flights : (d : ClientState) → d.flights ≡ C.flights → All (IsBased s) C.flights → All (IsBased s) d.flights
  same_flights d is all = subst (All (IsBased s)) (sym is) all

-- A PLAN
module _ (t : Turn) (kinds : ℕ → Kind) (shared : IsShared t.shared kinds) (member : IsMember t.shared kinds t.member) (stocked : IsStocked t.shared)
    (alone : IsAlone (same_hash t.shared.edits.edits) t.shared.entries t.member.client) (was : HasBases t.shared t.member.client) where
  abbrev D : ClientState
  D = t.member.client

  mended : (v : Verb) (op : Op) (q : Planning) → IsMendedAtOnce v op D t.shared.edits q.client q.recorded → q.client.flights ≡ D.flights
  mended verb.Adopt op q is = ap (λ (c : ClientState). c.flights) is.client
  mended _ op q is = ap (λ (c : ClientState). c.flights) is.client

  flies_one : (op : Op) (q : Planning) → D.flights ≡ [] → ((n : ℕ) → is_upload (record op { number = n; base = base_of op.effect D.remote op.id.0 }) ≡ false → KeepsValue t.shared (committed op.remote))
      → q.client ≡ after_fly (op ∷ []) D → All (IsBased t.shared) q.client.flights
  flies_one op q none kept is =
      let latest = at_last (same_hash t.shared.edits.edits) t.shared.entries D alone none in
      after_flying t.shared kinds shared t.member member stocked latest (op ∷ []) q.client none is
      (all_front (IsBased t.shared) _ [] (based t.shared kinds shared t.member member stocked latest op D.next_op (kept D.next_op)) (all_none (IsBased t.shared)))

  goes_based : (e : Effect) (op : Op) (q : Planning) → D.flights ≡ []
      → ((n : ℕ) → is_upload (record op { number = n; base = base_of op.effect D.remote op.id.0 }) ≡ false → KeepsValue t.shared (committed op.remote))
      → MendGoes e op (planning_of t) q → All (IsBased t.shared) q.client.flights
  goes_based effect.Nothing op q none kept goes = subst (All (IsBased t.shared)) (sym (mended op.verb op q goes.0)) was.each
  goes_based effect.Disk op q none kept goes = flies_one op q none kept goes.client
  goes_based effect.Commit op q none kept goes = flies_one op q none kept goes.client

  pub plan_based : (a : Planned) (q : Planning) → PlanAnswers (planning_of t) a q → All (IsBased t.shared) q.client.flights
  plan_based answer.Empty q is = subst (All (IsBased t.shared)) (sym (ap (λ (p : Planning). p.client.flights) is.1)) was.each
  plan_based (answer.Booked shown) q is = subst (All (IsBased t.shared)) (sym (ap (λ (c : ClientState). c.flights) is.noted.client)) was.each
  plan_based (answer.Batch shown) q is =
      let latest = at_last (same_hash t.shared.edits.edits) t.shared.entries D alone is.plan.0 in
      let due = each_is_due (same_hash t.shared.edits.edits) D.remote.tree D.local.tree D.synced t.shared.ids.next_id is.ops is.plan.1 in
      after_flying t.shared kinds shared t.member member stocked latest is.ops q.client is.plan.0 is.client
      (all_based t.shared kinds shared t.member member stocked latest D.next_op is.ops due.0)
  plan_based (answer.Mend shown) q is =
      let none = is.plan.0 in
      let latest = at_last (same_hash t.shared.edits.edits) t.shared.entries D alone none in
      let facts = mend_facts (planning_of t) is.op (member_can_plan t.shared kinds t.member member) is.plan in
      goes_based is.op.effect is.op q none (λ n. mend_kept t.shared kinds shared t.member member stocked latest n t.shared.ids.next_id is.op is.op.verb facts) is.goes
  plan_based (answer.Busy k) q is = subst (All (IsBased t.shared)) (sym (ap (λ (p : Planning). p.client.flights) is.2)) was.each
