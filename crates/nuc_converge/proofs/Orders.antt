-- What the trees of a client come to once all that flies has ended, whatever order the operations end in.
use Rattle.std.specs.Prelude.{All, AllPairs, Contains}
use Rattle.std.proofs.Common.{◌≡◌, ◌≢◌, ◌==◌, ℕ, zero, suc, true, false, cond, List, [], ◌∷◌, take, Option, Some, refl, sym, ap, subst, ◌∙◌, inl, inr, arith}
use Rattle.std.proofs.lemmas.List.Elements.{All-contains}
use Rattle.std.specs.FinMap.{get}
use Rattle.nuc_base.specs.Changes.{changed, node_after}
use Rattle.nuc_base.specs.Ready.{all_changed}
use Rattle.nuc_base.specs.Trees.{Nodes}
use Rattle.nuc_base.specs.declared.change.Change.{Change}
use Rattle.nuc_base.specs.declared.change.Change.TheVariants.{Keep, Put, Cut}
use Rattle.nuc_base.specs.declared.node.Node.{Node}
use Rattle.nuc_base.proofs.Changed.{get_changed_at, get_changed_other, get_changed_same}
use Rattle.nuc_base.proofs.Commute.{same_after}
use Rattle.nuc_base.proofs.Maps.{same_nodes, same_or_not}
use Rattle.nuc_class.specs.declared.op.Op.{Op}
use Rattle.nuc_flights.specs.Flights.{Flight, Stage, flight_of, staged, without}
use Rattle.nuc_journal.specs.Entries.{tree_after, with_value}
use Rattle.nuc_journal.specs.declared.entry.Entry.{Entry}
use Rattle.nuc_step.specs.Client.{ClientState}
use Rattle.nuc_step.specs.Order.{AreSeparate, IsReady}
use Rattle.nuc_step.specs.Steps.{local_changes}
use Rattle.nuc_world.specs.Takes.{committed}
use Rattle.nuc_converge.proofs.Landing.{one_changed}
use Rattle.nuc_converge.proofs.Staged.{first_of, later_of}
use Rattle.nuc_converge.proofs.Without.{first_or_later, in_flight, nobody}

-- WHAT AN OPERATION MAKES of each tree
abbrev pub on_remote : Op → Nodes → Nodes
on_remote op m = changed m op.id.0 op.remote

abbrev pub on_local : Op → Nodes → Nodes
on_local op m = all_changed m (local_changes op)

abbrev pub on_synced : Op → Nodes → Nodes
on_synced op m = changed m op.id.0 op.synced

-- and all that fly, one after another
abbrev pub all_made : (Op → Nodes → Nodes) → List Flight → Nodes → Nodes
all_made make [] m = m
all_made make (f ∷ fs) m = all_made make fs (make f.op m)

-- it doesn't matter which of the two comes first
abbrev pub Swap : (Op → Nodes → Nodes) → Flight → Flight → Type 0
Swap make f g = (m : Nodes) → make g.op (make f.op m) ≡ make f.op (make g.op m)

-- ONE CHANGE TWICE is one change
twice : (c : Change) (o : Option Node) → node_after c (node_after c o) ≡ node_after c o
twice Keep o = refl
twice (Put n) o = refl
twice Cut o = refl

-- where it changes nothing
pub nothing_new : (m : Nodes) (x : ℕ) (c : Change) → node_after c (get m x) ≡ get m x → changed m x c ≡ m
nothing_new m x c is = same_nodes (changed m x c) m (λ y. elim (same_or_not y x) [
  | inl e ↦ get_changed_at m x c y e ∙ subst (λ z. node_after c (get m z) ≡ get m z) (sym e) is
  | inr other ↦ get_changed_other m x c y other
])

pub made_again : (op : Op) (m : Nodes) → on_remote op (on_remote op m) ≡ on_remote op m
made_again op m =
    let at : get (on_remote op m) op.id.0 ≡ node_after op.remote (get m op.id.0) = get_changed_same m op.id.0 op.remote in
    nothing_new (on_remote op m) op.id.0 op.remote (ap (node_after op.remote) at ∙ twice op.remote (get m op.id.0) ∙ sym at)

module _ (make : Op → Nodes → Nodes) where
  -- the first and each other, and the others among them
  first_swaps : (f : Flight) (fs : List Flight) → AllPairs (Swap make) (f ∷ fs) → All (Swap make f) fs
  first_swaps f fs pairs k d below = pairs 0 (suc k) d (omega arith) (omega (arith, below))

  rest_swap : (f : Flight) (fs : List Flight) → AllPairs (Swap make) (f ∷ fs) → AllPairs (Swap make) fs
  rest_swap f fs pairs i j d less below = pairs (suc i) (suc j) d (omega (arith, less)) (omega (arith, below))

  -- a stage says nothing of what is made
  pub made_staged : (n : ℕ) (st : Stage) (fs : List Flight) (m : Nodes) → all_made make (staged n st fs) m ≡ all_made make fs m
  made_staged n st [] m = refl
  made_staged n st (f ∷ fs) m =
      elim (f.op.number == n) as (λ b. all_made make (cond b (record f { stage = st } ∷ fs) (f ∷ staged n st fs)) m ≡ all_made make fs (make f.op m)) [
        | true ↦ refl
        | false ↦ made_staged n st fs (make f.op m)
      ]

  -- any of them may come first
  pub made_first : (n : ℕ) (fs : List Flight) (f : Flight) (m : Nodes) → flight_of n fs ≡ Some f → AllPairs (Swap make) fs
      → all_made make fs m ≡ all_made make (without n fs) (make f.op m)
  made_first n [] f m there pairs = cc
  made_first n (g ∷ fs) f m there pairs =
      elim (g.op.number == n) as (λ b. cond b (Some g) (flight_of n fs) ≡ Some f
      → all_made make fs (make g.op m) ≡ all_made make (cond b fs (g ∷ without n fs)) (make f.op m)) [
        | true ↦ λ is. let it : g ≡ f = cc in ap (λ (h : Flight). all_made make fs (make h.op m)) it
        | false ↦ λ rest.
            let swaps : Swap make g f = All-contains (Swap make g) fs f (first_swaps g fs pairs) (in_flight n fs f rest) in
            made_first n fs f (make g.op m) rest (rest_swap g fs pairs) ∙ ap (all_made make (without n fs)) (swaps m)
      ] there

  -- what one of them makes may have been made already
  pub made_before : (fs : List Flight) (f : Flight) (m : Nodes) → ((k : Nodes) → make f.op (make f.op k) ≡ make f.op k) → Contains fs f → AllPairs (Swap make) fs
      → all_made make fs (make f.op m) ≡ all_made make fs m
  made_before [] f m again within pairs = absurd (nobody f within)
  made_before (g ∷ fs) f m again within pairs = elim (first_or_later g fs f within) [
    | inl e ↦ ap (all_made make fs) (ap (λ (h : Flight). make h.op (make f.op m)) e ∙ again m ∙ sym (ap (λ (h : Flight). make h.op m) e))
    | inr more ↦
        let swaps : Swap make g f = All-contains (Swap make g) fs f (first_swaps g fs pairs) more in
        ap (all_made make fs) (sym (swaps m)) ∙ made_before fs f (make g.op m) again more (rest_swap g fs pairs)
  ]

-- TWO THAT ARE SEPARATE
module _ (c : ClientState) (f g : Flight) (are : AreSeparate c f g) where
  swap_remote : Swap on_remote f g
  swap_remote m = same_after m f.op.id.0 g.op.id.0 f.op.remote g.op.remote are.ids

  swap_synced : Swap on_synced f g
  swap_synced m = same_after m f.op.id.0 g.op.id.0 f.op.synced g.op.synced are.ids

  swap_local : Swap on_local f g
  swap_local m =
      one_changed (on_local f.op m) g.op are.other_one ∙ ap (λ k. changed k g.op.id.0 g.op.local) (one_changed m f.op are.one)
      ∙ same_after m f.op.id.0 g.op.id.0 f.op.local g.op.local are.ids
      ∙ sym (one_changed (on_local g.op m) f.op are.one ∙ ap (λ k. changed k f.op.id.0 f.op.local) (one_changed m g.op are.other_one))

-- so all that fly and are ready
module _ (c : ClientState) (ready : IsReady c) where
  pub swaps_remote : AllPairs (Swap on_remote) c.flights
  swaps_remote i j d less below = swap_remote c _ _ (ready.pairs i j d less below)

  pub swaps_local : AllPairs (Swap on_local) c.flights
  swaps_local i j d less below = swap_local c _ _ (ready.pairs i j d less below)

  pub swaps_synced : AllPairs (Swap on_synced) c.flights
  swaps_synced i j d less below = swap_synced c _ _ (ready.pairs i j d less below)

-- THE NEXT ENTRIES make in Remote what operations that fly make there
pub entered : (c : Change) (x : ℕ) (m : Nodes) → c ≢ Keep → with_value m x (committed c) ≡ changed m x c
entered Keep x m other = absurd (other refl)
entered (Put n) x m other = refl
entered Cut x m other = refl

pub record EntersFor (fs : List Flight) (e : Entry) : Type 0 where
  pub f : Flight
  pub flies : Contains fs f
  pub id : e.id.0 ≡ f.op.id.0
  pub value : e.value ≡ committed f.op.remote
  pub changes : f.op.remote ≢ Keep

one_enters : (fs : List Flight) (e : Entry) (m : Nodes) → AllPairs (Swap on_remote) fs → EntersFor fs e
    → all_made on_remote fs (with_value m e.id.0 e.value) ≡ all_made on_remote fs m
one_enters fs e m pairs is =
    let same : with_value m e.id.0 e.value ≡ on_remote is.f.op m =
    ap (λ x. with_value m x e.value) is.id ∙ ap (with_value m is.f.op.id.0) is.value ∙ entered is.f.op.remote is.f.op.id.0 m is.changes in
    ap (all_made on_remote fs) same ∙ made_before on_remote fs is.f m (made_again is.f.op) is.flies pairs

pub all_enter : (fs : List Flight) (k : ℕ) (es : List Entry) (m : Nodes) → AllPairs (Swap on_remote) fs → ((e : Entry) → Contains es e → EntersFor fs e)
    → all_made on_remote fs (tree_after m (take k es)) ≡ all_made on_remote fs m
all_enter fs zero es m pairs own = refl
all_enter fs (suc k) [] m pairs own = refl
all_enter fs (suc k) (e ∷ es) m pairs own =
    all_enter fs k es (with_value m e.id.0 e.value) pairs (λ g within. own g (later_of e es g within))
    ∙ one_enters fs e m pairs (own e (first_of e es))

-- WHAT THE TREES COME TO is the same for two clients
pub record EndsAs (c d : ClientState) : Type 0 where
  pub remote : all_made on_remote c.flights c.remote.tree ≡ all_made on_remote d.flights d.remote.tree
  pub local : all_made on_local c.flights c.local.tree ≡ all_made on_local d.flights d.local.tree
  pub synced : all_made on_synced c.flights c.synced ≡ all_made on_synced d.flights d.synced

pub as_itself : (c : ClientState) → EndsAs c c
as_itself c = record { remote = refl; local = refl; synced = refl }

pub as_same : (c d : ClientState) → d ≡ c → EndsAs c d
as_same c d is = subst (EndsAs c) (sym is) (as_itself c)

pub as_both : (c d e : ClientState) → EndsAs c d → EndsAs d e → EndsAs c e
as_both c d e first then = record { remote = first.remote ∙ then.remote; local = first.local ∙ then.local; synced = first.synced ∙ then.synced }

pub as_back : (c d : ClientState) → EndsAs c d → EndsAs d c
as_back c d is = record { remote = sym is.remote; local = sym is.local; synced = sym is.synced }

-- where one stage alone changes, and what is ahead
pub as_staged : (c d : ClientState) (n : ℕ) (st : Stage) (ahead : List Entry)
    → d ≡ record c { flights = staged n st c.flights; remote = record c.remote { ahead = ahead } } → EndsAs c d
as_staged c d n st ahead is = subst (EndsAs c) (sym is) (record {
  remote = sym (made_staged on_remote n st c.flights c.remote.tree);
  local = sym (made_staged on_local n st c.flights c.local.tree);
  synced = sym (made_staged on_synced n st c.flights c.synced);
})
