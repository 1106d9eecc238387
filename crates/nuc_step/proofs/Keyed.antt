-- What stays in the folder keeps its key.
use Rattle.std.proofs.Common.{◌≡◌, ◌≢◌, ◌∙◌, ℕ, Bool, true, false, cond, [], ◌∷◌, Option, None, Some, refl, sym, subst, inl, inr}
use Rattle.std.specs.FinMap.{get}
use Rattle.nuc_base.specs.Changes.{changed}
use Rattle.nuc_base.specs.Ready.{all_changed}
use Rattle.nuc_base.specs.Trees.{Nodes}
use Rattle.nuc_base.specs.declared.change.Change.{Change}
use Rattle.nuc_base.specs.declared.change.Change.TheVariants.{Keep, Put, Cut}
use Rattle.nuc_base.specs.declared.node.Node.{Node}
use Rattle.nuc_base.proofs.Maps.{after_cut, get_cut_same, get_put_same, not_both, same_or_not}
use Rattle.nuc_class.specs.declared.op.Op.{Op}
use Rattle.nuc_flights.specs.Flights.{Flight, flight_of}
use Rattle.nuc_flights.specs.declared.taken.Taken.{Taken}
use Rattle.nuc_flights.specs.declared.taken.Taken.TheVariants as came
use Rattle.nuc_folder.specs.declared.outcome.Outcome.{Outcome}
use Rattle.nuc_folder.specs.declared.outcome.Outcome.TheVariants as outcome
use Rattle.nuc_lookup.proofs.Maps as numbers
use Rattle.nuc_observe.specs.Keys.{KeyMap}
use Rattle.nuc_replica.specs.Local.{LocalState, moved_key}
use Rattle.nuc_step.specs.Client.{ClientState}
use Rattle.nuc_step.specs.Laws.{MoveKeepsKey, StayingKeepsKey}
use Rattle.nuc_step.specs.Steps.{CanLand, OtherIsNew, finished, is_split, keys_with, landed, local_changes, split_changes}
use Rattle.nuc_step.proofs.Outcomes.{Came, came_of}
use Rattle.nuc_step.proofs.Outcomes.Came.{applied, dropped, nothing}

-- a key changes at the operation's identity alone, and there only where something comes or goes
keys_off : (old : Option Node) (c : Change) (o : Outcome) (x y : ℕ) (ks : KeyMap) → y ≢ x → get (keys_with old c o x ks) y ≡ get ks y
keys_off None Keep o x y ks apart = refl
keys_off (Some n) Keep o x y ks apart = refl
keys_off None (Put n) (outcome.Made k) x y ks apart = numbers.get_put_other ks x k.0 y apart
keys_off None (Put n) outcome.Ok x y ks apart = refl
keys_off None (Put n) outcome.Changed x y ks apart = refl
keys_off None (Put n) outcome.Taken x y ks apart = refl
keys_off None (Put n) outcome.NotEmpty x y ks apart = refl
keys_off None (Put n) outcome.Failed x y ks apart = refl
keys_off None (Put n) outcome.Memory x y ks apart = refl
keys_off (Some k) (Put n) o x y ks apart = refl
keys_off None Cut o x y ks apart = numbers.get_cut_other ks x y apart
keys_off (Some n) Cut o x y ks apart = numbers.get_cut_other ks x y apart

keys_at : (m : Nodes) (c : Change) (o : Outcome) (x : ℕ) (ks : KeyMap) (before after : Node) → get (changed m x c) x ≡ Some after
    → get (keys_with (Some before) c o x ks) x ≡ get ks x
keys_at m Keep o x ks before after there = refl
keys_at m (Put n) o x ks before after there = refl
keys_at m Cut o x ks before after there = absurd (not_both (changed m x Cut) x after (get_cut_same m x) there)

moved_off : (ks : KeyMap) (x z y : ℕ) (key : Option ℕ) → y ≢ x → y ≢ z → get (moved_key ks x z key) y ≡ get ks y
moved_off ks x z y None apart other = numbers.get_cut_other ks x y apart
moved_off ks x z y (Some k) apart other = numbers.get_put_other _ z k y other ∙ numbers.get_cut_other ks x y apart

module _ (op : Op) (o : Outcome) (l : LocalState) (x : ℕ) (before after : Node) (was : get l.tree x ≡ Some before) where
  one_keeps : get l.tree op.id.0 ≡ op.old_local → get (changed l.tree op.id.0 op.local) x ≡ Some after
      → get (keys_with op.old_local op.local o op.id.0 l.keys) x ≡ get l.keys x
  one_keeps old there = elim (same_or_not x op.id.0) [
    | inl same ↦
        let had : op.old_local ≡ Some before = sym old ∙ subst (λ y. get l.tree y ≡ Some before) same was in
        let at : get (changed l.tree op.id.0 op.local) op.id.0 ≡ Some after = subst (λ y. get (changed l.tree op.id.0 op.local) y ≡ Some after) same there in
        subst (λ y. get (keys_with op.old_local op.local o op.id.0 l.keys) y ≡ get l.keys y) (sym same)
        (subst (λ v. get (keys_with v op.local o op.id.0 l.keys) op.id.0 ≡ get l.keys op.id.0) (sym had) (keys_at l.tree op.local o op.id.0 l.keys before after at))
    | inr apart ↦ keys_off op.old_local op.local o op.id.0 x l.keys apart
  ]

  split_keeps : get l.tree op.other.0 ≡ None → get (all_changed l.tree (split_changes op)) x ≡ Some after
      → get (moved_key l.keys op.id.0 op.other.0 (get l.keys op.id.0)) x ≡ get l.keys x
  split_keeps absent there =
      moved_off l.keys op.id.0 op.other.0 x (get l.keys op.id.0) (after_cut _ op.id.0 x after there).0
      (λ same. not_both l.tree op.other.0 before absent (subst (λ y. get l.tree y ≡ Some before) same was))

  keeps_key : (split : Bool) → get l.tree op.id.0 ≡ op.old_local → OtherIsNew split l.tree op.other.0
      → get (all_changed l.tree (cond split (split_changes op) ((op.id.0, op.local) ∷ []))) x ≡ Some after
      → get (cond split (moved_key l.keys op.id.0 op.other.0 (get l.keys op.id.0)) (keys_with op.old_local op.local o op.id.0 l.keys)) x ≡ get l.keys x
  keeps_key true old new there = split_keeps new there
  keeps_key false old new there = one_keeps old there

-- THE KEYS OF A DONE
abbrev Stays : ClientState → ClientState → ℕ → Node → Type 0
Stays c d x after = get d.local.tree x ≡ Some after → get d.local.keys x ≡ get c.local.keys x

module _ (n : ℕ) (c d : ClientState) (x : ℕ) (before after : Node) (was : get c.local.tree x ≡ Some before) where
  landed_keeps : (op : Op) (t : Taken) → CanLand (finished n t c) op t → Stays c (landed op t (finished n t c)) x after
  landed_keeps op (came.Folder o) can there = keeps_key op o c.local x before after was (is_split op.verb) can.0.old can.0.other there
  landed_keeps op (came.Accepted rev) can there = refl
  landed_keeps op (came.Refused why) can there = refl

  keeps_of : (o : Option Flight) → Came n c d o → Stays c d x after
  keeps_of o (nothing p same) = subst (λ b. Stays c b x after) (sym same) (λ there. refl)
  keeps_of o (dropped flight t stage is) = subst (λ b. Stays c b x after) (sym is) (λ there. refl)
  keeps_of o (applied flight t stage why can is) = subst (λ b. Stays c b x after) (sym is) (landed_keeps flight.op t can)

pub staying_keeps : StayingKeepsKey
staying_keeps n c d e f r x before after ends was there = keeps_of n c d x before after was (flight_of n c.flights) (came_of n c d e f r ends) there

-- A MOVE
put_there : (op : Op) (m : Nodes) (before after : Node) → is_split op.verb ≡ false → op.local ≡ Put after → get m op.id.0 ≡ Some before
    → get (all_changed m (local_changes op)) op.id.0 ≡ Some after
put_there op m before after one change was =
    subst (λ b. get (all_changed m (cond b (split_changes op) ((op.id.0, op.local) ∷ []))) op.id.0 ≡ Some after) (sym one)
    (subst (λ (c : Change). get (changed m op.id.0 c) op.id.0 ≡ Some after) (sym change) (get_put_same m op.id.0 after))

module _ (n : ℕ) (c d : ClientState) (before after : Node) where
  moved_keeps : (flight : Flight) (t : Taken) → is_split flight.op.verb ≡ false → flight.op.local ≡ Put after → get c.local.tree flight.op.id.0 ≡ Some before
      → CanLand (finished n t c) flight.op t → get (landed flight.op t (finished n t c)).local.keys flight.op.id.0 ≡ get c.local.keys flight.op.id.0
  moved_keeps flight (came.Folder o) one put was can =
      keeps_key flight.op o c.local flight.op.id.0 before after was (is_split flight.op.verb) can.0.old can.0.other
      (put_there flight.op c.local.tree before after one put was)
  moved_keeps flight (came.Accepted rev) one put was can = refl
  moved_keeps flight (came.Refused why) one put was can = refl

  abbrev Same : Flight → ClientState → Type 0
  Same flight b = get b.local.keys flight.op.id.0 ≡ get c.local.keys flight.op.id.0

  move_of : (flight : Flight) (o : Option Flight) → o ≡ Some flight → is_split flight.op.verb ≡ false → flight.op.local ≡ Put after
      → get c.local.tree flight.op.id.0 ≡ Some before → Came n c d o → Same flight d
  move_of flight o is one put was (nothing p same) = subst (Same flight) (sym same) refl
  move_of flight o is one put was (dropped other t stage end) = subst (Same flight) (sym end) refl
  move_of flight o is one put was (applied other t stage why can end) =
      let same : other ≡ flight = cc in
      subst (Same flight) (sym end)
      (subst (λ (g : Flight). CanLand (finished n t c) g.op t → Same flight (landed g.op t (finished n t c))) (sym same) (moved_keeps flight t one put was) can)

pub move_keeps : MoveKeepsKey
move_keeps n c d e f r flight before after there one put was ends =
    move_of n c d before after flight (flight_of n c.flights) there one put was (came_of n c d e f r ends)
