-- What comes of the calls of an operation keeps to the kinds of the keys: what is made is of the kind of the node that comes
-- to Local.
use Rattle.std.proofs.Common.{◌≡◌, ◌<◌, ◌≤◌, ◌++◌, ℕ, Bool, true, false, List, [], ◌∷◌, Option, Some, None, refl, sym, ◌∙◌, ap, subst, inl, inr, arith}
use Rattle.std.specs.Prelude.{if◌then◌else◌}
use Rattle.std.specs.Bool.{beq}
use Rattle.std.specs.FinMap.{get}
use Rattle.std.specs.Str.{bytes_eq}
use Rattle.nuc_base.specs.declared.change.Change.{Change}
use Rattle.nuc_base.specs.declared.change.Change.TheVariants.{Keep, Put, Cut}
use Rattle.nuc_base.specs.declared.node.Kind.{Kind}
use Rattle.nuc_base.specs.declared.node.Kind.TheVariants.{Folder, File}
use Rattle.nuc_base.specs.declared.node.Node.{Node}
use Rattle.nuc_class.specs.Equal.{place_eq}
use Rattle.nuc_class.specs.declared.op.Op.{Op}
use Rattle.nuc_class.specs.declared.op.Verb.{Verb}
use Rattle.nuc_class.specs.declared.op.Verb.TheVariants as verb
use Rattle.nuc_filework.specs.Calls.{bit_step, called, calls_by, calls_of, changing, in_order, key_place, listed, making, move_step, moving, only, removing, replace_step, replacing, seen_hash, splitting, switching}
use Rattle.nuc_filework.specs.Runs.{Accepts, CallAnswers, Called, FolderView, IsNotRun, Runs, RunsOp}
use Rattle.nuc_filework.specs.Runs.Runs.{over, stops, goes_on}
use Rattle.nuc_filework.specs.declared.call.Call.{Call}
use Rattle.nuc_folder.specs.Answers.{Told}
use Rattle.nuc_folder.specs.State.{FolderState}
use Rattle.nuc_folder.specs.declared.key_place.KeyPlace.{KeyPlace}
use Rattle.nuc_folder.specs.declared.outcome.Outcome.{Outcome}
use Rattle.nuc_folder.specs.declared.outcome.Outcome.TheVariants as outcome
use Rattle.nuc_folder.specs.declared.ran.RanOp.{RanOp}
use Rattle.nuc_hash.specs.Content.{ContentData}
use Rattle.nuc_hash.specs.declared.digest.Digest.{Digest}
use Rattle.nuc_observe.specs.Keys.{KeyMap}
use Rattle.nuc_fit.proofs.KindsCalls.{AreCallsOf, IsCallOf, IsMadeAs, IsToldBelow, IsToldOf, call_answered, call_held, kinds_after, told_below}
use Rattle.nuc_fit.proofs.KindsForm.{Agree, IsMadeOf, Kinds, PutsKind}

-- AFTER SOME CALLS the keys have these kinds
pub record Ran (kinds : Kinds) (kind : Kind) (next : ℕ) (w : FolderView) (reply : Outcome) : Type 0 where
  pub later : Kinds
  pub agree : Agree next kinds later
  pub held : IsToldOf later w.told
  pub made : IsMadeAs later kind w.next reply
  pub rises : next ≤ w.next

told_held : (kinds : Kinds) (kind : Kind) (next : ℕ) (bytes : List ℕ) (call : Call) (reply : Outcome) → IsCallOf kind call → Agree next kinds (kinds_after kinds kind reply)
    → (o p : Option FolderState) → IsToldOf kinds o → IsToldBelow next o → Told (λ old new. CallAnswers bytes call old reply new) o p → IsToldOf (kinds_after kinds kind reply) p
told_held kinds kind next bytes call reply of agree None None held below is = tt
told_held kinds kind next bytes call reply of agree None (Some new) held below is = absurd is
told_held kinds kind next bytes call reply of agree (Some old) None held below is = absurd is
told_held kinds kind next bytes call reply of agree (Some old) (Some new) held below is = call_held kinds kind next old new below held bytes call reply of agree is

module _ (kind : Kind) (bytes : List ℕ) where
  one_ran : (kinds : Kinds) (call : Call) (v : FolderView) (reply : Outcome) (w : FolderView) → IsCallOf kind call → IsToldOf kinds v.told → IsToldBelow v.next v.told
      → Called bytes call v reply w → Ran kinds kind v.next w reply
  one_ran kinds call v reply w of held below is =
      let its = call_answered kinds kind v.next w.next call reply is.keys in
      record {
        later = kinds_after kinds kind reply;
        agree = its.agree;
        held = told_held kinds kind v.next bytes call reply of its.agree v.told w.told held below is.told;
        made = its.made;
        rises = its.rises;
      }

  runs_ran : (last : Outcome) (calls : List Call) (v : FolderView) (final : Outcome) (made : ℕ) (w : FolderView) → Runs bytes last calls v final made w
      → (kinds : Kinds) → AreCallsOf kind calls → IsToldOf kinds v.told → IsToldBelow v.next v.told → IsMadeAs kinds kind v.next last → Ran kinds kind v.next w final
  runs_ran last calls v final made w (over a b) kinds of held below was =
      record { later = kinds; agree = λ k less. refl; held = held; made = was; rises = omega arith }
  runs_ran last calls v final made w (stops a call rest c reply d is failed) kinds of held below was = one_ran kinds call v reply w of.0 held below is
  runs_ran last calls v final made w (goes_on a call rest c reply u d count f is success more) kinds of held below was =
      let first = one_ran kinds call v reply u of.0 held below is in
      let more_ran = runs_ran reply rest u final count w more first.later of.1 first.held (told_below u.next u.told is.form) first.made in
      record {
        later = more_ran.later;
        agree = λ k less. more_ran.agree k (let up = first.rises in omega (arith, less, up)) ∙ first.agree k less;
        held = more_ran.held;
        made = more_ran.made;
        rises = let one = first.rises in let two = more_ran.rises in omega (arith, one, two);
      }

-- what is accepted of the last answer
accepted : (m : KeyMap) (kinds : Kinds) (kind : Kind) (next : ℕ) (last reply : Outcome) → Accepts m last reply → IsMadeAs kinds kind next last → IsMadeAs kinds kind next reply
accepted m kinds kind next (outcome.Made key) (outcome.Made other) (same, some, unheld) was = subst (λ (k : _). (kind ≡ kinds k.0) × (k.0 < next)) (sym same) was
accepted m kinds kind next (outcome.Made key) outcome.Changed is was = tt
accepted m kinds kind next (outcome.Made key) outcome.Ok is was = absurd is
accepted m kinds kind next (outcome.Made key) outcome.Taken is was = absurd is
accepted m kinds kind next (outcome.Made key) outcome.NotEmpty is was = absurd is
accepted m kinds kind next (outcome.Made key) outcome.Failed is was = absurd is
accepted m kinds kind next (outcome.Made key) outcome.Memory is was = absurd is
accepted m kinds kind next outcome.Ok reply is was = subst (IsMadeAs kinds kind next) (sym is) tt
accepted m kinds kind next outcome.Changed reply is was = subst (IsMadeAs kinds kind next) (sym is) tt
accepted m kinds kind next outcome.Taken reply is was = subst (IsMadeAs kinds kind next) (sym is) tt
accepted m kinds kind next outcome.NotEmpty reply is was = subst (IsMadeAs kinds kind next) (sym is) tt
accepted m kinds kind next outcome.Failed reply is was = subst (IsMadeAs kinds kind next) (sym is) tt
accepted m kinds kind next outcome.Memory reply is was = subst (IsMadeAs kinds kind next) (sym is) tt

-- WHICH CALLS an operation has
abbrev AreAll : Kind → Option (List Call) → Type 0
AreAll kind None = Unit {0}
AreAll kind (Some calls) = AreCallsOf kind calls

abbrev IsStep : Kind → Option (Option Call) → Type 0
IsStep kind None = Unit {0}
IsStep kind (Some None) = Unit {0}
IsStep kind (Some (Some call)) = IsCallOf kind call

-- the kind of the node that comes
abbrev kind_put : Change → Kind
kind_put Keep = Folder
kind_put (Put n) = n.kind
kind_put Cut = Folder

module _ (kind : Kind) where
  listed_all : (a : Option Call) → IsStep kind (Some a) → (calls : List Call) → AreCallsOf kind calls → AreCallsOf kind (listed a ++ calls)
  listed_all None is calls rest = rest
  listed_all (Some call) is calls rest = (is, rest)

  listed_one : (a : Option Call) → IsStep kind (Some a) → AreCallsOf kind (listed a)
  listed_one None is = tt
  listed_one (Some call) is = (is, tt)

  ordered : (a b c : Option (Option Call)) → IsStep kind a → IsStep kind b → IsStep kind c → AreAll kind (in_order a b c)
  ordered (Some a) (Some b) (Some c) one two three = listed_all a one (listed b ++ listed c) (listed_all b two (listed c) (listed_one c three))
  ordered (Some a) (Some b) None one two three = tt
  ordered (Some a) None c one two three = tt
  ordered None b c one two three = tt

  replaces : (key : Option ℕ) (old : Digest) (given : Bool) → IsStep kind (called (replacing key old given))
  replaces (Some k) old true = tt
  replaces (Some k) old false = tt
  replaces None old given = tt

  switches : (key : Option ℕ) (old new : Bool) → IsStep kind (called (switching key old new))
  switches (Some k) old new = tt
  switches None old new = tt

  moves : (key : Option ℕ) (from to : Option KeyPlace) → IsStep kind (called (moving key from to))
  moves (Some k) (Some from) (Some to) = tt
  moves (Some k) (Some from) None = tt
  moves (Some k) None to = tt
  moves None from to = tt

  only_moves : (key : Option ℕ) (from to : Option KeyPlace) → AreAll kind (only (moving key from to))
  only_moves (Some k) (Some from) (Some to) = (tt, tt)
  only_moves (Some k) (Some from) None = tt
  only_moves (Some k) None to = tt
  only_moves None from to = tt

  only_removes : (key : Option ℕ) (p : Option KeyPlace) (hash : Option Digest) → AreAll kind (only (removing key p hash))
  only_removes (Some k) (Some p) hash = (tt, tt)
  only_removes (Some k) None hash = tt
  only_removes None p hash = tt

  if_other : (same : Bool) (o : Option (Option Call)) → IsStep kind o → IsStep kind (if same then Some None else o)
  if_other true o is = tt
  if_other false o is = is

only_makes : (kind : Kind) (bit given : Bool) (p : Option KeyPlace) → AreAll kind (only (making kind bit given p))
only_makes Folder bit given (Some p) = (refl, tt)
only_makes Folder bit given None = tt
only_makes File bit true (Some p) = (refl, tt)
only_makes File bit true None = tt
only_makes File bit false p = tt

changing_all : (m : KeyMap) (x : ℕ) (old : Option Node) (local : Change) (seen wanted : Digest) (given : Bool) → AreAll (kind_put local) (changing m x old local seen wanted given)
changing_all m x None Keep seen wanted given = tt
changing_all m x (Some old) Keep seen wanted given = tt
changing_all m x None Cut seen wanted given = tt
changing_all m x (Some old) Cut seen wanted given = only_removes Folder (get m x) (key_place m old.place) (seen_hash old.kind seen)
changing_all m x None (Put new) seen wanted given = only_makes new.kind new.bit given (key_place m new.place)
changing_all m x (Some old) (Put new) seen wanted given =
    ordered new.kind (replace_step (get m x) seen wanted given) (bit_step (get m x) old.bit new.bit) (move_step m (get m x) old.place new.place)
    (if_other new.kind (bytes_eq seen.0 wanted.0) (called (replacing (get m x) seen given)) (replaces new.kind (get m x) seen given))
    (if_other new.kind (beq old.bit new.bit) (called (switching (get m x) old.bit new.bit)) (switches new.kind (get m x) old.bit new.bit))
    (if_other new.kind (place_eq old.place new.place) (called (moving (get m x) (key_place m old.place) (key_place m new.place)))
    (moves new.kind (get m x) (key_place m old.place) (key_place m new.place)))

splitting_all : (m : KeyMap) (x : ℕ) (old : Option Node) (local : Change) → AreAll (kind_put local) (splitting m x old local)
splitting_all m x (Some old) (Put copy) = only_moves copy.kind (get m x) (key_place m old.place) (key_place m copy.place)
splitting_all m x (Some old) Keep = tt
splitting_all m x (Some old) Cut = tt
splitting_all m x None local = tt

calls_all : (v : Verb) (m : KeyMap) (x : ℕ) (old : Option Node) (local : Change) (seen wanted : Digest) (given : Bool)
    → AreAll (kind_put local) (calls_by v m x old local seen wanted given)
calls_all verb.Adopt m x old local seen wanted given = tt
calls_all verb.Split m x old local seen wanted given = splitting_all m x old local
calls_all verb.Down m x old local seen wanted given = changing_all m x old local seen wanted given
calls_all verb.Up m x old local seen wanted given = changing_all m x old local seen wanted given
calls_all verb.CutDown m x old local seen wanted given = changing_all m x old local seen wanted given
calls_all verb.CutUp m x old local seen wanted given = changing_all m x old local seen wanted given
calls_all verb.Forget m x old local seen wanted given = changing_all m x old local seen wanted given
calls_all verb.Unmove m x old local seen wanted given = changing_all m x old local seen wanted given
calls_all verb.Revive m x old local seen wanted given = changing_all m x old local seen wanted given
calls_all verb.Evict m x old local seen wanted given = changing_all m x old local seen wanted given

-- AN OPERATION
module _ (kinds : Kinds) (kind : Kind) (m : KeyMap) (bytes : List ℕ) (v : FolderView) (ran : RanOp) (w : FolderView)
    (held : IsToldOf kinds v.told) (below : IsToldBelow v.next v.told) where
  not_ran : (reply : Outcome) → IsMadeAs kinds kind v.next reply → IsNotRun v reply ran w → Ran kinds kind v.next w ran.outcome
  not_ran reply made (is, same) =
      let stays : Ran kinds kind v.next v reply = record { later = kinds; agree = λ k less. refl; held = held; made = made; rises = omega arith } in
      subst (Ran kinds kind v.next w) (sym (ap (λ (r : RanOp). r.outcome) is)) (subst (λ (u : FolderView). Ran kinds kind v.next u reply) (sym same) stays)

  by_calls : (calls : Option (List Call)) → AreAll kind calls → RunsOp m bytes calls v ran w → Ran kinds kind v.next w ran.outcome
  by_calls None all (inl none) = not_ran outcome.Changed tt none
  by_calls None all (inr none) = not_ran outcome.Memory tt none
  by_calls (Some []) all none = not_ran outcome.Ok tt none
  by_calls (Some (call ∷ calls)) all (inr none) = not_ran outcome.Memory tt none
  by_calls (Some (call ∷ calls)) all (inl run) =
      let its = runs_ran kind bytes outcome.Ok (call ∷ calls) v run.last ran.made w run.runs kinds all held below tt in
      record { later = its.later; agree = its.agree; held = its.held; made = accepted m its.later kind w.next run.last ran.outcome run.answer its.made; rises = its.rises }

puts_kind : (c : Change) (kind : Kind) → kind_put c ≡ kind → PutsKind c kind
puts_kind Keep kind is = tt
puts_kind (Put n) kind is = is
puts_kind Cut kind is = tt

made_of : (kinds : Kinds) (c : Change) (next : ℕ) (reply : Outcome) → IsMadeAs kinds (kind_put c) next reply → IsMadeOf kinds c reply
made_of kinds c next (outcome.Made key) is = puts_kind c (kinds key.0) is.0
made_of kinds c next outcome.Ok is = tt
made_of kinds c next outcome.NotEmpty is = tt
made_of kinds c next outcome.Changed is = tt
made_of kinds c next outcome.Taken is = tt
made_of kinds c next outcome.Failed is = tt
made_of kinds c next outcome.Memory is = tt

-- what the folder holds then, and what was made
pub record OpRan (kinds : Kinds) (local : Change) (next : ℕ) (w : FolderView) (reply : Outcome) : Type 0 where
  pub later : Kinds
  pub agree : Agree next kinds later
  pub held : IsToldOf later w.told
  pub made : IsMadeOf later local reply
  pub rises : next ≤ w.next

pub op_ran : (kinds : Kinds) (m : KeyMap) (bytes : List ℕ) (op : Op) (v : FolderView) (ran : RanOp) (w : FolderView) (seen wanted : ContentData) (given : Bool)
    → IsToldOf kinds v.told → IsToldBelow v.next v.told → RunsOp m bytes (calls_of m op seen wanted given) v ran w → OpRan kinds op.local v.next w ran.outcome
op_ran kinds m bytes op v ran w seen wanted given held below runs =
    let its = by_calls kinds (kind_put op.local) m bytes v ran w held below (calls_of m op seen wanted given)
    (calls_all op.verb m op.id.0 op.old_local op.local seen.hash wanted.hash given) runs in
    record { later = its.later; agree = its.agree; held = its.held; made = made_of its.later op.local w.next ran.outcome its.made; rises = its.rises }
