-- What each member of a world is ready for: it can plan, take and watch.
use Rattle.std.specs.Prelude.{IfSome}
use Rattle.std.proofs.Common.{◌≡◌, ℕ, Option, Some, None, refl, sym, ◌∙◌, subst}
use Rattle.std.specs.FinMap.{get}
use Rattle.nuc_base.specs.Trees.{Nodes, OneKind}
use Rattle.nuc_base.specs.declared.node.Kind.{Kind}
use Rattle.nuc_base.specs.declared.node.Node.{Node}
use Rattle.nuc_class.specs.declared.op.Op.{Op}
use Rattle.nuc_conflict.specs.FitTogether.{IsBelow}
use Rattle.nuc_flights.specs.Flights.{flight_of}
use Rattle.nuc_server.specs.WebEdits.{WebState}
use Rattle.nuc_step.specs.Holdings.{Holds, IsOf}
use Rattle.nuc_step.specs.Holdings.Holds.{remote as in_remote, local as in_local, synced as in_synced}
use Rattle.nuc_step.specs.Planning.{CanPlan}
use Rattle.nuc_step.specs.Stages.{started_of}
use Rattle.nuc_step.specs.Watching.{CanWatch}
use Rattle.nuc_world.specs.Form.{CanFly, CanTake, IsKnown, IsMember, IsShared, IsWorld}
use Rattle.nuc_world.specs.State.{MemberState, WorldState, member_of}
use Rattle.nuc_world.proofs.Grown.{its_member}
use Rattle.nuc_world.proofs.Takes.{flown, op_all}

-- A MEMBER
module _ (s : WebState) (kinds : ℕ → Kind) (m : MemberState) (member : IsMember s kinds m) where
  -- each node that it holds in a tree is known
  abbrev AllKnown : Nodes → Type 0
  AllKnown tree = (x : ℕ) (n : Node) → get tree x ≡ Some n → IsKnown s kinds x n.kind n.ver.0

  stands : (tree : Nodes) → ((x : ℕ) (k : Kind) (v : ℕ) → IsOf k v (get tree x) → Holds m.client x k v) → AllKnown tree
  stands tree holds x n at = member.holds x n.kind n.ver.0 (holds x n.kind n.ver.0 (subst (IsOf n.kind n.ver.0) (sym at) (refl, refl)))

  in_remote_known : AllKnown m.client.remote.tree
  in_remote_known = stands m.client.remote.tree (λ x k v is. in_remote is)

  in_local_known : AllKnown m.client.local.tree
  in_local_known = stands m.client.local.tree (λ x k v is. in_local is)

  in_synced_known : AllKnown m.client.synced
  in_synced_known = stands m.client.synced (λ x k v is. in_synced is)

  one_kind : (a b : Nodes) → AllKnown a → AllKnown b → OneKind a b
  one_kind a b known too x n h at there = (known x n at).kind ∙ sym (too x h there).kind

  are_below : (tree : Nodes) → AllKnown tree → IsBelow tree s.ids.next_id
  are_below tree known x n at = (known x n at).below

  pub member_can_plan : CanPlan m.client s.ids.next_id
  member_can_plan = record {
    fit = record {
      remote = member.client.remote.form;
      local = member.client.local.form;
      synced = member.client.synced;
      remote_local = one_kind m.client.remote.tree m.client.local.tree in_remote_known in_local_known;
      remote_synced = one_kind m.client.remote.tree m.client.synced in_remote_known in_synced_known;
      local_synced = one_kind m.client.local.tree m.client.synced in_local_known in_synced_known;
    };
    remote = are_below m.client.remote.tree in_remote_known;
    local = are_below m.client.local.tree in_local_known;
    synced = are_below m.client.synced in_synced_known;
  }

  pub member_can_watch : IsShared s kinds → CanWatch m.client s.edits s.ids
  member_can_watch shared = record { fit = member_can_plan; some = shared.next_id.some; next = shared.next_ver }

  begun : (n : ℕ) (o : Option Op) → started_of (flight_of n m.client.flights) ≡ o → IfSome o CanFly
  begun n None is = tt
  begun n (Some op) is = op_all CanFly n m.client.flights op (flown n m.client.flights (flight_of n m.client.flights) op refl is) member.flights

  pub member_can_take : (n : ℕ) → CanTake n s.entries m.client
  member_can_take n = record { op = begun n (started_of (flight_of n m.client.flights)) refl; at = member.at }

-- EACH MEMBER OF A WORLD
module _ (w : WorldState) (world : IsWorld w) (c : ℕ) (m : MemberState) (was : member_of c w.members ≡ Some m) where
  pub can_plan : CanPlan m.client w.shared.ids.next_id
  can_plan = member_can_plan w.shared world.kind_of m (its_member w world c m was)

  pub can_take : (n : ℕ) → CanTake n w.shared.entries m.client
  can_take = member_can_take w.shared world.kind_of m (its_member w world c m was)

  pub can_watch : CanWatch m.client w.shared.edits w.shared.ids
  can_watch = member_can_watch w.shared world.kind_of m (its_member w world c m was) world.shared
