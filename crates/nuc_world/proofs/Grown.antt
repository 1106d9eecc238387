-- What is shared grows: what was known of it is known still.
use Rattle.std.specs.Prelude.{All}
use Rattle.std.proofs.Common.{◌≡◌, ◌<◌, ◌≤◌, ◌++◌, ℕ, zero, suc, List, [], Some, refl, sym, ◌∙◌, subst, arith}
use Rattle.std.proofs.lemmas.List.{append-nil}
use Rattle.nuc_base.specs.declared.node.Kind.{Kind}
use Rattle.nuc_base.specs.declared.node.Kind.TheVariants.{Folder, File}
use Rattle.nuc_edits.specs.Edits.{WasPut}
use Rattle.nuc_journal.specs.declared.entry.Entry.{Entry}
use Rattle.nuc_replica.proofs.Journaled.{at_more}
use Rattle.nuc_replica.specs.Following.{IsAt}
use Rattle.nuc_server.specs.WebEdits.{WebState}
use Rattle.nuc_world.specs.Form.{IsKnown, IsMember, IsPutAs, IsShared, IsWorld}
use Rattle.nuc_world.specs.State.{MemberState, Turn, WorldState, member_of, with_member}
use Rattle.nuc_world.proofs.Items.{all_get, all_map, all_set}

-- identities below the next keep their kinds, the next doesn't fall, and each version that was put is so still
pub record Grows (s t : WebState) (kinds later : ℕ → Kind) : Type 0 where
  pub kind : (x : ℕ) → x < s.ids.next_id → later x ≡ kinds x
  pub below : s.ids.next_id ≤ t.ids.next_id
  pub put : (v : ℕ) → WasPut s.edits.edits v → WasPut t.edits.edits v

put_grown : (s t : WebState) (kinds later : ℕ → Kind) → Grows s t kinds later → (k : Kind) (v : ℕ) → IsPutAs s.edits.edits k v → IsPutAs t.edits.edits k v
put_grown s t kinds later grows Folder v put = put
put_grown s t kinds later grows File v put = grows.put v put

pub known_grown : (s t : WebState) (kinds later : ℕ → Kind) → Grows s t kinds later → (x : ℕ) (k : Kind) (v : ℕ) → IsKnown s kinds x k v → IsKnown t later x k v
known_grown s t kinds later grows x k v known = record {
  kind = known.kind ∙ sym (grows.kind x known.below);
  below = let more = grows.below in let old = known.below in omega (arith, more, old);
  put = put_grown s t kinds later grows k v known.put;
}

-- what is shared is sound after it, and entries only came
pub record Passes (s t : WebState) (kinds : ℕ → Kind) : Type 0 where
  pub later : ℕ → Kind
  pub grows : Grows s t kinds later
  pub more : List Entry
  pub entries : t.entries ≡ s.entries ++ more
  pub shared : IsShared t later

pub member_grown : (s t : WebState) (kinds : ℕ → Kind) (passes : Passes s t kinds) (m : MemberState) → IsMember s kinds m → IsMember t passes.later m
member_grown s t kinds passes m member = record {
  client = member.client;
  at = subst (λ es. IsAt es m.client.remote) (sym passes.entries) (at_more s.entries passes.more m.client.remote member.at);
  holds = λ x k v holds. known_grown s t kinds passes.later passes.grows x k v (member.holds x k v holds);
  flights = member.flights;
  keys = member.keys;
  made = member.made;
  given = member.given;
}

-- nothing that is shared changed
pub nothing_shared : (s : WebState) (kinds : ℕ → Kind) → IsShared s kinds → Passes s s kinds
nothing_shared s kinds shared = record {
  later = kinds;
  grows = record { kind = λ x below. refl; below = omega arith; put = λ v put. put };
  more = [];
  entries = sym (append-nil s.entries);
  shared = shared;
}

-- A TURN of one member
pub record Turned (t u : Turn) (kinds : ℕ → Kind) : Type 0 where
  pub passes : Passes t.shared u.shared kinds
  pub member : IsMember u.shared passes.later u.member

-- of a member alone
pub turned_alone : (t u : Turn) (kinds : ℕ → Kind) → IsShared t.shared kinds → u.shared ≡ t.shared → IsMember t.shared kinds u.member → Turned t u kinds
unfolding nothing_shared
turned_alone t u kinds shared same member = subst (λ s. Turned t (record { shared = s; member = u.member }) kinds) (sym same)
    (record { passes = nothing_shared t.shared kinds shared; member = member })

member_there : (P : MemberState → Type 0) (c : ℕ) (ms : List MemberState) (m : MemberState) → All P ms → member_of c ms ≡ Some m → P m
member_there P zero ms m all at = cc
member_there P (suc i) ms m all at = all_get P ms i m all at

members_with : (P : MemberState → Type 0) (c : ℕ) (ms : List MemberState) (m : MemberState) → All P ms → P m → All P (with_member c m ms)
members_with P zero ms m all its = all
members_with P (suc i) ms m all its = all_set P ms i m all its

-- the member whose turn it is
pub its_member : (w : WorldState) (world : IsWorld w) (c : ℕ) (m : MemberState) → member_of c w.members ≡ Some m → IsMember w.shared world.kind_of m
its_member w world c m was = member_there (IsMember w.shared world.kind_of) c w.members m world.members was

-- and all others stay
pub world_turned : (w v : WorldState) (world : IsWorld w) (c : ℕ) (m after : MemberState) → v.members ≡ with_member c after w.members
    → Turned (record { shared = w.shared; member = m }) (record { shared = v.shared; member = after }) world.kind_of → IsWorld v
world_turned w v world c m after now turned =
    let later = turned.passes.later in
    record {
      kind_of = later;
      shared = turned.passes.shared;
      members = subst (All (IsMember v.shared later)) (sym now)
          (members_with (IsMember v.shared later) c w.members after
          (all_map (IsMember w.shared world.kind_of) (IsMember v.shared later) (member_grown w.shared v.shared world.kind_of turned.passes) w.members world.members)
          turned.member);
    }

-- what is shared alone changed
pub world_passed : (w v : WorldState) (world : IsWorld w) → v.members ≡ w.members → Passes w.shared v.shared world.kind_of → IsWorld v
world_passed w v world now passes = record {
  kind_of = passes.later;
  shared = passes.shared;
  members = subst (All (IsMember v.shared passes.later)) (sym now)
      (all_map (IsMember w.shared world.kind_of) (IsMember v.shared passes.later) (member_grown w.shared v.shared world.kind_of passes) w.members world.members);
}
