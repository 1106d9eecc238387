-- A world is one as it opens, and with other counts.
use Rattle.std.specs.Prelude.{All, replicate}
use Rattle.std.proofs.Common.{◌≡◌, ◌<◌, ℕ, zero, suc, [], Some, None, refl, sym, ◌∙◌, ap, subst, arith}
use Rattle.std.specs.FinMap.{empty, get-empty}
use Rattle.std.specs.Ordering.{nat_cmp}
use Rattle.nuc_base.specs.declared.node.Kind.{Kind}
use Rattle.nuc_base.specs.declared.node.Kind.TheVariants.{Folder}
use Rattle.nuc_base.proofs.Forms.{empty_form}
use Rattle.nuc_flights.specs.Flights.{Flight}
use Rattle.nuc_replica.proofs.Journaled.{at_start, none_have}
use Rattle.nuc_replica.proofs.Locals.{no_keys}
use Rattle.nuc_step.specs.Holdings.{EntryBrings, Holds, IsOf, OpHolds}
use Rattle.nuc_step.specs.Holdings.Holds.{remote as in_remote, local as in_local, synced as in_synced, ahead as in_ahead, flight as in_flight}
use Rattle.nuc_step.specs.Sound.{IsClient, IsFlight, known_to}
use Rattle.nuc_world.specs.Form.{CanFly, IsKnown, IsMember, IsNoticeBelow, IsStageBelow, IsWorld}
use Rattle.nuc_world.specs.Runs.{IsRecounted}
use Rattle.nuc_world.specs.State.{Due, MemberState, WorldState, fresh, fresh_client, fresh_member, fresh_shared}
use Rattle.nuc_world.proofs.Grown.{its_member, turned_alone, world_turned}
use Rattle.nuc_world.proofs.Items.{all_front, all_none, any_of}
use Rattle.nuc_world.proofs.Later.{member_beside}

-- WITHOUT ANYTHING IN IT
abbrev all_folders : ℕ → Kind
all_folders x = Folder

fresh_holds : (x : ℕ) (k : Kind) (v : ℕ) → Holds fresh_client x k v → IsKnown fresh_shared all_folders x k v
fresh_holds x k v (in_remote is) = absurd (subst (IsOf k v) (get-empty nat_cmp x) is)
fresh_holds x k v (in_local is) = absurd (subst (IsOf k v) (get-empty nat_cmp x) is)
fresh_holds x k v (in_synced is) = absurd (subst (IsOf k v) (get-empty nat_cmp x) is)
fresh_holds x k v (in_ahead some) = any_of (EntryBrings x k v) [] (IsKnown fresh_shared all_folders x k v) (all_none (λ e. EntryBrings x k v e → IsKnown fresh_shared all_folders x k v)) some
fresh_holds x k v (in_flight some) =
    any_of (λ (f : Flight). OpHolds x k v f.op) [] (IsKnown fresh_shared all_folders x k v) (all_none (λ (f : Flight). OpHolds x k v f.op → IsKnown fresh_shared all_folders x k v)) some

fresh_is : IsClient fresh_client
fresh_is = record {
  remote = record { form = empty_form; revisions = none_have empty empty refl refl; ahead = tt };
  local = record {
    form = empty_form;
    keys = record {
      no_root = get-empty nat_cmp 0;
      no_zero = λ x is. (let none = sym (get-empty nat_cmp x) ∙ is in cc);
      one_to_one = λ x y k at too. absurd (let none = sym (get-empty nat_cmp x) ∙ at in cc);
    };
    follow = no_keys empty empty refl refl;
  };
  synced = empty_form;
  flights = all_none (IsFlight (known_to fresh_client.remote));
  numbers = tt;
}

fresh_one : IsMember fresh_shared all_folders fresh_member
fresh_one = record {
  client = fresh_is;
  at = at_start [] empty empty refl refl;
  holds = fresh_holds;
  flights = all_none (λ (f : Flight). CanFly f.op);
  keys = λ x key at. absurd (let none = sym (get-empty nat_cmp x) ∙ at in cc);
  made = all_none (λ (f : Flight). IsStageBelow 1 f.stage);
  given = record {
    held = λ x n at. absurd (let none = sym (get-empty nat_cmp x) ∙ at in cc);
    pending = all_none (IsNoticeBelow 1);
    listed = tt;
  };
}

all_same : {X : Type 0} (P : X → Type 0) (n : ℕ) (x : X) → P x → All P (replicate n x)
all_same P zero x its = all_none P
all_same P (suc n) x its = all_front P x (replicate n x) its (all_same P n x its)

pub opens : (clients : ℕ) → IsWorld (fresh clients)
opens clients = record {
  kind_of = all_folders;
  shared = record {
    journal = λ k e at. absurd (let none : None ≡ Some e = at in cc);
    next_id = record { some = omega arith; above = λ k e at. absurd (let none : None ≡ Some e = at in cc) };
    next_ver = record { some = omega arith; above = all_none (λ edit. edit.ver.0 < 1) };
    entries = λ x k v. all_none (λ e. EntryBrings x k v e → IsKnown fresh_shared all_folders x k v);
  };
  members = all_same (IsMember fresh_shared all_folders) clients fresh_member fresh_one;
}

-- WITH OTHER COUNTS of a folder's calls
pub recounted : (c : ℕ) (count : Due → Due) (w v : WorldState) → IsWorld w → IsRecounted c count w v → IsWorld v
recounted c count w v world is =
    let after : MemberState = record is.member { due = count is.member.due } in
    let its = its_member w world c is.member is.was in
    let shared : v.shared ≡ w.shared = ap (λ (u : WorldState). u.shared) is.now in
    world_turned w v world c is.member after (ap (λ (u : WorldState). u.members) is.now)
    (turned_alone (record { shared = w.shared; member = is.member }) (record { shared = v.shared; member = after }) world.kind_of world.shared shared
    (member_beside w.shared world.kind_of is.member after refl (omega arith) its.given its))
