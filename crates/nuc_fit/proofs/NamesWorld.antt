-- The names of a world, and of what one of its steps reads and writes.
use Rattle.std.specs.Prelude.{All}
use Rattle.std.proofs.Common.{◌≡◌, ◌≤◌, ◌+◌, ℕ, zero, suc, List, Some, sym, ap, subst, arith}
use Rattle.nuc_folder.specs.declared.listed.TheConstants.{MOST_ITEMS}
use Rattle.nuc_server.specs.WebEdits.{WebState}
use Rattle.nuc_world.specs.State.{MemberState, Turn, WorldState, member_of, with_member}
use Rattle.nuc_world.proofs.Items.{all_get, all_set}
use Rattle.nuc_fit.proofs.NamesForm.{IsListedFew, NamedClient, NamedEntry, NamedFolder}

pub record NamedMember (m : MemberState) : Type 0 where
  pub client : NamedClient m.client
  pub folder : NamedFolder m.folder
  pub listed : IsListedFew m.listing

-- and so many identities were given at most
pub record NamedShared (most : ℕ) (s : WebState) : Type 0 where
  pub entries : All NamedEntry s.entries
  pub next : s.ids.next_id ≤ most

pub record NamedTurn (most : ℕ) (t : Turn) : Type 0 where
  pub shared : NamedShared most t.shared
  pub member : NamedMember t.member

pub record NamedWorld (most : ℕ) (w : WorldState) : Type 0 where
  pub shared : NamedShared most w.shared
  pub members : All NamedMember w.members

-- no step gives more: a scan gives no more than there are items
abbrev pub after_step : ℕ → ℕ
after_step most = most + (MOST_ITEMS + 1)

pub shared_later : (most : ℕ) (s t : WebState) → t ≡ s → NamedShared most s → NamedShared (after_step most) t
shared_later most s t same named = record {
  entries = subst (λ (z : WebState). All NamedEntry z.entries) (sym same) named.entries;
  next =
      let next : t.ids.next_id ≡ s.ids.next_id = ap (λ (z : WebState). z.ids.next_id) same in
      let low = named.next in
      omega (arith, next, low);
}

-- a member alone changes
pub alone : (most : ℕ) (t u : Turn) → NamedTurn most t → u.shared ≡ t.shared → NamedMember u.member → NamedTurn (after_step most) u
alone most t u named same member = record { shared = shared_later most t.shared u.shared same named.shared; member = member }

-- EACH MEMBER
pub member_there : (c : ℕ) (ms : List MemberState) (m : MemberState) → All NamedMember ms → member_of c ms ≡ Some m → NamedMember m
member_there zero ms m all at = cc
member_there (suc i) ms m all at = all_get NamedMember ms i m all at

pub members_with : (c : ℕ) (ms : List MemberState) (m : MemberState) → All NamedMember ms → NamedMember m → All NamedMember (with_member c m ms)
members_with zero ms m all its = all
members_with (suc i) ms m all its = all_set NamedMember ms i m all its

pub world_turned : (most : ℕ) (w v : WorldState) (c : ℕ) (m after : MemberState) → NamedWorld most w → v.members ≡ with_member c after w.members
    → NamedTurn (after_step most) (record { shared = v.shared; member = after }) → NamedWorld (after_step most) v
world_turned most w v c m after named now turned = record {
  shared = turned.shared;
  members = subst (All NamedMember) (sym now) (members_with c w.members after named.members turned.member);
}
