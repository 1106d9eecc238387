-- Each name in a client's folder is a name, where the log is no longer than a world lets it be.
use Rattle.std.specs.Prelude.{All, replicate}
use Rattle.std.proofs.Common.{◌≡◌, ◌<◌, ◌≤◌, ◌+◌, ◌*◌, ◌^◌, ◌++◌, ℕ, zero, suc, List, [], ◌∷◌, Some, length, sym, subst, arith}
use Rattle.std.proofs.lemmas.List.{length-append}
use Rattle.std.proofs.lemmas.List.Sums.{sum_by-append}
use Rattle.nuc_flights.specs.Flights.{Flight}
use Rattle.nuc_folder.specs.declared.listed.TheConstants.{MOST_ITEMS}
use Rattle.nuc_log.specs.declared.log.LogEntry.{LogEntry}
use Rattle.nuc_log.specs.declared.log.LogEntry.TheVariants as entry
use Rattle.nuc_log.specs.declared.reply.Reply.{Reply}
use Rattle.nuc_log.specs.declared.reply.Reply.TheVariants as reply
use Rattle.nuc_world.specs.Runs.{IsRecounted, Reaches}
use Rattle.nuc_world.specs.Runs.Reaches.{opened, stepped, told, unlisted}
use Rattle.nuc_world.specs.State.{Due, MemberState, WorldState, after_one, fresh_member, member_of, with_failure}
use Rattle.nuc_world.specs.Units.{units, units_by, units_of}
use Rattle.nuc_world.specs.declared.stop.TheConstants.{MOST_UNITS}
use Rattle.nuc_world.proofs.Reached.{reached_world}
use Rattle.nuc_fit.specs.Bounds.{FitsEntry, KeepsToBounds}
use Rattle.nuc_fit.proofs.NamesForm.{NamedEntry, NamedNotice, NamedOp}
use Rattle.nuc_fit.proofs.NamesKept.{step_named}
use Rattle.nuc_fit.proofs.NamesLists.{all_first, all_front, all_left, all_none, all_right}
use Rattle.nuc_fit.proofs.NamesTrees.{empty_named}
use Rattle.nuc_fit.proofs.NamesWorld.{NamedMember, NamedShared, NamedWorld, after_step, member_there, members_with}
use Rattle.nuc_fit.proofs.Parts.{HasNames}

-- WITHOUT ANYTHING IN IT
fresh_named : NamedMember fresh_member
fresh_named = record {
  client = record {
    remote = record { tree = empty_named; ahead = all_none NamedEntry };
    local = empty_named;
    synced = empty_named;
    flights = all_none (λ (f : Flight). NamedOp f.op);
  };
  folder = record { held = empty_named; pending = all_none NamedNotice };
  listed = tt;
}

all_fresh : (clients : ℕ) → All NamedMember (replicate clients fresh_member)
all_fresh zero = all_none NamedMember
all_fresh (suc k) = all_front NamedMember fresh_member (replicate k fresh_member) fresh_named (all_fresh k)

-- WITH OTHER COUNTS of a folder's calls
recounted_named : (most c : ℕ) (count : Due → Due) (w v : WorldState) → NamedWorld most w → IsRecounted c count w v → NamedWorld most v
recounted_named most c count w v named is =
    let its = member_there c w.members is.member named.members is.was in
    let other : NamedMember (record is.member { due = count is.member.due }) = record { client = its.client; folder = its.folder; listed = its.listed } in
    record {
      shared = subst (λ (x : WorldState). NamedShared most x.shared) (sym is.now) named.shared;
      members = subst (λ (x : WorldState). All NamedMember x.members) (sym is.now) (members_with c w.members _ named.members other);
    }

-- HOW MANY IDENTITIES so many entries of a log can give, and that they are few enough for free names to be names
abbrev most_after : ℕ → ℕ
most_after entries = entries * (MOST_ITEMS + 1) + 1

abbrev IsLogShort : List LogEntry → Type 0
IsLogShort log = length log < 2 ^ 40

one_more : (k : ℕ) → after_step (most_after k) ≤ most_after (k + 1)
one_more k = omega arith

few_after : (k : ℕ) → k < 2 ^ 40 → most_after k + (most_after k + most_after k) + 1 < 2 ^ 64
few_after k short = omega (arith, short)

more_named : (a b : ℕ) (w : WorldState) → a ≤ b → NamedWorld a w → NamedWorld b w
more_named a b w less named = record {
  shared = record { entries = named.shared.entries; next = let low = named.shared.next in omega (arith, low, less) };
  members = named.members;
}

-- EVERY WORLD
reached_named : (log : List LogEntry) (w : WorldState) → KeepsToBounds log → IsLogShort log → Reaches log w → NamedWorld (most_after (length log)) w
reached_named _ _ keeps short (opened clients some few) = record {
  shared = record { entries = all_none NamedEntry; next = omega arith };
  members = all_fresh clients;
}
reached_named _ v keeps short (stepped log w e r _ before step) =
    let long : length (log ++ entry.Stepped e r ∷ []) ≡ length log + 1 = length-append log (entry.Stepped e r ∷ []) in
    let shorter : length log < 2 ^ 40 = omega (arith, short, long) in
    let named = reached_named log w (all_left FitsEntry log (entry.Stepped e r ∷ []) keeps) shorter before in
    let fits = all_first FitsEntry (entry.Stepped e r) [] (all_right FitsEntry log (entry.Stepped e r ∷ []) keeps) in
    let after = step_named log (most_after (length log)) w v named (reached_world log w before) (few_after (length log) shorter) e r fits step in
    subst (λ k. NamedWorld (most_after k) v) (sym long) (more_named _ _ v (one_more (length log)) after)
reached_named log v keeps short (told _ w c k _ before some is) =
    recounted_named (most_after (length log)) c (with_failure k) w v (reached_named log w keeps short before) is
reached_named log v keeps short (unlisted _ w c _ before is) =
    recounted_named (most_after (length log)) c after_one w v (reached_named log w keeps short before) is.counted

-- A LOG THAT A WORLD TAKES is short
some_units : (r : Reply) → 0 < units_by r
some_units (reply.Listed changes items) = omega arith
some_units r = omega arith

one_unit : (e : LogEntry) → 0 < units e
one_unit (entry.Opened clients kept) = omega arith
one_unit (entry.Stepped e r) = some_units r

few_entries : (log : List LogEntry) → length log ≤ units_of log
few_entries [] = omega arith
few_entries (e ∷ es) =
    let sum : units_of (e ∷ es) ≡ units_of (e ∷ []) + units_of es = sum_by-append units (e ∷ []) es in
    let this : 0 < units_of (e ∷ []) = omega (arith, one_unit e) in
    let rest = few_entries es in
    omega (arith, sum, this, rest)

short_log : (log : List LogEntry) → units_of log ≤ MOST_UNITS → IsLogShort log
short_log log few = omega (arith, few, few_entries log)

-- names are names
pub names_are_names : (log : List LogEntry) (w : WorldState) (c : ℕ) (m : MemberState) → units_of log ≤ MOST_UNITS → KeepsToBounds log → Reaches log w
    → member_of c w.members ≡ Some m → HasNames m
names_are_names log w c m few keeps reached was = (member_there c w.members m (reached_named log w keeps (short_log log few) reached).members was).folder.held
