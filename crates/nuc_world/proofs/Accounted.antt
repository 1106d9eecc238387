-- No content is lost: whatever log led to a world, each version that was put stands in a tree there, or is gone by.
use Rattle.std.specs.Prelude.{All, Any, length, replicate, set, take}
use Rattle.std.proofs.Common.{◌≡◌, ◌⊎◌, ◌<◌, ◌++◌, ℕ, zero, suc, List, [], ◌∷◌, slice_get, Some, refl, sym, ◌∙◌, ap, subst, inl, inr, arith}
use Rattle.std.proofs.Math.Seq.{take-length}
use Rattle.std.proofs.lemmas.List.{take-append-le}
use Rattle.std.specs.FinMap.{empty, get-empty}
use Rattle.std.specs.Ordering.{nat_cmp}
use Rattle.nuc_edits.specs.declared.edit.Edit.{Edit}
use Rattle.nuc_edits.specs.declared.edit.EditKind.{EditKind}
use Rattle.nuc_edits.specs.declared.edit.EditKind.TheVariants as put
use Rattle.nuc_journal.specs.Entries.{tree_of}
use Rattle.nuc_log.specs.declared.event.Event.{Event}
use Rattle.nuc_log.specs.declared.event.Event.TheVariants as event
use Rattle.nuc_log.specs.declared.log.LogEntry.{LogEntry}
use Rattle.nuc_log.specs.declared.reply.Reply.{Reply}
use Rattle.nuc_log.specs.declared.reply.Reply.TheVariants as reply
use Rattle.nuc_server.specs.Versions.{HasVersion}
use Rattle.nuc_server.specs.WebEdits.{WebState}
use Rattle.nuc_server.specs.declared.web_edit.WebEdit.{WebEdit}
use Rattle.nuc_world.specs.Accounted.{IsAccounted, IsKeptAs, NothingIsLost}
use Rattle.nuc_world.specs.Accounted.IsAccounted.{at_server, in_local, based, adopted}
use Rattle.nuc_world.specs.Form.{IsWorld}
use Rattle.nuc_world.specs.Runs.{IsRecounted, Reaches}
use Rattle.nuc_world.specs.Runs.Reaches.{opened, stepped, told, unlisted}
use Rattle.nuc_world.specs.State.{Due, MemberState, Turn, WorldState, after_one, fresh, fresh_client, fresh_member, fresh_shared, member_of, with_failure, with_member}
use Rattle.nuc_world.specs.Step.{EditsWeb, IsStep, IsTurn, client_of}
use Rattle.nuc_world.proofs.AccountedEvents.{does_fare}
use Rattle.nuc_world.proofs.AccountedForm.{Comes, Fares, Further, GoneBy, Has, IsClear, IsFine, IsKeptJournal, IsVersion, StandsAs, has_version, version_at}
use Rattle.nuc_world.proofs.AccountedGrown.{clear_grown}
use Rattle.nuc_world.proofs.AccountedJournal.{later_has}
use Rattle.nuc_world.proofs.AccountedQuiet.{fares_same}
use Rattle.nuc_world.proofs.AccountedWeb.{WebFares, web_fares}
use Rattle.nuc_world.proofs.Grown.{its_member}
use Rattle.nuc_world.proofs.Items.{all_append, all_front, all_get, all_map, all_none, all_set}
use Rattle.nuc_world.proofs.Reached.{reached_world}

-- the version of the edit isn't 0, and is accounted for
abbrev IsKeptEdit : WorldState → Edit → Type 0
IsKeptEdit w e = (0 < e.ver.0) × IsKeptAs w e.what e.ver.0

record IsWell (w : WorldState) : Type 0 where
  kept : All (IsKeptEdit w) w.shared.edits.edits
  journal : IsKeptJournal w.shared
  members : All (λ m. IsClear w.shared m.client) w.members

-- SOME OF THE MEMBERS, with another one in the place of one of them
any_set_or : {X E : Type 0} (P : X → Type 0) (xs : List X) (i : ℕ) (was now : X) → slice_get xs i ≡ Some was → (P was → P now ⊎ E) → Any P xs → Any P (set xs i now) ⊎ E
any_set_or P [] i was now at each (k, y, below, there, its) = absurd (omega (arith, below))
any_set_or P (x ∷ xs) zero was now at each (zero, y, below, there, its) =
    let same : x ≡ was = cc in
    elim (each (subst P (sym there ∙ same) its)) [ inl so ↦ inl (0, now, omega arith, refl, so) | inr gone ↦ inr gone ]
any_set_or P (x ∷ xs) zero was now at each (suc k, y, below, there, its) = inl (suc k, y, omega (arith, below), there, its)
any_set_or P (x ∷ xs) (suc i) was now at each (zero, y, below, there, its) = inl (0, y, omega arith, there, its)
any_set_or P (x ∷ xs) (suc i) was now at each (suc k, y, below, there, its) = elim (any_set_or P xs i was now at each (k, y, omega (arith, below), there, its)) [
  | inl (j, z, less, here, so) ↦ inl (suc j, z, omega (arith, less), here, so)
  | inr gone ↦ inr gone
]

any_with : {E : Type 0} (P : MemberState → Type 0) (c : ℕ) (ms : List MemberState) (was now : MemberState) → member_of c ms ≡ Some was → (P was → P now ⊎ E) → Any P ms
    → Any P (with_member c now ms) ⊎ E
any_with P zero ms was now at each some = cc
any_with P (suc i) ms was now at each some = any_set_or P ms i was now at each some

any_set_new : {X : Type 0} (P : X → Type 0) (xs : List X) (i : ℕ) (was now : X) → slice_get xs i ≡ Some was → P now → Any P (set xs i now)
any_set_new P [] i was now at its = cc
any_set_new P (x ∷ xs) zero was now at its = (0, now, omega arith, refl, its)
any_set_new P (x ∷ xs) (suc i) was now at its = let (k, y, below, there, so) = any_set_new P xs i was now at its in (suc k, y, omega (arith, below), there, so)

any_new : (P : MemberState → Type 0) (c : ℕ) (ms : List MemberState) (was now : MemberState) → member_of c ms ≡ Some was → P now → Any P (with_member c now ms)
any_new P zero ms was now at its = cc
any_new P (suc i) ms was now at its = any_set_new P ms i was now at its

member_has : (P : MemberState → Type 0) (c : ℕ) (ms : List MemberState) (m : MemberState) → All P ms → member_of c ms ≡ Some m → P m
member_has P zero ms m all at = cc
member_has P (suc i) ms m all at = all_get P ms i m all at

members_having : (P : MemberState → Type 0) (c : ℕ) (ms : List MemberState) (m : MemberState) → All P ms → P m → All P (with_member c m ms)
members_having P zero ms m all its = all
members_having P (suc i) ms m all its = all_set P ms i m all its

-- WHAT THE SERVER HAD it has, or it is gone by
server_kept : (s t : WebState) → Further s t → IsKeptJournal t → (v : ℕ) → 0 < v → HasVersion (tree_of s.entries) v → HasVersion (tree_of t.entries) v ⊎ GoneBy t.edits v
server_kept s t further journal v some has =
    let front : take (length s.entries) t.entries ≡ s.entries = ap (take (length s.entries)) further.entries
    ∙ take-append-le (length s.entries) s.entries further.more (omega arith) ∙ take-length s.entries in
    elim (later_has (GoneBy t.edits) t.entries (length s.entries) has.id v some journal (subst (λ es. Has (tree_of es) has.id v) (sym front) (version_at (tree_of s.entries) v has))) [
      | inl now ↦ inl (has_version (tree_of t.entries) has.id v now)
      | inr gone ↦ inr gone
    ]

of_gone : (w : WorldState) (v : ℕ) → GoneBy w.shared.edits v → IsAccounted w v
of_gone w v (inl is) = based is
of_gone w v (inr is) = adopted is

kept_as : (w v : WorldState) → ((x : ℕ) → 0 < x → IsAccounted w x → IsAccounted v x) → (what : EditKind) (x : ℕ) → 0 < x → IsKeptAs w what x → IsKeptAs v what x
kept_as w v each (put.Put content) x some is = each x some is
kept_as w v each put.Deleted x some is = tt

kept_edits : (w v : WorldState) (new : List Edit) → v.shared.edits.edits ≡ w.shared.edits.edits ++ new → ((x : ℕ) → 0 < x → IsAccounted w x → IsAccounted v x)
    → All (IsKeptEdit v) new → All (IsKeptEdit w) w.shared.edits.edits → All (IsKeptEdit v) v.shared.edits.edits
kept_edits w v new recorded each came was = subst (All (IsKeptEdit v)) (sym recorded)
    (all_append (IsKeptEdit v) w.shared.edits.edits new
    (all_map (IsKeptEdit w) (IsKeptEdit v) (λ e its. (its.0, kept_as w v each e.what e.ver.0 its.0 its.1)) w.shared.edits.edits was) came)

-- A TURN
module _ (w v : WorldState) (well : IsWell w) (c : ℕ) (m after : MemberState) (was : member_of c w.members ≡ Some m) (now : v.members ≡ with_member c after w.members)
    (fares : Fares (record { shared = w.shared; member = m }) (record { shared = v.shared; member = after })) where
  turn_accounted : (x : ℕ) → 0 < x → IsAccounted w x → IsAccounted v x
  turn_accounted x some (at_server has) = elim (server_kept w.shared v.shared fares.further fares.journal x some has) [
    | inl still ↦ at_server still
    | inr gone ↦ of_gone v x gone
  ]
  turn_accounted x some (in_local held) =
      elim (any_with (λ (k : MemberState). HasVersion k.client.local.tree x) c w.members m after was (fares.local x some) held) [
        | inl still ↦ in_local (subst (Any (λ k. HasVersion k.client.local.tree x)) (sym now) still)
        | inr gone ↦ of_gone v x gone
      ]
  turn_accounted x some (based is) = of_gone v x (fares.further.gone x (inl is))
  turn_accounted x some (adopted is) = of_gone v x (fares.further.gone x (inr is))

  came_as : (what : EditKind) (x : ℕ) → StandsAs v.shared after.client.local.tree what x → IsKeptAs v what x
  came_as (put.Put content) x (inl has) = at_server has
  came_as (put.Put content) x (inr has) =
      in_local (subst (Any (λ k. HasVersion k.client.local.tree x)) (sym now) (any_new (λ (k : MemberState). HasVersion k.client.local.tree x) c w.members m after was has))
  came_as put.Deleted x has = tt

  turn_well : IsWell v
  turn_well = record {
    kept = kept_edits w v fares.new fares.recorded turn_accounted
        (all_map (Comes v.shared after.client.local.tree) (IsKeptEdit v) (λ e comes. (comes.some, came_as e.what e.ver.0 comes.stands)) fares.new fares.comes) well.kept;
    journal = fares.journal;
    members = subst (All (λ k. IsClear v.shared k.client)) (sym now)
        (members_having (λ (k : MemberState). IsClear v.shared k.client) c w.members after
        (all_map (λ (k : MemberState). IsClear w.shared k.client) (λ (k : MemberState). IsClear v.shared k.client)
        (λ k clear. clear_grown w.shared k.client v.shared fares.further clear) w.members well.members) fares.clear);
  }

-- AN EDIT ON THE WEB
module _ (w v : WorldState) (well : IsWell w) (now : v.members ≡ w.members) (fares : WebFares w.shared v.shared) where
  web_accounted : (x : ℕ) → 0 < x → IsAccounted w x → IsAccounted v x
  web_accounted x some (at_server has) = elim (server_kept w.shared v.shared fares.further fares.journal x some has) [
    | inl still ↦ at_server still
    | inr gone ↦ of_gone v x gone
  ]
  web_accounted x some (in_local held) = in_local (subst (Any (λ k. HasVersion k.client.local.tree x)) (sym now) held)
  web_accounted x some (based is) = of_gone v x (fares.further.gone x (inl is))
  web_accounted x some (adopted is) = of_gone v x (fares.further.gone x (inr is))

  nowhere : (x : ℕ) → HasVersion empty x → ⊥
  nowhere x has = subst (IsVersion x) (get-empty nat_cmp has.id) (version_at empty x has)

  web_came : (what : EditKind) (x : ℕ) → StandsAs v.shared empty what x → IsKeptAs v what x
  web_came (put.Put content) x (inl has) = at_server has
  web_came (put.Put content) x (inr has) = absurd (nowhere x has)
  web_came put.Deleted x has = tt

  web_well : IsWell v
  web_well = record {
    kept = kept_edits w v fares.new fares.recorded web_accounted
        (all_map (Comes v.shared empty) (IsKeptEdit v) (λ e comes. (comes.some, web_came e.what e.ver.0 comes.stands)) fares.new (fares.comes empty)) well.kept;
    journal = fares.journal;
    members = subst (All (λ k. IsClear v.shared k.client)) (sym now)
        (all_map (λ (k : MemberState). IsClear w.shared k.client) (λ (k : MemberState). IsClear v.shared k.client)
        (λ k clear. clear_grown w.shared k.client v.shared fares.further clear) w.members well.members);
  }

-- EACH STEP
turns_well : (log : List LogEntry) (w v : WorldState) (e : Event) (r : Reply) → IsWorld w → IsWell w → IsTurn log e r w v → IsWell v
turns_well log w v e r world well turn =
    let t : Turn = record { shared = w.shared; member = turn.member } in
    let u : Turn = record { shared = v.shared; member = turn.after } in
    turn_well w v well (client_of e) turn.member turn.after turn.was turn.now
    (does_fare log t u world.kind_of world.shared (its_member w world (client_of e) turn.member turn.was) well.journal
    (member_has (λ (k : MemberState). IsClear w.shared k.client) (client_of e) w.members turn.member well.members turn.was) e r turn.does)

webs_well : (edit : WebEdit) (r : Reply) (w v : WorldState) → IsWorld w → IsWell w → EditsWeb edit r w v → IsWell v
webs_well edit (reply.Web answer) w v world well (answers, known, now, journal) =
    web_well w v well now (web_fares w.shared v.shared world.kind_of world.shared well.journal edit answer answers)
webs_well edit _ w v world well is = absurd is

steps_well : (log : List LogEntry) (w v : WorldState) (e : Event) (r : Reply) → IsWorld w → IsWell w → IsStep log w e r v → IsWell v
steps_well log w v (event.Web edit) r world well step = webs_well edit r w v world well step
steps_well log w v (event.User c edit) r world well step = turns_well log w v (event.User c edit) r world well step
steps_well log w v (event.List c) r world well step = turns_well log w v (event.List c) r world well step
steps_well log w v (event.Scan c) r world well step = turns_well log w v (event.Scan c) r world well step
steps_well log w v (event.Watch c) r world well step = turns_well log w v (event.Watch c) r world well step
steps_well log w v (event.Pull c) r world well step = turns_well log w v (event.Pull c) r world well step
steps_well log w v (event.Plan c) r world well step = turns_well log w v (event.Plan c) r world well step
steps_well log w v (event.Start c n) r world well step = turns_well log w v (event.Start c n) r world well step
steps_well log w v (event.Take c n) r world well step = turns_well log w v (event.Take c n) r world well step
steps_well log w v (event.Done c n) r world well step = turns_well log w v (event.Done c n) r world well step
steps_well log w v (event.Restart c) r world well step = turns_well log w v (event.Restart c) r world well step
steps_well log w v (event.Mark c) r world well step = turns_well log w v (event.Mark c) r world well step

-- other counts change nothing of it
recounts_well : (c : ℕ) (count : Due → Due) (w v : WorldState) → IsWell w → IsRecounted c count w v → IsWell v
recounts_well c count w v well is =
    let after : MemberState = record is.member { due = count is.member.due } in
    turn_well w v well c is.member after is.was (ap (λ (u : WorldState). u.members) is.now)
    (fares_same (record { shared = w.shared; member = is.member }) (record { shared = v.shared; member = after }) (ap (λ (u : WorldState). u.shared) is.now) refl well.journal
    (member_has (λ (k : MemberState). IsClear w.shared k.client) c w.members is.member well.members is.was))

-- AS IT OPENS
fresh_has : (x v : ℕ) → Has empty x v → ⊥
fresh_has x v has = subst (IsVersion v) (get-empty nat_cmp x) has

fresh_clear : IsClear fresh_shared fresh_client
fresh_clear = record {
  remote = λ x v some has. absurd (fresh_has x v has);
  local = λ x v some has. absurd (fresh_has x v has);
  flights = all_none (IsFine fresh_shared fresh_client);
  alone = inl (omega arith);
}

all_alike : {X : Type 0} (P : X → Type 0) (n : ℕ) (x : X) → P x → All P (replicate n x)
all_alike P zero x its = all_none P
all_alike P (suc n) x its = all_front P x (replicate n x) its (all_alike P n x its)

opens_well : (clients : ℕ) → IsWell (fresh clients)
opens_well clients = record {
  kept = all_none (IsKeptEdit (fresh clients));
  journal = tt;
  members = all_alike (λ (k : MemberState). IsClear fresh_shared k.client) clients fresh_member fresh_clear;
}

reached_well : (log : List LogEntry) (w : WorldState) → Reaches log w → IsWell w
reached_well _ _ (opened clients some few) = opens_well clients
reached_well _ v (stepped log w e r _ before step) = steps_well log w v e r (reached_world log w before) (reached_well log w before) step
reached_well log v (told _ w c k _ before some is) = recounts_well c (with_failure k) w v (reached_well log w before) is
reached_well log v (unlisted _ w c _ before is) = recounts_well c after_one w v (reached_well log w before) is.counted

pub nothing_is_lost : NothingIsLost
nothing_is_lost log w reached = all_map (IsKeptEdit w) (λ (e : Edit). IsKeptAs w e.what e.ver.0) (λ e its. its.1) w.shared.edits.edits (reached_well log w reached).kept
