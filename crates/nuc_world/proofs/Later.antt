-- The folder's next key doesn't fall, so what was below it is so still.
use Rattle.std.specs.Prelude.{All}
use Rattle.std.proofs.Common.{◌≡◌, ◌<◌, ◌≤◌, ◌==◌, ◌++◌, ℕ, true, false, cond, reverse, List, [], ◌∷◌, Option, Some, None, sym, ap, subst, inl, inr, arith}
use Rattle.nuc_base.specs.declared.node.Kind.{Kind}
use Rattle.nuc_flights.specs.Flights.{Flight, Stage, planned, started, staged, taken, without}
use Rattle.nuc_flights.specs.declared.taken.Taken.{Taken}
use Rattle.nuc_flights.specs.declared.taken.Taken.TheVariants as came
use Rattle.nuc_folder.specs.Memory.{MemState}
use Rattle.nuc_folder.specs.User.{ChangesOnce, IsDone, UserAnswers}
use Rattle.nuc_folder.specs.Removals.{removed}
use Rattle.nuc_folder.specs.UserEdits.{Does, next_after}
use Rattle.nuc_folder.specs.declared.noticed.Noticed.{Noticed}
use Rattle.nuc_folder.specs.declared.noticed.Noticed.TheVariants as noticed
use Rattle.nuc_folder.specs.declared.outcome.Outcome.{Outcome}
use Rattle.nuc_folder.specs.declared.outcome.Outcome.TheVariants as outcome
use Rattle.nuc_folder.specs.declared.user_edit.UserEdit.{UserEdit}
use Rattle.nuc_folder.specs.declared.user_edit.UserEdit.TheVariants as edit
use Rattle.nuc_folder.specs.declared.user_edit.UserReply.{UserReply}
use Rattle.nuc_folder.specs.declared.user_edit.UserReply.TheVariants as reply
use Rattle.nuc_folder.proofs.UserKeys.{user_below}
use Rattle.nuc_observe.specs.Keys.{KeyMap}
use Rattle.nuc_server.specs.WebEdits.{WebState}
use Rattle.nuc_shelf.specs.Shelf.{ShelfState}
use Rattle.nuc_step.specs.Client.{ClientState}
use Rattle.nuc_step.specs.Held.{HeldData}
use Rattle.nuc_world.specs.Form.{AllGiven, AreGiven, IsListedBelow, IsMadeBelow, IsMember, IsNoticeBelow, IsStageBelow, IsTakenBelow}
use Rattle.nuc_world.specs.State.{MemberState}
use Rattle.nuc_world.proofs.Items.{all_append, all_first, all_front, all_map, all_none, all_rest}

module _ (before after : ℕ) (later : before ≤ after) where
  pub given_later : (keys : KeyMap) → AreGiven keys before → AreGiven keys after
  given_later keys given x key at = let below = given x key at in omega (arith, later, below)

  pub made_later : (o : Outcome) → IsMadeBelow before o → IsMadeBelow after o
  made_later (outcome.Made key) below = omega (arith, later, below)
  made_later outcome.Ok below = tt
  made_later outcome.NotEmpty below = tt
  made_later outcome.Changed below = tt
  made_later outcome.Taken below = tt
  made_later outcome.Failed below = tt
  made_later outcome.Memory below = tt

  taken_later : (t : Taken) → IsTakenBelow before t → IsTakenBelow after t
  taken_later (came.Folder o) below = made_later o below
  taken_later (came.Accepted rev) below = tt
  taken_later (came.Refused why) below = tt

  pub stage_later : (stage : Stage) → IsStageBelow before stage → IsStageBelow after stage
  stage_later planned below = tt
  stage_later started below = tt
  stage_later (taken t) below = taken_later t below

  notice_later : (notice : Noticed) → IsNoticeBelow before notice → IsNoticeBelow after notice
  notice_later (noticed.Made item) below = omega (arith, later, below)
  notice_later (noticed.Written key content) below = tt
  notice_later (noticed.Moved key place) below = tt
  notice_later (noticed.Removed key) below = tt
  notice_later (noticed.Bit key bit) below = tt

  pub notices_later : (notices : List Noticed) → All (IsNoticeBelow before) notices → All (IsNoticeBelow after) notices
  notices_later notices below = all_map (IsNoticeBelow before) (IsNoticeBelow after) notice_later notices below

  pub listed_later : (listing : Option HeldData) → IsListedBelow before listing → IsListedBelow after listing
  listed_later None below = tt
  listed_later (Some h) below = all_map (λ item. item.key.0 < before) (λ item. item.key.0 < after) (λ item low. omega (arith, later, low)) h.items below

-- the same client with a folder that went on, whose keys were all given
pub member_beside : (s : WebState) (kinds : ℕ → Kind) (m u : MemberState) → u.client ≡ m.client → m.folder.next ≤ u.folder.next → AllGiven u.folder u.listing
    → IsMember s kinds m → IsMember s kinds u
member_beside s kinds m u same later given member = subst (λ (c : ClientState). IsMember s kinds (record u { client = c })) (sym same) (record {
  client = member.client;
  at = member.at;
  holds = member.holds;
  flights = member.flights;
  keys = given_later m.folder.next u.folder.next later m.client.local.keys member.keys;
  made = all_map (λ f. IsStageBelow m.folder.next f.stage) (λ f. IsStageBelow u.folder.next f.stage)
      (λ f below. stage_later m.folder.next u.folder.next later f.stage below) m.client.flights member.made;
  given = given;
})

-- WHAT A USER DOES
next_later : (notice : Noticed) (n : ℕ) → n ≤ next_after notice n
next_later (noticed.Made item) n = omega arith
next_later (noticed.Written key content) n = omega arith
next_later (noticed.Moved key place) n = omega arith
next_later (noticed.Removed key) n = omega arith
next_later (noticed.Bit key bit) n = omega arith

once_later : (e : UserEdit) (s t : MemState) → ChangesOnce e s t → s.next ≤ t.next
once_later e s t (notice, does, next, pending) = let later = next_later notice s.next in omega (arith, later, next)

done_later : (e : UserEdit) (s t : MemState) → IsDone e s t → s.next ≤ t.next
done_later (edit.Remove path) s t (notices, removes, next, pending) = omega (arith, next)
done_later (edit.Mkdir path) s t once = once_later (edit.Mkdir path) s t once
done_later (edit.Write path filling) s t once = once_later (edit.Write path filling) s t once
done_later (edit.Move from to) s t once = once_later (edit.Move from to) s t once
done_later (edit.Bit path bit) s t once = once_later (edit.Bit path bit) s t once

same_later : (s t : MemState) → t ≡ s → s.next ≤ t.next
same_later s t same = let next : t.next ≡ s.next = ap (λ (m : MemState). m.next) same in omega (arith, next)

pub user_later : (e : UserEdit) (s : MemState) (answer : UserReply) (t : MemState) → UserAnswers e s answer t → s.next ≤ t.next
user_later e s reply.Ok t done = done_later e s t done
user_later e s reply.NoSuch t (why, same) = same_later s t same
user_later e s reply.NoParent t (why, same) = same_later s t same
user_later e s reply.Kind t (why, same) = same_later s t same
user_later e s reply.Taken t (why, same) = same_later s t same
user_later e s reply.Cycle t (why, same) = same_later s t same
user_later e s reply.Memory t (why, same) = same_later s t same

-- what is told of it
does_told : (e : UserEdit) (n : ℕ) (s : ShelfState) (notice : Noticed) (t : ShelfState) → Does e n s notice t → IsNoticeBelow (next_after notice n) notice
does_told (edit.Mkdir path) n s notice t (place, finds, is, told) = subst (λ g. IsNoticeBelow (next_after g n) g) (sym told) (omega arith)
does_told (edit.Write path filling) n s notice t (inl (place, finds, (is, told))) = subst (λ g. IsNoticeBelow (next_after g n) g) (sym told) (omega arith)
does_told (edit.Write path filling) n s notice t (inr (x, k, finds, file, (is, told))) = subst (λ g. IsNoticeBelow (next_after g n) g) (sym told) tt
does_told (edit.Move from to) n s notice t (x, k, place, finds, free, apart, is, told) = subst (λ g. IsNoticeBelow (next_after g n) g) (sym told) tt
does_told (edit.Bit path bit) n s notice t (x, k, finds, file, is, told) = subst (λ g. IsNoticeBelow (next_after g n) g) (sym told) tt
does_told (edit.Remove path) n s notice t none = absurd none

removed_told : (n : ℕ) (keys : List ℕ) → All (IsNoticeBelow n) (removed keys)
removed_told n [] = all_none (IsNoticeBelow n)
removed_told n (x ∷ keys) = all_front (IsNoticeBelow n) _ (removed keys) tt (removed_told n keys)

-- it is pending behind what was
told_behind : (s t : MemState) (notices : List Noticed) → s.next ≤ t.next → All (IsNoticeBelow s.next) s.pending → All (IsNoticeBelow t.next) notices
    → t.pending ≡ s.pending ++ notices → All (IsNoticeBelow t.next) t.pending
told_behind s t notices later below told is =
    subst (All (IsNoticeBelow t.next)) (sym is) (all_append (IsNoticeBelow t.next) s.pending notices (notices_later s.next t.next later s.pending below) told)

once_told : (e : UserEdit) (s t : MemState) → All (IsNoticeBelow s.next) s.pending → ChangesOnce e s t → All (IsNoticeBelow t.next) t.pending
once_told e s t below (notice, does, next, pending) =
    told_behind s t (notice ∷ []) (once_later e s t (notice, does, next, pending)) below
    (subst (λ n. All (IsNoticeBelow n) (notice ∷ [])) (sym next)
    (all_front (IsNoticeBelow (next_after notice s.next)) notice [] (does_told e s.next s.held notice t.held does) (all_none (IsNoticeBelow (next_after notice s.next))))) pending

done_told : (e : UserEdit) (s t : MemState) → All (IsNoticeBelow s.next) s.pending → IsDone e s t → All (IsNoticeBelow t.next) t.pending
done_told (edit.Remove path) s t below (notices, (keys, finds, cut, told), next, pending) =
    told_behind s t notices (omega (arith, next)) below (subst (All (IsNoticeBelow t.next)) (sym told) (removed_told t.next (reverse keys))) pending
done_told (edit.Mkdir path) s t below once = once_told (edit.Mkdir path) s t below once
done_told (edit.Write path filling) s t below once = once_told (edit.Write path filling) s t below once
done_told (edit.Move from to) s t below once = once_told (edit.Move from to) s t below once
done_told (edit.Bit path bit) s t below once = once_told (edit.Bit path bit) s t below once

same_told : (s t : MemState) → t ≡ s → All (IsNoticeBelow s.next) s.pending → All (IsNoticeBelow t.next) t.pending
same_told s t same below = subst (λ (m : MemState). All (IsNoticeBelow m.next) m.pending) (sym same) below

user_told : (e : UserEdit) (s : MemState) (answer : UserReply) (t : MemState) → All (IsNoticeBelow s.next) s.pending → UserAnswers e s answer t → All (IsNoticeBelow t.next) t.pending
user_told e s reply.Ok t below done = done_told e s t below done
user_told e s reply.NoSuch t below (why, same) = same_told s t same below
user_told e s reply.NoParent t below (why, same) = same_told s t same below
user_told e s reply.Kind t below (why, same) = same_told s t same below
user_told e s reply.Taken t below (why, same) = same_told s t same below
user_told e s reply.Cycle t below (why, same) = same_told s t same below
user_told e s reply.Memory t below (why, same) = same_told s t same below

pub user_given : (e : UserEdit) (s : MemState) (answer : UserReply) (t : MemState) (listing : Option HeldData) → UserAnswers e s answer t → AllGiven s listing → AllGiven t listing
user_given e s answer t listing answers given = record {
  held = user_below e s answer t given.held answers;
  pending = user_told e s answer t given.pending answers;
  listed = listed_later s.next t.next (user_later e s answer t answers) listing given.listed;
}

-- FLIGHTS at another stage, or without one of them
module _ (P : Flight → Type 0) where
  pub all_staged : (n : ℕ) (st : Stage) → ((f : Flight) → P f → P (record f { stage = st })) → (fs : List Flight) → All P fs → All P (staged n st fs)
  all_staged n st each [] all = all
  all_staged n st each (f ∷ fs) all = elim (f.op.number == n) as (λ b. All P (cond b (record f { stage = st } ∷ fs) (f ∷ staged n st fs))) [
    | true ↦ all_front P (record f { stage = st }) fs (each f (all_first P f fs all)) (all_rest P f fs all)
    | false ↦ all_front P f (staged n st fs) (all_first P f fs all) (all_staged n st each fs (all_rest P f fs all))
  ]

  pub all_without : (n : ℕ) (fs : List Flight) → All P fs → All P (without n fs)
  all_without n [] all = all
  all_without n (f ∷ fs) all = elim (f.op.number == n) as (λ b. All P (cond b fs (f ∷ without n fs))) [
    | true ↦ all_rest P f fs all
    | false ↦ all_front P f (without n fs) (all_first P f fs all) (all_without n fs (all_rest P f fs all))
  ]
