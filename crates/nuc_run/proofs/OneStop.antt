-- Why a step isn't taken is decided, and where there is a reason but want of memory the step can't be taken.
use Rattle.std.proofs.Common.{◌≡◌, ◌≢◌, ◌<◌, ◌≤◌, ◌+◌, ◌++◌, ℕ, Bool, true, false, List, [], ◌∷◌, length, Some, refl, sym, ◌∙◌, ap, subst, arith}
use Rattle.std.proofs.lemmas.List.Sums.{sum_by-append}
use Rattle.nuc_folder.specs.Listing.{IsListing}
use Rattle.nuc_folder.specs.declared.item.Item.{Item}
use Rattle.nuc_folder.specs.declared.listed.TheConstants.{MOST_ITEMS}
use Rattle.nuc_folder.proofs.OneListing.{one_listing}
use Rattle.nuc_log.specs.declared.event.Event.{Event}
use Rattle.nuc_log.specs.declared.event.Event.TheVariants as event
use Rattle.nuc_log.specs.declared.log.LogEntry.{LogEntry}
use Rattle.nuc_log.specs.declared.log.LogEntry.TheVariants as entry
use Rattle.nuc_log.specs.declared.reply.Reply.{Reply}
use Rattle.nuc_log.specs.declared.reply.Reply.TheVariants as reply
use Rattle.nuc_world.specs.State.{MemberState, WorldState, is_due, member_of}
use Rattle.nuc_world.specs.Step.{IsStep}
use Rattle.nuc_world.specs.Units.{HasRoom, units, units_by, units_of}
use Rattle.nuc_world.specs.World.{Costs, FailsToList, HasNoRoom, ListsTooMuch, Stops, WorldData}
use Rattle.nuc_world.specs.World.Costs.{one, listing}
use Rattle.nuc_world.specs.declared.stop.Stop.{Stop}
use Rattle.nuc_world.specs.declared.stop.Stop.TheVariants as stop
use Rattle.nuc_world.specs.declared.stop.TheConstants.{MOST_UNITS}
use Rattle.nuc_run.proofs.OneMove.{one_member}

-- WHOSE FOLDER IS TO BE LISTED
record AsksFor (w : WorldState) (e : Event) (m : MemberState) : Type 0 where
  client : ℕ
  lists : e ≡ event.List client
  was : member_of client w.members ≡ Some m

one_asked : (w : WorldState) (e : Event) (m n : MemberState) → AsksFor w e m → AsksFor w e n → m ≡ n
one_asked w e m n x y =
    let same : event.List x.client ≡ event.List y.client = sym x.lists ∙ y.lists in
    let client : x.client ≡ y.client = cc in
    one_member (member_of y.client w.members) m n (subst (λ (c : ℕ). member_of c w.members ≡ Some m) client x.was) y.was

two_values : (b : Bool) → b ≡ true → b ≡ false → ⊥
two_values b is not = let same : true ≡ false = sym is ∙ not in cc

module _ (w : WorldState) (e : Event) (m n : MemberState) (x : AsksFor w e m) (y : AsksFor w e n) where
  fails_or_lasts : is_due m.due ≡ true → is_due n.due ≡ false → ⊥
  fails_or_lasts is not = two_values (is_due n.due) (subst (λ (k : MemberState). is_due k.due ≡ true) (one_asked w e m n x y) is) not

  one_length : (items others : List Item) → IsListing m.folder.held items → IsListing n.folder.held others → length items ≡ length others
  one_length items others is too =
      let moved = subst (λ (k : MemberState). IsListing k.folder.held items) (one_asked w e m n x y) is in
      ap (λ (all : List Item). length all) (one_listing n.folder.held items others moved too)

-- A LISTING THAT WAS TAKEN
record HasListed (w : WorldState) (e : Event) (r : Reply) : Type 0 where
  changes : ℕ
  items : List Item
  member : MemberState
  asks : AsksFor w e member
  lasts : is_due member.due ≡ false
  are : IsListing member.folder.held items
  few : length items ≤ MOST_ITEMS
  replied : r ≡ reply.Listed changes items

has_listed : (log : List LogEntry) (c : ℕ) (r : Reply) (w v : WorldState) → IsStep log w (event.List c) r v → HasListed w (event.List c) r
has_listed log c (reply.Listed changes items) w v step = record {
  changes = changes;
  items = items;
  member = step.member;
  asks = record { client = c; lists = refl; was = step.was };
  lasts = step.does.lasts;
  are = step.does.items_are;
  few = step.does.few;
  replied = refl;
}
has_listed log c r w v step = absurd step.does

listed_by : (log : List LogEntry) (e : Event) (c : ℕ) (r : Reply) (w v : WorldState) → e ≡ event.List c → IsStep log w e r v → HasListed w e r
listed_by log e c r w v lists step =
    subst (λ (d : Event). HasListed w d r) (sym lists) (has_listed log c r w v (subst (λ (d : Event). IsStep log w d r v) lists step))

-- WHAT A STEP COSTS
some_units : (r : Reply) → 1 ≤ units_by r
some_units (reply.Listed changes items) = omega arith
some_units r = omega arith

units_after : (log now : List LogEntry) (e : Event) (r : Reply) → now ≡ log ++ entry.Stepped e r ∷ [] → units_of now ≡ units_of log + units_by r
units_after log now e r is =
    let sum : units_of (log ++ entry.Stepped e r ∷ []) ≡ units_of log + units_of (entry.Stepped e r ∷ []) =
    sum_by-append units log (entry.Stepped e r ∷ []) in
    let same : units_of now ≡ units_of (log ++ entry.Stepped e r ∷ []) = ap units_of is in
    let last : units_of (entry.Stepped e r ∷ []) ≡ units_by r = omega arith in
    omega (arith, sum, same, last)

costs_of_step : (log : List LogEntry) (w : WorldState) (e : Event) (r : Reply) (v : WorldState) (cost : ℕ)
    → Costs w e cost → IsStep log w e r v → cost ≤ units_by r
costs_of_step log w e r v _ one step = some_units r
costs_of_step log w e r v _ (listing items would) step =
    let is = listed_by log e would.client r w v would.lists step in
    let asks : AsksFor w e would.member = record { client = would.client; lists = would.lists; was = would.was } in
    let same : length items ≡ length is.items = one_length w e would.member is.member asks is.asks items is.items would.are is.are in
    let replied : units_by r ≡ 1 + length is.items = ap units_by is.replied in
    omega (arith, same, replied)

costs_of_fault : (w : WorldData) (e : Event) (v : WorldData) (cost : ℕ) → Costs w.now e cost → FailsToList w e v → cost ≤ 1
costs_of_fault w e v _ one fails = omega arith
costs_of_fault w e v _ (listing items would) fails =
    let asks : AsksFor w.now e would.member = record { client = would.client; lists = would.lists; was = would.was } in
    let fault : AsksFor w.now e fails.unlisted.counted.member = record { client = fails.client; lists = fails.lists; was = fails.unlisted.counted.was } in
    absurd (fails_or_lasts w.now e fails.unlisted.counted.member would.member fault asks fails.unlisted.fails would.lasts)

costs_of_long : (w : WorldState) (e : Event) (n cost : ℕ) → Costs w e cost → ListsTooMuch w e n → cost ≤ 1
costs_of_long w e n _ one long = omega arith
costs_of_long w e n _ (listing items would) long =
    let asks : AsksFor w e would.member = record { client = would.client; lists = would.lists; was = would.was } in
    let more : AsksFor w e long.member = record { client = long.client; lists = long.lists; was = long.was } in
    let same : length items ≡ length long.more.0 = one_length w e would.member long.member asks more items long.more.0 would.are long.more.1 in
    let few : length items ≤ MOST_ITEMS = would.few in
    let many : n ≡ length long.more.0 = long.more.2 in
    let passes : MOST_ITEMS < n = long.more.3 in
    absurd (omega (arith, same, few, many, passes))

-- A REASON, AND THE STEP
pub stops_or_steps : (w v u : WorldData) (e : Event) (r : Reply) (why : Stop) → Stops w e why v → why ≢ stop.NoClient → why ≢ stop.Memory
    → IsStep w.log w.now e r u.now → u.log ≡ w.log ++ entry.Stepped e r ∷ [] → units_of u.log ≤ MOST_UNITS → ⊥
stops_or_steps w v u e r stop.NoClient stops known memory step log few = known refl
stops_or_steps w v u e r stop.LogFull (of, full, same) known memory step log few =
    let cost : full.cost ≤ units_by r = costs_of_step w.log w.now e r u.now full.cost full.costs step in
    let sum : units_of u.log ≡ units_of w.log + units_by r = units_after w.log u.log e r log in
    let passes : MOST_UNITS < units_of w.log + full.cost = full.passes in
    omega (arith, cost, sum, passes, few)
stops_or_steps w v u e r stop.FolderFault (room, fails) known memory step log few =
    let is = listed_by w.log e fails.client r w.now u.now fails.lists step in
    let fault : AsksFor w.now e fails.unlisted.counted.member = record { client = fails.client; lists = fails.lists; was = fails.unlisted.counted.was } in
    fails_or_lasts w.now e fails.unlisted.counted.member is.member fault is.asks fails.unlisted.fails is.lasts
stops_or_steps w v u e r (stop.TooLong n) (room, long, same) known memory step log few =
    let is = listed_by w.log e long.client r w.now u.now long.lists step in
    let more : AsksFor w.now e long.member = record { client = long.client; lists = long.lists; was = long.was } in
    let length_is : length is.items ≡ length long.more.0 = one_length w.now e is.member long.member is.asks more is.items long.more.0 is.are long.more.1 in
    let short : length is.items ≤ MOST_ITEMS = is.few in
    let many : n ≡ length long.more.0 = long.more.2 in
    let passes : MOST_ITEMS < n = long.more.3 in
    omega (arith, length_is, short, many, passes)
stops_or_steps w v u e r stop.Memory stops known memory step log few = memory refl

-- TWO REASONS
full_or_fault : (w : WorldData) (e : Event) (v : WorldData) → HasNoRoom w e → HasRoom w.log → FailsToList w e v → ⊥
full_or_fault w e v full room fails =
    let cost : full.cost ≤ 1 = costs_of_fault w e v full.cost full.costs fails in
    let passes : MOST_UNITS < units_of w.log + full.cost = full.passes in
    omega (arith, cost, passes, room)

full_or_long : (w : WorldData) (e : Event) (n : ℕ) → HasNoRoom w e → HasRoom w.log → ListsTooMuch w.now e n → ⊥
full_or_long w e n full room long =
    let cost : full.cost ≤ 1 = costs_of_long w.now e n full.cost full.costs long in
    let passes : MOST_UNITS < units_of w.log + full.cost = full.passes in
    omega (arith, cost, passes, room)

fault_or_long : (w : WorldData) (e : Event) (v : WorldData) (n : ℕ) → FailsToList w e v → ListsTooMuch w.now e n → ⊥
fault_or_long w e v n fails long =
    let fault : AsksFor w.now e fails.unlisted.counted.member = record { client = fails.client; lists = fails.lists; was = fails.unlisted.counted.was } in
    let more : AsksFor w.now e long.member = record { client = long.client; lists = long.lists; was = long.was } in
    fails_or_lasts w.now e fails.unlisted.counted.member long.member fault more fails.unlisted.fails long.lasts

long_and_long : (w : WorldState) (e : Event) (n k : ℕ) → ListsTooMuch w e n → ListsTooMuch w e k → n ≡ k
long_and_long w e n k x y =
    let a : AsksFor w e x.member = record { client = x.client; lists = x.lists; was = x.was } in
    let b : AsksFor w e y.member = record { client = y.client; lists = y.lists; was = y.was } in
    x.more.2 ∙ one_length w e x.member y.member a b x.more.0 y.more.0 x.more.1 y.more.1 ∙ sym y.more.2

pub one_stop : (w v u : WorldData) (e : Event) (why other : Stop) → why ≢ stop.NoClient → why ≢ stop.Memory
    → other ≢ stop.NoClient → other ≢ stop.Memory
    → Stops w e why v → Stops w e other u → why ≡ other
one_stop w v u e stop.NoClient other a b c d x y = absurd (a refl)
one_stop w v u e stop.Memory other a b c d x y = absurd (b refl)
one_stop w v u e stop.LogFull stop.LogFull a b c d x y = refl
one_stop w v u e stop.LogFull stop.FolderFault a b c d x y = absurd (full_or_fault w e u x.1 y.0 y.1)
one_stop w v u e stop.LogFull (stop.TooLong n) a b c d x y = absurd (full_or_long w e n x.1 y.0 y.1)
one_stop w v u e stop.FolderFault stop.LogFull a b c d x y = absurd (full_or_fault w e v y.1 x.0 x.1)
one_stop w v u e stop.FolderFault stop.FolderFault a b c d x y = refl
one_stop w v u e stop.FolderFault (stop.TooLong n) a b c d x y = absurd (fault_or_long w e v n x.1 y.1)
one_stop w v u e (stop.TooLong n) stop.LogFull a b c d x y = absurd (full_or_long w e n y.1 x.0 x.1)
one_stop w v u e (stop.TooLong n) stop.FolderFault a b c d x y = absurd (fault_or_long w e u n y.1 x.1)
one_stop w v u e (stop.TooLong n) (stop.TooLong k) a b c d x y = ap stop.TooLong (long_and_long w.now e n k x.1 y.1)
one_stop w v u e why stop.NoClient a b c d x y = absurd (c refl)
one_stop w v u e why stop.Memory a b c d x y = absurd (d refl)
