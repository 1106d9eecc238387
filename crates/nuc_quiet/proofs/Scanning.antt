-- A listing is taken over at once, in a world none of whose folder calls fails: the folder matches Local then.
use Rattle.std.specs.Prelude.{IsSomeAnd}
use Rattle.std.proofs.Common.{◌≡◌, ◌≢◌, ◌++◌, ℕ, List, [], ◌∷◌, None, Some, refl, sym, ◌∙◌, ap, subst}
use Rattle.std.proofs.lemmas.Option.{same_Some}
use Rattle.nuc_base.specs.declared.node.Kind.{Kind}
use Rattle.nuc_edits.specs.Edits.{Recorded}
use Rattle.nuc_edits.specs.declared.edit.Edit.{Edit}
use Rattle.nuc_folder.specs.Listing.{IsListing}
use Rattle.nuc_folder.specs.State.{FolderState}
use Rattle.nuc_folder.specs.declared.item.Item.{Item}
use Rattle.nuc_follow.specs.Matches.{Matches}
use Rattle.nuc_log.specs.declared.event.Event.TheVariants as event
use Rattle.nuc_log.specs.declared.log.LogEntry.{LogEntry}
use Rattle.nuc_log.specs.declared.log.LogEntry.TheVariants as entry
use Rattle.nuc_log.specs.declared.reply.Reply.{Reply}
use Rattle.nuc_log.specs.declared.reply.Reply.TheVariants as reply
use Rattle.nuc_observe.specs.Keys.{key_map}
use Rattle.nuc_observe.specs.Listing.{IsFirstBad}
use Rattle.nuc_observe.specs.Made.{nodes_in}
use Rattle.nuc_replica.specs.Local.{LocalState}
use Rattle.nuc_shelf.specs.Shelf.{IsShelf}
use Rattle.nuc_step.specs.Client.{ClientState}
use Rattle.nuc_step.specs.Held.{HeldData}
use Rattle.nuc_step.specs.Scanning.{IsScanned}
use Rattle.nuc_step.specs.declared.answers.Scanned.{Scanned}
use Rattle.nuc_step.specs.declared.answers.Scanned.TheVariants as scan
use Rattle.nuc_world.specs.Form.{IsMember, IsShared, IsWorld}
use Rattle.nuc_world.specs.Runs.{Reaches}
use Rattle.nuc_world.specs.Runs.Reaches.{stepped}
use Rattle.nuc_world.specs.State.{Due, MemberState, Turn, WorldState, member_of}
use Rattle.nuc_world.specs.Step.{Does, IsStep, IsTurn, Lists, Scans, after_list, watching_of}
use Rattle.nuc_world.proofs.Grown.{its_member}
use Rattle.nuc_world.proofs.Reached.{reached_world}
use Rattle.nuc_world.proofs.Ready.{member_can_watch}
use Rattle.nuc_converge.proofs.Stepping.{member_there}
use Rattle.nuc_quiet.specs.Fit.{AreFit, FolderIsFit}
use Rattle.nuc_quiet.specs.Laws.{NothingFails}
use Rattle.nuc_quiet.proofs.Good.{none_bad}
use Rattle.nuc_quiet.proofs.Matching.{scanned_matches}
use Rattle.nuc_quiet.proofs.Parts.{HasScanned, ScansMatch}
use Rattle.nuc_quiet.proofs.Soundness.{its_folder}

-- a client's folder is a shelf in each world that a log led to
abbrev pub FoldersAreShelves : Type 0
FoldersAreShelves = (log : List LogEntry) (w : WorldState) (c : ℕ) (m : MemberState) → Reaches log w → member_of c w.members ≡ Some m
    → IsShelf m.folder.held

-- no item of the listing is bad
abbrev pub NothingBad : Reply → Type 0
NothingBad q = (number : ℕ) → q ≢ reply.Scan (scan.Bad number)

-- WHAT THE REPLIES ARE
record IsListed (t u : Turn) : Type 0 where
  changes : ℕ
  items : List Item
  lists : Lists changes items t u

list_does : (log : List LogEntry) (c : ℕ) (r : Reply) (t u : Turn) → Does log (event.List c) r t u → IsListed t u
list_does log c (reply.Listed changes items) t u does = record { changes = changes; items = items; lists = does }
list_does log c _ t u does = absurd does

record IsTakenOver (q : Reply) (t u : Turn) : Type 0 where
  answer : Scanned
  is : q ≡ reply.Scan answer
  scans : Scans answer t u

scan_does : (log : List LogEntry) (c : ℕ) (q : Reply) (t u : Turn) → Does log (event.Scan c) q t u → IsTakenOver q t u
scan_does log c (reply.Scan answer) t u does = record { answer = answer; is = refl; scans = does }
scan_does log c _ t u does = absurd does

-- THE SCAN of a listing that is held with the present count
module _ (t u : Turn) (items : List Item) (kinds : ℕ → Kind) (shared : IsShared t.shared kinds) (member : IsMember t.shared kinds t.member)
    (shelf : IsShelf t.member.folder.held) (listing : IsListing t.member.folder.held items)
    (holds : t.member.listing ≡ Some (record { changes = t.member.client.changes; items = items })) where
  -- the folder matches Local, and all else that is asked stays
  record HasMatched : Type 0 where
    matches : Matches u.shared.edits.edits u.member.client.local u.member.folder.held
    flights : u.member.client.flights ≡ t.member.client.flights
    due : u.member.due ≡ t.member.due

  changed_matches : (k : ℕ) → IsScanned (watching_of t) k (watching_of u) items → u.member.folder.held ≡ t.member.folder.held
      → u.member.due ≡ t.member.due → HasMatched
  changed_matches k is folder due =
      let can = member_can_watch t.shared kinds t.member member shared in
      let matches = scanned_matches t.member.folder.held shelf items listing (watching_of t) member.client.local can
      k (watching_of u) is in
      let its : LocalState = record { tree = nodes_in is.nodes; keys = key_map is.bindings } in
      let local : u.member.client.local ≡ its = ap (λ (c : ClientState). c.local) is.takes.client in
      let edits = ap (λ (r : Recorded). r.edits) is.takes.recorded in
      record {
        matches = subst (λ (s : FolderState). Matches u.shared.edits.edits u.member.client.local s) (sym folder)
            (subst (λ (l : LocalState). Matches u.shared.edits.edits l t.member.folder.held) (sym local)
            (subst (λ (es : List Edit). Matches es its t.member.folder.held) (sym edits) matches));
        flights = ap (λ (c : ClientState). c.flights) is.takes.client;
        due = due;
      }

  scan_matches : (answer : Scanned) → ((number : ℕ) → answer ≢ scan.Bad number) → Scans answer t u → HasMatched
  scan_matches scan.NoListing good ((none, dropped, same), now) =
      absurd (let bad : None ≡ Some (record { changes = t.member.client.changes; items = items }) = sym none ∙ holds in cc)
  scan_matches (scan.Stale changes) good ((stale, count, dropped, same), now) =
      absurd (subst (λ o. IsSomeAnd o (λ (h : HeldData). h.changes ≢ t.member.client.changes)) holds stale refl)
  scan_matches (scan.Bad number) good scans = absurd (good number refl)
  scan_matches (scan.Changed k) good ((is, dropped), now) =
      let its = subst (λ o. IsSomeAnd o (λ (h : HeldData). (h.changes ≡ t.member.client.changes) × IsScanned (watching_of t) k (watching_of u) h.items)) holds is in
      changed_matches k its.1 (ap (λ (v : Turn). v.member.folder.held) now) (ap (λ (v : Turn). v.member.due) now)

-- BOTH STEPS
module _ (shelves : FoldersAreShelves) (log : List LogEntry) (w u v : WorldState) (c : ℕ) (m : MemberState) (r q : Reply) (reached : Reaches log w)
    (was : member_of c w.members ≡ Some m) (step : IsStep log w (event.List c) r u)
    (next : IsTurn (log ++ entry.Stepped (event.List c) r ∷ []) (event.Scan c) q u v) where
  -- after the listing
  listed : Reaches (log ++ entry.Stepped (event.List c) r ∷ []) u
  listed = stepped log w (event.List c) r u reached step

  world : IsWorld u
  world = reached_world (log ++ entry.Stepped (event.List c) r ∷ []) u listed

  abbrev First : Turn
  First = record { shared = w.shared; member = step.member }

  abbrev Between : Turn
  Between = record { shared = u.shared; member = next.member }

  abbrev After : Turn
  After = record { shared = v.shared; member = next.after }

  list : IsListed First (record { shared = u.shared; member = step.after })
  list = list_does log c r First (record { shared = u.shared; member = step.after }) step.does

  -- the client is the same as before, but for what it lists
  between : next.member ≡ after_list list.items m
  between =
      let first : step.member ≡ m = same_Some step.member m (sym step.was ∙ was) in
      let there : member_of c u.members ≡ Some step.after = ap (member_of c) step.now ∙ member_there c w.members m step.after was in
      same_Some next.member step.after (sym next.was ∙ there) ∙ ap (λ (t : Turn). t.member) list.lists.now ∙ ap (after_list list.items) first

  listing : IsListing next.member.folder.held list.items
  listing =
      let first : step.member ≡ m = same_Some step.member m (sym step.was ∙ was) in
      let its : IsListing m.folder.held list.items = subst (λ (n : MemberState). IsListing n.folder.held list.items) first list.lists.items_are in
      subst (λ (n : MemberState). IsListing n.folder.held list.items) (sym between) its

  holds : next.member.listing ≡ Some (record { changes = next.member.client.changes; items = list.items })
  holds = subst (λ (n : MemberState). n.listing ≡ Some (record { changes = n.client.changes; items = list.items })) (sym between) refl

  taken : IsTakenOver q Between After
  taken = scan_does (log ++ entry.Stepped (event.List c) r ∷ []) c q Between After next.does

  shelf : IsShelf next.member.folder.held
  shelf = shelves (log ++ entry.Stepped (event.List c) r ∷ []) u c next.member listed next.was

  both_match : NothingFails m → NothingBad q → HasScanned c m v
  both_match lasting good =
      let is : HasMatched Between After list.items world.kind_of world.shared (its_member u world c next.member next.was) shelf listing holds =
      scan_matches Between After list.items world.kind_of world.shared (its_member u world c next.member next.was) shelf listing holds taken.answer
      (λ number bad. good number (taken.is ∙ ap (λ (a : Scanned). reply.Scan a) bad)) taken.scans in
      record {
        member = next.after;
        was = ap (member_of c) next.now ∙ member_there c u.members next.member next.after next.was;
        matches = is.matches;
        nothing_fails = ap (λ (d : Due). d.failing) is.due ∙ ap (λ (n : MemberState). n.due.failing) between ∙ lasting;
        flights = is.flights ∙ ap (λ (n : MemberState). n.client.flights) between;
      }

  -- no item is bad in a folder that is fit
  nothing_bad : FolderIsFit m → NothingBad q
  nothing_bad fit number bad =
      let its : taken.answer ≡ scan.Bad number = (let both : reply.Scan taken.answer ≡ reply.Scan (scan.Bad number) = sym taken.is ∙ bad in cc) in
      let so : Scans (scan.Bad number) Between After = subst (λ (a : Scanned). Scans a Between After) its taken.scans in
      let keys = next.member.client.local.keys in
      let tree = next.member.client.local.tree in
      let first = subst (λ o. IsSomeAnd o (λ (h : HeldData). (h.changes ≡ next.member.client.changes) × IsFirstBad keys tree h.items (Some number))) holds so.0.0 in
      none_bad next.member.folder.held shelf keys tree
      (subst (λ (n : MemberState). AreFit n.client.local.keys n.client.local.tree n.folder.held) (sym between) fit) list.items listing number first.1

-- a client's folder is a shelf
is_shelf : FoldersAreShelves
is_shelf log w c m reached was = (its_folder log w c m reached was).shelf

pub scans_match : ScansMatch
scans_match log w u v c m r q reached was lasting fit step next =
    both_match is_shelf log w u v c m r q reached was step next lasting (nothing_bad is_shelf log w u v c m r q reached was step next fit)
