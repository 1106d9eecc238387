-- No commit of a client that is left alone is refused, or two lists of bytes have one hash.
use Rattle.std.specs.Prelude.{All, Contains, drop, length, set, slice_get, take}
use Rattle.std.proofs.Common.{◌≡◌, ◌≢◌, ◌+◌, ◌++◌, ℕ, zero, suc, Bool, true, false, List, [], ◌∷◌, Option, Some, None, refl, sym, ◌∙◌, ap, subst, inl, arith}
use Rattle.std.proofs.Math.Seq.{take-length}
use Rattle.std.proofs.lemmas.List.{append-nil, append_assoc, take-append-drop}
use Rattle.std.specs.FinMap.{empty}
use Rattle.nuc_base.specs.Changes.{IsLegal}
use Rattle.nuc_base.specs.Trees.{Nodes}
use Rattle.nuc_base.specs.declared.change.Change.TheVariants.{Keep, Put, Cut}
use Rattle.nuc_base.specs.declared.node.Kind.{Kind}
use Rattle.nuc_class.specs.declared.op.Effect.{Effect}
use Rattle.nuc_class.specs.declared.op.Effect.TheVariants as effect
use Rattle.nuc_class.specs.declared.op.Op.{Op}
use Rattle.nuc_class.specs.declared.op.Verb.{Verb}
use Rattle.nuc_class.specs.declared.op.Verb.TheVariants as verb
use Rattle.nuc_conflict.specs.Facts.{FactsOf}
use Rattle.nuc_edits.specs.Edits.{same_hash}
use Rattle.nuc_flights.specs.Flights.{Flight, Stage, flight_of, started, taken}
use Rattle.nuc_flights.specs.declared.taken.Taken.TheVariants as came
use Rattle.nuc_hash.specs.Content.{content_of}
use Rattle.nuc_journal.specs.Entries.{revision_of, tree_after, tree_of}
use Rattle.nuc_journal.specs.Journal.{HasOldKind, IsLegalValue}
use Rattle.nuc_journal.specs.declared.entry.Entry.{Entry}
use Rattle.nuc_journal.proofs.Ends.{tree_after-append}
use Rattle.nuc_log.specs.declared.event.Event.{Event}
use Rattle.nuc_log.specs.declared.event.Event.TheVariants as event
use Rattle.nuc_log.specs.declared.log.LogEntry.{LogEntry}
use Rattle.nuc_log.specs.declared.log.LogEntry.TheVariants as entry
use Rattle.nuc_log.specs.declared.reply.Reply.{Reply}
use Rattle.nuc_log.specs.declared.reply.Reply.TheVariants as reply
use Rattle.nuc_log.specs.declared.reply.TakeReply.{TakeReply}
use Rattle.nuc_log.specs.declared.reply.TakeReply.TheVariants as took
use Rattle.nuc_server.specs.WebEdits.{WebState}
use Rattle.nuc_server.specs.declared.commit.Refusal.{Refusal}
use Rattle.nuc_step.specs.Order.{IsReady, MayLand}
use Rattle.nuc_step.specs.Sound.{IsFlight, known_to}
use Rattle.nuc_step.specs.Stages.{started_of}
use Rattle.nuc_transfer.specs.Transfer.{Collision}
use Rattle.nuc_world.specs.Form.{IsMember, IsShared, IsWorld}
use Rattle.nuc_world.specs.Runs.{Reaches}
use Rattle.nuc_world.specs.Runs.Reaches.{stepped}
use Rattle.nuc_world.specs.Starts.{is_upload}
use Rattle.nuc_world.specs.State.{MemberState, Turn, WorldState, member_of, with_member}
use Rattle.nuc_world.specs.Step.{IsStep, IsTurn, client_of}
use Rattle.nuc_world.specs.Takes.{Commits, CommitsBytes, CommitsRead, TakesBy, TakesOf, commit_of, committed, is_commit, is_recorded, read_in, stored}
use Rattle.nuc_world.proofs.Grown.{its_member}
use Rattle.nuc_world.proofs.Items.{all_append, all_front, all_none}
use Rattle.nuc_world.proofs.Reached.{reached_world}
use Rattle.nuc_world.proofs.Ready.{member_can_plan}
use Rattle.nuc_converge.specs.Alone.{IsAlone as IsLeft, IsRested, LeftAlone}
use Rattle.nuc_converge.specs.Alone.LeftAlone.{begins, goes}
use Rattle.nuc_converge.specs.Laws.{IsNoRefusal, NoneIsRefused}
use Rattle.nuc_converge.proofs.Bases.{HasBases, IsBased, Waits, front_is_all, no_items}
use Rattle.nuc_converge.proofs.BasesKept.{does_base, item_of, the_only}
use Rattle.nuc_converge.proofs.Flown.{IsFlown, commit_known, flies_at, flown}
use Rattle.nuc_converge.proofs.InFlight.{HasCome, IsAlone, IsBatch, IsMend, IsPlaced, IsToCome, Means}
use Rattle.nuc_converge.proofs.InFlight.IsAlone.{batch, mend}
use Rattle.nuc_converge.proofs.InFlight.IsPlaced.{in_folder, at_server}
use Rattle.nuc_converge.proofs.InFlight.Means.{down, cut_down, up, up_came, cut_up, cut_came}
use Rattle.nuc_converge.proofs.Judged.{legal_value, old_kind, refused_collides, uploaded_blocks}
use Rattle.nuc_converge.proofs.KeptBlocks.{reached_stocked, value_blocks}
use Rattle.nuc_converge.proofs.Parts.{EntriesCome}
use Rattle.nuc_converge.proofs.Stocked.{IsStocked, KeepsValue}

-- AT EACH POINT of such a part the client is alone, and ready
abbrev pub PointsAreAlone : Type 0
PointsAreAlone = (c : ℕ) (before part : List LogEntry) (w v : WorldState) (m : MemberState) → Reaches before w → IsRested c w m → LeftAlone c before w part v
    → (n : MemberState) × (member_of c v.members ≡ Some n) × IsAlone (same_hash w.shared.edits.edits) v.shared.entries n.client × IsReady n.client
    × (v.shared.edits.edits ≡ w.shared.edits.edits)

-- A COMMIT WRITES Remote
means_some : (same : ℕ → ℕ → Bool) (r l s : Nodes) (cursor : ℕ) (f : Flight) → f.op.effect ≡ effect.Commit → Means same r l s cursor f → f.op.remote ≢ Keep
means_some same r l s cursor f commits (down n at wants writes disk stage) keep = let bad : effect.Disk ≡ effect.Commit = sym disk ∙ commits in cc
means_some same r l s cursor f commits (cut_down n at here writes disk stage) keep = let bad : effect.Disk ≡ effect.Commit = sym disk ∙ commits in cc
means_some same r l s cursor f commits (up n at differs writes so stage not) keep = let bad : Put n ≡ Keep = sym writes.remote ∙ keep in cc
means_some same r l s cursor f commits (up_came n at here writes so has) keep = let bad : Put n ≡ Keep = sym writes.remote ∙ keep in cc
means_some same r l s cursor f commits (cut_up n at here writes so stage not) keep = let bad : Cut ≡ Keep = sym writes.remote ∙ keep in cc
means_some same r l s cursor f commits (cut_came at here writes so has) keep = let bad : Cut ≡ Keep = sym writes.remote ∙ keep in cc

waits_still : (cursor : ℕ) (stage : Stage) → stage ≡ started → HasCome cursor stage → ⊥
waits_still cursor stage is has = subst (HasCome cursor) is has

-- a mend that writes Remote may
mend_legal : (same : ℕ → ℕ → Bool) (r l s : Nodes) (next : ℕ) (op : Op) (v : Verb) → FactsOf same r l s next op v → op.remote ≢ Keep → IsLegal r op.id.0 op.remote
mend_legal same r l s next op verb.Split facts some = absurd (some (ap (λ (o : Op). o.remote) facts.carried.is))
mend_legal same r l s next op verb.Evict facts some = facts.legal.remote
mend_legal same r l s next op verb.Adopt facts some = absurd (some (ap (λ (o : Op). o.remote) facts.carried.is))
mend_legal same r l s next op verb.Revive facts some = facts.legal.remote
mend_legal same r l s next op verb.Unmove facts some = facts.legal.remote
mend_legal same r l s next op verb.Down facts some = absurd facts
mend_legal same r l s next op verb.Up facts some = absurd facts
mend_legal same r l s next op verb.CutDown facts some = absurd facts
mend_legal same r l s next op verb.CutUp facts some = absurd facts
mend_legal same r l s next op verb.Forget facts some = absurd facts

-- WHAT IS KNOWN of an operation that is committed
record CanCommit (s : WebState) (op : Op) : Type 0 where
  fresh : op.base ≡ revision_of s.entries op.id.0
  legal : IsLegalValue (tree_of s.entries) op.id.0 (committed op.remote)
  kept : is_upload op ≡ false → KeepsValue s (committed op.remote)

module _ (come : EntriesCome) (t : Turn) (kinds : ℕ → Kind) (shared : IsShared t.shared kinds) (member : IsMember t.shared kinds t.member) (stocked : IsStocked t.shared)
    (alone : IsAlone (same_hash t.shared.edits.edits) t.shared.entries t.member.client) (ready : IsReady t.member.client) (was : HasBases t.shared t.member.client) where
  abbrev R : Nodes
  R = t.member.client.remote.tree

  abbrev Cursor : ℕ
  Cursor = t.member.client.remote.cursor

  abbrev Es : List Entry
  Es = t.shared.entries

  abbrev Fs : List Flight
  Fs = t.member.client.flights

  -- the tree at the last revision
  last_tree : tree_after R (take (length (drop Cursor Es)) (drop Cursor Es)) ≡ tree_of Es
  last_tree = ap (tree_after R) (take-length (drop Cursor Es)) ∙ ap (λ m. tree_after m (drop Cursor Es)) member.at.tree
      ∙ sym (tree_after-append empty (take Cursor Es) (drop Cursor Es)) ∙ ap tree_of (take-append-drop Cursor Es)

  module _ (f : Flight) (flies : Contains Fs f) (begun : f.stage ≡ started) (commits : f.op.effect ≡ effect.Commit) where
    is_flight : IsFlight (known_to t.member.client.remote) f
    is_flight = item_of (IsFlight (known_to t.member.client.remote)) Fs f member.client.flights flies

    to_value : f.op.remote ≢ Keep → IsLegal (tree_of Es) f.op.id.0 f.op.remote → IsLegalValue (tree_of Es) f.op.id.0 (committed f.op.remote)
    to_value some legal = legal_value (tree_of Es) f.op.id.0 f.op.remote some is_flight.op.fits.remote legal

    of_batch : IsBatch (same_hash t.shared.edits.edits) R t.member.client.local.tree t.member.client.synced Cursor Es Fs → IsLegalValue (tree_of Es) f.op.id.0 (committed f.op.remote)
    of_batch is =
        let all = come (same_hash t.shared.edits.edits) R t.member.client.local.tree t.member.client.synced Cursor (length (drop Cursor Es)) Es Fs shared.journal
        (member_can_plan t.shared kinds t.member member).fit is
        (λ g has. (item_of (MayLand t.member.client) Fs g ready.each has).1.legal)
        (λ g has. (item_of (IsFlight (known_to t.member.client.remote)) Fs g member.client.flights has).op.id) (omega arith) in
        let its : IsToCome (Cursor + length (drop Cursor Es)) Fs f.op.id.0 f.op.remote =
        record { f = f; flies = flies; id = refl; writes = refl; waits = waits_still (Cursor + length (drop Cursor Es)) f.stage begun } in
        to_value (means_some (same_hash t.shared.edits.edits) R t.member.client.local.tree t.member.client.synced Cursor f commits (is.means f flies))
        (subst (λ m. IsLegal m f.op.id.0 f.op.remote) last_tree (all.batch.ready.legal f.op.id.0 f.op.remote its))

    -- a mend flies alone: no entry came
    none_came : (e : Entry) → f.stage ≡ taken (came.Accepted e.rev) → ⊥
    none_came e is = let bad : started ≡ taken (came.Accepted e.rev) = sym begun ∙ is in cc

    placed_some : (op : Op) (stage : Stage) → op.effect ≡ effect.Commit → IsPlaced op stage → op.remote ≢ Keep
    placed_some op stage is (in_folder disk keeps in_it) keep = let bad : effect.Disk ≡ effect.Commit = sym disk ∙ is in cc
    placed_some op stage is (at_server n so puts local one at) keep = let bad : Put n ≡ Keep = sym puts ∙ keep in cc

    of_mend : IsMend (same_hash t.shared.edits.edits) R t.member.client.local.tree t.member.client.synced Cursor Es f → IsLegalValue (tree_of Es) f.op.id.0 (committed f.op.remote)
    of_mend is =
        let none : drop Cursor Es ≡ [] = no_items (drop Cursor Es) (λ e has. none_came e (is.news e has).stage) in
        let tree : R ≡ tree_of Es = member.at.tree ∙ ap tree_of (front_is_all Cursor Es none) in
        let remote : f.op.remote ≡ is.op.remote = ap (λ (o : Op). o.remote) is.shown in
        let id : f.op.id.0 ≡ is.op.id.0 = ap (λ (o : Op). o.id.0) is.shown in
        let some = placed_some f.op f.stage commits is.placed in
        let legal = mend_legal (same_hash t.shared.edits.edits) R t.member.client.local.tree t.member.client.synced is.next is.op is.op.verb is.facts (λ keep. some (remote ∙ keep)) in
        to_value some (subst (λ m. IsLegal m f.op.id.0 f.op.remote) tree
        (subst (λ x. IsLegal R x f.op.remote) (sym id) (subst (λ c. IsLegal R is.op.id.0 c) (sym remote) legal)))

    by_alone : IsAlone (same_hash t.shared.edits.edits) Es t.member.client → IsLegalValue (tree_of Es) f.op.id.0 (committed f.op.remote)
    by_alone (batch is) = of_batch is
    by_alone (mend g only is) =
        let same : g ≡ f = the_only g f (subst (λ fs. Contains fs f) only flies) in
        of_mend (subst (IsMend (same_hash t.shared.edits.edits) R t.member.client.local.tree t.member.client.synced Cursor Es) same is)

    can_commit : CanCommit t.shared f.op
    can_commit =
        let its = item_of (IsBased t.shared) Fs f was.each flies in
        record { fresh = its.base commits (subst Waits (sym begun) tt); legal = by_alone alone; kept = its.kept }

  -- A REFUSAL of one that has begun
  module _ (c n : ℕ) (op : Op) (of : IsFlown n Fs op) (can : CanCommit t.shared op) (why : Refusal) (u : Turn) where
    kind : HasOldKind Es op.id.0 (committed op.remote)
    kind = old_kind t.shared kinds shared op.id.0 (committed op.remote) (λ node at. (commit_known t.shared kinds t.member member n op of node at).kind)

    by_bytes : (bytes : List ℕ) (same : Bool) → is_recorded t.shared.edits.edits (content_of bytes).hash (committed op.remote) ≡ same
        → CommitsBytes c n (commit_of op) bytes same t (took.Refused why) u → Collision
    by_bytes bytes true same is =
        refused_collides Es (stored bytes t).shared.blocks (commit_of op) _ can.fresh kind can.legal
        (uploaded_blocks t.shared.edits.edits stocked.edits bytes t.shared.blocks (committed op.remote) same) why is.0.0
    by_bytes bytes false same is = absurd (let bad : took.Refused why ≡ took.Folder _ = is.0 in cc)

    by_read : (read : Option (List ℕ)) → CommitsRead c n (commit_of op) read t (took.Refused why) u → Collision
    by_read None is = absurd (let bad : took.Refused why ≡ took.Folder _ = is.0 in cc)
    by_read (Some bytes) is = by_bytes bytes (is_recorded t.shared.edits.edits (content_of bytes).hash (committed op.remote)) refl is

    by_upload : (log : List LogEntry) (upload : Bool) → is_upload op ≡ upload → Commits log c n (commit_of op) upload t (took.Refused why) u → Collision
    by_upload log true at is = by_read (read_in c n log) is
    by_upload log false at is =
        refused_collides Es t.shared.blocks (commit_of op) _ can.fresh kind can.legal
        (inl (value_blocks t.shared stocked.edits (committed op.remote) (can.kept at))) why is.0.0

  commit_so : (e : Effect) → is_commit e ≡ true → e ≡ effect.Commit
  commit_so effect.Commit is = refl
  commit_so effect.Disk is = let bad : false ≡ true = is in cc
  commit_so effect.Nothing is = let bad : false ≡ true = is in cc

  by_effect : (log : List LogEntry) (c n : ℕ) (op : Op) (of : IsFlown n Fs op) (commit : Bool) → is_commit op.effect ≡ commit → (why : Refusal) (u : Turn)
      → TakesBy log c n op commit t (took.Refused why) u → Collision
  by_effect log c n op of true at why u is =
      let commits : of.flight.op.effect ≡ effect.Commit = ap (λ (o : Op). o.effect) of.is ∙ commit_so op.effect at in
      let can : CanCommit t.shared op = subst (CanCommit t.shared) of.is (can_commit of.flight (flies_at n Fs of.flight of.there) of.begun commits) in
      by_upload c n op of can why u log (is_upload op) refl is
  by_effect log c n op of false at why u is = absurd is

  pub by_flight : (log : List LogEntry) (c n : ℕ) (o : Option Op) → started_of (flight_of n Fs) ≡ o → (why : Refusal) (u : Turn) → TakesOf log c n o t (took.Refused why) u → Collision
  by_flight log c n None at why u is = absurd (let bad : took.Refused why ≡ took.NoSuchOp = is.0 in cc)
  by_flight log c n (Some op) at why u is = by_effect log c n op (flown n Fs (flight_of n Fs) op refl at) (is_commit op.effect) refl why u is

-- ALONG THE PART
record IsPoint (c : ℕ) (log : List LogEntry) (v : WorldState) : Type 0 where
  reaches : Reaches log v
  based : (n : MemberState) → member_of c v.members ≡ Some n → HasBases v.shared n.client

set_there : (ms : List MemberState) (i : ℕ) (x m : MemberState) → slice_get ms i ≡ Some x → slice_get (set ms i m) i ≡ Some m
set_there [] i x m at = cc
set_there (y ∷ ms) zero x m at = refl
set_there (y ∷ ms) (suc i) x m at = set_there ms i x m at

member_with : (c : ℕ) (ms : List MemberState) (x m : MemberState) → member_of c ms ≡ Some x → member_of c (with_member c m ms) ≡ Some m
member_with zero ms x m at = cc
member_with (suc i) ms x m at = set_there ms i x m at

set_same : (ms : List MemberState) (i : ℕ) (x : MemberState) → slice_get ms i ≡ Some x → set ms i x ≡ ms
set_same [] i x at = refl
set_same (y ∷ ms) zero x at = let same : x ≡ y = cc in ap (λ z. z ∷ ms) same
set_same (y ∷ ms) (suc i) x at = ap (λ zs. y ∷ zs) (set_same ms i x at)

same_members : (c : ℕ) (ms : List MemberState) (x : MemberState) → member_of c ms ≡ Some x → with_member c x ms ≡ ms
same_members zero ms x at = refl
same_members (suc i) ms x at = set_same ms i x at

one_member : (m n : MemberState) (o : Option MemberState) → o ≡ Some m → o ≡ Some n → m ≡ n
one_member m n o first second = cc

module _ (come : EntriesCome) (points : PointsAreAlone) (c : ℕ) (before : List LogEntry) (w : WorldState) (m : MemberState) (reached : Reaches before w) (rested : IsRested c w m) where
  module _ (part : List LogEntry) (u : WorldState) (left : LeftAlone c before w part u) (point : IsPoint c (before ++ part) u) where
    world : IsWorld u
    world = reached_world (before ++ part) u point.reaches

    stocked : IsStocked u.shared
    stocked = (reached_stocked (before ++ part) u point.reaches).shared

    -- it is alone there, and ready
    alone_at : (k : MemberState) → member_of c u.members ≡ Some k → IsAlone (same_hash u.shared.edits.edits) u.shared.entries k.client × IsReady k.client
    alone_at k at =
        let (n, there, alone, ready, edits) = points c before part w u m reached rested left in
        let same : n ≡ k = one_member n k (member_of c u.members) there at in (
          subst (λ es. IsAlone (same_hash es) u.shared.entries k.client) (sym edits) (subst (λ (x : MemberState). IsAlone (same_hash w.shared.edits.edits) u.shared.entries x.client) same alone),
          subst (λ (x : MemberState). IsReady x.client) same ready,
        )

    module _ (e : Event) (r : Reply) (v : WorldState) (its : IsLeft c e r) (turn : IsTurn (before ++ part) e r u v) (own : client_of e ≡ c) where
      was_there : member_of c u.members ≡ Some turn.member
      was_there = subst (λ d. member_of d u.members ≡ Some turn.member) own turn.was

      now_there : member_of c v.members ≡ Some turn.after
      now_there = ap (member_of c) turn.now ∙ subst (λ d. member_of c (with_member d turn.after u.members) ≡ Some turn.after) (sym own)
          (member_with c u.members turn.member turn.after was_there)

      its_turn : (n : MemberState) → member_of c v.members ≡ Some n → HasBases v.shared n.client
      its_turn n at =
          let (alone, ready) = alone_at turn.member was_there in
          let same : turn.after ≡ n = one_member turn.after n (member_of c v.members) now_there at in
          subst (λ (x : MemberState). HasBases v.shared x.client) same
          (does_base (before ++ part) (record { shared = u.shared; member = turn.member }) world.kind_of world.shared
          (its_member u world (client_of e) turn.member turn.was) stocked alone (point.based turn.member was_there)
          c (record { shared = v.shared; member = turn.after }) e r its turn.does)

    marked : (d : ℕ) (r : Reply) (v : WorldState) → IsTurn (before ++ part) (event.Mark d) r u v → (n : MemberState) → member_of c v.members ≡ Some n → HasBases v.shared n.client
    marked d (reply.Marked a) v turn n at =
        let after : turn.after ≡ turn.member = ap (λ (t : Turn). t.member) turn.does.1 in
        let members : v.members ≡ u.members = turn.now ∙ ap (λ (x : MemberState). with_member d x u.members) after ∙ same_members d u.members turn.member turn.was in
        subst (λ s. HasBases s n.client) (sym (ap (λ (t : Turn). t.shared) turn.does.1)) (point.based n (subst (λ ms. member_of c ms ≡ Some n) members at))
    marked d _ v turn n at = absurd turn.does

    next_based : (e : Event) (r : Reply) (v : WorldState) → IsLeft c e r → IsStep (before ++ part) u e r v → (n : MemberState) → member_of c v.members ≡ Some n → HasBases v.shared n.client
    next_based (event.Plan d) (reply.Plan a) v its step n at = its_turn (event.Plan d) (reply.Plan a) v its step its.0 n at
    next_based (event.Plan d) _ v its step n at = absurd its
    next_based (event.Start d i) (reply.Started a) v its step n at = its_turn (event.Start d i) (reply.Started a) v its step its.0 n at
    next_based (event.Start d i) _ v its step n at = absurd its
    next_based (event.Take d i) (reply.Took a) v its step n at = its_turn (event.Take d i) (reply.Took a) v its step its.0 n at
    next_based (event.Take d i) _ v its step n at = absurd its
    next_based (event.Done d i) (reply.Done a) v its step n at = its_turn (event.Done d i) (reply.Done a) v its step its n at
    next_based (event.Done d i) _ v its step n at = absurd its
    next_based (event.Mark d) r v its step n at = marked d r v step n at
    next_based (event.User d edit) r v its step n at = absurd its
    next_based (event.Web edit) r v its step n at = absurd its
    next_based (event.List d) r v its step n at = absurd its
    next_based (event.Scan d) r v its step n at = absurd its
    next_based (event.Watch d) r v its step n at = absurd its
    next_based (event.Pull d) r v its step n at = absurd its
    next_based (event.Restart d) r v its step n at = absurd its

    next_point : (e : Event) (r : Reply) (v : WorldState) → IsLeft c e r → IsStep (before ++ part) u e r v → IsPoint c (before ++ (part ++ entry.Stepped e r ∷ [])) v
    next_point e r v its step = record {
      reaches = subst (λ log. Reaches log v) (append_assoc before part (entry.Stepped e r ∷ [])) (stepped (before ++ part) u e r v point.reaches step);
      based = next_based e r v its step;
    }

    -- A REFUSAL there shows a collision
    refused : (d i : ℕ) (why : Refusal) (v : WorldState) → d ≡ c → IsTurn (before ++ part) (event.Take d i) (reply.Took (took.Refused why)) u v → Collision
    refused d i why v own turn =
        let there : member_of c u.members ≡ Some turn.member = subst (λ x. member_of x u.members ≡ Some turn.member) own turn.was in
        let (alone, ready) = alone_at turn.member there in
        by_flight come (record { shared = u.shared; member = turn.member }) world.kind_of world.shared (its_member u world d turn.member turn.was) stocked alone ready
        (point.based turn.member there) (before ++ part) d i (started_of (flight_of i turn.member.client.flights)) refl why (record { shared = v.shared; member = turn.after }) turn.does

    took_not : (e : Event) (a : TakeReply) (v : WorldState) → IsLeft c e (reply.Took a) → IsStep (before ++ part) u e (reply.Took a) v → IsNoRefusal (entry.Stepped e (reply.Took a))
    took_not (event.Take d i) (took.Refused why) v its step = refused d i why v its.0 step
    took_not (event.Mark d) (took.Refused why) v its step = absurd step.does
    took_not (event.Plan d) (took.Refused why) v its step = absurd its
    took_not (event.Start d i) (took.Refused why) v its step = absurd its
    took_not (event.Done d i) (took.Refused why) v its step = absurd its
    took_not (event.User d edit) (took.Refused why) v its step = absurd its
    took_not (event.Web edit) (took.Refused why) v its step = absurd its
    took_not (event.List d) (took.Refused why) v its step = absurd its
    took_not (event.Scan d) (took.Refused why) v its step = absurd its
    took_not (event.Watch d) (took.Refused why) v its step = absurd its
    took_not (event.Pull d) (took.Refused why) v its step = absurd its
    took_not (event.Restart d) (took.Refused why) v its step = absurd its
    took_not e (took.Folder ran) v its step = tt
    took_not e (took.Accepted rev) v its step = tt
    took_not e took.NoSuchOp v its step = tt

    not_refused : (e : Event) (r : Reply) (v : WorldState) → IsLeft c e r → IsStep (before ++ part) u e r v → IsNoRefusal (entry.Stepped e r)
    not_refused e (reply.Took a) v its step = took_not e a v its step
    not_refused e _ v its step = tt

  point_at : (part : List LogEntry) (v : WorldState) → LeftAlone c before w part v → IsPoint c (before ++ part) v
  point_at _ _ begins = record {
    reaches = subst (λ log. Reaches log w) (sym (append-nil before)) reached;
    based = λ n at. record {
      each = subst (All (IsBased w.shared)) (sym (ap (λ (x : MemberState). x.client.flights) (one_member n m (member_of c w.members) at rested.was) ∙ rested.landed)) (all_none (IsBased w.shared));
    };
  }
  point_at _ v (goes part u e r _ left step its) = next_point part u left (point_at part u left) e r v its step

  none_refused : (part : List LogEntry) (v : WorldState) → LeftAlone c before w part v → All IsNoRefusal part
  none_refused _ _ begins = all_none IsNoRefusal
  none_refused _ v (goes part u e r _ left step its) =
      all_append IsNoRefusal part (entry.Stepped e r ∷ []) (none_refused part u left)
      (all_front IsNoRefusal (entry.Stepped e r) [] (not_refused part u left (point_at part u left) e r v its step) (all_none IsNoRefusal))

pub none_is_refused : EntriesCome → PointsAreAlone → NoneIsRefused
none_is_refused come points c before part w v m reached rested left = none_refused come points c before w m reached rested part v left
