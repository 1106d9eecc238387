-- An operation of a client whose folder matches its Local starts well: an upload reads the bytes of its version.
use Rattle.std.proofs.Common.{◌≡◌, ◌++◌, ◌==◌, ◌&&◌, ℕ, Bool, true, false, cond, List, [], ◌∷◌, length, drop, Option, None, Some, refl, sym, ◌∙◌, ap, subst}
use Rattle.std.proofs.Common.{◌≢◌, eq-eqb}
use Rattle.std.proofs.Math.Seq.{drop-append_seam}
use Rattle.std.proofs.lemmas.Slice.Eq.{bytes_eq-Decides}
use Rattle.std.specs.FinMap.{get}
use Rattle.nuc_base.specs.Trees.{Nodes}
use Rattle.nuc_base.specs.declared.change.Change.{Change}
use Rattle.nuc_base.specs.declared.change.Change.TheVariants.{Keep, Put, Cut}
use Rattle.nuc_base.specs.declared.node.Kind.{Kind}
use Rattle.nuc_base.specs.declared.node.Kind.TheVariants.{Folder, File}
use Rattle.nuc_base.specs.declared.node.Node.{Node}
use Rattle.nuc_class.specs.declared.op.Op.{Op}
use Rattle.nuc_class.specs.declared.op.Verb.{Verb}
use Rattle.nuc_class.specs.declared.op.Verb.TheVariants as verb
use Rattle.nuc_conflict.specs.Facts.{FactsOf}
use Rattle.nuc_edits.specs.Edits.{content_at, same_hash}
use Rattle.nuc_flights.specs.Flights.{Flight, Stage, flight_of, planned, staged, started}
use Rattle.nuc_folder.specs.Memory.{MemState}
use Rattle.nuc_follow.specs.Matches.{HasContent, HasRecorded, Matches}
use Rattle.nuc_hash.specs.Content.{ContentData, content_of}
use Rattle.nuc_hash.specs.declared.digest.Digest.{Digest}
use Rattle.nuc_journal.specs.declared.entry.Entry.{Entry}
use Rattle.nuc_log.specs.declared.event.Event.TheVariants as event
use Rattle.nuc_log.specs.declared.log.LogEntry.{LogEntry}
use Rattle.nuc_log.specs.declared.log.LogEntry.TheVariants as entry
use Rattle.nuc_log.specs.declared.reply.Reply.TheVariants as reply
use Rattle.nuc_log.specs.declared.reply.StartReply.{StartReply}
use Rattle.nuc_log.specs.declared.reply.StartReply.TheVariants as start
use Rattle.nuc_observe.specs.Versions.{is_of_hash}
use Rattle.nuc_replica.specs.Local.{HasKey}
use Rattle.nuc_server.specs.WebEdits.{WebState}
use Rattle.nuc_step.specs.Client.{ClientState}
use Rattle.nuc_step.specs.Stages.{if_planned, planned_of}
use Rattle.nuc_world.specs.Starts.{Begins, Reads, Starts, StartsOf, Uploads, brings_content, has_started, is_file, is_up, is_upload}
use Rattle.nuc_world.specs.State.{Due, MemberState, is_due}
use Rattle.nuc_world.specs.Takes.{committed, is_recorded, read_by, read_in}
use Rattle.nuc_world.proofs.LastRead.{later}
use Rattle.nuc_converge.proofs.InFlight.{HasCome, IsAlone, IsMend, Means}
use Rattle.nuc_converge.proofs.InFlight.IsAlone.{batch, mend}
use Rattle.nuc_converge.proofs.InFlight.Means.{cut_came, cut_down, cut_up, down, up, up_came}
use Rattle.nuc_converge.proofs.Staged.{at_stage, flight_there}
use Rattle.nuc_converge.proofs.Without.{one_gone}
use Rattle.nuc_quiet.specs.Laws.{FolderMatches, NothingFails}
use Rattle.nuc_quiet.proofs.OwnTurn.{own_does}
use Rattle.nuc_quiet.proofs.Parts.{HasRead, StartsGoWell}

-- THE FLIGHTS. The first under the number comes to its stage
pub at_its_stage : (n : ℕ) (st : Stage) (fs : List Flight) (f : Flight) → flight_of n fs ≡ Some f → flight_of n (staged n st fs) ≡ Some (at_stage st f)
at_its_stage n st [] f there = absurd (cc)
at_its_stage n st (g ∷ fs) f there =
    elim (g.op.number == n) as (λ b. (g.op.number == n) ≡ b → cond b (Some g) (flight_of n fs) ≡ Some f
    → flight_of n (cond b (at_stage st g ∷ fs) (g ∷ staged n st fs)) ≡ Some (at_stage st f)) [
      | true ↦ λ hits same.
          let one : g ≡ f = cc in
          ap (λ b. cond b (Some (at_stage st g)) (flight_of n fs)) hits ∙ ap (λ (h : Flight). Some (at_stage st h)) one
      | false ↦ λ miss rest. ap (λ b. cond b (Some g) (flight_of n (staged n st fs))) miss ∙ at_its_stage n st fs f rest
    ] refl there

-- WHAT AN UPLOAD IS: it puts a file
record PutsFile (op : Op) : Type 0 where
  verb : op.verb ≡ verb.Up
  node : Node
  puts : op.remote ≡ Put node
  file : node.kind ≡ File

both : (a b : Bool) → (a && b) ≡ true → (a ≡ true) × (b ≡ true)
both true b is = (refl, is)
both false b is = absurd (let clash : false ≡ true = is in cc)

up_verb : (v : Verb) → is_up v ≡ true → v ≡ verb.Up
up_verb verb.Up is = refl
up_verb v is = absurd (let clash : false ≡ true = is in cc)

file_kind : (k : Kind) → is_file k ≡ true → k ≡ File
file_kind Folder is = absurd (let clash : false ≡ true = is in cc)
file_kind File is = refl

brings_file : (c : Change) (base : ℕ) (agreed : Option Node) → brings_content c base agreed ≡ true → (n : Node) × (c ≡ Put n) × (n.kind ≡ File)
brings_file Keep base agreed is = absurd (let clash : false ≡ true = is in cc)
brings_file (Put n) base agreed is = (n, refl, file_kind n.kind (both (is_file n.kind) _ is).0)
brings_file Cut base agreed is = absurd (let clash : false ≡ true = is in cc)

puts_file : (op : Op) → is_upload op ≡ true → PutsFile op
puts_file op is =
    let (is_its, brings) = both (is_up op.verb) (brings_content op.remote op.base op.old_synced) is in
    let (node, puts, file) = brings_file op.remote op.base op.old_synced brings in
    record { verb = up_verb op.verb is_its; node = node; puts = puts; file = file }

-- LOCAL HAS THAT FILE, where it was only planned
module _ (same : ℕ → ℕ → Bool) (f : Flight) (first : f.stage ≡ planned) (its : PutsFile f.op) where
  -- what writes something else in Remote is none
  not_keep : f.op.remote ≢ Keep
  not_keep keep = let clash : Put its.node ≡ Keep = sym its.puts ∙ keep in cc

  not_cut : f.op.remote ≢ Cut
  not_cut cut = let clash : Put its.node ≡ Cut = sym its.puts ∙ cut in cc

  not_come : (cursor : ℕ) → ¬ (HasCome cursor f.stage)
  not_come cursor come = subst (HasCome cursor) first come

  means_local : (r l s : Nodes) (cursor : ℕ) → Means same r l s cursor f → get l f.op.id.0 ≡ Some its.node
  means_local r l s cursor (down n at wants writes outside in_folder) = absurd (not_keep writes.remote)
  means_local r l s cursor (cut_down n none at writes outside in_folder) = absurd (not_keep writes.remote)
  means_local r l s cursor (up n at apart writes outside at_server waits) =
      let one : Put its.node ≡ Put n = sym its.puts ∙ writes.remote in cc
  means_local r l s cursor (up_came n in_r at writes outside has) = absurd (not_come cursor has)
  means_local r l s cursor (cut_up n none at writes outside at_server waits) = absurd (not_cut writes.remote)
  means_local r l s cursor (cut_came none_r none writes outside has) = absurd (not_come cursor has)

  -- no mend is an upload
  no_mend : (r l s : Nodes) (cursor : ℕ) (entries : List Entry) → IsMend same r l s cursor entries f → ⊥
  no_mend r l s cursor entries is =
      let up : is.op.verb ≡ verb.Up = sym (ap (λ (o : Op). o.verb) is.shown) ∙ its.verb in
      subst (FactsOf same r l s is.next is.op) up is.facts

  local_has : (entries : List Entry) (c : ClientState) (n : ℕ) → flight_of n c.flights ≡ Some f → IsAlone same entries c
      → get c.local.tree f.op.id.0 ≡ Some its.node
  local_has entries c n there (batch is) =
      means_local c.remote.tree c.local.tree c.synced c.remote.cursor (is.means f (flight_there n c.flights f there))
  local_has entries c n there (mend g only is) =
      let one : f ≡ g = (one_gone n g f (ap (flight_of n) (sym only) ∙ there)).0 in
      absurd (no_mend c.remote.tree c.local.tree c.synced c.remote.cursor entries
      (subst (IsMend same c.remote.tree c.local.tree c.synced c.remote.cursor entries) (sym one) is))

-- WHAT IS HELD of it: the bytes of its version
record HoldsBytes (s : WebState) (value : Option Node) (held : Option (List ℕ)) : Type 0 where
  bytes : List ℕ
  are : held ≡ Some bytes
  recorded : is_recorded s.edits.edits (content_of bytes).hash value ≡ true

of_hash : (o : Option ContentData) (bytes : List ℕ) → HasRecorded o (Some bytes) → is_of_hash (content_of bytes).hash o ≡ true
of_hash None bytes has = absurd has
of_hash (Some content) bytes has = (bytes_eq-Decides content.hash.0 (content_of bytes).hash.0).1 (ap (λ (d : Digest). d.0) (sym has))

recorded_bytes : (s : WebState) (n : Node) (held : Option (List ℕ)) → HasRecorded (content_at s.edits.edits n.ver.0) held → HoldsBytes s (Some n) held
recorded_bytes s n None has = absurd (no_bytes (content_at s.edits.edits n.ver.0) has)
  where
    no_bytes : (o : Option ContentData) → HasRecorded o None → ⊥
    no_bytes None it = it
    no_bytes (Some content) it = it
recorded_bytes s n (Some bytes) has = record { bytes = bytes; are = refl; recorded = of_hash (content_at s.edits.edits n.ver.0) bytes has }

-- whom Local has, has a key; and the bytes of a file are those of its version
key_there : (o : Option Node) (key : Option ℕ) (n : Node) → o ≡ Some n → HasKey o key → (k : ℕ) × (key ≡ Some k)
key_there o (Some k) n at has = (k, refl)
key_there o None n at has = absurd (subst (λ x. HasKey x None) at has)

file_bytes : (s : WebState) (n : Node) (held : Option (List ℕ)) → n.kind ≡ File → HasContent s.edits.edits n.kind n.ver.0 held → HoldsBytes s (Some n) held
file_bytes s n held file has = recorded_bytes s n held (subst (λ kind. HasContent s.edits.edits kind n.ver.0 held) file has)

-- NO CALL FAILS
not_due : (d : Due) → d.failing ≡ [] → is_due d ≡ false
not_due d none = ap (λ (ks : List ℕ). is_due (record d { failing = ks })) none

-- WHAT THE LOG SAYS that it read, once the Start stands at its end
last_read : (c n : ℕ) (log : List LogEntry) (bytes : List ℕ)
    → read_in c n (log ++ entry.Stepped (event.Start c n) (reply.Started (start.Ok (Some bytes))) ∷ []) ≡ Some bytes
last_read c n log bytes =
    let its : LogEntry = entry.Stepped (event.Start c n) (reply.Started (start.Ok (Some bytes))) in
    let end : drop (length log) (log ++ its ∷ []) ≡ its ∷ [] = drop-append_seam log (its ∷ []) in
    let reads : read_by c n its ≡ Some bytes =
    ap (λ b. cond (b && (n == n)) (Some bytes) None) (eq-eqb c c refl) ∙ ap (λ b. cond b (Some bytes) None) (eq-eqb n n refl) in
    later c n (log ++ its ∷ []) (length log) bytes (ap (read_in c n) end ∙ reads)

-- THE START of one that was planned
module _ (log : List LogEntry) (s : WebState) (c n : ℕ) (m : MemberState) (f : Flight) (fails : NothingFails m) (matches : FolderMatches s m)
    (alone : IsAlone (same_hash s.edits.edits) s.entries m.client) (there : flight_of n m.client.flights ≡ Some f) (first : f.stage ≡ planned) where
  abbrev held_under : ℕ → Option (List ℕ)
  held_under key = get m.folder.held.bytes key

  -- an upload's file has a key, and is held under it
  record HasFile : Type 0 where
    key : ℕ
    has : get m.client.local.keys f.op.id.0 ≡ Some key
    holds : HoldsBytes s (committed f.op.remote) (held_under key)

  has_file : is_upload f.op ≡ true → HasFile
  has_file upload =
      let its = puts_file f.op upload in
      let at : get m.client.local.tree f.op.id.0 ≡ Some its.node = local_has (same_hash s.edits.edits) f first its s.entries m.client n there alone in
      let (key, has) = key_there (get m.client.local.tree f.op.id.0) (get m.client.local.keys f.op.id.0) its.node at (matches.local.follow f.op.id.0) in
      let value : Some its.node ≡ committed f.op.remote = sym (ap committed its.puts) in
      record {
        key = key;
        has = has;
        holds = subst (λ o. HoldsBytes s o (held_under key)) value
            (file_bytes s its.node (held_under key) its.file (matches.held f.op.id.0 key its.node has at).bytes);
      }

  -- what comes of it: it has begun, and an upload has read what was recorded
  record GoesWell (upload : Bool) (answer : StartReply) (u : MemberState) : Type 0 where
    bytes : Option (List ℕ)
    ok : answer ≡ start.Ok bytes
    client : u.client ≡ (has_started n m).client
    folder : u.folder ≡ m.folder
    failing : u.due.failing ≡ m.due.failing
    read : HasRead upload c n (log ++ entry.Stepped (event.Start c n) (reply.Started answer) ∷ []) s f.op

  reads_well : (key : ℕ) → HoldsBytes s (committed f.op.remote) (held_under key) → (answer : StartReply) (u : MemberState) → Reads n key m answer u
      → GoesWell true answer u
  reads_well key holds (start.Ok (Some bytes)) u (lasts, at, now) =
      let one : holds.bytes ≡ bytes = cc (holds.are, at) in
      record {
        bytes = Some bytes;
        ok = refl;
        client = ap (λ (x : MemberState). x.client) now;
        folder = ap (λ (x : MemberState). x.folder) now;
        failing = ap (λ (x : MemberState). x.due.failing) now;
        read = (
          bytes,
          last_read c n log bytes,
          subst (λ bs. is_recorded s.edits.edits (content_of bs).hash (committed f.op.remote) ≡ true) one holds.recorded,
        );
      }
  reads_well key holds (start.Ok None) u reads = absurd reads
  reads_well key holds start.Changed u (lasts, none, now) = absurd (let clash : Some holds.bytes ≡ None = sym holds.are ∙ none in cc)
  reads_well key holds start.Failed u (due, now) = absurd (let clash : false ≡ true = sym (not_due m.due fails) ∙ due in cc)
  reads_well key holds start.NoSuchOp u reads = absurd reads

  begins_well : (upload : Bool) → is_upload f.op ≡ upload → (answer : StartReply) (u : MemberState) → Begins n f.op upload m answer u
      → GoesWell upload answer u
  begins_well true is answer u uploads =
      let file = has_file is in
      reads_well file.key file.holds answer u (subst (λ key. Uploads n key m answer u) file.has uploads)
  begins_well false is answer u (ok, now) = record {
    bytes = None;
    ok = ok;
    client = ap (λ (x : MemberState). x.client) now;
    folder = ap (λ (x : MemberState). x.folder) now;
    failing = ap (λ (x : MemberState). x.due.failing) now;
    read = tt;
  }

  starts_well : (answer : StartReply) (u : MemberState) → Starts n m answer u → GoesWell (is_upload f.op) answer u
  starts_well answer u starts =
      let op : planned_of (flight_of n m.client.flights) ≡ Some f.op = ap planned_of there ∙ ap (λ st. if_planned st f.op) first in
      begins_well (is_upload f.op) refl answer u (subst (λ o. StartsOf n o m answer u) op starts)

-- THE FOLDER matches as before
matches_then : (s t : WebState) (m u : MemberState) (n : ℕ) → t ≡ s → u.client ≡ (has_started n m).client → u.folder ≡ m.folder → FolderMatches s m
    → FolderMatches t u
matches_then s t m u n shared client folder matches =
    subst (λ (x : WebState). Matches x.edits.edits u.client.local u.folder.held) (sym shared)
    (subst (λ (x : MemState). Matches s.edits.edits u.client.local x.held) (sym folder)
    (subst (λ (x : ClientState). Matches s.edits.edits x.local m.folder.held) (sym client) matches))

pub starts_go_well : StartsGoWell
starts_go_well log w v c n m k f answer sync matches there first step now =
    let (starts, shared) = own_does log w v (event.Start c n) (reply.Started answer) m k step sync.was now in
    let well = starts_well log w.shared c n m f sync.nothing_fails matches sync.alone there first answer k starts in
    let flies = ap (λ (x : ClientState). flight_of n x.flights) well.client ∙ at_its_stage n started m.client.flights f there in (
      (well.bytes, well.ok),
      well.failing ∙ sync.nothing_fails,
      record {
        op = f.op;
        flies = flies;
        read = subst (λ s. HasRead (is_upload f.op) c n (log ++ entry.Stepped (event.Start c n) (reply.Started answer) ∷ []) s f.op) (sym shared) well.read;
        matches = matches_then w.shared v.shared m k n shared well.client well.folder matches;
      },
    )
