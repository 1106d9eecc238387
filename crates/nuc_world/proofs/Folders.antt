-- What the calls of an operation leave of a folder in memory.
use Rattle.std.proofs.Common.{◌≡◌, ◌≢◌, ℕ, List, [], refl, sym, subst, ap, ◌∙◌}
use Rattle.std.specs.Option.{unwrap_or}
use Rattle.std.specs.Prelude.{Option, is_some}
use Rattle.nuc_class.specs.declared.op.Op.{Op}
use Rattle.nuc_filework.specs.Calls.{calls_of}
use Rattle.nuc_flights.specs.declared.taken.Taken.TheVariants as came
use Rattle.nuc_folder.specs.declared.outcome.Outcome.TheVariants as outcome
use Rattle.nuc_server.specs.WebEdits.{WebState}
use Rattle.nuc_step.specs.Steps.{after_take}
use Rattle.nuc_world.specs.Takes.{IsCarriedOut, bytes_for, seen_content, view_of, wanted_content}
use Rattle.nuc_filework.specs.Runs.{RunsOp}
use Rattle.nuc_filework.specs.declared.call.Call.{Call}
use Rattle.nuc_folder.specs.Memory.{MemStates}
use Rattle.nuc_folder.specs.declared.ran.RanOp.{RanOp}
use Rattle.nuc_observe.specs.Keys.{KeyMap}
use Rattle.nuc_step.specs.Client.{ClientState, ClientStates}
use Rattle.nuc_step.specs.Held.{HeldData, HeldState}
use Rattle.nuc_world.specs.Starts.{with_client}
use Rattle.nuc_world.specs.State.{MemberState, Turn}
use Rattle.nuc_world.specs.Parts.{FolderKeeps, due_of, folder_view, member_now, member_then}
use Rattle.nuc_world.proofs.Beside.{op_keeps}

pub folder_keeps : (m : KeyMap) (bytes : List ℕ) (o : Option (List Call)) (a : MemStates) (ran : RanOp) (b : MemStates) → RunsOp m bytes o (folder_view a) ran (folder_view b) → FolderKeeps a b
folder_keeps m bytes o a ran b runs =
    let kept = op_keeps m bytes o (folder_view a) ran (folder_view b) runs in
    record { settled = kept.settled; pending = kept.pending; calls_settled = kept.calls_settled; failing = kept.failing }

pub same_folder : (a : MemStates) → FolderKeeps a a
same_folder a = record { settled = refl; pending = refl; calls_settled = refl; failing = refl }

-- what going back leads to stays
pub then_kept : (c d : ClientStates) (a b : MemStates) → d.settled ≡ c.settled → d.listing ≡ c.listing → FolderKeeps a b → member_then d b ≡ member_then c a
then_kept c d a b client listing kept =
    let settled = kept.settled in
    let calls = kept.calls_settled in
    let failing = kept.failing in
    cc

-- the parts of a member
abbrev member_of : ClientState → Option HeldData → MemStates → MemberState
member_of client listing folder = record { client = client; listing = listing; folder = folder.now; due = due_of folder.calls }

module _ (n : ℕ) (op : Op) (s : WebState) (c d : ClientStates) (a b : MemStates) (ran : RanOp) where
  -- what came of the calls, and that the client was told
  pub carried_out : ran.outcome ≢ outcome.Memory
      → RunsOp c.now.local.keys (unwrap_or (bytes_for s op) []) (calls_of c.now.local.keys op (seen_content s.edits.edits op) (wanted_content s.edits.edits op) (is_some (bytes_for s op)))
      (folder_view a) ran (folder_view b)
      → FolderKeeps a b → d.now ≡ after_take n (came.Folder ran.outcome) [] c.now → d.listing ≡ c.listing
      → IsCarriedOut n op (record { shared = s; member = member_now c a }) ran (record { shared = s; member = member_now d b })
  carried_out known runs kept client listing =
      let keys = c.now.local.keys in
      let bytes = unwrap_or (bytes_for s op) [] in
      let calls = calls_of keys op (seen_content s.edits.edits op) (wanted_content s.edits.edits op) (is_some (bytes_for s op)) in
      let by_count : RunsOp keys bytes calls (folder_view a) ran (view_of b.calls.faults a.calls.settled b.settled (member_now d b)) =
      subst (λ k. RunsOp keys bytes calls (folder_view a) ran (view_of b.calls.faults k b.settled (member_now d b))) kept.calls_settled runs in
      record {
        known = known;
        faults = a.calls.faults;
        faults_after = b.calls.faults;
        made = a.calls.settled;
        settled = a.settled;
        runs = subst (λ was. RunsOp keys bytes calls (folder_view a) ran (view_of b.calls.faults a.calls.settled was (member_now d b))) kept.settled by_count;
        shared = refl;
        member = ap (λ now. member_of now d.listing.now b) client ∙ ap (λ (h : HeldState). member_of (after_take n (came.Folder ran.outcome) [] c.now) h.now b) listing;
      }

abbrev turn_of : WebState → ClientState → Option HeldData → MemStates → Turn
turn_of s client listing folder = record { shared = s; member = member_of client listing folder }

-- another client that holds the same listing
pub same_turn : (s : WebState) (c d : ClientStates) (b : MemStates) → d.listing ≡ c.listing
    → record { shared = s; member = with_client d.now (member_now c b) } ≡ turn_of s d.now d.listing.now b
same_turn s c d b listing = ap (λ (h : HeldState). turn_of s d.now h.now b) (sym listing)
