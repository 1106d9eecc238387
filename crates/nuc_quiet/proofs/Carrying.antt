-- An operation whose calls are made in a folder that matches Local succeeds, and the folder then matches what Local will be.
use Rattle.std.specs.Prelude.{unwrap_or}
use Rattle.std.proofs.Common.{◌≡◌, ◌≢◌, ◌<◌, ◌∙◌, ℕ, Bool, true, cond, [], ◌∷◌, Option, None, Some, is_some, refl, sym, ap, subst, true≢false}
use Rattle.std.proofs.lemmas.Option.{same_Some}
use Rattle.std.specs.FinMap.{get, insert}
use Rattle.nuc_base.specs.Changes.{FitsChange, IsLegal, changed}
use Rattle.nuc_base.specs.Legal.{LegalCut, LegalPut}
use Rattle.nuc_base.specs.Ready.{LegalInTurn, all_changed}
use Rattle.nuc_base.specs.declared.change.Change.{Change}
use Rattle.nuc_base.specs.declared.change.Change.TheVariants.{Keep, Put, Cut}
use Rattle.nuc_base.specs.declared.node.Node.{Node}
use Rattle.nuc_base.specs.declared.node.Place.{Place}
use Rattle.nuc_base.proofs.Maps.{not_both}
use Rattle.nuc_class.specs.declared.op.Op.{Op}
use Rattle.nuc_class.specs.declared.op.Verb.{Verb}
use Rattle.nuc_class.specs.declared.op.Verb.TheVariants as verb
use Rattle.nuc_converge.proofs.Stocked.{IsStocked}
use Rattle.nuc_filework.specs.Calls.{calls_by, calls_of, changing, splitting}
use Rattle.nuc_filework.specs.Runs.{FolderView, IsNotRun, RunsOp}
use Rattle.nuc_folder.specs.Beside.{Beside}
use Rattle.nuc_folder.specs.Memory.{IsKeyed, MemState}
use Rattle.nuc_folder.specs.Outcome.{is_success}
use Rattle.nuc_folder.specs.declared.outcome.Outcome.{Outcome}
use Rattle.nuc_folder.specs.declared.outcome.Outcome.TheVariants as outcome
use Rattle.nuc_folder.specs.declared.ran.RanOp.{RanOp}
use Rattle.nuc_follow.specs.Follows.{IsFollowed, cut, made, over as with_over, split}
use Rattle.nuc_follow.specs.Matches.{Matches}
use Rattle.nuc_follow.specs.Steady.{IsSteady}
use Rattle.nuc_follow.proofs.Whole.{followed_altering, followed_cutting, followed_making, followed_splitting}
use Rattle.nuc_hash.specs.Content.{content_of}
use Rattle.nuc_hash.specs.declared.digest.Digest.{Digest}
use Rattle.nuc_observe.specs.Keys.{KeyMap}
use Rattle.nuc_replica.specs.Local.{LocalState, moved_key}
use Rattle.nuc_server.specs.WebEdits.{WebState}
use Rattle.nuc_step.specs.Sound.{HasOther, MayFly}
use Rattle.nuc_step.specs.Steps.{LocalReady, OtherIsNew, is_split, keys_with, local_after, local_changes, split_changes}
use Rattle.nuc_transfer.specs.Transfer.{Collision}
use Rattle.nuc_world.specs.Form.{AreGiven, IsPutAs}
use Rattle.nuc_world.specs.State.{MemberState, with_counts}
use Rattle.nuc_world.specs.Takes.{bytes_for, committed, content_in, or_empty, seen_content, view_of, wanted_content}
use Rattle.nuc_quiet.specs.Laws.{FolderMatches, NothingFails}
use Rattle.nuc_quiet.proofs.AtHand.{Comes, IsPlain, changed_contents, given_by, gone_contents, new_contents}
use Rattle.nuc_quiet.proofs.Soundness.{AreHashed}

-- what is put is of a version that was put, which the server keeps, or which was there
abbrev pub ChangeKnown : WebState → Option Node → Change → Type 0
ChangeKnown s old Keep = Unit {0}
ChangeKnown s old (Put new) = IsPutAs s.edits.edits new.kind new.ver.0 × Comes s old new
ChangeKnown s old Cut = Unit {0}

-- and so is what was there
abbrev pub NodeKnown : WebState → Option Node → Type 0
NodeKnown s None = Unit {0}
NodeKnown s (Some n) = IsPutAs s.edits.edits n.kind n.ver.0

calls_plain : (v : Verb) → IsPlain v → (m : KeyMap) (x : ℕ) (old : Option Node) (local : Change) (seen wanted : Digest) (given : Bool)
    → calls_by v m x old local seen wanted given ≡ changing m x old local seen wanted given
calls_plain verb.Adopt plain m x old local seen wanted given = absurd (plain.two refl)
calls_plain verb.Split plain m x old local seen wanted given = absurd (true≢false plain.one)
calls_plain _ plain m x old local seen wanted given = refl

-- the folder of a client after the calls of an operation, by what Local is to be
pub record IsCarriedTo (s : WebState) (l : LocalState) (ran : RanOp) (u : MemberState) : Type 0 where
  pub well : is_success ran.outcome ≡ true
  pub nothing_fails : NothingFails u
  pub matches : Matches s.edits.edits l u.folder.held

module _ (s : WebState) (stocked : IsStocked s) (formed : AreHashed s.blocks) (unbroken : ¬ Collision) (m : MemberState) (folder : IsKeyed m.folder)
    (given : AreGiven m.client.local.keys m.folder.next) (calm : NothingFails m) (is : FolderMatches s m) (faults faults_after made_so : ℕ) (settled : MemState) (ran : RanOp) (u : MemberState) where
  abbrev Before : FolderView
  Before = view_of faults made_so settled m

  abbrev After : FolderView
  After = view_of faults_after made_so settled u

  abbrev L : LocalState
  L = m.client.local

  steady : IsSteady Before m.folder.held
  steady = record {
    told = refl;
    shelf = folder.shelf;
    below = folder.below;
    beside = record { calls = with_counts made_so faults m.due; settled = settled; pending = m.folder.pending };
    has = refl;
    none = calm;
  }

  still_calm : (held : _) → IsSteady After held → NothingFails u
  still_calm held after = ap (λ (b : Beside). b.calls.failing) (same_Some _ after.beside after.has) ∙ after.none

  its_held : (l : LocalState) (held : _) → IsSteady After held → Matches s.edits.edits l held → Matches s.edits.edits l u.folder.held
  its_held l held after matches = subst (Matches s.edits.edits l) (sym (same_Some u.folder.held held after.told)) matches

  success : (o : Outcome) → ran.outcome ≡ o → is_success o ≡ true → is_success ran.outcome ≡ true
  success o so good = ap is_success so ∙ good

  followed : (l : LocalState) → IsFollowed s.edits.edits l ran After → IsCarriedTo s l ran u
  followed l ends = record {
    well = success outcome.Ok ends.ok refl;
    nothing_fails = still_calm ends.held ends.steady;
    matches = its_held l ends.held ends.steady ends.matches;
  }

  -- no call is made
  nothing_done : IsNotRun Before outcome.Ok ran After → IsCarriedTo s L ran u
  nothing_done (ends, now) =
      let held : u.folder.held ≡ m.folder.held = same_Some u.folder.held m.folder.held (ap (λ (v : FolderView). v.told) now) in
      record {
        well = success outcome.Ok (ap (λ (r : RanOp). r.outcome) ends) refl;
        nothing_fails = ap (λ (b : Beside). b.calls.failing) (same_Some _ _ (ap (λ (v : FolderView). v.beside) now)) ∙ calm;
        matches = subst (Matches s.edits.edits L) (sym held) is;
      }

  -- BY THE VALUES
  module _ (v : Verb) (plain : IsPlain v) (x : ℕ) (some : 0 < x) (room : ran.outcome ≢ outcome.Memory) where
    abbrev CallsOf : Option Node → Change → Type 0
    CallsOf old local = RunsOp L.keys (unwrap_or (given_by s v old local) [])
        (calls_by v L.keys x old local (or_empty (content_in s.edits.edits old)).hash (or_empty (content_in s.edits.edits (committed local))).hash (is_some (given_by s v old local)))
        Before ran After

    as_changing : (old : Option Node) (local : Change) → CallsOf old local → RunsOp L.keys (unwrap_or (given_by s v old local) [])
        (changing L.keys x old local (or_empty (content_in s.edits.edits old)).hash (or_empty (content_in s.edits.edits (committed local))).hash (is_some (given_by s v old local)))
        Before ran After
    as_changing old local runs =
        subst (λ calls. RunsOp L.keys (unwrap_or (given_by s v old local) []) calls Before ran After)
        (calls_plain v plain L.keys x old local (or_empty (content_in s.edits.edits old)).hash (or_empty (content_in s.edits.edits (committed local))).hash (is_some (given_by s v old local)))
        runs

    carried_so : (old : Option Node) (local : Change) → get L.tree x ≡ old → IsLegal L.tree x local → FitsChange local → NodeKnown s old
        → ChangeKnown s old local → CallsOf old local
        → IsCarriedTo s (record { tree = changed L.tree x local; keys = keys_with old local ran.outcome x L.keys }) ran u
    carried_so None Keep at legal fits was known runs = nothing_done (as_changing None Keep runs)
    carried_so (Some old) Keep at legal fits was known runs = nothing_done (as_changing (Some old) Keep runs)
    carried_so None Cut at legal fits was known runs = absurd (not_both L.tree x legal.there.0 at legal.there.1)
    carried_so (Some old) Cut at legal fits was known runs =
        followed (cut L x)
        (followed_cutting s.edits.edits (unwrap_or (given_by s v (Some old) Cut) []) L.keys L x old (or_empty (content_in s.edits.edits (Some old))) (content_of [])
        (is_some (given_by s v (Some old) Cut)) Before m.folder.held ran After steady is at legal (record { mine = refl; from = refl; to = tt })
        (gone_contents s stocked formed unbroken v plain old (content_of []) (is_some (given_by s v (Some old) Cut)) (unwrap_or (given_by s v (Some old) Cut) []) was)
        (as_changing (Some old) Cut runs) room)
    carried_so None (Put new) at legal fits was (put, comes) runs =
        let ends =
        followed_making s.edits.edits (unwrap_or (given_by s v None (Put new)) []) L.keys L x new (content_of []) (or_empty (content_in s.edits.edits (Some new)))
        (is_some (given_by s v None (Put new))) Before m.folder.held ran After steady is some at legal fits given (record { mine = refl; from = tt; to = refl })
        (new_contents s stocked formed unbroken v plain new put comes) (as_changing None (Put new) runs) room in
        record {
          well = success (outcome.Made ends.key) ends.ok refl;
          nothing_fails = still_calm ends.held ends.steady;
          matches = subst (λ o. Matches s.edits.edits (record { tree = insert L.tree x new; keys = keys_with None (Put new) o x L.keys }) u.folder.held) (sym ends.ok)
              (its_held (made L x new ends.key.0) ends.held ends.steady ends.matches);
        }
    carried_so (Some old) (Put new) at legal fits was (put, comes) runs =
        followed (with_over L x new)
        (followed_altering s.edits.edits (unwrap_or (given_by s v (Some old) (Put new)) []) L.keys L x old new (or_empty (content_in s.edits.edits (Some old)))
        (or_empty (content_in s.edits.edits (Some new))) (is_some (given_by s v (Some old) (Put new))) Before m.folder.held ran After steady is at legal fits
        (record { mine = refl; from = refl; to = refl })
        (changed_contents s stocked formed unbroken v plain old new was put (sym (legal.kind old at)) comes) (as_changing (Some old) (Put new) runs) room)

  -- AN OPERATION
  module _ (op : Op) (may : MayFly op) (ready : LocalReady L op outcome.Ok) (room : ran.outcome ≢ outcome.Memory)
      (runs : RunsOp L.keys (unwrap_or (bytes_for s op) []) (calls_of L.keys op (seen_content s.edits.edits op) (wanted_content s.edits.edits op) (is_some (bytes_for s op))) Before ran After) where
    pub plainly : IsPlain op.verb → NodeKnown s op.old_local → ChangeKnown s op.old_local op.local → IsCarriedTo s (local_after op ran.outcome L) ran u
    plainly plain was known =
        let legal : IsLegal L.tree op.id.0 op.local =
        (subst (λ b. LegalInTurn L.tree (cond b (split_changes op) ((op.id.0, op.local) ∷ []))) plain.one ready.legal).0 in
        subst (λ b. IsCarriedTo s (record {
          tree = all_changed L.tree (cond b (split_changes op) ((op.id.0, op.local) ∷ []));
          keys = cond b (moved_key L.keys op.id.0 op.other.0 (get L.keys op.id.0)) (keys_with op.old_local op.local ran.outcome op.id.0 L.keys);
        }) ran u) (sym plain.one)
        (carried_so op.verb plain op.id.0 may.id room op.old_local op.local ready.old legal may.fits.local was known runs)

    pub in_parts : (old : Node) (place : Place) → op.verb ≡ verb.Split → op.old_local ≡ Some old → op.local ≡ Put (record old { place = place })
        → IsCarriedTo s (local_after op ran.outcome L) ran u
    in_parts old place is_one was puts =
        let x = op.id.0 in
        let z = op.other.0 in
        let copy : Node = record old { place = place } in
        let bytes = unwrap_or (bytes_for s op) [] in
        let two : is_split op.verb ≡ true = ap is_split is_one in
        let changes : local_changes op ≡ (z, Put copy) ∷ (x, Cut) ∷ [] =
        ap (λ b. cond b (split_changes op) ((x, op.local) ∷ [])) two ∙ ap (λ c. (z, c) ∷ (x, Cut) ∷ []) puts in
        let legal : LegalPut L.tree z copy × (LegalCut (insert L.tree z copy) x × Unit {0}) = subst (LegalInTurn L.tree) changes ready.legal in
        let other : HasOther true x z op.local = subst (λ b. HasOther b x z op.local) two may.other in
        let calls : calls_of L.keys op (seen_content s.edits.edits op) (wanted_content s.edits.edits op) (is_some (bytes_for s op)) ≡ splitting L.keys x (Some old) (Put copy) =
        ap (λ w. calls_by w L.keys x op.old_local op.local (seen_content s.edits.edits op).hash (wanted_content s.edits.edits op).hash (is_some (bytes_for s op))) is_one
        ∙ (λ i. splitting L.keys x (was i) (puts i)) in
        let (k, key, ends) = followed_splitting s.edits.edits bytes L.keys L x z old place Before m.folder.held ran After steady is other.0 (ready.old ∙ was)
        (subst (λ b. OtherIsNew b L.tree z) two ready.other) legal.0 legal.1.0 (record { mine = refl; from = refl; to = refl })
        (subst (λ c. RunsOp L.keys bytes c Before ran After) calls runs) room in
        let tree : all_changed L.tree (local_changes op) ≡ (split L x z copy k).tree = ap (all_changed L.tree) changes in
        let keys : (local_after op ran.outcome L).keys ≡ (split L x z copy k).keys =
        ap (λ b. cond b (moved_key L.keys x z (get L.keys x)) (keys_with op.old_local op.local ran.outcome x L.keys)) two ∙ ap (moved_key L.keys x z) key in
        let all : local_after op ran.outcome L ≡ split L x z copy k = λ i. record { tree = tree i; keys = keys i } in
        subst (λ l. IsCarriedTo s l ran u) (sym all) (followed (split L x z copy k) ends)
