-- What is there becomes what was planned: the operation succeeds, and the folder matches Local with that.
use Rattle.std.proofs.Common.{◌≡◌, ◌≢◌, ◌∙◌, ℕ, Bool, List, Some, refl, sym, ap, subst}
use Rattle.std.specs.FinMap.{get, insert}
use Rattle.nuc_base.specs.Kinds.{Fits, FitsKind}
use Rattle.nuc_base.specs.Legal.{LegalPut}
use Rattle.nuc_base.specs.declared.change.Change.TheVariants.{Put}
use Rattle.nuc_base.specs.declared.node.Kind.{Kind}
use Rattle.nuc_base.specs.declared.node.Node.{Node}
use Rattle.nuc_base.proofs.Maps.{get_put_same}
use Rattle.nuc_edits.specs.declared.edit.Edit.{Edit}
use Rattle.nuc_filework.specs.Calls.{alter_calls, in_order, key_place}
use Rattle.nuc_filework.specs.Runs.{FolderView, RunsOp}
use Rattle.nuc_folder.specs.State.{FolderState}
use Rattle.nuc_folder.specs.declared.outcome.Outcome.TheVariants as outcome
use Rattle.nuc_folder.specs.declared.ran.RanOp.{RanOp}
use Rattle.nuc_follow.specs.Follows.{IsFollowed, over}
use Rattle.nuc_follow.specs.Matches.{Matches}
use Rattle.nuc_follow.specs.Needs.{HasContents, IsContentOf, KeysAgree}
use Rattle.nuc_follow.specs.Steady.{IsSteady}
use Rattle.nuc_follow.proofs.Altering.{bit_leads, mixed, move_leads, replace_leads}
use Rattle.nuc_follow.proofs.Putting.{legal_again, put_twice}
use Rattle.nuc_follow.proofs.Shown.{folder_key, key_there, known_alike, place_known}
use Rattle.nuc_follow.proofs.Steps.{followed_thrice}
use Rattle.nuc_hash.specs.Content.{ContentData}
use Rattle.nuc_observe.specs.Keys.{KeyMap}
use Rattle.nuc_replica.specs.Local.{LocalState}

module _ (es : List Edit) (bytes : List ℕ) (own : KeyMap) (l : LocalState) (x : ℕ) (old new : Node) (seen wanted : ContentData) (given : Bool)
    (v : FolderView) (s : FolderState) (ran : RanOp) (w : FolderView) where
  pub alter_follows : IsSteady v s → Matches es l s → get l.tree x ≡ Some old → LegalPut l.tree x new → FitsKind new → KeysAgree own l.keys x (Some old) (Put new)
      → HasContents es (Some old) (Some new) seen wanted given bytes → RunsOp own bytes (alter_calls own (get own x) old new seen.hash wanted.hash given) v ran w
      → ran.outcome ≢ outcome.Memory → IsFollowed es (over l x new) ran w
  alter_follows steady is at legal fits agree contents runs room =
      let (k, key) = key_there es l s is x old at in
      let mine : get own x ≡ Some k = agree.mine ∙ key in
      let held = is.held x k old key at in
      let from : key_place own old.place ≡ Some held.place = known_alike own l.keys old.place agree.from ∙ held.known in
      let (j, parent) = folder_key es l s is new.place.parent.0 legal.parent in
      let (q, to_known) = place_known l.keys new.place j parent in
      let to : key_place own new.place ≡ Some q = known_alike own l.keys new.place agree.to ∙ to_known in
      let kind : old.kind ≡ new.kind = legal.kind old at in
      let one : Node = record old { ver = new.ver } in
      let two : Node = record one { bit = new.bit } in
      let three : Node = record two { place = new.place } in
      let same : three ≡ new = ap (λ (c : Kind). let r : Node = record { place = new.place; kind = c; ver = new.ver; bit = new.bit } in r) kind in
      let fit_old : FitsKind old = is.local.form.fits x old at in
      let fit_three : Fits old.kind new.ver.0 new.bit = subst (λ c. Fits c new.ver.0 new.bit) (sym kind) fits in
      let fit_one : Fits old.kind new.ver.0 old.bit = mixed old.kind old.ver.0 new.ver.0 old.bit new.bit fit_old fit_three in
      let legal_three : LegalPut l.tree x three = subst (LegalPut l.tree x) (sym same) legal in
      let l_one : LocalState = over l x one in
      let l_two : LocalState = over l_one x two in
      let at_one : get l_one.tree x ≡ Some one = get_put_same l.tree x one in
      let legal_two : LegalPut l_two.tree x three = legal_again l_one.tree x one two three at_one refl (legal_again l.tree x old one three at refl legal_three) in
      let (a, a_is, a_leads) = replace_leads es bytes l x k old at key new.ver seen wanted given contents.0
      (subst (λ c. IsContentOf es c new.ver.0 wanted) (sym kind) contents.1) contents.2 contents.3 fit_one in
      let (b, b_is, b_leads) = bit_leads es bytes l_one x k one at_one key new.bit fit_one fit_three in
      let (c, c_is, c_leads) = move_leads es bytes l_two x k two (get_put_same l_one.tree x two) key own new.place held.place q from held.known to to_known legal_two fit_three in
      let calls : alter_calls own (get own x) old new seen.hash wanted.hash given ≡ in_order (Some a) (Some b) (Some c) =
      ap (λ o. alter_calls own o old new seen.hash wanted.hash given) mine ∙ (λ i. in_order (a_is i) (b_is i) (c_is i)) in
      let tree : insert (insert (insert l.tree x one) x two) x three ≡ insert l.tree x new =
      put_twice (insert l.tree x one) x two three ∙ put_twice l.tree x one three ∙ ap (insert l.tree x) same in
      let end : over l_two x three ≡ over l x new = ap (λ m. let r : LocalState = record { tree = m; keys = l.keys } in r) tree in
      subst (λ m. IsFollowed es m ran w) end
      (followed_thrice es bytes own l l_one l_two (over l_two x three) a b c v s ran w steady is a_leads b_leads c_leads
      (subst (λ cs. RunsOp own bytes cs v ran w) calls runs) room)
