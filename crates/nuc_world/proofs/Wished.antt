-- What an operation puts is known where the values are that it was planned over.
use Rattle.std.proofs.Common.{◌≡◌, ◌≢◌, ◌==◌, ℕ, Bool, true, false, cond, Option, Some, None, refl, sym, ◌∙◌, subst}
use Rattle.std.proofs.lemmas.Option.{none-some, same_Some}
use Rattle.nuc_base.specs.declared.change.Change.{Change}
use Rattle.nuc_base.specs.declared.change.Change.TheVariants.{Keep, Put, Cut}
use Rattle.nuc_base.specs.declared.node.Kind.{Kind}
use Rattle.nuc_base.specs.declared.node.Node.{Node}
use Rattle.nuc_base.specs.declared.node.Ver.{Ver}
use Rattle.nuc_class.specs.Effects.{effect_of, is_shown}
use Rattle.nuc_class.specs.Merge.{target}
use Rattle.nuc_class.specs.Op.{operation, planned}
use Rattle.nuc_class.specs.declared.op.Effect.TheVariants as effect
use Rattle.nuc_class.specs.declared.op.Op.{Op}
use Rattle.nuc_class.specs.declared.op.Verb.{Verb}
use Rattle.nuc_class.specs.declared.op.Verb.TheVariants as verb
use Rattle.nuc_class.specs.declared.wishes.Wish.{Wish}
use Rattle.nuc_class.specs.declared.wishes.Wish.TheVariants as wish
use Rattle.nuc_server.specs.WebEdits.{WebState}
use Rattle.nuc_step.specs.Holdings.{IsOf, OpHolds, Puts, local_id}
use Rattle.nuc_step.specs.Holdings.OpHolds.{remote as puts_remote, local as puts_local, synced as puts_synced, old_local as was_local, old_synced as was_synced}
use Rattle.nuc_step.specs.Steps.{is_split}
use Rattle.nuc_world.specs.Form.{IsKnown}
use Rattle.nuc_world.proofs.Web.{known_along}

-- all that an operation has is known; where it is a commit, Remote is written; and two nodes don't become one
pub record Wishes (s : WebState) (kinds : ℕ → Kind) (op : Op) : Type 0 where
  pub known : (x : ℕ) (k : Kind) (v : ℕ) → OpHolds x k v op → IsKnown s kinds x k v
  pub writes : op.effect ≡ effect.Commit → op.remote ≢ Keep

module _ (s : WebState) (kinds : ℕ → Kind) where
  -- a value of x is known
  abbrev pub OfValue : ℕ → Option Node → Type 0
  OfValue x o = (k : Kind) (v : ℕ) → IsOf k v o → IsKnown s kinds x k v

  abbrev pub OfChange : ℕ → Change → Type 0
  OfChange x c = (k : Kind) (v : ℕ) → Puts k v c → IsKnown s kinds x k v

  pub op_known : (op : Op) → OfChange op.id.0 op.remote → OfChange (local_id (is_split op.verb) op) op.local → OfChange op.id.0 op.synced → OfValue op.id.0 op.old_local
      → OfValue op.id.0 op.old_synced → (x : ℕ) (k : Kind) (v : ℕ) → OpHolds x k v op → IsKnown s kinds x k v
  op_known op remote local synced old_local old_synced x k v (puts_remote id puts) = known_along s kinds op.id.0 x k k v v id refl refl (remote k v puts)
  op_known op remote local synced old_local old_synced x k v (puts_local id puts) =
      known_along s kinds (local_id (is_split op.verb) op) x k k v v id refl refl (local k v puts)
  op_known op remote local synced old_local old_synced x k v (puts_synced id puts) = known_along s kinds op.id.0 x k k v v id refl refl (synced k v puts)
  op_known op remote local synced old_local old_synced x k v (was_local id is) = known_along s kinds op.id.0 x k k v v id refl refl (old_local k v is)
  op_known op remote local synced old_local old_synced x k v (was_synced id is) = known_along s kinds op.id.0 x k k v v id refl refl (old_synced k v is)

  -- WHAT A DOWN BRINGS has Remote's kind, and the version of Remote's or of Local's
  mixed : (x : ℕ) (k l : Kind) (v w : Ver) (one : Bool) → IsKnown s kinds x k v.0 → IsKnown s kinds x l w.0 → IsKnown s kinds x k (cond one w v).0
  mixed x k l v w true first second = known_along s kinds x x l k w.0 w.0 refl (second.kind ∙ sym first.kind) refl second
  mixed x k l v w false first second = first

  target_known : (x : ℕ) (r : Node) (l z : Option Node) → OfValue x (Some r) → OfValue x l → OfChange x (Put (target r l z))
  target_known x r None z remote local k v puts = remote k v puts
  target_known x r (Some l) None remote local k v puts = remote k v puts
  target_known x r (Some l) (Some z) remote local k v puts =
      known_along s kinds x x r.kind k _ v refl puts.0 puts.1
      (mixed x r.kind l.kind r.ver l.ver (r.ver.0 == z.ver.0) (remote r.kind r.ver.0 (refl, refl)) (local l.kind l.ver.0 (refl, refl)))

  pub nothing_kept : (x : ℕ) → OfChange x Keep
  nothing_kept x k v puts = absurd puts

  pub nothing_cut : (x : ℕ) → OfChange x Cut
  nothing_cut x k v puts = absurd puts

  -- A COMMIT writes Remote
  if_shown : (shown : Bool) → cond shown effect.Disk effect.Nothing ≢ effect.Commit
  if_shown true is = cc
  if_shown false is = cc

  pub effect_writes : (same : ℕ → ℕ → Bool) (l : Option Node) (local remote : Change) → effect_of same l local remote ≡ effect.Commit → remote ≢ Keep
  effect_writes same l local Keep is none = if_shown (is_shown same l local) is
  effect_writes same l local (Put n) is none = cc
  effect_writes same l local Cut is none = cc

  -- THE OPERATION of a wish
  pub planned_wishes : (same : ℕ → ℕ → Bool) (v : Verb) (x : ℕ) (remote local synced : Change) (l z : Option Node) → is_split v ≡ false
      → OfChange x remote → OfChange x local → OfChange x synced → OfValue x l → OfValue x z → Wishes s kinds (planned same v x remote local synced l z)
  planned_wishes same v x remote local synced l z whole puts_r puts_l puts_s of_l of_z = record {
    known = op_known (planned same v x remote local synced l z) puts_r
        (subst (λ b. OfChange (local_id b (planned same v x remote local synced l z)) local) (sym whole) puts_l) puts_s of_l of_z;
    writes = effect_writes same l local remote;
  }

  pub operation_wishes : (same : ℕ → ℕ → Bool) (w : Wish) (x : ℕ) (r l z : Option Node) (op : Op) → operation same w x r l z ≡ Some op
      → OfValue x r → OfValue x l → OfValue x z → Wishes s kinds op
  operation_wishes same wish.Split x r l z op e of_r of_l of_z = absurd (none-some op e)
  operation_wishes same wish.Nothing x r l z op e of_r of_l of_z = absurd (none-some op e)
  operation_wishes same wish.Down x None l z op e of_r of_l of_z = absurd (none-some op e)
  operation_wishes same wish.Down x (Some r) l z op e of_r of_l of_z = subst (Wishes s kinds) (same_Some _ op e)
      (planned_wishes same verb.Down x Keep (Put (target r l z)) (Put r) l z refl (nothing_kept x) (target_known x r l z of_r of_l) of_r of_l of_z)
  operation_wishes same wish.Up x r None z op e of_r of_l of_z = absurd (none-some op e)
  operation_wishes same wish.Up x r (Some l) z op e of_r of_l of_z = subst (Wishes s kinds) (same_Some _ op e)
      (planned_wishes same verb.Up x (Put l) Keep (Put l) (Some l) z refl of_l (nothing_kept x) of_l of_l of_z)
  operation_wishes same wish.CutDown x r l z op e of_r of_l of_z = subst (Wishes s kinds) (same_Some _ op e)
      (planned_wishes same verb.CutDown x Keep Cut Cut l z refl (nothing_kept x) (nothing_cut x) (nothing_cut x) of_l of_z)
  operation_wishes same wish.CutUp x r l z op e of_r of_l of_z = subst (Wishes s kinds) (same_Some _ op e)
      (planned_wishes same verb.CutUp x Cut Keep Cut l z refl (nothing_cut x) (nothing_kept x) (nothing_cut x) of_l of_z)
  operation_wishes same wish.Forget x r l z op e of_r of_l of_z = subst (Wishes s kinds) (same_Some _ op e)
      (planned_wishes same verb.Forget x Keep Keep Cut l z refl (nothing_kept x) (nothing_kept x) (nothing_cut x) of_l of_z)

-- no wish makes two nodes one
pub operation_not_adopt : (same : ℕ → ℕ → Bool) (w : Wish) (x : ℕ) (r l z : Option Node) (op : Op) → operation same w x r l z ≡ Some op → op.verb ≢ verb.Adopt
operation_not_adopt same wish.Split x r l z op e = absurd (none-some op e)
operation_not_adopt same wish.Nothing x r l z op e = absurd (none-some op e)
operation_not_adopt same wish.Down x None l z op e = absurd (none-some op e)
operation_not_adopt same wish.Down x (Some r) l z op e = subst (λ (o : Op). o.verb ≢ verb.Adopt) (same_Some _ op e) (λ v. cc)
operation_not_adopt same wish.Up x r None z op e = absurd (none-some op e)
operation_not_adopt same wish.Up x r (Some l) z op e = subst (λ (o : Op). o.verb ≢ verb.Adopt) (same_Some _ op e) (λ v. cc)
operation_not_adopt same wish.CutDown x r l z op e = subst (λ (o : Op). o.verb ≢ verb.Adopt) (same_Some _ op e) (λ v. cc)
operation_not_adopt same wish.CutUp x r l z op e = subst (λ (o : Op). o.verb ≢ verb.Adopt) (same_Some _ op e) (λ v. cc)
operation_not_adopt same wish.Forget x r l z op e = subst (λ (o : Op). o.verb ≢ verb.Adopt) (same_Some _ op e) (λ v. cc)
