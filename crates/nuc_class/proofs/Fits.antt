-- What an operation puts fits its kind.
use Rattle.std.proofs.Common.{◌≡◌, ◌==◌, ℕ, Bool, true, false, cond, Option, None, Some, refl, ap, sym, subst}
use Rattle.std.proofs.lemmas.Option.{none-some, same_Some}
use Rattle.std.specs.FinMap.{get}
use Rattle.std.specs.Bool.{beq}
use Rattle.nuc_base.specs.Kinds.{Fits, FitsKind}
use Rattle.nuc_base.specs.declared.node.Kind.{Kind}
use Rattle.nuc_base.specs.declared.node.Kind.TheVariants.{Folder, File}
use Rattle.nuc_base.specs.declared.node.Node.{Node}
use Rattle.nuc_base.specs.declared.node.Ver.{Ver}
use Rattle.nuc_class.specs.Due.{FitsOp}
use Rattle.nuc_class.specs.Laws.{OperationsFit}
use Rattle.nuc_class.specs.Merge.{target}
use Rattle.nuc_class.specs.Op.{operation}
use Rattle.nuc_class.specs.declared.op.Op.{Op}
use Rattle.nuc_class.specs.declared.wishes.Wish.{Wish}
use Rattle.nuc_class.specs.declared.wishes.Wish.TheVariants as wish

-- the version of one and the bit of another of one kind
fits_mixed : (kind : Kind) (v w : Ver) (b c t u : Bool) → Fits kind v.0 b → Fits kind w.0 c → Fits kind (cond t v w).0 (cond u b c)
fits_mixed Folder v w b c true true one other = one
fits_mixed Folder v w b c true false one other = (one.0, other.1)
fits_mixed Folder v w b c false true one other = (other.0, one.1)
fits_mixed Folder v w b c false false one other = other
fits_mixed File v w b c true u one other = one
fits_mixed File v w b c false u one other = other

pub target_fits : (r : Node) (l s : Option Node) → FitsKind r → ((n : Node) → l ≡ Some n → FitsKind n × (r.kind ≡ n.kind)) → FitsKind (target r l s)
target_fits r None s fits each = fits
target_fits r (Some l) None fits each = fits
target_fits r (Some l) (Some s) fits each =
    let own = each l refl in
    fits_mixed r.kind l.ver r.ver l.bit r.bit (r.ver.0 == s.ver.0) (beq r.bit s.bit) (subst (λ kind. Fits kind l.ver.0 l.bit) (sym own.1) own.0) fits

operation_fits : (same : ℕ → ℕ → Bool) (w : Wish) (x : ℕ) (r l s : Option Node) → ((n : Node) → r ≡ Some n → FitsKind n)
    → ((n : Node) → l ≡ Some n → FitsKind n) → ((n h : Node) → r ≡ Some n → l ≡ Some h → n.kind ≡ h.kind)
    → (op : Op) → operation same w x r l s ≡ Some op → FitsOp op
operation_fits same wish.Split x r l s remote local kinds op e = absurd (none-some op e)
operation_fits same wish.Nothing x r l s remote local kinds op e = absurd (none-some op e)
operation_fits same wish.Down x None l s remote local kinds op e = absurd (none-some op e)
operation_fits same wish.Down x (Some r) l s remote local kinds op e = subst FitsOp (same_Some _ op e)
    (record { remote = tt; local = target_fits r l s (remote r refl) (λ n at. (local n at, kinds r n refl at)); synced = remote r refl })
operation_fits same wish.Up x r None s remote local kinds op e = absurd (none-some op e)
operation_fits same wish.Up x r (Some l) s remote local kinds op e =
    subst FitsOp (same_Some _ op e) (record { remote = local l refl; local = tt; synced = local l refl })
operation_fits same wish.CutDown x r l s remote local kinds op e = subst FitsOp (same_Some _ op e) (record { remote = tt; local = tt; synced = tt })
operation_fits same wish.CutUp x r l s remote local kinds op e = subst FitsOp (same_Some _ op e) (record { remote = tt; local = tt; synced = tt })
operation_fits same wish.Forget x r l s remote local kinds op e = subst FitsOp (same_Some _ op e) (record { remote = tt; local = tt; synced = tt })

-- and the operation is of this identity
pub operation_id : (same : ℕ → ℕ → Bool) (w : Wish) (x : ℕ) (r l s : Option Node) (op : Op) → operation same w x r l s ≡ Some op → op.id.0 ≡ x
operation_id same wish.Split x r l s op e = absurd (none-some op e)
operation_id same wish.Nothing x r l s op e = absurd (none-some op e)
operation_id same wish.Down x None l s op e = absurd (none-some op e)
operation_id same wish.Down x (Some r) l s op e = sym (ap (λ (o : Op). o.id.0) (same_Some _ op e))
operation_id same wish.Up x r None s op e = absurd (none-some op e)
operation_id same wish.Up x r (Some l) s op e = sym (ap (λ (o : Op). o.id.0) (same_Some _ op e))
operation_id same wish.CutDown x r l s op e = sym (ap (λ (o : Op). o.id.0) (same_Some _ op e))
operation_id same wish.CutUp x r l s op e = sym (ap (λ (o : Op). o.id.0) (same_Some _ op e))
operation_id same wish.Forget x r l s op e = sym (ap (λ (o : Op). o.id.0) (same_Some _ op e))

pub operations_fit : OperationsFit
operations_fit same r l s x w op remote local kinds e =
    operation_fits same w x (get r x) (get l x) (get s x) (remote.fits x) (local.fits x) (kinds x) op e
