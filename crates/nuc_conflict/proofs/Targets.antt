-- Where a Down puts a node in Local.
use Rattle.std.proofs.Common.{◌≡◌, ◌≢◌, Bool, true, false, cond, Option, None, Some, refl, ap}
use Rattle.nuc_base.specs.declared.node.Node.{Node}
use Rattle.nuc_base.specs.declared.node.Place.{Place}
use Rattle.nuc_class.specs.Equal.{place_eq}
use Rattle.nuc_class.specs.Going.{Stays}
use Rattle.nuc_class.specs.Merge.{target}
use Rattle.nuc_class.proofs.Tells.{place_eq-Decides}

pub target_kind : (n : Node) (l s : Option Node) → (target n l s).kind ≡ n.kind
target_kind n None s = refl
target_kind n (Some l) None = refl
target_kind n (Some l) (Some s) = refl

place_is : (p q : Place) → p ≡ q → place_eq p q ≡ true
place_is p q e = (place_eq-Decides p q).1 e

place_other : (p q : Place) → p ≢ q → place_eq p q ≡ false
place_other p q apart = off (place_eq p q) (λ t. apart ((place_eq-Decides p q).0 t))
  where
    off : (b : Bool) → (b ≡ true → ⊥) → b ≡ false
    off true none = absurd (none refl)
    off false none = refl

-- it is Local's place, where Remote's is Synced's
pub target_keeps : (n own : Node) (s : Option Node) → Stays (Some n) (Some own) s → (target n (Some own) s).place ≡ own.place
target_keeps n own None stays = absurd stays
target_keeps n own (Some s) stays = ap (λ b. cond b own.place n.place) (place_is n.place s.place stays)

-- else it is Remote's
pub target_takes : (n : Node) (l s : Option Node) → ¬ (Stays (Some n) l s) → (target n l s).place ≡ n.place
target_takes n None s moved = refl
target_takes n (Some l) None moved = refl
target_takes n (Some l) (Some s) moved = ap (λ b. cond b l.place n.place) (place_other n.place s.place moved)
