use Rattle.std.proofs.Common.{sym}
use Rattle.nuc_base.proofs.Commute.{legal_after, same_after, apart-sym}
use Rattle.nuc_base.proofs.laws.either_order.Goals as goal

pub returns : goal.returns
returns c = λ m x y first second form x_below y_below other legal_x legal_y apart. (
  legal_after m x y first second form x_below other legal_x legal_y apart,
  legal_after m y x second first form y_below (λ e. other (sym e)) legal_y legal_x (apart-sym m x y first second apart),
  same_after m x y first second other,
)
