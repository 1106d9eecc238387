use Rattle.std.proofs.Common.{Result, Ok, Err}
use Rattle.std.specs.Result.{IfOk, OnOk}

-- what follows from two facts about a value that is returned
pub both_ok : {T E : Type 0} (r : Result T E) (P : Type 0) (Q R : T → Type 0) → OnOk r P → IfOk r Q → ((x : T) → P → Q x → R x) → IfOk r R
both_ok (Ok x) P Q R p q f = f x p q
both_ok (Err e) P Q R p q f = tt
