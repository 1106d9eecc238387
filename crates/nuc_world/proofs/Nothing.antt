-- What holds of no news.
use Rattle.std.proofs.Common.{◌≡◌, [], ◌∷◌, List, subst}
use Rattle.std.specs.Prelude.{Option, None, Some, IfSome, IsSomeAnd}
use Rattle.nuc_journal.specs.declared.entry.Entry.{Entry}
use Rattle.nuc_replica.specs.Remote.{Agree, Follows, RemoteState}

pub nothing_agrees : (es : List Entry) → Agree es []
nothing_agrees [] = tt
nothing_agrees (e ∷ es) = tt

pub nothing_follows : (s : RemoteState) → Follows s []
nothing_follows s = record { goes_on = tt; agrees = nothing_agrees s.ahead }

pub if_some : {A : Type 0} (P : A → Type 0) (o : Option A) → ((x : A) → P x) → IfSome o P
if_some P None each = tt
if_some P (Some x) each = each x

pub some_and : {A : Type 0} (P : A → Type 0) (o : Option A) (x : A) → Some x ≡ o → P x → IsSomeAnd o P
some_and P o x is holds = subst (λ p. IsSomeAnd p P) is holds
