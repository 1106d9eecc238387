-- What reading gives: a value, or the first fault.
use Rattle.std.specs.Prelude.{◌≡◌, Result, Ok, Err}
use Rattle.nuc_script.specs.declared.fault.LineFault.{LineFault}
use Rattle.nuc_script.specs.declared.fault.Stop.{Stop}
use Rattle.nuc_script.specs.declared.fault.Stop.TheVariants as stop

infixl 10 ◌>>=◌
abbrev pub ◌>>=◌ : {A B : Type 0} → Result A LineFault → (A → Result B LineFault) → Result B LineFault
(Ok x) >>= f = f x
(Err fault) >>= f = Err fault

abbrev pub Stops : {Y : Type 0} → Stop → Result Y LineFault → Type 0
Stops stop.Memory meaning = Unit {0}
Stops (stop.Fault fault) meaning = meaning ≡ Err fault

-- what a call answered, as it is seen, is what is meant, unless memory was wanted
abbrev pub Gives : {X Y : Type 0} → (X → Y) → Result X Stop → Result Y LineFault → Type 0
Gives seen (Ok x) meaning = meaning ≡ Ok (seen x)
Gives seen (Err stop) meaning = Stops stop meaning
