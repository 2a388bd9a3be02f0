-- Refusing at a place, and going on only with what was not refused.
use Rattle.std.specs.Prelude.{ℕ, Some, None, Ok, Err, Option, Result}
use Rattle.fault.specs.declared.fault.Cause.{Cause}
use Rattle.fault.specs.declared.fault.Fault.{Fault}

abbrev pub refused : {X : Type 0} → Cause → ℕ → Result X Fault
refused cause place = Err (record { cause = cause; place = place })

-- what is absent is refused
abbrev pub found : {X : Type 0} → Cause → ℕ → Option X → Result X Fault
found cause place None = refused cause place
found cause place (Some x) = Ok x

-- a refusal ends the steps
abbrev pub after : {X Y : Type 0} → Result X Fault → (X → Result Y Fault) → Result Y Fault
after (Ok x) f = f x
after (Err e) f = Err e
