-- Numbers at a place of a list of bytes.
use Rattle.std.specs.Prelude.{◌≡◌, ℕ, ◌+◌, List, drop, Ok, Err, Result}
use Rattle.fault.specs.Refusals.{after, refused}
use Rattle.fault.specs.declared.fault.Cause.{Cause}
use Rattle.fault.specs.declared.fault.Fault.{Fault}
use Rattle.leb.specs.Numbers.{decode, size}

-- a refusal gets its place
abbrev pub placed : {X : Type 0} → ℕ → Result X Cause → Result X Fault
placed place (Ok x) = Ok x
placed place (Err cause) = refused cause place

-- the number at a place and where it ends; a refusal has the first byte of its line as place
abbrev pub number_at : List ℕ → ℕ → ℕ → Result (ℕ × ℕ) Fault
number_at bytes at line = after (placed line (decode (drop at bytes))) (λ n. Ok (n, at + size (drop at bytes)))

-- what a reader answers and where it then stands: behind what was read, and where it was on a refusal
abbrev pub Stands : {X : Type 0} → Result (X × ℕ) Fault → Result X Fault → ℕ → ℕ → Type 0
Stands (Ok p) r from to = (r ≡ Ok p.0) × (to ≡ p.1)
Stands (Err e) r from to = (r ≡ Err e) × (to ≡ from)
