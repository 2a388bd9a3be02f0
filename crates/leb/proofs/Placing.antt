-- A refusal that got its place.
use Rattle.std.proofs.Common.{◌≡◌, ℕ, Ok, Err, Result}
use Rattle.fault.proofs.Steps.{err_ok}
use Rattle.fault.specs.declared.fault.Cause.{Cause}
use Rattle.leb.specs.Places.{placed}

pub placed_ok : {X : Type 0} (place : ℕ) (r : Result X Cause) (x : X) → placed place r ≡ Ok x → r ≡ Ok x
placed_ok place (Ok y) x e = cc
placed_ok place (Err c) x e = absurd (err_ok e)
