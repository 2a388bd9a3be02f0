-- What the references in an answer point to.
use Rattle.std.specs.Borrow.{Bor}
use Rattle.std.specs.Prelude.{Ok, Err, Result}
use Rattle.fault.specs.declared.fault.Fault.{Fault}

module _ {R : Type 0} where
  abbrev pub lent : Result (Bor R) Fault → Result R Fault
  lent (Ok p) = Ok p.now
  lent (Err e) = Err e

  abbrev pub lent_two : Result (Bor R × Bor R) Fault → Result (R × R) Fault
  lent_two (Ok p) = Ok (p.0.now, p.1.now)
  lent_two (Err e) = Err e
