-- Which numbers are the marks of the fixed kind: exactly m/65,536 with m a count.
use Rattle.std.specs.Prelude.{◌≤◌, ℤ, unsigned_abs}
use Rattle.std.proofs.Common.{lit<}
use Rattle.exact.specs.Fraction.{ratio, ◌≈◌}
use Rattle.fixed.specs.Grid.{fixed_model}
use Rattle.fixed.specs.declared.mark.Fixed.{Fixed}

pub record FixedMarks : Type 0 where
  pub each : (m : ℤ) → unsigned_abs m ≤ 1073741823 → (a : Fixed) × (fixed_model.value a ≈ ratio m 65536 (lit< tt))
  pub only : (a : Fixed) → (m : ℤ) × (unsigned_abs m ≤ 1073741823) × (fixed_model.value a ≈ ratio m 65536 (lit< tt))
