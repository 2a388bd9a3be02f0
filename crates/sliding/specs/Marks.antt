-- Which numbers are the marks of the sliding kind: exactly m × 2^e, e from −24 to 8, each in one stored form.
use Rattle.std.specs.Prelude.{◌≡◌, ℕ, ◌≤◌, ℤ, unsigned_abs}
use Rattle.std.proofs.Common.{lit<}
use Rattle.exact.specs.Fraction.{ratio, ◌≈◌}
use Rattle.sliding.specs.Cut.{shifted}
use Rattle.sliding.specs.Form.{Normal}
use Rattle.sliding.specs.Grid.{sliding_model}
use Rattle.sliding.specs.declared.mark.Sliding.{Sliding}

pub record SlidingMarks : Type 0 where
  pub each : (m : ℤ) (s : ℕ) → unsigned_abs m ≤ 16777215 → s ≤ 32 → (a : Sliding) × (sliding_model.value a ≈ ratio (shifted m s) 16777216 (lit< tt))
  pub only : (a : Sliding) → (m : ℤ) × (s : ℕ) × Normal m s × (sliding_model.value a ≈ ratio (shifted m s) 16777216 (lit< tt))
  pub once : (m n : ℤ) (s t : ℕ) → Normal m s → Normal n t → shifted m s ≡ shifted n t → (m ≡ n) × (s ≡ t)
