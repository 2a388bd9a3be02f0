-- What it is for slopes to tell the truth at one point: h is the distance, the swept value minus the centre; u is the exact
-- value at the point, and u0 the one at its centre point.
use Rattle.exact.specs.Fraction.{Frac, ◌*F◌, ◌+F◌, ◌-F◌, ◌≈◌}
use Rattle.exact.specs.Interval.{In, Interval}

-- the two slope forms with their numbers
pub record Slope (h u u0 a b c : Frac) : Type 0 where
  pub first : (u -F u0) ≈ (a *F h)
  pub second : (u -F u0) ≈ (b *F h +F c *F h *F h)

pub record Sloped (A B C : Interval) (h u u0 : Frac) : Type 0 where
  pub a : Frac
  pub b : Frac
  pub c : Frac
  pub a_in : In a A
  pub b_in : In b B
  pub c_in : In c C
  pub slope : Slope h u u0 a b c
