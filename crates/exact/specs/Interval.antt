-- All fractions from one end to another.
use Rattle.exact.specs.Fraction.{Frac, ◌≤F◌}

pub record Interval : Type 0 where
  pub lo : Frac
  pub hi : Frac

pub record In (x : Frac) (S : Interval) : Type 0 where
  pub low : S.lo ≤F x
  pub high : x ≤F S.hi
