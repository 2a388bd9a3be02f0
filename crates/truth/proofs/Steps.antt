-- Members of intervals.
use Rattle.exact.specs.Fraction.{Frac, neg_F}
use Rattle.exact.specs.Interval.{In, Interval}

-- T holds the negatives of S
abbrev pub Mirrored : Interval → Interval → Type 0
Mirrored S T = (x : Frac) → In x S → In (neg_F x) T

-- P is over both
pub record Hull (S T P : Interval) : Type 0 where
  pub left : (x : Frac) → In x S → In x P
  pub right : (x : Frac) → In x T → In x P
