-- The operations on spans, end by end: the definitions that records compute with.
use Rattle.std.specs.Prelude.{Bool, cond, ◌&&◌, ℤ, Some, None, Option}
use Rattle.exact.specs.Optional.{◌>>=◌}
use Rattle.kind.specs.Model.{Model, at_most, sum_below, sum_above, product_below, product_above, least_below, greatest_above, quotient_below, quotient_above, count_below, count_above}
use Rattle.span.specs.declared.span.Span.{Span}

module _ {K : Type 0} (m : Model K) where
  abbrev pub span : K → K → Span K
  span a b = record { lower = a; upper = b }

  -- [v]
  abbrev pub point : K → Span K
  point v = span v v

  abbrev pub zero_span : Span K
  zero_span = point m.nought

  abbrev pub one_span : Span K
  one_span = point m.unit

  -- a span from two ends that may be absent
  abbrev pub ends : Option K → Option K → Option (Span K)
  ends a b = a >>= (λ x. b >>= (λ y. Some (span x y)))

  -- the span of a range of counts
  abbrev pub of_counts : ℤ → ℤ → Option (Span K)
  of_counts lower upper = ends (count_below m lower) (count_above m upper)

  abbrev pub lesser_mark : K → K → K
  lesser_mark a b = cond (at_most m a b) a b

  abbrev pub greater_mark : K → K → K
  greater_mark a b = cond (at_most m a b) b a

  abbrev pub from_zero : K → Bool
  from_zero a = at_most m m.nought a

  abbrev pub to_zero : K → Bool
  to_zero a = at_most m a m.nought

  abbrev pub holds_zero : Span K → Bool
  holds_zero s = to_zero s.lower && from_zero s.upper

  abbrev pub is_nought : K → Bool
  is_nought a = to_zero a && from_zero a

  -- the span is [0]
  abbrev pub is_zero : Span K → Bool
  is_zero s = is_nought s.lower && is_nought s.upper

  -- the span is [1]
  abbrev pub is_one : Span K → Bool
  is_one s = ((at_most m m.unit s.lower && at_most m s.upper m.unit) && at_most m s.lower m.unit) && at_most m m.unit s.upper

  -- k where the span is [k]
  abbrev pub sole : Span K → Option K
  sole s = cond (at_most m s.upper s.lower && at_most m s.lower s.upper) (Some s.lower) None

  -- s's lower end is not below t's upper end
  abbrev pub clears : Span K → Span K → Bool
  clears s t = at_most m t.upper s.lower

  -- the ends in order
  abbrev pub sorted : Span K → Span K
  sorted s = span (lesser_mark s.lower s.upper) (greater_mark s.lower s.upper)

  abbrev pub negated : Span K → Span K
  negated s = span (m.opposite s.upper) (m.opposite s.lower)

  abbrev pub hull : Span K → Span K → Span K
  hull s t = span (lesser_mark s.lower t.lower) (greater_mark s.upper t.upper)

  -- each end the greater, or the lesser, of the two
  abbrev pub greater : Span K → Span K → Span K
  greater s t = span (greater_mark s.lower t.lower) (greater_mark s.upper t.upper)

  abbrev pub lesser : Span K → Span K → Span K
  lesser s t = span (lesser_mark s.lower t.lower) (lesser_mark s.upper t.upper)

  -- the intersection; empty, the lower end above the upper, where there is nothing in both
  abbrev pub meet : Span K → Span K → Span K
  meet s t = span (greater_mark s.lower t.lower) (lesser_mark s.upper t.upper)

  abbrev pub sum : Span K → Span K → Option (Span K)
  sum s t = ends (sum_below m s.lower t.lower) (sum_above m s.upper t.upper)

  abbrev pub difference : Span K → Span K → Option (Span K)
  difference s t = sum s (negated t)

  -- a × b rounded down, and c × d rounded up
  abbrev pub corners : K → K → K → K → Option (Span K)
  corners a b c d = ends (product_below m a b) (product_above m c d)

  -- of the four products of an end of s with an end of t the least, rounded down, and the greatest, rounded up
  abbrev pub product : Span K → Span K → Option (Span K)
  product s t = ends (least_below m s.lower s.upper t.lower t.upper) (greatest_above m s.lower s.upper t.lower t.upper)

  abbrev pub magnitude : Span K → Span K
  magnitude s =
      cond (from_zero s.lower) s
      (cond (to_zero s.upper) (negated s) (span m.nought (greater_mark (m.opposite s.lower) s.upper)))

  -- the square of the magnitude
  abbrev pub square : Span K → Option (Span K)
  square s = corners (magnitude s).lower (magnitude s).lower (magnitude s).upper (magnitude s).upper

  -- a / b rounded down, and c / d rounded up
  abbrev pub ratios : K → K → K → K → Option (Span K)
  ratios a b c d = ends (quotient_below m a b) (quotient_above m c d)

  -- divisors above 0
  abbrev pub quotient_up : Span K → Span K → Option (Span K)
  quotient_up s t =
      ratios s.lower (cond (from_zero s.lower) t.upper t.lower) s.upper (cond (to_zero s.upper) t.upper t.lower)

  -- divisors below 0
  abbrev pub quotient_down : Span K → Span K → Option (Span K)
  quotient_down s t =
      ratios s.upper (cond (to_zero s.upper) t.lower t.upper) s.lower (cond (from_zero s.lower) t.lower t.upper)

  abbrev pub quotient : Span K → Span K → Option (Span K)
  quotient s t =
      cond (to_zero t.lower) (cond (from_zero t.upper) None (quotient_down s t)) (quotient_up s t)
