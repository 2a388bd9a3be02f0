-- For any kind: spans that lie within others have answers that are there too, and lie within theirs.
use Rattle.std.specs.Prelude.{◌≡◌, ℤ, Some, Option}
use Rattle.exact.specs.Fraction.{Frac, neg_F, ◌≈◌, ◌≤F◌}
use Rattle.kind.specs.Model.{Model, count}
use Rattle.span.specs.Narrowest.{Held, Inner, Ordered, Within}
use Rattle.span.specs.Spans as spans
use Rattle.span.specs.declared.span.Span.{Span}

module _ {K : Type 0} (m : Model K) where
  -- of an operation on two ordered spans, and on one
  abbrev pub Two : (Span K → Span K → Option (Span K)) → Type 0
  Two f = (s t s' t' w : Span K) → Ordered m s → Ordered m t → Ordered m s' → Ordered m t' → Within m s' s → Within m t' t → f s t ≡ Some w → Inner m (f s' t') w

  abbrev pub One : (Span K → Option (Span K)) → Type 0
  One f = (s s' w : Span K) → Ordered m s → Ordered m s' → Within m s' s → f s ≡ Some w → Inner m (f s') w

  -- of an operation that is always there, on spans in any order
  abbrev pub Always : (Span K → Span K → Span K) → Type 0
  Always f = (s t s' t' : Span K) → Within m s' s → Within m t' t → Within m (f s' t') (f s t)

pub record Nested {K : Type 0} (m : Model K) : Type 0 where
  -- what lies in a span lies in each that it lies within
  pub held : (s t : Span K) → Within m s t → (x : Frac) → Held m s x → Held m t x
  -- in [v] lies v alone, and in the negative of a span what has its negative in the span
  pub point : (v : K) (x : Frac) → Held m (spans.point m v) x → x ≈ m.value v
  pub own : (v : K) → Held m (spans.point m v) (m.value v)
  pub negated : (s : Span K) (x : Frac) → Held m (spans.negated m s) x → Held m s (neg_F x)
  pub opposite : (s : Span K) (x : Frac) → Held m s x → Held m (spans.negated m s) (neg_F x)
  pub negated_within : (s s' : Span K) → Within m s' s → Within m (spans.negated m s') (spans.negated m s)
  pub sum : Two m (spans.sum m)
  pub difference : Two m (spans.difference m)
  pub product : Two m (spans.product m)
  pub quotient : Two m (spans.quotient m)
  pub square : One m (spans.square m)
  pub magnitude : (s s' : Span K) → Ordered m s → Ordered m s' → Within m s' s → Within m (spans.magnitude m s') (spans.magnitude m s)
  pub greater : Always m (spans.greater m)
  pub lesser : Always m (spans.lesser m)
  pub hull : Always m (spans.hull m)
  pub meet : Always m (spans.meet m)
  pub of_counts : (l u l' u' : ℤ) (s s' : Span K) → spans.of_counts m l u ≡ Some s → spans.of_counts m l' u' ≡ Some s' → count l ≤F count l' → count l' ≤F count u' → count u' ≤F count u → Within m s' s
