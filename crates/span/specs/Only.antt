-- For any kind: whatever has the law of an operation on spans is what the operation answers. So the laws and the definitions
-- end by end say the same of ordered spans.
use Rattle.std.specs.Prelude.{◌≡◌, ℤ, Option}
use Rattle.exact.specs.Fraction.{◌≤F◌}
use Rattle.kind.specs.Model.{Model, count}
use Rattle.span.specs.Laws.{By, Counts, Differences, Either, Magnitudes, MeetLaw, Products, Squares, Sums}
use Rattle.span.specs.Narrowest.{Fitting, Narrowest, Ordered}
use Rattle.span.specs.Spans as spans
use Rattle.span.specs.declared.span.Span.{Span}

pub record Only {K : Type 0} (m : Model K) : Type 0 where
  pub sum : (s t : Span K) (r : Option (Span K)) → Ordered m s → Ordered m t → Narrowest m (Sums m s t) r → r ≡ spans.sum m s t
  pub difference : (s t : Span K) (r : Option (Span K)) → Ordered m s → Ordered m t → Narrowest m (Differences m s t) r → r ≡ spans.difference m s t
  pub product : (s t : Span K) (r : Option (Span K)) → Ordered m s → Ordered m t → Narrowest m (Products m s t) r → r ≡ spans.product m s t
  pub quotient : (s t : Span K) (r : Option (Span K)) → Ordered m s → Ordered m t → By m s t r → r ≡ spans.quotient m s t
  pub square : (s : Span K) (r : Option (Span K)) → Ordered m s → Narrowest m (Squares m s) r → r ≡ spans.square m s
  pub magnitude : (s r : Span K) → Ordered m s → Fitting m (Magnitudes m s) r → r ≡ spans.magnitude m s
  pub hull : (s t r : Span K) → Ordered m s → Ordered m t → Fitting m (Either m s t) r → r ≡ spans.hull m s t
  pub of_counts : (lower upper : ℤ) (r : Option (Span K)) → count lower ≤F count upper → Narrowest m (Counts m lower upper) r → r ≡ spans.of_counts m lower upper
  -- where something lies in both
  pub meet : (s t r : Span K) → Ordered m r → Ordered m (spans.meet m s t) → MeetLaw m s t r → r ≡ spans.meet m s t
