-- What equals an operation on spans has its law.
use Rattle.std.proofs.Common.{◌≡◌, ℤ, Option, sym, subst}
use Rattle.kind.specs.Model.{Model, Rules}
use Rattle.span.specs.Laws.{CountsLaw, DifferenceLaw, HullLaw, MagnitudeLaw, MeetLaw, ProductLaw, QuotientLaw, SquareLaw, SumLaw}
use Rattle.span.specs.Spans.{difference, hull, magnitude, meet, of_counts, product, quotient, square, sum}
use Rattle.span.specs.declared.span.Span.{Span}
use Rattle.span.proofs.MagnitudeNarrow as magnitudes
use Rattle.span.proofs.ProductNarrow as products
use Rattle.span.proofs.QuotientNarrow as quotients
use Rattle.span.proofs.SumNarrow as sums

module _ {K : Type 0} (m : Model K) (rules : Rules m) where
  pub sum_law : (s t : Span K) (r : Option (Span K)) → r ≡ sum m s t → SumLaw m s t r
  sum_law s t r e = subst (SumLaw m s t) (sym e) (sums.sum_narrow m rules s t)

  pub difference_law : (s t : Span K) (r : Option (Span K)) → r ≡ difference m s t → DifferenceLaw m s t r
  difference_law s t r e = subst (DifferenceLaw m s t) (sym e) (sums.difference_narrow m rules s t)

  pub hull_law : (s t r : Span K) → r ≡ hull m s t → HullLaw m s t r
  hull_law s t r e = subst (HullLaw m s t) (sym e) (sums.hull_narrow m rules s t)

  pub met_law : (s t r : Span K) → r ≡ meet m s t → MeetLaw m s t r
  met_law s t r e = subst (MeetLaw m s t) (sym e) (sums.meet_law m s t)

  pub counts_law : (lower upper : ℤ) (r : Option (Span K)) → r ≡ of_counts m lower upper → CountsLaw m lower upper r
  counts_law lower upper r e = subst (CountsLaw m lower upper) (sym e) (sums.counts_narrow m rules lower upper)

  pub product_law : (s t : Span K) (r : Option (Span K)) → r ≡ product m s t → ProductLaw m s t r
  product_law s t r e = subst (ProductLaw m s t) (sym e) (products.product_narrow m rules s t)

  pub quotient_law : (s t : Span K) (r : Option (Span K)) → r ≡ quotient m s t → QuotientLaw m s t r
  quotient_law s t r e = subst (QuotientLaw m s t) (sym e) (quotients.quotient_law m rules s t)

  pub magnitude_law : (s r : Span K) → r ≡ magnitude m s → MagnitudeLaw m s r
  magnitude_law s r e = subst (MagnitudeLaw m s) (sym e) (magnitudes.magnitude_narrow m rules s)

  pub square_law : (s : Span K) (r : Option (Span K)) → r ≡ square m s → SquareLaw m s r
  square_law s r e = subst (SquareLaw m s) (sym e) (magnitudes.square_narrow m rules s)
