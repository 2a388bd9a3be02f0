-- What a divisor that stands still leaves of the quotient's rule.
use Rattle.std.proofs.Common.{◌≡◌, true, Some}
use Rattle.kind.specs.Model.{Model, Rules}
use Rattle.quotient.specs.Still.{over_still}
use Rattle.slope.proofs.Zeros.{is_still_is}
use Rattle.slope.specs.Rules.{is_still, quotient_slopes}
use Rattle.slope.specs.declared.record.Record.{Record}
use Rattle.slope.specs.declared.record.Slopes.{Slopes}
use Rattle.span.proofs.Zero.{difference_zero, product_zero}
use Rattle.span.specs.declared.span.Span.{Span}

module _ {K : Type 0} (m : Model K) (rules : Rules m) (p q : Record K) (w0 : Span K) (s t : Slopes K) (es : p.slopes ≡ Some s) (et : q.slopes ≡ Some t) where
  pub by_still : is_still m t ≡ true → quotient_slopes m p q w0 ≡ over_still m s q
  by_still h = rw (es, et, is_still_is m rules t h) (simp (product_zero m rules, difference_zero m rules))
