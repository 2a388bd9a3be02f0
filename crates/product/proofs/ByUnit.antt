-- What slopes [1], [1], [0] leave of the product's rule.
use Rattle.std.proofs.Common.{◌≡◌, true, Some}
use Rattle.kind.specs.Model.{Model, Rules}
use Rattle.product.specs.Unit.{by_unit, of_units, unit_by}
use Rattle.slope.proofs.Unit.{is_unit_is}
use Rattle.slope.specs.Rules.{is_unit, product_slopes}
use Rattle.slope.specs.declared.record.Record.{Record}
use Rattle.slope.specs.declared.record.Slopes.{Slopes}
use Rattle.span.proofs.SumNarrow.{sum_turned}
use Rattle.span.proofs.Unit.{one_one, one_product, product_one}
use Rattle.span.proofs.Zero.{product_zero, sum_zero, zero_product, zero_sum}
use Rattle.span.specs.Spans.{sorted}

module _ {K : Type 0} (m : Model K) (rules : Rules m) (p q : Record K) (s t : Slopes K) (es : p.slopes ≡ Some s) (et : q.slopes ≡ Some t) where
  pub by_unit_is : is_unit m t ≡ true → product_slopes m p q ≡ by_unit m p s q
  by_unit_is h = rw (es, et, is_unit_is m rules t h) (simp (product_one m rules, product_zero m rules, sum_zero m rules))

  pub unit_by_is : is_unit m s ≡ true → product_slopes m p q ≡ unit_by m p q t
  unit_by_is h = rw (es, et, is_unit_is m rules s h)
      (simp (one_product m rules, zero_product m rules, zero_sum m rules, sum_turned m rules (sorted m q.u0)))

  pub of_units_is : is_unit m s ≡ true → is_unit m t ≡ true → product_slopes m p q ≡ of_units m p q
  of_units_is h h' = rw (es, et, is_unit_is m rules s h, is_unit_is m rules t h')
      (simp (one_one m rules, one_product m rules, product_one m rules, zero_product m rules, product_zero m rules, zero_sum m rules))
