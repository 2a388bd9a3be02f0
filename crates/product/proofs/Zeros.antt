-- What an operand that stands still, and what two straight lines, leave of the product's rule.
use Rattle.std.proofs.Common.{◌≡◌, true, Some, ◌∙◌}
use Rattle.exact.specs.Optional.{◌>>=◌}
use Rattle.kind.specs.Model.{Model, Rules}
use Rattle.product.specs.Bent.{bent_slopes}
use Rattle.product.specs.Scaled.{scaled}
use Rattle.slope.proofs.Zeros.{is_still_is}
use Rattle.slope.specs.Rules.{is_still, product_slopes, three}
use Rattle.slope.specs.declared.record.Record.{Record}
use Rattle.slope.specs.declared.record.Slopes.{Slopes}
use Rattle.span.proofs.Zero.{is_zero_is, product_zero, sum_zero, zero_product, zero_sum}
use Rattle.span.specs.Spans.{is_zero, product}
use Rattle.span.specs.declared.span.Span.{Span}

module _ {K : Type 0} (m : Model K) (rules : Rules m) (p q : Record K) (s t : Slopes K) (es : p.slopes ≡ Some s) (et : q.slopes ≡ Some t) where
  pub by_still : is_still m t ≡ true → product_slopes m p q ≡ scaled m s (record { a = q.u0; b = q.u0; c = q.u0 })
  by_still h = rw (es, et, is_still_is m rules t h) (simp (product_zero m rules, sum_zero m rules))

  pub of_still : is_still m s ≡ true → product_slopes m p q ≡ scaled m (record { a = p.u; b = p.u0; c = p.u }) t
  of_still h = rw (es, et, is_still_is m rules s h) (simp (zero_product m rules, zero_sum m rules, sum_zero m rules))

  pub both_still : is_still m s ≡ true → is_still m t ≡ true → product_slopes m p q ≡ Some s
  both_still h h' = by_still h' ∙ rw (is_still_is m rules s h) (simp (zero_product m rules))

  -- two straight lines
  pub of_straight : (a b : Span K) → is_zero m s.c ≡ true → is_zero m t.c ≡ true →
      bent_slopes m a b p q ≡ (product m s.a t.b >>= (λ c. three a b c))
  of_straight a b h h' =
      rw (es, et, is_zero_is m rules s.c h, is_zero_is m rules t.c h') (simp (product_zero m rules, zero_product m rules, zero_sum m rules))
