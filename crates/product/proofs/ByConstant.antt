-- The record of a constant, and what it leaves of the product.
use Rattle.std.proofs.Common.{◌≡◌, true, Some, Option, ap, ap₂, subst, ◌∙◌}
use Rattle.exact.proofs.Order.{le_F_yes, ≤F_antisym}
use Rattle.exact.specs.Optional.{◌>>=◌}
use Rattle.kind.specs.Model.{Model, Rules, at_most}
use Rattle.product.specs.Scaled.{slopes_times, times_slopes}
use Rattle.slope.proofs.Zeros.{is_still_is}
use Rattle.slope.specs.Rules.{is_still, product_slopes, rec, still}
use Rattle.slope.specs.declared.record.Record.{Record}
use Rattle.slope.specs.declared.record.Slopes.{Slopes}
use Rattle.span.proofs.Points.{sole_is}
use Rattle.span.proofs.Zero.{product_zero, sum_zero, zero_product, zero_sum}
use Rattle.span.specs.Spans.{point, sole}
use Rattle.span.specs.declared.span.Span.{Span}
use Rattle.slope.specs.Rules as records
use Rattle.span.specs.Spans as spans

-- the record of U, U0 and slopes, where the spans are there
abbrev pub made : {K : Type 0} → Option (Span K) → Option (Span K) → Option (Slopes K) → Option (Record K)
made u u0 s = u >>= (λ x. u0 >>= (λ x0. Some (rec x x0 s)))

module _ {K : Type 0} (m : Model K) (rules : Rules m) (p : Record K) where
  -- U is [k], U0 is [k0], each of k and k0 at most the other, and the slopes [0]
  pub constant_is : (k k0 : K) (s : Slopes K) → sole m p.u ≡ Some k → sole m p.u0 ≡ Some k0 → p.slopes ≡ Some s →
      at_most m k k0 ≡ true → at_most m k0 k ≡ true → is_still m s ≡ true → (j : K) → Some k ≡ Some j → p ≡ still m (point m j)
  constant_is k k0 s eu e0 es a b h j e = subst (λ x. p ≡ still m (point m x)) (cc) (
      let same : k0 ≡ k = rules.distinct _ _ (≤F_antisym (le_F_yes _ _ b) (le_F_yes _ _ a)) in
      ap₂ (λ u u0. rec u u0 p.slopes) (sole_is m rules p.u k eu) (sole_is m rules p.u0 k0 e0 ∙ ap (point m) same)
      ∙ ap (rec (point m k) (point m k)) (es ∙ ap Some (is_still_is m rules s h)))

  -- ---- the product by a constant, on either side
  module _ (x : Span K) where
    slopes_by : product_slopes m p (still m x) ≡ slopes_times m p.slopes x
    slopes_by = simp (product_zero m rules, sum_zero m rules)

    by_slopes : product_slopes m (still m x) p ≡ times_slopes m x p.slopes
    by_slopes = simp (zero_product m rules, zero_sum m rules, sum_zero m rules)

    pub by_constant : records.product m p (still m x) ≡ made (spans.product m p.u x) (spans.product m p.u0 x) (slopes_times m p.slopes x)
    by_constant = ap (made (spans.product m p.u x) (spans.product m p.u0 x)) slopes_by

    pub constant_by : records.product m (still m x) p ≡ made (spans.product m x p.u) (spans.product m x p.u0) (times_slopes m x p.slopes)
    constant_by = ap (made (spans.product m x p.u) (spans.product m x p.u0)) by_slopes

    -- slopes that are [0] stay as they are
    module _ (s : Slopes K) (es : p.slopes ≡ Some s) (h : is_still m s ≡ true) where
      pub still_times : slopes_times m p.slopes x ≡ Some s
      still_times = rw (es, is_still_is m rules s h) (simp (zero_product m rules))

      pub times_still : times_slopes m x p.slopes ≡ Some s
      times_still = rw (es, is_still_is m rules s h) (simp (product_zero m rules))
