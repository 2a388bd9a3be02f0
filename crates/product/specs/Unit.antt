-- The slopes of a product of U, U0 and slopes Au, Bu, Cu with V, V0 and slopes Av, Bv, Cv, where some are [1], [1], [0].
use Rattle.std.specs.Prelude.{Option}
use Rattle.exact.specs.Optional.{◌>>=◌}
use Rattle.kind.specs.Model.{Model}
use Rattle.product.specs.Scaled.{all}
use Rattle.slope.specs.Rules.{three}
use Rattle.slope.specs.declared.record.Record.{Record}
use Rattle.slope.specs.declared.record.Slopes.{Slopes}
use Rattle.span.specs.Spans.{one_span, product, sorted, sum}

module _ {K : Type 0} (m : Model K) where
  -- x × y + z part by part, the ends of z in order, or none
  abbrev pub scaled_sum : Slopes K → Slopes K → Slopes K → Option (Slopes K)
  scaled_sum x y z =
      product m x.a y.a >>= (λ a1. sum m a1 (sorted m z.a) >>= (λ a.
      product m x.b y.b >>= (λ b1. sum m b1 (sorted m z.b) >>= (λ b.
      product m x.c y.c >>= (λ c1. sum m c1 (sorted m z.c) >>= (λ c. three a b c))))))

  -- the second's are: A = Au × V0 + U; B = Bu × V0 + U0; C = Cu × V0 + Au
  abbrev pub by_unit : Record K → Slopes K → Record K → Option (Slopes K)
  by_unit p s q = scaled_sum s (all q.u0) (record { a = p.u; b = p.u0; c = s.a })

  -- the first's are: A = U × Av + V0; B = U0 × Bv + V0; C = U × Cv + Bv
  abbrev pub unit_by : Record K → Record K → Slopes K → Option (Slopes K)
  unit_by p q t = scaled_sum (record { a = p.u; b = p.u0; c = p.u }) t (record { a = q.u0; b = q.u0; c = t.b })

  -- both are: A = V0 + U; B = V0 + U0; C = [1]; or none
  abbrev pub of_units : Record K → Record K → Option (Slopes K)
  of_units p q =
      sum m (sorted m q.u0) (sorted m p.u) >>= (λ a. sum m (sorted m q.u0) (sorted m p.u0) >>= (λ b. three a b (one_span m)))
