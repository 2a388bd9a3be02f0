-- The third slope of a product, beside the first two.
use Rattle.std.specs.Prelude.{Option}
use Rattle.exact.specs.Optional.{◌>>=◌}
use Rattle.kind.specs.Model.{Model}
use Rattle.slope.specs.Rules.{three}
use Rattle.slope.specs.declared.record.Record.{Record}
use Rattle.slope.specs.declared.record.Slopes.{Slopes}
use Rattle.span.specs.Spans.{product, sum}
use Rattle.span.specs.declared.span.Span.{Span}

-- C = Cu × V0 + U × Cv + Au × Bv
abbrev pub bent_slopes : {K : Type 0} → Model K → Span K → Span K → Record K → Record K → Option (Slopes K)
bent_slopes m a b p q =
    p.slopes >>= (λ s. q.slopes >>= (λ t.
    product m s.c q.u0 >>= (λ c1. product m p.u t.c >>= (λ c2. sum m c1 c2 >>= (λ c12.
    product m s.a t.b >>= (λ c3. sum m c12 c3 >>= (λ c. three a b c)))))))
