-- Three products, or none.
use Rattle.std.specs.Prelude.{Option}
use Rattle.exact.specs.Optional.{◌>>=◌}
use Rattle.kind.specs.Model.{Model}
use Rattle.slope.specs.Rules.{three}
use Rattle.slope.specs.declared.record.Slopes.{Slopes}
use Rattle.span.specs.Spans.{product}
use Rattle.span.specs.declared.span.Span.{Span}

abbrev pub scaled : {K : Type 0} → Model K → Slopes K → Slopes K → Option (Slopes K)
scaled m x y = product m x.a y.a >>= (λ a. product m x.b y.b >>= (λ b. product m x.c y.c >>= (λ c. three a b c)))

-- one span thrice
abbrev pub all : {K : Type 0} → Span K → Slopes K
all x = record { a = x; b = x; c = x }

-- each slope by one span, on either side
abbrev pub slopes_times : {K : Type 0} → Model K → Option (Slopes K) → Span K → Option (Slopes K)
slopes_times m o x = o >>= (λ s. scaled m s (all x))

abbrev pub times_slopes : {K : Type 0} → Model K → Span K → Option (Slopes K) → Option (Slopes K)
times_slopes m x o = o >>= (λ s. scaled m (all x) s)
