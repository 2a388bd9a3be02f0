-- The slopes of a quotient by a divisor that stands still.
use Rattle.std.specs.Prelude.{Option}
use Rattle.exact.specs.Optional.{◌>>=◌}
use Rattle.kind.specs.Model.{Model}
use Rattle.slope.specs.Rules.{three}
use Rattle.slope.specs.declared.record.Record.{Record}
use Rattle.slope.specs.declared.record.Slopes.{Slopes}
use Rattle.span.specs.Spans.{quotient}

-- A = Au / V; B = Bu / V0; C = Cu / V
abbrev pub over_still : {K : Type 0} → Model K → Slopes K → Record K → Option (Slopes K)
over_still m s q = quotient m s.a q.u >>= (λ a. quotient m s.b q.u0 >>= (λ b. quotient m s.c q.u >>= (λ c. three a b c)))
