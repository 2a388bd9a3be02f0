-- The lifting rule as it is computed, without what [0] adds.
use Rattle.std.specs.Prelude.{cond, Option}
use Rattle.exact.specs.Optional.{◌>>=◌}
use Rattle.kind.specs.Model.{Model}
use Rattle.slope.specs.Rules.{three}
use Rattle.slope.specs.declared.record.Shape.{Shape}
use Rattle.slope.specs.declared.record.Slopes.{Slopes}
use Rattle.span.specs.Spans as spans

module _ {K : Type 0} (m : Model K) where
  -- A = G × Au; B = E × Bu; C = (K × Au) × Bu, and G × Cu is added where Cu is not [0]
  abbrev pub bent : Shape K → Slopes K → Option (Slopes K)
  bent f s =
      spans.product m f.g s.a >>= (λ a. spans.product m f.e s.b >>= (λ b.
      spans.product m f.k s.a >>= (λ c1. spans.product m c1 s.b >>= (λ c2.
      cond (spans.is_zero m s.c) (three a b c2) (spans.product m f.g s.c >>= (λ c3. spans.sum m c3 c2 >>= (λ c. three a b c)))))))

  -- A = [g] × Au; B = [e] × Bu; C = [g] × Cu
  abbrev pub scaled : K → K → Slopes K → Option (Slopes K)
  scaled g e s =
      spans.product m (spans.point m g) s.a >>= (λ a. spans.product m (spans.point m e) s.b >>= (λ b.
      spans.product m (spans.point m g) s.c >>= (λ c. three a b c)))
