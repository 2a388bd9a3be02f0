-- Curves: the one lifting rule, and the shapes of the square and the magnitude.
use Rattle.std.specs.Prelude.{◌≡◌, cond, Some, Option, Result}
use Rattle.exact.specs.Fraction.{Frac}
use Rattle.exact.specs.Optional.{◌>>=◌}
use Rattle.fault.specs.declared.fault.Fault.{Fault}
use Rattle.kind.specs.Model.{Model}
use Rattle.span.specs.Narrowest.{Held, Inner, Ordered, Within, interval}
use Rattle.span.specs.declared.span.Span.{Span}
use Rattle.truth.specs.Curve.{CurveLaw}
use Rattle.slope.specs.Rules.{rec, three}
use Rattle.slope.specs.Truth.{Told, True}
use Rattle.slope.specs.declared.record.Record.{Record}
use Rattle.slope.specs.declared.record.Shape.{Shape}
use Rattle.slope.specs.declared.record.Slopes.{Slopes}
use Rattle.span.specs.Spans as spans

module _ {K : Type 0} (m : Model K) where
  -- ---- A = G × Au; B = E × Bu; C = G × Cu + (K × Au) × Bu
  abbrev pub lift_slopes : Shape K → Option (Slopes K) → Option (Slopes K)
  lift_slopes f o = o >>= (λ s.
      spans.product m f.g s.a >>= (λ a. spans.product m f.e s.b >>= (λ b.
      spans.product m f.g s.c >>= (λ c1. spans.product m f.k s.a >>= (λ c2. spans.product m c2 s.b >>= (λ c3.
      spans.sum m c1 c3 >>= (λ c. three a b c)))))))

  abbrev pub lift : (Span K → Option (Span K)) → (Span K → Span K → Option (Shape K)) → Record K → Option (Record K)
  lift image bend p = image p.u >>= (λ u. image p.u0 >>= (λ u0. Some (rec u u0 (bend p.u p.u0 >>= (λ f. lift_slopes f p.slopes)))))

  -- ---- square: E = U0 + U0, G = U + U0, K = [1]
  abbrev pub square_shape : Span K → Span K → Option (Shape K)
  square_shape u u0 = spans.sum m u0 u0 >>= (λ e. spans.sum m u u0 >>= (λ g. Some record { e = e; g = g; k = spans.one_span m }))

  -- ---- magnitude
  abbrev pub minus_one : K
  minus_one = m.opposite m.unit

  -- E = G, K = [0]
  abbrev pub straight : K → K → Shape K
  straight lower upper = record { e = spans.span m lower upper; g = spans.span m lower upper; k = spans.zero_span m }

  -- E = G = [−1], K = [0]
  abbrev pub falling : Shape K
  falling = straight minus_one minus_one

  -- E = G = [1], K = [0]
  abbrev pub rising : Shape K
  rising = straight m.unit m.unit

  -- E = G = −1 to 1, K = [0]
  abbrev pub across : Shape K
  across = straight minus_one m.unit

  -- E = [−1]; G from −1 to the upper end of ([q] + [s]) / ([q] − [s]); K from 0 to the upper end of [1] / ([−s] + [−s])
  abbrev pub left_row : K → K → Option (Shape K)
  left_row q s =
      spans.sum m (spans.point m q) (spans.point m s) >>= (λ n. spans.difference m (spans.point m q) (spans.point m s) >>= (λ d.
      spans.quotient m n d >>= (λ g.
      spans.sum m (spans.point m (m.opposite s)) (spans.point m (m.opposite s)) >>= (λ t. spans.quotient m (spans.one_span m) t >>= (λ k.
      Some record { e = spans.point m minus_one; g = spans.span m minus_one g.upper; k = spans.span m m.nought k.upper })))))

  -- E and G negated
  abbrev pub turned : Option (Shape K) → Option (Shape K)
  turned o = o >>= (λ f. Some record { e = spans.negated m f.e; g = spans.negated m f.g; k = f.k })

  -- with ends p, q of U and r, s of U0, the first row that fits: q ≤ 0; p ≥ 0; s < 0; r > 0; otherwise
  abbrev pub magnitude_shape : Span K → Span K → Option (Shape K)
  magnitude_shape u u0 =
      cond (spans.to_zero m u.upper) (Some falling)
      (cond (spans.from_zero m u.lower) (Some rising)
      (cond (spans.from_zero m u0.upper)
      (cond (spans.to_zero m u0.lower) (Some across) (turned (left_row (m.opposite u.lower) (m.opposite u0.lower))))
      (left_row u.upper u0.upper)))

  -- ---- what a curve f owes
  pub record Bends (f : Frac → Frac) (image : Span K → Option (Span K)) (bend : Span K → Span K → Option (Shape K)) : Type 0 where
    -- its span of values holds them, and is monotone
    pub values : (s t : Span K) (x : Frac) → image s ≡ Some t → Held m s x → Held m t (f x)
    pub nested : (s s' w : Span K) → Ordered m s → Ordered m s' → Within m s' s → image s ≡ Some w → Inner m (image s') w
    -- the law of its shape
    pub law : (u u0 : Span K) (k : Shape K) → bend u u0 ≡ Some k → CurveLaw f (interval m u) (interval m u0) (interval m k.e) (interval m k.g) (interval m k.k)

  abbrev pub Curved : (Frac → Frac) → Option (Span K) → Record K → Result (Record K) Fault → Type 0
  Curved f U p r = (h u u0 : Frac) → True m p h u u0 → Told m U h (f u) (f u0) r
