-- The rule of each operation. A step that is absent leaves a slope rule with no slopes; the span U that is absent leaves no
-- record.
use Rattle.std.specs.Prelude.{ℕ, Bool, cond, ◌&&◌, Some, None, Option, Result}
use Rattle.exact.specs.Optional.{◌>>=◌}
use Rattle.fault.specs.Refusals.{found, refused}
use Rattle.fault.specs.declared.fault.Cause.TheVariants.{Absent, Divisor}
use Rattle.fault.specs.declared.fault.Fault.{Fault}
use Rattle.kind.specs.Model.{Model}
use Rattle.span.specs.declared.span.Span.{Span}
use Rattle.slope.specs.declared.record.Record.{Record}
use Rattle.slope.specs.declared.record.Slopes.{Slopes}
use Rattle.span.specs.Spans as spans

-- what is absent is refused at a place
abbrev pub given : {X : Type 0} → ℕ → Option X → Result X Fault
given = found Absent

module _ {K : Type 0} where
  abbrev pub rec : Span K → Span K → Option (Slopes K) → Record K
  rec u u0 s = record { u = u; u0 = u0; slopes = s }

  abbrev pub three : Span K → Span K → Span K → Option (Slopes K)
  three a b c = Some record { a = a; b = b; c = c }

  -- part by part
  abbrev pub part_slopes : (Span K → Span K → Option (Span K)) → Record K → Record K → Option (Slopes K)
  part_slopes f p q =
      p.slopes >>= (λ s. q.slopes >>= (λ t.
      f s.a t.a >>= (λ a. f s.b t.b >>= (λ b. f s.c t.c >>= (λ c. three a b c)))))

  abbrev pub parts : (Span K → Span K → Option (Span K)) → Record K → Record K → Option (Record K)
  parts f p q = f p.u q.u >>= (λ u. f p.u0 q.u0 >>= (λ u0. Some (rec u u0 (part_slopes f p q))))

module _ {K : Type 0} (m : Model K) where
  -- ---- channels and constants
  abbrev pub swept : Span K → Span K → Record K
  swept x x0 = rec x x0 (three (spans.one_span m) (spans.one_span m) (spans.zero_span m))

  abbrev pub still : Span K → Record K
  still x = rec x x (three (spans.zero_span m) (spans.zero_span m) (spans.zero_span m))

  -- all three slopes are [0]
  abbrev pub is_still : Slopes K → Bool
  is_still s = (spans.is_zero m s.a && spans.is_zero m s.b) && spans.is_zero m s.c

  -- the slopes are [1], [1], [0]
  abbrev pub is_unit : Slopes K → Bool
  is_unit s = (spans.is_one m s.a && spans.is_one m s.b) && spans.is_zero m s.c

  -- ---- sum, difference and negative, part by part
  abbrev pub negated_slopes : Slopes K → Slopes K
  negated_slopes s = record { a = spans.negated m s.a; b = spans.negated m s.b; c = spans.negated m s.c }

  abbrev pub negated : Record K → Record K
  negated p = rec (spans.negated m p.u) (spans.negated m p.u0) (p.slopes >>= (λ s. Some (negated_slopes s)))

  abbrev pub sum : Record K → Record K → Option (Record K)
  sum p q = parts (spans.sum m) p q

  abbrev pub difference : Record K → Record K → Option (Record K)
  difference p q = parts (spans.difference m) p q

  -- ---- product: A = Au × V0 + U × Av; B = Bu × V0 + U0 × Bv; C = Cu × V0 + U × Cv + Au × Bv
  abbrev pub product_slopes : Record K → Record K → Option (Slopes K)
  product_slopes p q =
      p.slopes >>= (λ s. q.slopes >>= (λ t.
      spans.product m s.a q.u0 >>= (λ a1. spans.product m p.u t.a >>= (λ a2. spans.sum m a1 a2 >>= (λ a.
      spans.product m s.b q.u0 >>= (λ b1. spans.product m p.u0 t.b >>= (λ b2. spans.sum m b1 b2 >>= (λ b.
      spans.product m s.c q.u0 >>= (λ c1. spans.product m p.u t.c >>= (λ c2. spans.sum m c1 c2 >>= (λ c12.
      spans.product m s.a t.b >>= (λ c3. spans.sum m c12 c3 >>= (λ c. three a b c)))))))))))))

  abbrev pub product : Record K → Record K → Option (Record K)
  product p q = spans.product m p.u q.u >>= (λ u. spans.product m p.u0 q.u0 >>= (λ u0. Some (rec u u0 (product_slopes p q))))

  -- ---- quotient, W0 = U0 / V0: A = (Au − W0 × Av) / V; B = (Bu − W0 × Bv) / V0; C = (Cu − W0 × Cv − B × Av) / V
  abbrev pub quotient_slopes : Record K → Record K → Span K → Option (Slopes K)
  quotient_slopes p q w0 =
      p.slopes >>= (λ s. q.slopes >>= (λ t.
      spans.product m w0 t.a >>= (λ a1. spans.difference m s.a a1 >>= (λ a2. spans.quotient m a2 q.u >>= (λ a.
      spans.product m w0 t.b >>= (λ b1. spans.difference m s.b b1 >>= (λ b2. spans.quotient m b2 q.u0 >>= (λ b.
      spans.product m w0 t.c >>= (λ c1. spans.difference m s.c c1 >>= (λ c2. spans.product m b t.a >>= (λ c3.
      spans.difference m c2 c3 >>= (λ c4. spans.quotient m c4 q.u >>= (λ c. three a b c)))))))))))))

  abbrev pub quotient : Record K → Record K → Option (Record K)
  quotient p q = spans.quotient m p.u q.u >>= (λ u. spans.quotient m p.u0 q.u0 >>= (λ u0. Some (rec u u0 (quotient_slopes p q u0))))

  -- a divisor that holds 0 is refused first
  abbrev pub divided : ℕ → Record K → Record K → Result (Record K) Fault
  divided place p q = cond (spans.holds_zero m q.u) (refused Divisor place) (given place (quotient p q))

  -- ---- greater and lesser: decided, the whole record of one; else end by end, with hulls of the slopes
  abbrev pub hulls : Record K → Record K → Option (Slopes K)
  hulls p q = p.slopes >>= (λ s. q.slopes >>= (λ t. three (spans.hull m s.a t.a) (spans.hull m s.b t.b) (spans.hull m s.c t.c)))

  abbrev pub greater : Record K → Record K → Record K
  greater p q =
      cond (spans.clears m p.u q.u) p
      (cond (spans.clears m q.u p.u) q
      (rec (spans.greater m p.u q.u) (spans.greater m p.u0 q.u0) (hulls p q)))

  abbrev pub lesser : Record K → Record K → Record K
  lesser p q =
      cond (spans.clears m q.u p.u) p
      (cond (spans.clears m p.u q.u) q
      (rec (spans.lesser m p.u q.u) (spans.lesser m p.u0 q.u0) (hulls p q)))

  -- ---- branch: q where the upper end of s is below 0; r where its lower end is not; else the hull; a jump has no slopes
  abbrev pub chosen : {X : Type 0} → Span K → X → X → X → X
  chosen s q r joint = cond (spans.from_zero m s.upper) (cond (spans.from_zero m s.lower) r joint) q

  abbrev pub branch : Record K → Record K → Record K → Record K
  branch s q r = chosen s.u q r (rec (spans.hull m q.u r.u) (chosen s.u0 q.u0 r.u0 (spans.hull m q.u0 r.u0)) None)
