-- The report of a line, by its record and the box.
use Rattle.std.specs.Prelude.{ℤ, pos, ◌+ℤ◌, ◌-ℤ◌, Some, None, Option}
use Rattle.std.specs.Int.{int_div_euclid}
use Rattle.std.specs.List.{slice_get}
use Rattle.boxes.specs.Boxes.{Box}
use Rattle.exact.specs.Floor.{ceiling, floor}
use Rattle.exact.specs.Optional.{◌>>=◌}
use Rattle.kind.specs.Model.{Model}
use Rattle.slope.specs.declared.record.Record.{Record}
use Rattle.span.specs.declared.span.Span.{Span}
use Rattle.report.specs.declared.answer.Report.{Report}
use Rattle.span.specs.Spans as spans

module _ {K : Type 0} (m : Model K) where
  -- a range less its centre
  abbrev pub about : ℤ → ℤ → ℤ → Option (Span K)
  about l u centre = spans.of_counts m l u >>= (λ x. spans.of_counts m centre centre >>= (λ x0. spans.difference m x x0))

  -- D = X − X0, the swept range less its centre
  abbrev pub distance : Box → Option (Span K)
  distance b = slice_get b.lower b.swept >>= (λ l. slice_get b.upper b.swept >>= (λ u. about l u b.centre))

  -- U0 + A × D
  abbrev pub first_form : Record K → Span K → Option (Span K)
  first_form r d = r.slopes >>= (λ s. spans.product m s.a d >>= (λ ad. spans.sum m r.u0 ad))

  -- U0 + (B × D + C × (D × D))
  abbrev pub second_form : Record K → Span K → Option (Span K)
  second_form r d = r.slopes >>= (λ s.
      spans.product m s.b d >>= (λ bd. spans.product m d d >>= (λ dd. spans.product m s.c dd >>= (λ cdd. spans.sum m bd cdd >>= (λ t. spans.sum m r.u0 t)))))

  -- a form that is absent is left out
  abbrev pub narrowed : Span K → Option (Span K) → Span K
  narrowed s None = s
  narrowed s (Some t) = spans.meet m s t

  -- the intersection of U and both forms
  abbrev pub range : Box → Record K → Span K
  range b r = narrowed (narrowed r.u (distance b >>= first_form r)) (distance b >>= second_form r)

  -- its ends in whole 1/65,536, outward
  abbrev pub low : Span K → ℤ
  low s = floor 65536 (m.value s.lower)

  abbrev pub high : Span K → ℤ
  high s = ceiling 65536 (m.value s.upper)

-- the middle rounded down, and the margin up to the high end
abbrev pub middle_of : ℤ → ℤ → ℤ
middle_of l h = int_div_euclid (l +ℤ h) (pos 2)

abbrev pub report_of : ℤ → ℤ → Report
report_of l h = record { middle = middle_of l h; margin = h -ℤ middle_of l h }

abbrev pub reported : {K : Type 0} → Model K → Box → Record K → Report
reported m b r = report_of (low m (range m b r)) (high m (range m b r))
