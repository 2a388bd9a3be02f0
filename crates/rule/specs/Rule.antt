-- The record that the rules give a line over a box, by the records of the lines before it.
use Rattle.std.specs.Prelude.{ℕ, cond, List, length, ℤ, Some, Ok, Result, ◌==◌}
use Rattle.std.specs.List.{slice_get}
use Rattle.boxes.specs.Boxes.{Box, is_count}
use Rattle.exact.specs.Optional.{◌>>=◌}
use Rattle.fault.specs.Refusals.{after, found, refused}
use Rattle.fault.specs.declared.fault.Cause.TheVariants.{NoChannel, Number, Operand}
use Rattle.fault.specs.declared.fault.Fault.{Fault}
use Rattle.kind.specs.Model.{Model}
use Rattle.line.specs.declared.line.Line.{Line}
use Rattle.line.specs.declared.line.Line.TheVariants.{Branch, Channel, Constant, Difference, Greater, Lesser, Magnitude, Product, Quotient, Square, Sum}
use Rattle.slope.specs.Curves.{lift, magnitude_shape, square_shape}
use Rattle.slope.specs.Rules.{given}
use Rattle.slope.specs.declared.record.Record.{Record}
use Rattle.slope.specs.Rules as rules
use Rattle.span.specs.Spans as spans

-- ---- operands are earlier lines, asked for from left to right
module _ {R : Type 0} where
  abbrev pub operand : List R → ℕ → Result R Fault
  operand earlier l = found Operand (length earlier) (slice_get earlier l)

  abbrev pub two : List R → ℕ → ℕ → Result (R × R) Fault
  two earlier l r = after (operand earlier l) (λ p. after (operand earlier r) (λ q. Ok (p, q)))

  abbrev pub all_three : List R → ℕ → ℕ → ℕ → Result (R × R × R) Fault
  all_three earlier s q r = after (operand earlier s) (λ x. after (operand earlier q) (λ p. after (operand earlier r) (λ k. Ok (x, p, k))))

module _ {K : Type 0} (m : Model K) where
  -- ---- channels and constants
  -- the record of a range of counts that stays whole
  abbrev pub still_range : ℤ → ℤ → ℕ → Result (Record K) Fault
  still_range lower upper place = given place (spans.of_counts m lower upper >>= (λ x. Some (rules.still m x)))

  -- the record of a range of counts that is swept about a centre
  abbrev pub swept_range : ℤ → ℤ → ℤ → ℕ → Result (Record K) Fault
  swept_range lower upper centre place = given place (spans.of_counts m lower upper >>= (λ x. spans.of_counts m centre centre >>= (λ x0. Some (rules.swept m x x0))))

  abbrev pub channel : Box → ℕ → ℕ → Result (Record K) Fault
  channel b c place =
      after (found NoChannel place (slice_get b.lower c)) (λ lower. after (found NoChannel place (slice_get b.upper c)) (λ upper.
      cond (c == b.swept) (swept_range lower upper b.centre place) (still_range lower upper place)))

  abbrev pub constant : ℤ → ℕ → Result (Record K) Fault
  constant n place = cond (is_count n) (still_range n n place) (refused Number place)

  -- ---- each operation
  abbrev pub rule : Box → List (Record K) → Line → Result (Record K) Fault
  rule b w (Channel c) = channel b c (length w)
  rule b w (Constant n) = constant n (length w)
  rule b w (Sum l r) = after (two w l r) (λ p. given (length w) (rules.sum m p.0 p.1))
  rule b w (Difference l r) = after (two w l r) (λ p. given (length w) (rules.difference m p.0 p.1))
  rule b w (Product l r) = after (two w l r) (λ p. given (length w) (rules.product m p.0 p.1))
  rule b w (Quotient l r) = after (two w l r) (λ p. rules.divided m (length w) p.0 p.1)
  rule b w (Square l) = after (operand w l) (λ p. given (length w) (lift m (spans.square m) (square_shape m) p))
  rule b w (Magnitude l) = after (operand w l) (λ p. given (length w) (lift m (λ s. Some (spans.magnitude m s)) (magnitude_shape m) p))
  rule b w (Greater l r) = after (two w l r) (λ p. Ok (rules.greater m p.0 p.1))
  rule b w (Lesser l r) = after (two w l r) (λ p. Ok (rules.lesser m p.0 p.1))
  rule b w (Branch s q r) = after (all_three w s q r) (λ p. Ok (rules.branch m p.0 p.1 p.2))
