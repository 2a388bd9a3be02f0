-- What a line is refused for before any record is read, and what for by the records of its operands.
use Rattle.std.specs.Prelude.{◌≡◌, ℕ, cond, ◌⊎◌, List, [], ◌∷◌, Ok, Err, Result, nat_lt}
use Rattle.std.specs.List.{slice_get}
use Rattle.boxes.specs.Boxes.{Box, is_count}
use Rattle.fault.specs.Refusals.{after, found, refused}
use Rattle.fault.specs.declared.fault.Cause.TheVariants.{Absent, Divisor, NoChannel, Number, Operand}
use Rattle.fault.specs.declared.fault.Fault.{Fault}
use Rattle.line.specs.declared.line.Line.{Line}
use Rattle.line.specs.declared.line.Line.TheVariants.{Branch, Channel, Constant, Difference, Greater, Lesser, Magnitude, Product, Quotient, Square, Sum}

-- operands are numbers of earlier lines, judged from left to right
abbrev pub earlier_lines : ℕ → List ℕ → Result (Unit {0}) Fault
earlier_lines n [] = Ok tt
earlier_lines n (l ∷ ls) = cond (nat_lt l n) (earlier_lines n ls) (refused Operand n)

-- the line that would have number n
abbrev pub fit : Box → ℕ → Line → Result (Unit {0}) Fault
fit b n (Channel c) = after (found NoChannel n (slice_get b.lower c)) (λ _. after (found NoChannel n (slice_get b.upper c)) (λ _. Ok tt))
fit b n (Constant z) = cond (is_count z) (Ok tt) (refused Number n)
fit b n (Sum l r) = earlier_lines n (l ∷ r ∷ [])
fit b n (Difference l r) = earlier_lines n (l ∷ r ∷ [])
fit b n (Product l r) = earlier_lines n (l ∷ r ∷ [])
fit b n (Quotient l r) = earlier_lines n (l ∷ r ∷ [])
fit b n (Square l) = earlier_lines n (l ∷ [])
fit b n (Magnitude l) = earlier_lines n (l ∷ [])
fit b n (Greater l r) = earlier_lines n (l ∷ r ∷ [])
fit b n (Lesser l r) = earlier_lines n (l ∷ r ∷ [])
fit b n (Branch s q r) = earlier_lines n (s ∷ q ∷ r ∷ [])

-- taken, or refused because the divisor's span holds 0 or the span of the result is absent
abbrev pub ByRecords : {X : Type 0} → ℕ → Result X Fault → Type 0
ByRecords n (Ok x) = Unit {0}
ByRecords n (Err e) = (e ≡ record { cause = Divisor; place = n }) ⊎ (e ≡ record { cause = Absent; place = n })

-- a line that is not fit is refused for that, and any other by its records alone
abbrev pub Judged : {X : Type 0} → ℕ → Result (Unit {0}) Fault → Result X Fault → Type 0
Judged n (Ok _) v = ByRecords n v
Judged n (Err e) v = v ≡ Err e
