-- The worked examples of docs/EXAMPLES.md, against the definitions. All ends are in counts; a is channel 0, which is swept.
use Rattle.std.specs.Prelude.{◌≡◌, ℕ, List, [], ◌∷◌, ℤ, pos, neg_ℤ, Some, None, Ok, Err, Result}
use Rattle.std.specs.List.{slice_get}
use Rattle.boxes.specs.Boxes.{Box}
use Rattle.exact.specs.Fraction.{◌≈◌}
use Rattle.fault.specs.Causes.{number}
use Rattle.fault.specs.declared.fault.Fault.{Fault}
use Rattle.fixed.specs.Grid.{fixed_model}
use Rattle.kind.specs.Model.{Model, count}
use Rattle.line.specs.declared.line.Line.{Line}
use Rattle.line.specs.declared.line.Line.TheVariants.{Branch, Channel, Constant, Difference, Magnitude, Product, Quotient}
use Rattle.reader.specs.Reading.{count_at, formula_at}
use Rattle.report.specs.Reports.{range, reported}
use Rattle.rule.specs.Records.{records}
use Rattle.sliding.specs.Grid.{sliding_model}
use Rattle.slope.specs.declared.record.Record.{Record}
use Rattle.slope.specs.declared.record.Slopes.{Slopes}
use Rattle.span.specs.declared.span.Span.{Span}
use Rattle.writer.specs.Writing.{formula_bytes}

-- a from one count to another about a centre
abbrev pub about : ℤ → ℤ → ℤ → Box
about lower upper centre = record { lower = lower ∷ []; upper = upper ∷ []; swept = 0; centre = centre }

-- ---- the figures of a record
module _ {K : Type 0} (m : Model K) where
  abbrev pub FromTo : Span K → ℤ → ℤ → Type 0
  FromTo s lower upper = (m.value s.lower ≈ count lower) × (m.value s.upper ≈ count upper)

  -- the record that the rules give to line i over a box
  pub record Recorded (b : Box) (ls : List Line) (i : ℕ) : Type 0 where
    pub all : List (Record K)
    pub made : records m b ls ≡ Ok all
    pub it : Record K
    pub there : slice_get all i ≡ Some it

  pub record Sloped (r : Record K) : Type 0 where
    pub three : Slopes K
    pub there : r.slopes ≡ Some three

-- a refusal's number and place
abbrev pub Refused : {X : Type 0} → Result X Fault → ℕ → ℕ → Type 0
Refused (Ok x) n place = ⊥
Refused (Err e) n place = (number e.cause ≡ n) × (e.place ≡ place)

-- ---- a × (4 − a), a from 1 to 3 about 2
abbrev pub product_lines : List Line
product_lines = Channel 0 ∷ Constant (pos 262144) ∷ Difference 1 0 ∷ Product 0 2 ∷ []

abbrev pub one_to_three : Box
one_to_three = about (pos 65536) (pos 196608) (pos 131072)

abbrev pub product_bytes : List ℕ
product_bytes = 0x04 ∷ 0x00 ∷ 0x00 ∷ 0x01 ∷ 0x80 ∷ 0x80 ∷ 0x20 ∷ 0x03 ∷ 0x01 ∷ 0x00 ∷ 0x04 ∷ 0x00 ∷ 0x02 ∷ []

pub record ProductExample : Type 0 where
  pub line : Recorded fixed_model one_to_three product_lines 3
  pub slopes : Sloped fixed_model line.it
  pub U : FromTo fixed_model line.it.u (pos 65536) (pos 589824)
  pub U0 : FromTo fixed_model line.it.u0 (pos 262144) (pos 262144)
  pub A : FromTo fixed_model slopes.three.a (neg_ℤ (pos 65536)) (pos 65536)
  pub B : FromTo fixed_model slopes.three.b (pos 0) (pos 0)
  pub C : FromTo fixed_model slopes.three.c (neg_ℤ (pos 65536)) (neg_ℤ (pos 65536))
  pub range_is : FromTo fixed_model (range fixed_model one_to_three line.it) (pos 196608) (pos 327680)
  pub report : reported fixed_model one_to_three line.it ≡ record { middle = pos 262144; margin = pos 65536 }
  pub written : formula_bytes product_lines ≡ product_bytes
  pub read : formula_at product_bytes ≡ Ok product_lines

-- ---- 1 / a
abbrev pub quotient_lines : List Line
quotient_lines = Constant (pos 65536) ∷ Channel 0 ∷ Quotient 0 1 ∷ []

pub record QuotientExample : Type 0 where
  pub line : Recorded fixed_model one_to_three quotient_lines 2
  pub slopes : Sloped fixed_model line.it
  pub U : FromTo fixed_model line.it.u (pos 21845) (pos 65536)
  pub U0 : FromTo fixed_model line.it.u0 (pos 32768) (pos 32768)
  pub A : FromTo fixed_model slopes.three.a (neg_ℤ (pos 32768)) (neg_ℤ (pos 10922))
  pub B : FromTo fixed_model slopes.three.b (neg_ℤ (pos 16384)) (neg_ℤ (pos 16384))
  pub C : FromTo fixed_model slopes.three.c (pos 5461) (pos 16384)
  pub report : reported fixed_model one_to_three line.it ≡ record { middle = pos 43690; margin = pos 21846 }

-- 1 / a where a comes close to 0
pub record CloseExample : Type 0 where
  pub at_zero : Refused (records fixed_model (about (pos 0) (pos 196608) (pos 131072)) quotient_lines) 9 2
  pub at_four : Refused (records fixed_model (about (pos 4) (pos 196608) (pos 131072)) quotient_lines) 10 2
  pub at_five : Recorded fixed_model (about (pos 5) (pos 196608) (pos 131072)) quotient_lines 2
  pub upper : fixed_model.value at_five.it.u.upper ≈ count (pos 858993460)

-- ---- the magnitude of a, a from −1 to 3 about 1
abbrev pub minus_one_to_three : Box
minus_one_to_three = about (neg_ℤ (pos 65536)) (pos 196608) (pos 65536)

pub record MagnitudeExample : Type 0 where
  pub line : Recorded fixed_model minus_one_to_three (Channel 0 ∷ Magnitude 0 ∷ []) 1
  pub slopes : Sloped fixed_model line.it
  pub A : FromTo fixed_model slopes.three.a (pos 0) (pos 65536)
  pub B : FromTo fixed_model slopes.three.b (pos 65536) (pos 65536)
  pub C : FromTo fixed_model slopes.three.c (pos 0) (pos 32768)
  pub range_is : FromTo fixed_model (range fixed_model minus_one_to_three line.it) (pos 0) (pos 196608)

-- ---- the branch a, 0, a, a from −1 to 1 about 0
pub record BranchExample : Type 0 where
  pub line : Recorded fixed_model (about (neg_ℤ (pos 65536)) (pos 65536) (pos 0)) (Channel 0 ∷ Constant (pos 0) ∷ Branch 0 1 0 ∷ []) 2
  pub U : FromTo fixed_model line.it.u (neg_ℤ (pos 65536)) (pos 65536)
  pub U0 : FromTo fixed_model line.it.u0 (pos 0) (pos 0)
  pub no_slopes : line.it.slopes ≡ None

-- ---- a constant of 16,777,217 counts in the sliding kind
pub record ConstantExample : Type 0 where
  pub line : Recorded sliding_model one_to_three (Constant (pos 16777217) ∷ []) 0
  pub U : FromTo sliding_model line.it.u (pos 16777216) (pos 16777218)

-- ---- bytes as a count of lines
pub record BytesExample : Type 0 where
  pub long : Refused (count_at (0x80 ∷ 0x00 ∷ [])) 14 0
  pub early : Refused (count_at (0x80 ∷ [])) 13 0

pub record WorkedExamples : Type 0 where
  pub product : ProductExample
  pub quotient : QuotientExample
  pub close : CloseExample
  pub magnitude : MagnitudeExample
  pub branch : BranchExample
  pub constant : ConstantExample
  pub bytes : BytesExample
