-- What a window answers: a box is opened, a formula is read onto it by the working lines that are lent, and a line of it is reported.
-- What the sheet and the working lines held before has no part in the answer.
use Rattle.std.specs.Prelude.{◌≡◌, ℕ, ◌-◌, List, [], ◌∷◌, length, ℤ, pos, ◌+ℤ◌, Ok, Err, Result}
use Rattle.std.specs.Int.{int_div_euclid}
use Rattle.boxes.specs.Boxes.{Box, opened}
use Rattle.fault.specs.declared.fault.Fault.{Fault}
use Rattle.kind.specs.Model.{Model}
use Rattle.line.specs.declared.line.Line.{Line}
use Rattle.report.specs.declared.answer.Report.{Report}
use Rattle.runs.specs.Law.{sheet_of}
use Rattle.runs.specs.declared.call.Opening.{Opening}
use Rattle.sheet.specs.Calls.{enough, report}
use Rattle.sheet.specs.Contents.{Contents}
use Rattle.sheet.specs.Reading.{Outcome, filled, goes_on, overlaid, read_formula}
use Rattle.slope.specs.declared.record.Record.{Record}
use Rattle.window.specs.declared.refused.Refused.{Refused}
use Rattle.window.specs.declared.refused.Step.{Step}
use Rattle.window.specs.declared.refused.Step.TheVariants as steps

-- a refused step ends the window
abbrev pub at_step : {X Y : Type 0} → Step → Result X Fault → (X → Result Y Refused) → Result Y Refused
at_step step (Ok x) f = f x
at_step step (Err e) f = Err (record { step = step; fault = e })

-- ---- the box
abbrev pub given : Opening → Result Box Fault
given o = opened o.lower.now o.upper.now o.swept o.centre

-- the middle of channel 0, rounded down
abbrev pub midpoint : List ℤ → List ℤ → ℤ
midpoint (l ∷ ls) (u ∷ us) = int_div_euclid (l +ℤ u) (pos 2)
midpoint (l ∷ ls) [] = pos 0
midpoint [] us = pos 0

-- channel 0 is swept about its midpoint
abbrev pub swept_about : List ℤ → List ℤ → Result Box Fault
swept_about lower upper = opened lower upper 0 (midpoint lower upper)

-- ---- its formula, and a line of it
module _ {K : Type 0} (m : Model K) where
  -- a formula over a box, where so many working lines are lent
  abbrev pub read_over : Box → ℕ → List ℕ → Outcome K
  read_over b lent bytes = goes_on (enough lent) [] [] (λ _. read_formula m b bytes)

  module _ (box : Result Box Fault) (lent : ℕ) (bytes : List ℕ) where
    abbrev pub formed : Result (Unit {0}) Refused
    formed = at_step steps.Open box (λ b. at_step steps.Read (read_over b lent bytes).answer Ok)

    -- which line is reported may depend on the lines that were read
    abbrev pub chosen : (List Line → ℕ) → Result Report Refused
    chosen which =
        at_step steps.Open box (λ b.
        at_step steps.Read (read_over b lent bytes).answer (λ _.
        at_step steps.Report (report m (sheet_of b (read_over b lent bytes).lines) lent (read_over b lent bytes).records (which (read_over b lent bytes).lines)) Ok))

  abbrev pub line_over : Result Box Fault → ℕ → List ℕ → ℕ → Result Report Refused
  line_over box lent bytes line = chosen box lent bytes (λ _. line)

  abbrev pub last_over : List ℤ → List ℤ → ℕ → List ℕ → Result Report Refused
  last_over lower upper lent bytes = chosen (swept_about lower upper) lent bytes (λ ls. length ls - 1)

  -- ---- what it leaves: nothing is touched where the box is refused; a refused formula leaves no line, and the records made before
  abbrev pub sheet_after : Result Box Fault → List ℕ → ℕ → Contents → Contents
  sheet_after (Ok b) bytes lent s = filled (sheet_of b []) (read_over b lent bytes).answer (read_over b lent bytes).lines
  sheet_after (Err e) bytes lent s = s

  abbrev pub working_after : Result Box Fault → List ℕ → List (Record K) → List (Record K)
  working_after (Ok b) bytes w = overlaid (read_over b (length w) bytes).records w
  working_after (Err e) bytes w = w

  pub record Leaves (box : Result Box Fault) (bytes : List ℕ) (s : Contents) (w : List (Record K)) (s' : Contents) (w' : List (Record K)) : Type 0 where
    pub sheet : s' ≡ sheet_after box bytes (length w) s
    pub working : w' ≡ working_after box bytes w
