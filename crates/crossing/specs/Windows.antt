-- What a window answers to C.
use Rattle.std.specs.Prelude.{ℕ, List, [], Ok, Err, Result}
use Rattle.std.specs.List.{slice_get}
use Rattle.boxes.specs.Boxes.{Box}
use Rattle.crossing.specs.Answers.{answered}
use Rattle.crossing.specs.Sheets.{box_in}
use Rattle.crossing.specs.declared.memory.CAnswer.{CAnswer}
use Rattle.crossing.specs.declared.memory.CBox.{CBox}
use Rattle.fault.specs.Refusals.{after, found}
use Rattle.fault.specs.declared.fault.Cause.TheVariants.{NoLine}
use Rattle.fault.specs.declared.fault.Fault.{Fault}
use Rattle.kind.specs.Model.{Model}
use Rattle.line.specs.declared.line.Line.{Line}
use Rattle.report.specs.Reports.{reported}
use Rattle.report.specs.declared.answer.Report.{Report}
use Rattle.runs.specs.Runs.{handed}
use Rattle.runs.specs.declared.call.Answer.TheVariants as answers
use Rattle.sheet.specs.Moving.{remade}
use Rattle.window.specs.Windows.{line_over}
use Rattle.window.specs.declared.refused.Refused.{Refused}

abbrev pub answered_window : Result Report Refused → CAnswer
answered_window (Ok r) = answered (Ok (answers.Report r))
answered_window (Err e) = answered (Err e.fault)

-- the report of a line, if all lines before the end have records over the box
abbrev pub report_over : {K : Type 0} → Model K → Box → List Line → ℕ → Result Report Fault
report_over m b ls line =
    after (remade m b ls [] []).answer (λ _.
    after (found NoLine line (slice_get (remade m b ls [] []).records line)) (λ r. Ok (reported m b r)))

-- the same as C has it
abbrev pub answer_in : {K : Type 0} → Model K → List Line → ℕ → CBox → CAnswer
answer_in m ls line b = answered (handed answers.Report (after (box_in b) (λ b. report_over m b ls line)))

-- a line of a formula over a box, with 64 working lines
abbrev pub window_answer : {K : Type 0} → Model K → List ℕ → ℕ → CBox → CAnswer
window_answer m bytes line b = answered_window (line_over m (box_in b) 64 bytes line)
