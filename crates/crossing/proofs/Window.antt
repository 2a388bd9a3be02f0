-- What a window answers by a formula that was read is what it answers by the bytes.
use Rattle.std.proofs.Common.{◌≡◌, ℕ, List, [], ◌∷◌, map, Ok, Err, Result, sym, refl, ap, ap₂, ◌∙◌}
use Rattle.std.specs.List.{slice_get}
use Rattle.boxes.specs.Boxes.{Box}
use Rattle.crossing.proofs.ReadOnce.{read_once}
use Rattle.crossing.specs.Answers.{answered}
use Rattle.crossing.specs.Sheets.{box_in}
use Rattle.crossing.specs.Windows.{answer_in, answered_window, report_over, window_answer}
use Rattle.crossing.specs.declared.memory.CBox.{CBox}
use Rattle.fault.specs.Refusals.{after, found}
use Rattle.fault.specs.declared.fault.Cause.TheVariants.{NoLine}
use Rattle.fault.specs.declared.fault.Fault.{Fault}
use Rattle.kind.specs.Model.{Model}
use Rattle.line.specs.declared.line.Line.{Line}
use Rattle.reader.specs.Reading.{formula_at}
use Rattle.report.specs.Reports.{reported}
use Rattle.report.specs.declared.answer.Report.{Report}
use Rattle.runs.specs.Runs.{handed}
use Rattle.runs.specs.declared.call.Answer.TheVariants as answers
use Rattle.sheet.specs.Moving.{remade}
use Rattle.sheet.specs.Reading.{Outcome}
use Rattle.window.specs.Windows.{at_step, line_over}
use Rattle.window.specs.declared.refused.Step.TheVariants as steps

reported_at : (R : Result Report Fault) → answered_window (at_step steps.Report R Ok) ≡ answered (handed answers.Report R)
reported_at (Ok r) = refl
reported_at (Err e) = refl

read_at : (a : Result (Unit {0}) Fault) (R : Result Report Fault) → answered_window (at_step steps.Read a (λ _. at_step steps.Report R Ok)) ≡ answered (handed answers.Report (after a (λ _. R)))
read_at (Ok _) R = reported_at R
read_at (Err e) R = refl

module _ {K : Type 0} (m : Model K) (bytes : List ℕ) (line : ℕ) (ls : List Line) (read : formula_at bytes ≡ Ok ls) where
  abbrev over : Box → Outcome K → Result Report Fault
  over b o = after (found NoLine line (slice_get o.records line)) (λ r. Ok (reported m b r))

  by_box : (box : Result Box Fault) → answered (handed answers.Report (after box (λ b. report_over m b ls line))) ≡ answered_window (line_over m box 64 bytes line)
  by_box (Err e) = refl
  by_box (Ok b) = sym (read_at (remade m b ls [] []).answer (over b (remade m b ls [] [])))
      ∙ ap (λ o. answered_window (at_step steps.Read o.answer (λ _. at_step steps.Report (over b o) Ok))) (sym (read_once m b bytes ls read))

  as_by_bytes : (b : CBox) → answer_in m ls line b ≡ window_answer m bytes line b
  as_by_bytes b = by_box (box_in b)

  pub all_by_bytes : (bs : List CBox) → map (answer_in m ls line) bs ≡ map (window_answer m bytes line) bs
  all_by_bytes [] = refl
  all_by_bytes (b ∷ bs) = ap₂ (λ a rest. a ∷ rest) (as_by_bytes b) (all_by_bytes bs)
