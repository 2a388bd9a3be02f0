-- The report of a line by records that were made over a box.
use Rattle.std.proofs.Common.{◌≡◌, ℕ, List, [], length, take, drop, Ok, Result, sym, ap, ◌∙◌, arith}
use Rattle.std.proofs.lemmas.List.{take_at}
use Rattle.std.specs.List.{slice_get}
use Rattle.boxes.specs.Boxes.{Box}
use Rattle.crossing.specs.Windows.{report_over}
use Rattle.fault.specs.Refusals.{after, found}
use Rattle.fault.specs.declared.fault.Cause.TheVariants.{NoLine}
use Rattle.fault.specs.declared.fault.Fault.{Fault}
use Rattle.kind.specs.Model.{Model}
use Rattle.line.specs.declared.line.Line.{Line}
use Rattle.report.specs.Reports.{reported}
use Rattle.sheet.proofs.Remaking.{remade_long}
use Rattle.sheet.specs.Moving.{remade}
use Rattle.sheet.specs.Reading.{Outcome, ends, overlaid}
use Rattle.slope.specs.declared.record.Record.{Record}

module _ {K : Type 0} (m : Model K) (b : Box) (ls : List Line) (line : ℕ) where
  abbrev made : Outcome K
  made = remade m b ls [] []

  module _ (all : made.answer ≡ Ok tt) where
    pub first_are : (w w' : List (Record K)) → w' ≡ overlaid made.records w → take (length ls) w' ≡ made.records
    first_are w w' e =
        let long = remade_long m b ls [] made.lines [] made.records (ap (λ a. ends a made.lines made.records) all) in
        ap (take (length ls)) e ∙ take_at made.records (drop (length made.records) w) (length ls) (omega (arith, long))

    reports_as : report_over m b ls line ≡ after (found NoLine line (slice_get made.records line)) (λ r. Ok (reported m b r))
    reports_as = ap (λ a. after a (λ _. after (found NoLine line (slice_get made.records line)) (λ r. Ok (reported m b r)))) all

    module _ (w w' : List (Record K)) (e : w' ≡ overlaid made.records w) {F : Result (Record K) Fault} (f : F ≡ found NoLine line (slice_get (take (length ls) w') line)) where
      pub reports : F ≡ found NoLine line (slice_get made.records line)
      reports = f ∙ ap (λ rs. found NoLine line (slice_get rs line)) (first_are w w' e)

      pub answers : report_over m b ls line ≡ after F (λ r. Ok (reported m b r))
      answers = reports_as ∙ ap (λ F. after F (λ r. Ok (reported m b r))) (sym reports)
