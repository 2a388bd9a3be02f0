-- What each call answers to C, and what it leaves in memory: the call's own relation, on what that memory means.
use Rattle.std.specs.Prelude.{◌≡◌, ℕ, ℤ, Bool, true, false, List, nat_lt, Result}
use Rattle.crossing.specs.Answers.{answered}
use Rattle.crossing.specs.Lines.{line_of}
use Rattle.crossing.specs.Memory.{Beyond, records_in}
use Rattle.crossing.specs.Sheets.{sheet_of}
use Rattle.crossing.specs.declared.memory.CAnswer.{CAnswer}
use Rattle.crossing.specs.declared.memory.CLine.{CLine}
use Rattle.crossing.specs.declared.memory.CMark.{CMark}
use Rattle.crossing.specs.declared.memory.CRecord.{CRecord}
use Rattle.crossing.specs.declared.memory.CSheet.{CSheet}
use Rattle.fault.specs.Refusals.{refused}
use Rattle.fault.specs.declared.fault.Cause.TheVariants.{Operation}
use Rattle.fault.specs.declared.fault.Fault.{Fault}
use Rattle.kind.specs.Model.{Model}
use Rattle.report.specs.declared.answer.Report.{Report}
use Rattle.runs.specs.Runs.{accepted, handed}
use Rattle.runs.specs.declared.call.Answer.TheVariants as answers
use Rattle.sheet.specs.Calls.{Added, Opened, Reported, Struck, Written}
use Rattle.sheet.specs.Moving.{Moved}
use Rattle.sheet.specs.Reading.{Read}

abbrev pub Opens : List ℤ → List ℤ → ℕ → ℤ → CSheet → CAnswer → CSheet → Type 0
Opens lower upper swept centre s a s' = (r : Result (Unit {0}) Fault) × (a ≡ answered (accepted r)) × Opened lower upper swept centre (sheet_of s) r (sheet_of s')

abbrev pub Strikes : CSheet → CAnswer → CSheet → Type 0
Strikes s a s' = (r : Result (Unit {0}) Fault) × (a ≡ answered (accepted r)) × Struck (sheet_of s) r (sheet_of s')

abbrev pub Writes : CSheet → List ℕ → CAnswer → List ℕ → Type 0
Writes s out a out' = (r : Result ℕ Fault) × (a ≡ answered (handed answers.Length r)) × Written (sheet_of s) out r out'

module _ {K : Type 0} (m : Model K) (mark_of : CMark → K) where
  -- an operation above 10 is refused before all else
  abbrev pub AddsKnown : Bool → CLine → CSheet → List CRecord → CAnswer → CSheet → List CRecord → Type 0
  AddsKnown true l s w a s' w' = (a ≡ answered (refused Operation 0)) × (s' ≡ s) × (w' ≡ w)
  AddsKnown false l s w a s' w' = (r : Result ℕ Fault) × (a ≡ answered (handed answers.Line r)) × Added m (line_of l) (sheet_of s) (records_in mark_of w) r (sheet_of s') (records_in mark_of w') × Beyond w w'

  abbrev pub Adds : CLine → CSheet → List CRecord → CAnswer → CSheet → List CRecord → Type 0
  Adds l = AddsKnown (nat_lt 10 l.operation) l

  abbrev pub Moves : ℕ → ℤ → ℤ → ℤ → CSheet → List CRecord → List CRecord → CAnswer → CSheet → List CRecord → List CRecord → Type 0
  Moves channel lower upper centre s w p a s' w' p' =
      (r : Result (Unit {0}) Fault) × (a ≡ answered (accepted r))
      × Moved m channel lower upper centre (sheet_of s) (records_in mark_of w) (records_in mark_of p) r (sheet_of s') (records_in mark_of w') (records_in mark_of p')
      × Beyond w w' × Beyond p p'

  abbrev pub Reads : List ℕ → CSheet → List CRecord → CAnswer → CSheet → List CRecord → Type 0
  Reads bytes s w a s' w' = (r : Result (Unit {0}) Fault) × (a ≡ answered (accepted r)) × Read m bytes (sheet_of s) (records_in mark_of w) r (sheet_of s') (records_in mark_of w') × Beyond w w'

  abbrev pub Reports : ℕ → CSheet → List CRecord → CAnswer → Type 0
  Reports line s w a = (r : Result Report Fault) × (a ≡ answered (handed answers.Report r)) × Reported m line (sheet_of s) (records_in mark_of w) r
