-- Answers as C has them, with 0 for what a call does not answer.
use Rattle.std.specs.Prelude.{ℕ, ℤ, pos, Ok, Err, Result}
use Rattle.crossing.specs.declared.memory.CAnswer.{CAnswer}
use Rattle.fault.specs.Causes.{number}
use Rattle.fault.specs.declared.fault.Fault.{Fault}
use Rattle.runs.specs.declared.call.Answer.{Answer}
use Rattle.runs.specs.declared.call.Answer.TheVariants.{Accepted, Length, Line, Report}

abbrev pub told : ℕ → ℕ → ℕ → ℤ → ℤ → CAnswer
told refusal place number middle margin = record { refusal = refusal; place = place; number = number; middle = middle; margin = margin }

abbrev pub answered : Result Answer Fault → CAnswer
answered (Ok Accepted) = told 0 0 0 (pos 0) (pos 0)
answered (Ok (Line n)) = told 0 0 n (pos 0) (pos 0)
answered (Ok (Length n)) = told 0 0 n (pos 0) (pos 0)
answered (Ok (Report r)) = told 0 0 0 r.middle r.margin
answered (Err e) = told (number e.cause) e.place 0 (pos 0) (pos 0)
