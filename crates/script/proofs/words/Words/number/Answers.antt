use Rattle.std.proofs.Common.{refl, ap}
use Rattle.script.proofs.Steps.{handed}
use Rattle.script.specs.Readings.{number_at}
use Rattle.script.specs.Words.{place}
use Rattle.script.proofs.words.Words.number.Goals as goal

pub returns-in_err-word : goal.returns-in_err-word
unfolding number_at
returns-in_err-word c = rw (handed _ _ c.from_residual.ensures.1, ← c.in_err-word.ensures) refl

pub returns : goal.returns
unfolding number_at
returns c = rw (← c.in_ok-word.ensures) (ap (λ a. record { answer = a; at = place c.word.new.self }) c.number_of.ensures)
