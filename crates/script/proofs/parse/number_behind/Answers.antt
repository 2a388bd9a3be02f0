use Rattle.std.proofs.Common.{refl}
use Rattle.script.proofs.Steps.{handed}
use Rattle.script.specs.Openings.{number_behind}
use Rattle.script.proofs.parse.number_behind.Goals as goal

pub returns-in_err-expect : goal.returns-in_err-expect
unfolding number_behind
returns-in_err-expect c = rw (handed _ _ c.from_residual.ensures.1, ← c.in_err-expect.ensures) refl

pub returns : goal.returns
unfolding number_behind
returns c = rw (← c.in_ok-expect.ensures) c.number.ensures
