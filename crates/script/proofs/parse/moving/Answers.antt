use Rattle.std.proofs.Common.{refl}
use Rattle.script.proofs.Passing.{same_behind}
use Rattle.script.proofs.Steps.{handed}
use Rattle.script.specs.Openings.{moving_at}
use Rattle.script.proofs.parse.moving.Goals as goal

pub returns-in_err-index : goal.returns-in_err-index
unfolding moving_at
returns-in_err-index c = rw (handed _ _ c.from_residual.ensures.1, ← c.in_err-index.ensures) refl

pub returns-in_err-number_behind : goal.returns-in_err-number_behind
unfolding moving_at
returns-in_err-number_behind c = rw (handed _ _ c.from_residual-in_err-number_behind.ensures.1, ← c.in_ok-index.ensures, ← c.in_err-number_behind.ensures) refl

pub returns-in_err-number_behind-2 : goal.returns-in_err-number_behind-2
unfolding moving_at
returns-in_err-number_behind-2 c = rw (handed _ _ c.from_residual-in_err-number_behind-2.ensures.1, ← c.in_ok-index.ensures, ← c.in_ok-number_behind.ensures, ← c.in_err-number_behind-2.ensures) refl

pub returns-in_err-number_behind-3 : goal.returns-in_err-number_behind-3
unfolding moving_at
returns-in_err-number_behind-3 c = rw (handed _ _ c.from_residual-in_err-number_behind-3.ensures.1, ← c.in_ok-index.ensures, ← c.in_ok-number_behind.ensures, ← c.in_ok-number_behind-2.ensures, ← c.in_err-number_behind-3.ensures) refl

pub returns : goal.returns
unfolding moving_at
returns c = rw (← c.in_ok-index.ensures, ← c.in_ok-number_behind.ensures, ← c.in_ok-number_behind-2.ensures, ← c.in_ok-number_behind-3.ensures, same_behind _ _ _ _ c.in_ok-number_behind.ensures, same_behind _ _ _ _ c.in_ok-number_behind-2.ensures, same_behind _ _ _ _ c.in_ok-number_behind-3.ensures) refl
