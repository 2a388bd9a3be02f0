use Rattle.std.proofs.Common.{refl, inl}
use Rattle.script.proofs.Memory.{lift, sure}
use Rattle.script.proofs.Passing.{same_behind}
use Rattle.script.proofs.Steps.{handed}
use Rattle.script.specs.Openings.{opening_at}
use Rattle.script.proofs.parse.opening.Goals as goal

pub returns-in_err-expect : goal.returns-in_err-expect
unfolding opening_at
returns-in_err-expect c = rw (handed _ _ c.from_residual.ensures.1) (inl (rw (← c.in_err-expect.ensures) refl))

pub returns-in_err-lower : goal.returns-in_err-lower
unfolding opening_at
returns-in_err-lower c = rw (handed _ _ c.from_residual-in_err-lower.ensures.1) (lift _ _ _ _ c.in_err-lower.ensures (λ e. rw (← c.in_ok-expect.ensures, ← e) refl))

pub returns-in_err-upper : goal.returns-in_err-upper
unfolding opening_at
returns-in_err-upper c = rw (handed _ _ c.from_residual-in_err-upper.ensures.1) (lift _ _ _ _ c.in_err-upper.ensures (λ e. rw (← c.in_ok-expect.ensures, ← sure _ _ _ c.in_ok-lower.ensures, ← e) refl))

pub returns-in_err-swept : goal.returns-in_err-swept
unfolding opening_at
returns-in_err-swept c = rw (handed _ _ c.from_residual-in_err-swept.ensures.1) (inl (rw (← c.in_ok-expect.ensures, ← sure _ _ _ c.in_ok-lower.ensures, ← sure _ _ _ c.in_ok-upper.ensures, ← c.in_err-swept.ensures) refl))

pub returns-in_err-number_behind : goal.returns-in_err-number_behind
unfolding opening_at
returns-in_err-number_behind c = rw (handed _ _ c.from_residual-in_err-number_behind.ensures.1) (inl (rw (← c.in_ok-expect.ensures, ← sure _ _ _ c.in_ok-lower.ensures, ← sure _ _ _ c.in_ok-upper.ensures, ← c.in_ok-swept.ensures, ← c.in_err-number_behind.ensures) refl))

pub returns : goal.returns
unfolding opening_at
returns c = inl (rw (← c.in_ok-expect.ensures, ← sure _ _ _ c.in_ok-lower.ensures, ← sure _ _ _ c.in_ok-upper.ensures, ← c.in_ok-swept.ensures, ← c.in_ok-number_behind.ensures, same_behind _ _ _ _ c.in_ok-number_behind.ensures) refl)
