use Rattle.std.proofs.Common.{refl, inl}
use Rattle.script.proofs.Memory.{lift, sure}
use Rattle.script.proofs.Steps.{handed}
use Rattle.script.specs.Calls.{call_at}
use Rattle.script.proofs.parse.call.Goals as goal

pub returns-in_err-call : goal.returns-in_err-call
unfolding call_at
returns-in_err-call c = rw (handed _ _ c.from_residual.ensures.1) (lift _ _ _ _ c.in_err-call.ensures (λ e. rw (← e) refl))

pub returns-in_err-end : goal.returns-in_err-end
unfolding call_at
returns-in_err-end c = rw (handed _ _ c.from_residual-in_err-end.ensures.1) (inl (rw (← sure _ _ _ c.in_ok-call.ensures, ← c.in_err-end.ensures) refl))

pub returns : goal.returns
unfolding call_at
returns c = inl (rw (← sure _ _ _ c.in_ok-call.ensures, ← c.in_ok-end.ensures) refl)
