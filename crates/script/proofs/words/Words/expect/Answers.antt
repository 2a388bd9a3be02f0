use Rattle.std.proofs.Common.{◌∙◌, refl, sym}
use Rattle.script.proofs.Steps.{handed, fault_is}
use Rattle.script.specs.Readings.{wanted_at}
use Rattle.script.proofs.words.Words.expect.Goals as goal

pub returns-in_err-word : goal.returns-in_err-word
unfolding wanted_at
returns-in_err-word c = rw (handed _ _ c.from_residual.ensures.1, ← c.in_err-word.ensures) refl

pub returns-then-eq : goal.returns-then-eq
unfolding wanted_at
returns-then-eq c = rw (← c.in_ok-word.ensures, sym c.eq.ensures ∙ c.if-eq.true) refl

pub returns-else-eq : goal.returns-else-eq
unfolding wanted_at
returns-else-eq c = rw (← c.in_ok-word.ensures, sym c.eq.ensures ∙ c.if-eq.false, fault_is c.of.result _ _ c.of.ensures.word c.of.ensures.problem) refl
