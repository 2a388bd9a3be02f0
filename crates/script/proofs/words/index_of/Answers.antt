use Rattle.std.proofs.Common.{◌∙◌, ap, refl}
use Rattle.std.specs.Option.{ok_or}
use Rattle.script.proofs.Numbers.{index_told}
use Rattle.script.proofs.Steps.{handed}
use Rattle.script.specs.Numbers.{index_of}
use Rattle.script.proofs.words.index_of.Goals as goal

pub returns-in_err-number_of : goal.returns-in_err-number_of
unfolding index_of
returns-in_err-number_of c = rw (handed _ _ c.from_residual.ensures.1, ← c.in_err-number_of.ensures) refl

pub returns : goal.returns
returns c = index_told _ c.in_ok-number_of.field-0 _ c.of.result _ c.in_ok-number_of.ensures c.try_from.ensures (c.ok_or.ensures.value ∙ ap (λ o. ok_or o c.of.result) c.ok.ensures.value) c.of.ensures.word c.of.ensures.problem
