use Rattle.std.proofs.Common.{◌∙◌, ap}
use Rattle.std.specs.Option.{ok_or}
use Rattle.script.proofs.Numbers.{number_told}
use Rattle.script.proofs.words.number_of.Goals as goal

pub returns : goal.returns
returns c = number_told _ _ c.of.result _ c.parse.ensures.value.0 (c.ok_or.ensures.value ∙ ap (λ o. ok_or o c.of.result) c.ok.ensures.value) c.of.ensures.word c.of.ensures.problem
