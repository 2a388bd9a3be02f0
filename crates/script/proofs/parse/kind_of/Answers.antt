use Rattle.std.proofs.Common.{◌∙◌, refl, ap}
use Rattle.std.specs.Option.{ok_or}
use Rattle.script.proofs.Naming.{kind_told}
use Rattle.script.proofs.Steps.{handed}
use Rattle.script.specs.Calls.{kind_at}
use Rattle.script.specs.Words.{place}
use Rattle.script.proofs.parse.kind_of.Goals as goal

pub returns-in_err-word : goal.returns-in_err-word
unfolding kind_at
returns-in_err-word c = rw (handed _ _ c.from_residual.ensures.1, ← c.in_err-word.ensures) refl

pub returns : goal.returns
unfolding kind_at
returns c =
    let told = kind_told _ _ c.of.result _ c.parse.ensures.value (c.ok_or.ensures.value ∙ ap (λ o. ok_or o c.of.result) c.ok.ensures.value) c.of.ensures.word c.of.ensures.problem in
    rw (← c.in_ok-word.ensures) (ap (λ a. record { answer = a; at = place c.word.new.self }) told)
