use Rattle.std.proofs.Common.{refl}
use Rattle.window.proofs.Lines.{exit, line_is, not_formed}
use Rattle.window.specs.Windows.{given}
use Rattle.window.proofs.windows.line_over.Goals as goal

pub returns-in_err-formed-clause-answer : goal.returns-in_err-formed-clause-answer
returns-in_err-formed-clause-answer g c =
    let a = c.args in
    exit c.from_residual.result c.from_residual.ensures.1 (not_formed g.K.NumberKind.model (given a.over) a.formula.now (λ _. a.line) _ c.formed.ensures.answer c.in_err-formed.was)

pub returns-clause-answer : goal.returns-clause-answer
returns-clause-answer g c =
    let a = c.args in
    let f = c.formed.ensures in
    line_is g.K.NumberKind.model (given a.over) a.formula.now (λ _. a.line) f.leaves f.answer c.in_ok-formed.was refl c.report_of.ensures.answer
