use Rattle.std.proofs.Common.{◌-◌, length, ap, ◌∙◌, subst}
use Rattle.sheet.specs.Contents.{contents}
use Rattle.window.proofs.Lines.{exit, line_is, not_formed}
use Rattle.window.specs.Windows.{Leaves, formed, swept_about}
use Rattle.window.proofs.windows.last_over.Goals as goal

pub returns-in_err-formed-clause-answer : goal.returns-in_err-formed-clause-answer
returns-in_err-formed-clause-answer g c =
    let a = c.args in
    exit c.from_residual.result c.from_residual.ensures.1 (not_formed g.K.NumberKind.model (swept_about a.lower.now a.upper.now) a.formula.now (λ ls. length ls - 1) _
    (c.formed.ensures.answer ∙ ap (λ b. formed g.K.NumberKind.model b (length a.working.now) a.formula.now) c.swept-over.ensures) c.in_err-formed.was)

pub returns-in_err-formed-clause-leaves : goal.returns-in_err-formed-clause-leaves
returns-in_err-formed-clause-leaves g c =
    let a = c.args in
    subst (λ b. Leaves g.K.NumberKind.model b a.formula.now (contents a.sheet.now) a.working.now (contents c.formed.new.sheet) c.formed.new.working) c.swept-over.ensures c.formed.ensures.leaves

pub returns-clause-answer : goal.returns-clause-answer
returns-clause-answer g c =
    let a = c.args in
    line_is g.K.NumberKind.model (swept_about a.lower.now a.upper.now) a.formula.now (λ ls. length ls - 1)
    (subst (λ b. Leaves g.K.NumberKind.model b a.formula.now (contents a.sheet.now) a.working.now (contents c.formed.new.sheet) c.formed.new.working) c.swept-over.ensures c.formed.ensures.leaves)
    (c.formed.ensures.answer ∙ ap (λ b. formed g.K.NumberKind.model b (length a.working.now) a.formula.now) c.swept-over.ensures) c.in_ok-formed.was
    c.last-line.ensures c.report_of.ensures.answer

pub returns-clause-leaves : goal.returns-clause-leaves
returns-clause-leaves g c =
    let a = c.args in
    let left = subst (λ b. Leaves g.K.NumberKind.model b a.formula.now (contents a.sheet.now) a.working.now (contents c.formed.new.sheet) c.formed.new.working) c.swept-over.ensures c.formed.ensures.leaves in
    record { sheet = c.report_of.ensures.sheet ∙ left.sheet; working = c.report_of.ensures.working ∙ left.working }
