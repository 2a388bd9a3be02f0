use Rattle.sheet.specs.Contents.{contents}
use Rattle.window.proofs.Formed.{not_opened, opened_on}
use Rattle.window.specs.Windows.{given}
use Rattle.window.proofs.windows.formed.Goals as goal

pub returns-in_err-open-clause-leaves : goal.returns-in_err-open-clause-leaves
returns-in_err-open-clause-leaves g c =
    let a = c.args in
    let e = c.open.ensures in
    (not_opened g.K.NumberKind.model a.formula.now (contents a.sheet.now) a.working.now (given a.over) e.call.2.answer e.call.2.sheet e.working e.call.1 c.in_err-open.was).left

pub returns-clause-answer : goal.returns-clause-answer
returns-clause-answer g c =
    let a = c.args in
    let e = c.open.ensures in
    (opened_on g.K.NumberKind.model a.formula.now (contents a.sheet.now) a.working.now (given a.over) e.call.2.answer e.call.2.sheet e.working e.call.1 c.in_ok-open.was c.read.ensures.2 c.read.ensures.1).answer_is

pub returns-clause-leaves : goal.returns-clause-leaves
returns-clause-leaves g c =
    let a = c.args in
    let e = c.open.ensures in
    (opened_on g.K.NumberKind.model a.formula.now (contents a.sheet.now) a.working.now (given a.over) e.call.2.answer e.call.2.sheet e.working e.call.1 c.in_ok-open.was c.read.ensures.2 c.read.ensures.1).left
