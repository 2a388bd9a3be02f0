use Rattle.std.proofs.Common.{◌∙◌, ◌++◌, ap, drop, rules, subst, sym, take}
use Rattle.runs.specs.Law.{GoesOn}
use Rattle.runs.specs.Runs.{Made, event, state}
use Rattle.sheet.specs.Contents.{contents}
use Rattle.desk.proofs.Lent.{front}
use Rattle.desk.specs.Dealing.{at_desk}
use Rattle.desk.proofs.desk.Desk.make.Goals as goal

pub returns-clause-made : goal.returns-clause-made
returns-clause-made g c =
    let d = c.args.self.now in
    let left = c.make.new in
    let w = front d.lent left.working (drop d.lent d.working) (search rules) in
    let p = front d.lent_spare left.spare (drop d.lent_spare d.spare) (search rules) in
    let e = ap (λ w. state (contents left.sheet) w left.spare left.out) (sym w)
    ∙ ap (λ p. state (contents left.sheet) (take d.lent (left.working ++ drop d.lent d.working)) p left.out) (sym p) in
    subst (λ y. Made g.K.NumberKind.model (at_desk d c.args.out.now) y c.make.result c.args.call) e c.make.ensures.made

pub returns-clause-run : goal.returns-clause-run
returns-clause-run g c =
    let d = c.args.self.now in
    let left = c.make.new in
    let w = front d.lent left.working (drop d.lent d.working) (search rules) in
    let p = front d.lent_spare left.spare (drop d.lent_spare d.spare) (search rules) in
    let e = ap (λ w. state (contents left.sheet) w left.spare left.out) (sym w)
    ∙ ap (λ p. state (contents left.sheet) (take d.lent (left.working ++ drop d.lent d.working)) p left.out) (sym p) in
    let found = at_desk d c.args.out.now in
    subst (λ y. GoesOn g.K.NumberKind.model (event c.args.call found c.make.result) found y) e c.make.ensures.run
