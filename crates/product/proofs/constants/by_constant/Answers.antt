use Rattle.std.proofs.Common.{Ok, rules, sym, subst, ◌≡◌}
use Rattle.product.proofs.ByConstant.{by_constant, constant_by}
use Rattle.product.proofs.constants.by_constant.Goals as goal
use Rattle.slope.specs.Rules.{given}
use Rattle.span.specs.Spans.{point}

pub returns-clause-right : goal.returns-clause-right
returns-clause-right g c = subst (λ o. Ok c.slopes_by.result ≡ given c.args.place o)
    (sym (by_constant g.K.NumberKind.model g.met.K.NumberKind.rules c.args.p.now (point g.K.NumberKind.model c.args.k))) (search rules)

pub returns-clause-left : goal.returns-clause-left
returns-clause-left g c = subst (λ o. Ok c.slopes_by.result ≡ given c.args.place o)
    (sym (constant_by g.K.NumberKind.model g.met.K.NumberKind.rules c.args.p.now (point g.K.NumberKind.model c.args.k))) (search rules)
