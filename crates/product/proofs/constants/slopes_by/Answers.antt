use Rattle.std.proofs.Common.{ap, sym, ◌∙◌}
use Rattle.product.proofs.ByConstant.{still_times, times_still}
use Rattle.product.proofs.constants.slopes_by.Goals as goal
use Rattle.slope.specs.Rules.{rec}
use Rattle.span.specs.Spans.{point}

pub returns-then-is_still-clause-right : goal.returns-then-is_still-clause-right
returns-then-is_still-clause-right g c = c.sloped.ensures ∙ ap (rec c.args.base.u c.args.base.u0)
    (sym (still_times g.K.NumberKind.model g.met.K.NumberKind.rules c.args.p.now (point g.K.NumberKind.model c.args.k) _
    c.in-Some.is (sym c.is_still.ensures ∙ c.if-is_still.true)))

pub returns-then-is_still-clause-left : goal.returns-then-is_still-clause-left
returns-then-is_still-clause-left g c = c.sloped.ensures ∙ ap (rec c.args.base.u c.args.base.u0)
    (sym (times_still g.K.NumberKind.model g.met.K.NumberKind.rules c.args.p.now (point g.K.NumberKind.model c.args.k) _
    c.in-Some.is (sym c.is_still.ensures ∙ c.if-is_still.true)))
