use Rattle.std.proofs.Common.{ap, sym, ◌∙◌}
use Rattle.curve.proofs.Straight.{bent_is, scaled_is}
use Rattle.curve.proofs.Zeros.{lift_still}
use Rattle.curve.proofs.lifting.lift_slopes.Goals as goal
use Rattle.slope.specs.Curves.{lift_slopes}
use Rattle.slope.specs.Rules.{rec}

pub returns-then-is_still : goal.returns-then-is_still
returns-then-is_still g c = c.sloped.ensures ∙ ap (rec c.args.base.u c.args.base.u0)
    (sym (lift_still g.K.NumberKind.model g.met.K.NumberKind.rules c.args.f.now _ _ c.in-Some.is (sym c.is_still.ensures ∙ c.if-is_still.true)))

pub returns : goal.returns
returns g c = c.scaled.ensures ∙ ap (rec c.args.base.u c.args.base.u0)
    (scaled_is g.K.NumberKind.model g.met.K.NumberKind.rules c.args.f.now _ _ _ (sym c.is_zero.ensures ∙ c.if-is_zero.true)
    (sym c.sole.ensures ∙ c.in-Some-sole.is) (sym c.sole-2.ensures ∙ c.in-Some-sole-2.is)
    ∙ ap (lift_slopes g.K.NumberKind.model c.args.f.now) (sym c.in-Some.is))

pub returns-2 : goal.returns-2
returns-2 g c = c.bent.ensures ∙ ap (rec c.args.base.u c.args.base.u0)
    (bent_is g.K.NumberKind.model g.met.K.NumberKind.rules c.args.f.now _
    ∙ ap (lift_slopes g.K.NumberKind.model c.args.f.now) (sym c.in-Some.is))
