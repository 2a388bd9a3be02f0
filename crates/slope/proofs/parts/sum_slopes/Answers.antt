use Rattle.std.proofs.Common.{ap, sym, ◌∙◌}
use Rattle.slope.proofs.Zeros.{still_sum, sum_still}
use Rattle.slope.proofs.parts.sum_slopes.Goals as goal
use Rattle.slope.specs.Rules.{rec}

pub returns-then-is_still : goal.returns-then-is_still
returns-then-is_still g c = c.sloped.ensures ∙ ap (rec c.args.base.u c.args.base.u0)
    (sym (sum_still g.K.NumberKind.model g.met.K.NumberKind.rules c.args.p.now c.args.q.now _ _ c.in-Some.is c.in-Some-slopes.is (sym c.is_still.ensures ∙ c.if-is_still.true)))

pub returns-then-is_still-2 : goal.returns-then-is_still-2
returns-then-is_still-2 g c = c.sloped-then-is_still-2.ensures ∙ ap (rec c.args.base.u c.args.base.u0)
    (sym (still_sum g.K.NumberKind.model g.met.K.NumberKind.rules c.args.p.now c.args.q.now _ _ c.in-Some.is c.in-Some-slopes.is (sym c.is_still-2.ensures ∙ c.if-is_still-2.true)))
