use Rattle.std.proofs.Common.{ap, sym, ◌∙◌}
use Rattle.quotient.proofs.Zeros.{by_still}
use Rattle.quotient.proofs.quotient_slopes.Goals as goal
use Rattle.slope.specs.Rules.{rec}

pub returns-then-is_still : goal.returns-then-is_still
returns-then-is_still g c = c.over_still.ensures ∙ ap (rec c.args.base.u c.args.base.u0) (sym (by_still g.K.NumberKind.model g.met.K.NumberKind.rules c.args.p.now c.args.q.now c.args.base.u0 _ _
    c.in-Some.is c.in-Some-slopes.is (sym c.is_still.ensures ∙ c.if-is_still.true)))
