use Rattle.std.proofs.Common.{ap, sym, ◌∙◌}
use Rattle.product.proofs.ByUnit.{by_unit_is, of_units_is, unit_by_is}
use Rattle.product.proofs.Zeros.{both_still, by_still, of_still}
use Rattle.product.proofs.product_slopes.Goals as goal
use Rattle.slope.specs.Rules.{rec}

pub returns-then-is_still-2 : goal.returns-then-is_still-2
returns-then-is_still-2 g c = c.sloped.ensures ∙ ap (rec c.args.base.u c.args.base.u0) (sym (both_still g.K.NumberKind.model g.met.K.NumberKind.rules c.args.p.now c.args.q.now _ _
    c.in-Some.is c.in-Some-slopes.is (sym c.is_still-then-is_still.ensures ∙ c.if-is_still-2.true) (sym c.is_still.ensures ∙ c.if-is_still.true)))

pub returns-then-is_still : goal.returns-then-is_still
returns-then-is_still g c = c.scaled.ensures ∙ ap (rec c.args.base.u c.args.base.u0) (sym (by_still g.K.NumberKind.model g.met.K.NumberKind.rules c.args.p.now c.args.q.now _ _
    c.in-Some.is c.in-Some-slopes.is (sym c.is_still.ensures ∙ c.if-is_still.true)))

pub returns-then-is_still-3 : goal.returns-then-is_still-3
returns-then-is_still-3 g c = c.scaled-then-is_still-3.ensures ∙ ap (rec c.args.base.u c.args.base.u0) (sym (of_still g.K.NumberKind.model g.met.K.NumberKind.rules c.args.p.now c.args.q.now _ _
    c.in-Some.is c.in-Some-slopes.is (sym c.is_still-2.ensures ∙ c.if-is_still-3.true)))

pub returns-then-is_unit-2 : goal.returns-then-is_unit-2
returns-then-is_unit-2 g c = c.of_units.ensures ∙ ap (rec c.args.base.u c.args.base.u0) (sym (of_units_is g.K.NumberKind.model g.met.K.NumberKind.rules c.args.p.now c.args.q.now _ _
    c.in-Some.is c.in-Some-slopes.is (sym c.is_unit-then-is_unit.ensures ∙ c.if-is_unit-2.true) (sym c.is_unit.ensures ∙ c.if-is_unit.true)))

pub returns-then-is_unit : goal.returns-then-is_unit
returns-then-is_unit g c = c.by_unit.ensures ∙ ap (rec c.args.base.u c.args.base.u0) (sym (by_unit_is g.K.NumberKind.model g.met.K.NumberKind.rules c.args.p.now c.args.q.now _ _
    c.in-Some.is c.in-Some-slopes.is (sym c.is_unit.ensures ∙ c.if-is_unit.true)))

pub returns-then-is_unit-3 : goal.returns-then-is_unit-3
returns-then-is_unit-3 g c = c.unit_by.ensures ∙ ap (rec c.args.base.u c.args.base.u0) (sym (unit_by_is g.K.NumberKind.model g.met.K.NumberKind.rules c.args.p.now c.args.q.now _ _
    c.in-Some.is c.in-Some-slopes.is (sym c.is_unit-2.ensures ∙ c.if-is_unit-3.true)))
