use Rattle.std.proofs.Common.{rules, sym, subst, ◌∙◌, ◌≡◌}
use Rattle.product.proofs.Zeros.{of_straight}
use Rattle.product.proofs.bent.Goals as goal
use Rattle.slope.specs.Rules.{rec}

pub returns-in_default-product : goal.returns-in_default-product
returns-in_default-product g c = subst (λ o. c.flat-in_default-product.result ≡ rec c.args.base.u c.args.base.u0 o)
    (sym (of_straight g.K.NumberKind.model g.met.K.NumberKind.rules c.args.p.now c.args.q.now _ _
    c.in-Some.is c.in-Some-slopes.is c.args.a c.args.b
    (sym c.is_zero.ensures ∙ c.if-is_zero.true) (sym c.is_zero-then-is_zero.ensures ∙ c.if-is_zero-2.true)))
    (search rules)

pub returns-then-is_zero-2 : goal.returns-then-is_zero-2
returns-then-is_zero-2 g c = subst (λ o. c.sloped.result ≡ rec c.args.base.u c.args.base.u0 o)
    (sym (of_straight g.K.NumberKind.model g.met.K.NumberKind.rules c.args.p.now c.args.q.now _ _
    c.in-Some.is c.in-Some-slopes.is c.args.a c.args.b
    (sym c.is_zero.ensures ∙ c.if-is_zero.true) (sym c.is_zero-then-is_zero.ensures ∙ c.if-is_zero-2.true)))
    (search rules)
