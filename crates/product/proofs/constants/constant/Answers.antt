use Rattle.std.proofs.Common.{rules, sym, ◌∙◌}
use Rattle.product.proofs.ByConstant.{constant_is}
use Rattle.product.proofs.constants.constant.Goals as goal

pub returns-then-is_still : goal.returns-then-is_still
returns-then-is_still g c =
    constant_is g.K.NumberKind.model g.met.K.NumberKind.rules c.args.p.now c.in_ok-k.k c.in_ok-k0.k0 c.in-Some.s
    (search rules) (search rules) c.in-Some.is (sym c.at_most.ensures ∙ c.if-at_most.true)
    (sym c.at_most-then-at_most.ensures ∙ c.if-at_most-2.true) (sym c.is_still.ensures ∙ c.if-is_still.true)
