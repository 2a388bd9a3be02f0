use Rattle.std.proofs.Common.{◌∙◌}
use Rattle.odd.proofs.Computed.{at_sign, plain, product_is_above, product_is_below}
use Rattle.odd.proofs.arithmetic.product.Goals as goal

pub returns : goal.returns
returns c =
    let e = at_sign _ _ _ c.marked.ensures (plain _ _ c.times.ensures c.times.type_inv) in
    record { below = e ∙ product_is_below _ _; above = e ∙ product_is_above _ _ }
