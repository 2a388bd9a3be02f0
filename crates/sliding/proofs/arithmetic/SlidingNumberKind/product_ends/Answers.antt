use Rattle.std.proofs.Common.{◌∙◌}
use Rattle.sliding.proofs.Products.{is_ends}
use Rattle.sliding.proofs.arithmetic.SlidingNumberKind.product_ends.Goals as goal

pub returns : goal.returns
returns c = c.ends.ensures ∙ is_ends c.args.a c.args.b c.args.c c.args.d _ _ _ _ _ _ _ _ _ _
    c.of-ac.ensures c.of-ad.ensures c.of-bc.ensures c.of-bd.ensures c.lesser.ensures c.lesser-2.ensures c.lesser-least.ensures
    c.greater.ensures c.greater-2.ensures c.greater-greatest.ensures
