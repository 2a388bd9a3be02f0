use Rattle.std.proofs.Common.{◌∙◌}
use Rattle.sliding.proofs.Products.{is_below}
use Rattle.sliding.proofs.product.Product.cut.Goals as goal

pub returns : goal.returns
returns c = c.cut.ensures ∙ is_below c.args.self.n c.args.self.bounded c.requires
