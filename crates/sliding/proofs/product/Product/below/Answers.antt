use Rattle.std.proofs.Common.{rules}
use Rattle.sliding.proofs.Products.{no_mark}
use Rattle.sliding.proofs.product.Product.below.Goals as goal

pub returns-then-either_beyond : goal.returns-then-either_beyond
returns-then-either_beyond c = no_mark c.args.self.n (search rules)
