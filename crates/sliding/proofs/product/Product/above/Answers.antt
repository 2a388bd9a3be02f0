use Rattle.std.proofs.Common.{◌≡◌, ◌∙◌, arith, rules}
use borrow.Author.Differences.{ints}
use Rattle.kind.proofs.GridRules.{above_of}
use Rattle.kind.specs.Grid.{mirrored}
use Rattle.sliding.specs.Grid.{sliding_grid}
use Rattle.sliding.specs.Rules.{sliding_lawful}
use Rattle.sliding.proofs.product.Product.above.Goals as goal

pub returns : goal.returns
returns c =
    let e : c.map.result ≡ mirrored sliding_grid c.below.result = search rules in
    e ∙ above_of sliding_grid sliding_lawful c.args.self.n _ 16777216 _ _
    (let b = c.args.self.bounded in omega (arith, ints)) c.below.ensures
