use Rattle.std.proofs.Common.{◌≡◌, Some, ap, ap₂, ◌∙◌, Option, sym, arith}
use borrow.Author.Differences.{ints}
use Rattle.exact.specs.Optional.{◌>>=◌}
use Rattle.kind.proofs.GridRules.{above_of}
use Rattle.sliding.proofs.Products.{no_ends}
use Rattle.sliding.specs.Grid.{sliding_grid}
use Rattle.sliding.specs.Products as products
use Rattle.sliding.specs.Rules.{sliding_lawful}
use Rattle.sliding.specs.declared.mark.Sliding.{Sliding}
use Rattle.sliding.proofs.product.Product.ends.Goals as goal

pub returns-then-either_beyond : goal.returns-then-either_beyond
returns-then-either_beyond c = no_ends c.args.self.n c.args.other.n (sym c.either_beyond.ensures ∙ c.if-either_beyond.true)

pub returns : goal.returns
returns c =
    let m = c.args.other in
    let upper : Some c.opposite.result ≡ products.above m.n = ap Some c.opposite.ensures
    ∙ above_of sliding_grid sliding_lawful m.n _ 16777216 _ _ (let b = m.bounded in omega (arith, ints)) c.cut-upper.ensures in
    ap₂ (λ (o p : Option Sliding). o >>= (λ l. p >>= (λ u. Some (l, u)))) c.cut.ensures upper
