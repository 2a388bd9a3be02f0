use Rattle.std.proofs.Common.{Some, ap, ap₂, ◌∙◌, arith, lit<}
use borrow.Author.Differences.{ints}
use Rattle.kind.proofs.GridRules.{above_of}
use Rattle.fixed.proofs.Ratios.{above_none, fixed_none, none_first, none_second}
use Rattle.fixed.specs.Grid.{fixed_grid}
use Rattle.fixed.specs.Ratios as ratios
use Rattle.fixed.specs.Rules.{fixed_lawful}
use Rattle.fixed.proofs.ratio.Product.ends.Goals as goal
use Rattle.fixed.proofs.ratio.Product.ends.Goals.{then-least-via-then-least, then-least-via-else-least+then-greatest}

pub returns-then-least : goal.returns-then-least
returns-then-least c = elim c.then-least.branch [
  | then-least-via-then-least w ↦ none_first _ _ (fixed_none c.args.least.n 65536 (lit< tt) (omega (arith, ints)))
  | then-least-via-else-least+then-greatest w ↦ none_second _ _ (above_none c.args.greatest.n 65536 (lit< tt) (omega (arith, ints)))
]

pub returns : goal.returns
returns c =
    let b = c.args.greatest.bounded in
    let above = above_of fixed_grid fixed_lawful c.args.greatest.n _ 65536 (lit< tt) _ (omega (arith, ints)) c.floor-2.ensures in
    ap₂ ratios.pair c.floor.ensures (ap Some c.opposite.ensures ∙ above)
