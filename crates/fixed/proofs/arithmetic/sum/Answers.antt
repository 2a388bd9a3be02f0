use Rattle.std.proofs.Common.{◌∙◌, sym, arith, lit<}
use Rattle.kind.proofs.GridOps.{sum_above_is, sum_below_is}
use borrow.Author.Differences.{ints}
use Rattle.fixed.proofs.Ratios.{above_count, below_count, at_above, at_below}
use Rattle.fixed.specs.Rules.{fixed_lawful}
use Rattle.fixed.specs.Grid.{fixed_grid}
use Rattle.fixed.proofs.arithmetic.sum.Goals as goal

pub returns-clause-below : goal.returns-clause-below
returns-clause-below c = c.whole.ensures.below ∙ sym (below_count _) ∙ at_below _ _ 1 (lit< tt) (lit< tt) (omega (arith, ints)) ∙ sum_below_is fixed_grid fixed_lawful c.args.a c.args.b (lit< tt)

pub returns-clause-above : goal.returns-clause-above
returns-clause-above c = c.whole.ensures.above ∙ sym (above_count _) ∙ at_above _ _ 1 (lit< tt) (lit< tt) (omega (arith, ints)) ∙ sum_above_is fixed_grid fixed_lawful c.args.a c.args.b (lit< tt)
