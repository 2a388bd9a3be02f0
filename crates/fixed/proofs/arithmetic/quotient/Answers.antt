use Rattle.std.proofs.Common.{◌∙◌, arith}
use borrow.Author.Differences.{ints}
use Rattle.kind.proofs.GridOps.{quotient_above_neg, quotient_above_pos, quotient_below_neg, quotient_below_pos}
use Rattle.fixed.proofs.Ratios.{at_above, at_below}
use Rattle.fixed.specs.Rules.{fixed_lawful}
use Rattle.fixed.specs.Grid.{fixed_grid}
use Rattle.fixed.proofs.arithmetic.quotient.Goals as goal
use Rattle.fixed.proofs.arithmetic.quotient.Goals.{then-b-lt0, else-b-lt0}

pub returns-clause-below : goal.returns-clause-below
returns-clause-below c = elim c.if-b-lt0.branch [
  | then-b-lt0 w ↦ at_below _ _ _ _ (omega (arith, ints)) (omega (arith, ints)) ∙ quotient_below_neg fixed_grid fixed_lawful c.args.a c.args.b _ _ (omega (arith, ints))
  | else-b-lt0 w ↦ at_below _ _ _ _ (omega (arith, ints)) (omega (arith, ints)) ∙ quotient_below_pos fixed_grid fixed_lawful c.args.a c.args.b _ _ (omega (arith, ints))
]

pub returns-clause-above : goal.returns-clause-above
returns-clause-above c = elim c.if-b-lt0.branch [
  | then-b-lt0 w ↦ at_above _ _ _ _ (omega (arith, ints)) (omega (arith, ints)) ∙ quotient_above_neg fixed_grid fixed_lawful c.args.a c.args.b _ _ (omega (arith, ints))
  | else-b-lt0 w ↦ at_above _ _ _ _ (omega (arith, ints)) (omega (arith, ints)) ∙ quotient_above_pos fixed_grid fixed_lawful c.args.a c.args.b _ _ (omega (arith, ints))
]
