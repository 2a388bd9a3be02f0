use Rattle.std.proofs.Common.{◌∙◌, arith}
use borrow.Author.Differences.{ints}
use Rattle.sliding.proofs.Ops.{is_sum_below}
use Rattle.sliding.proofs.arithmetic.SlidingNumberKind.sum_below.Goals as goal

pub returns : goal.returns
returns c =
    c.below.ensures ∙ is_sum_below _ c.args.self c.args.other (let p = c.args.self.on_grid.0 in let q = c.args.other.on_grid.0 in omega (arith, ints))
