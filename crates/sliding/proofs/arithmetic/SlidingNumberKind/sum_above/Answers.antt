use Rattle.std.proofs.Common.{◌∙◌, arith}
use borrow.Author.Differences.{ints}
use Rattle.sliding.proofs.Ops.{is_sum_above}
use Rattle.sliding.proofs.arithmetic.SlidingNumberKind.sum_above.Goals as goal

pub returns : goal.returns
returns c =
    c.above.ensures ∙ is_sum_above _ c.args.self c.args.other (let p = c.args.self.on_grid.0 in let q = c.args.other.on_grid.0 in omega (arith, ints))
