use Rattle.std.proofs.Common.{◌∙◌, arith}
use borrow.Author.Differences.{ints}
use Rattle.sliding.proofs.Ops.{is_count_below}
use Rattle.sliding.proofs.arithmetic.SlidingNumberKind.count_below.Goals as goal

pub returns : goal.returns
returns c = c.below.ensures ∙ is_count_below _ c.args.n (let e = c.from.ensures in omega (arith, ints))
