use Rattle.std.proofs.Common.{◌∙◌, arith}
use borrow.Author.Differences.{ints}
use Rattle.sliding.proofs.Ops.{is_count_above}
use Rattle.sliding.proofs.arithmetic.SlidingNumberKind.count_above.Goals as goal

pub returns : goal.returns
returns c = c.above.ensures ∙ is_count_above _ c.args.n (let e = c.from.ensures in omega (arith, ints))
