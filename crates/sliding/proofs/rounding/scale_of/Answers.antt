use Rattle.std.proofs.Common.{arith}
use borrow.Author.Differences.{ints}
use Rattle.sliding.proofs.Scales.{scale_bound}
use Rattle.sliding.proofs.rounding.scale_of.Goals as goal

pub overflow_sub-result : goal.overflow_sub-result
overflow_sub-result c = scale_bound c.unsigned_abs.result
    (let e = c.unsigned_abs.ensures.value in let r = c.requires in omega (arith, ints))
