use Rattle.std.proofs.Common.{arith}
use borrow.Author.Differences.{ints}
use Rattle.odd.proofs.Computed.{ceiling_is, floor_is, small}
use Rattle.odd.proofs.arithmetic.counts.Goals as goal

pub overflow_mul-result : goal.overflow_mul-result
overflow_mul-result c = let p = small c.args.a in omega (arith, ints)

pub returns : goal.returns
returns c =
    let p = small c.args.a in
    record { below = omega (arith, ints, floor_is c.args.a); above = omega (arith, ints, ceiling_is c.args.a) }
