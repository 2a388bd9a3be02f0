use Rattle.std.proofs.Common.{inl, arith}
use Rattle.writer.proofs.Groups.{at_most_ten}
use Rattle.writer.proofs.numbers.width.Goals as goal

pub count-requires-clause-fits : goal.count-requires-clause-fits
count-requires-clause-fits c = inl (omega (arith, at_most_ten c.args.n))

pub returns-clause-bound : goal.returns-clause-bound
returns-clause-bound c = omega (arith, c.count.ensures.bound, at_most_ten c.args.n)
