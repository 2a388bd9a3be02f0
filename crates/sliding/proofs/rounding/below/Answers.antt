use Rattle.std.proofs.Common.{arith, lit<}
use borrow.Author.Differences.{ints}
use Rattle.sliding.proofs.Rounds.{ratio_none}
use Rattle.sliding.proofs.rounding.below.Goals as goal

pub returns-then-unsigned_abs-gt-TOP : goal.returns-then-unsigned_abs-gt-TOP
returns-then-unsigned_abs-gt-TOP c = ratio_none c.args.k 1 (lit< tt) (let e = c.unsigned_abs.ensures.value in omega (arith, ints))
