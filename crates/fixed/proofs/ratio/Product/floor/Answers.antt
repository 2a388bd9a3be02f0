use Rattle.std.proofs.Common.{arith, lit<}
use borrow.Author.Differences.{ints}
use Rattle.fixed.proofs.Ratios.{fixed_some, shift_count}
use Rattle.fixed.proofs.ratio.Product.floor.Goals as goal

pub returns : goal.returns
returns c = fixed_some c.args.self.n 65536 (lit< tt) _ (shift_count c.args.self.n (omega (arith, ints))) (omega (arith, ints))
