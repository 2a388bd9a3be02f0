use Rattle.std.proofs.Common.{◌*◌, ◌<◌, nat_abs, arith, lit<}
use borrow.Author.Differences.{ints}
use Rattle.fixed.proofs.Ratios.{fixed_none}
use Rattle.fixed.proofs.ratio.Product.below.Goals as goal
use Rattle.fixed.proofs.ratio.Product.below.Goals.{then-self-via-then-self, then-self-via-else-self+then-self-2}

beyond : (c : goal.Joined-then-self) → 1073741823 * 65536 < nat_abs c.args.self.n
beyond c = elim c.then-self.branch [ then-self-via-then-self w ↦ omega (arith, ints) | then-self-via-else-self+then-self-2 w ↦ omega (arith, ints) ]

pub returns-then-self : goal.returns-then-self
returns-then-self c = fixed_none c.args.self.n 65536 (lit< tt) (beyond c)
