use Rattle.std.proofs.Common.{arith}
use Rattle.sliding.proofs.Ops.{plain_ceil8}
use Rattle.sliding.proofs.arithmetic.SlidingNumberKind.ceiling.Goals as goal

pub returns : goal.returns
returns c = plain_ceil8 c.args.self.units (let b = c.args.self.on_grid.0 in omega arith)
