use Rattle.std.proofs.Common.{rules, w64, to_z, of_z}
use Rattle.window.proofs.Centres.{by_midpoint}
use Rattle.window.proofs.windows.swept.Goals as goal

pub returns : goal.returns
returns c = by_midpoint c.args.lower.now c.args.upper.now c.midpoint.result {x = to_z w64 (of_z w64 c.midpoint.result)} (search rules) c.midpoint.ensures
