use Rattle.std.proofs.Common.{◌<◌}
use Rattle.marks.proofs.decimal.DecimalDisplay.fmt.Given as goal

abbrev pub invariant-loop : goal.invariant-loop
invariant-loop g l = l.rest < 16777216
