use Rattle.std.proofs.Common.{◌<◌, nat_abs, arith}
use borrow.Author.Differences.{ints}
use Rattle.fixed.proofs.Ratios.{beyond_above, beyond_below, whole_above, whole_below}
use Rattle.fixed.specs.Rules.{mark_some}
use Rattle.fixed.proofs.arithmetic.whole.Goals as goal
use Rattle.fixed.proofs.arithmetic.whole.Goals.{then-n-via-then-n, then-n-via-else-n+then-n-gt-MOST}

beyond : (c : goal.Joined-then-n) → 1073741823 < nat_abs c.args.n
beyond c = elim c.then-n.branch [ then-n-via-then-n w ↦ omega (arith, ints) | then-n-via-else-n+then-n-gt-MOST w ↦ omega (arith, ints) ]

pub returns-then-n-clause-below : goal.returns-then-n-clause-below
returns-then-n-clause-below c = beyond_below c.args.n (beyond c)

pub returns-then-n-clause-above : goal.returns-then-n-clause-above
returns-then-n-clause-above c = beyond_above c.args.n (beyond c)

pub returns-clause-value : goal.returns-clause-value
returns-clause-value c = mark_some c.args.n _ (omega (arith, ints))

pub returns-clause-below : goal.returns-clause-below
returns-clause-below c = whole_below c.args.n _ (omega (arith, ints))

pub returns-clause-above : goal.returns-clause-above
returns-clause-above c = whole_above c.args.n _ (omega (arith, ints))
