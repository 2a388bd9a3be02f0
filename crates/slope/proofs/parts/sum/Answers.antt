use Rattle.std.proofs.Common.{Ok, rules}
use Rattle.slope.proofs.PartsTrue.{sum_law}
use Rattle.slope.proofs.parts.sum.Goals as goal

pub returns-in_err-u0-clause-truth : goal.returns-in_err-u0-clause-truth
returns-in_err-u0-clause-truth g c = sum_law g.K.NumberKind.model g.met.K.NumberKind.rules c.args.place _ _ _ (search rules)

pub returns-clause-truth : goal.returns-clause-truth
returns-clause-truth g c = sum_law g.K.NumberKind.model g.met.K.NumberKind.rules c.args.place c.args.p.now c.args.q.now (Ok c.sum_slopes.result) (search rules)
