use Rattle.std.proofs.Common.{Ok, rules}
use Rattle.quotient.proofs.Kept.{quotient_law}
use Rattle.quotient.proofs.quotient.Goals as goal

pub returns-in_err-u0-clause-truth : goal.returns-in_err-u0-clause-truth
returns-in_err-u0-clause-truth g c = quotient_law g.K.NumberKind.model g.met.K.NumberKind.rules c.args.place c.args.p.now c.args.q.now _ (search rules)

pub returns-clause-truth : goal.returns-clause-truth
returns-clause-truth g c = quotient_law g.K.NumberKind.model g.met.K.NumberKind.rules c.args.place c.args.p.now c.args.q.now (Ok c.quotient_slopes.result) (search rules)
