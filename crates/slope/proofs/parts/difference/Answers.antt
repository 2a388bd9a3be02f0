use Rattle.std.proofs.Common.{rules}
use Rattle.slope.proofs.PartsTrue.{difference_law}
use Rattle.slope.proofs.parts.difference.Goals as goal

pub returns-clause-truth : goal.returns-clause-truth
returns-clause-truth g c = difference_law g.K.NumberKind.model g.met.K.NumberKind.rules c.args.place _ _ _ (search rules)
