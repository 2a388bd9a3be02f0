use Rattle.std.proofs.Common.{rules}
use Rattle.slope.proofs.ChoicesTrue.{lesser_law}
use Rattle.slope.proofs.choices.lesser.Goals as goal

pub returns-then-clears-clause-truth : goal.returns-then-clears-clause-truth
returns-then-clears-clause-truth g c = lesser_law g.K.NumberKind.model g.met.K.NumberKind.rules _ _ _ (search rules)

pub returns-then-clears-2-clause-truth : goal.returns-then-clears-2-clause-truth
returns-then-clears-2-clause-truth g c = lesser_law g.K.NumberKind.model g.met.K.NumberKind.rules _ _ _ (search rules)

pub returns-else-clears-2-clause-truth : goal.returns-else-clears-2-clause-truth
returns-else-clears-2-clause-truth g c = lesser_law g.K.NumberKind.model g.met.K.NumberKind.rules _ _ _ (search rules)
