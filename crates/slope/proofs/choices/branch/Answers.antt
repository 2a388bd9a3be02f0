use Rattle.std.proofs.Common.{rules}
use Rattle.slope.proofs.ChoicesTrue.{branch_law}
use Rattle.slope.proofs.choices.branch.Goals as goal

pub returns-else-at_most-clause-truth : goal.returns-else-at_most-clause-truth
returns-else-at_most-clause-truth g c = branch_law g.K.NumberKind.model g.met.K.NumberKind.rules _ _ _ _ (search rules)

pub returns-then-at_most-2-clause-truth : goal.returns-then-at_most-2-clause-truth
returns-then-at_most-2-clause-truth g c = branch_law g.K.NumberKind.model g.met.K.NumberKind.rules _ _ _ _ (search rules)

pub returns-else-at_most-2-clause-truth : goal.returns-else-at_most-2-clause-truth
returns-else-at_most-2-clause-truth g c = branch_law g.K.NumberKind.model g.met.K.NumberKind.rules _ _ _ _ (search rules)
