use Rattle.std.proofs.Common.{rules}
use Rattle.span.proofs.Lawful.{magnitude_law}
use Rattle.span.proofs.span.Span.magnitude.Goals as goal

pub returns-then-from_zero-clause-narrowest : goal.returns-then-from_zero-clause-narrowest
returns-then-from_zero-clause-narrowest g c = magnitude_law g.K.NumberKind.model g.met.K.NumberKind.rules _ _ (search rules)

pub returns-then-to_zero-clause-narrowest : goal.returns-then-to_zero-clause-narrowest
returns-then-to_zero-clause-narrowest g c = magnitude_law g.K.NumberKind.model g.met.K.NumberKind.rules _ _ (search rules)

pub returns-else-to_zero-clause-narrowest : goal.returns-else-to_zero-clause-narrowest
returns-else-to_zero-clause-narrowest g c = magnitude_law g.K.NumberKind.model g.met.K.NumberKind.rules _ _ (search rules)
