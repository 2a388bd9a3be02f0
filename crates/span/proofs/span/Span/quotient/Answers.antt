use Rattle.std.proofs.Common.{rules}
use Rattle.span.proofs.Lawful.{quotient_law}
use Rattle.span.proofs.span.Span.quotient.Goals as goal

pub returns-then-not-to_zero-clause-narrowest : goal.returns-then-not-to_zero-clause-narrowest
returns-then-not-to_zero-clause-narrowest g c = quotient_law g.K.NumberKind.model g.met.K.NumberKind.rules _ _ _ (search rules)

pub returns-then-from_zero-clause-narrowest : goal.returns-then-from_zero-clause-narrowest
returns-then-from_zero-clause-narrowest g c = quotient_law g.K.NumberKind.model g.met.K.NumberKind.rules _ _ _ (search rules)

pub returns-else-from_zero-clause-narrowest : goal.returns-else-from_zero-clause-narrowest
returns-else-from_zero-clause-narrowest g c = quotient_law g.K.NumberKind.model g.met.K.NumberKind.rules _ _ _ (search rules)
