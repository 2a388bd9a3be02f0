use Rattle.std.proofs.Common.{rules}
use Rattle.span.proofs.Lawful.{hull_law}
use Rattle.span.proofs.span.Span.hull.Goals as goal

pub returns-clause-narrowest : goal.returns-clause-narrowest
returns-clause-narrowest g c = hull_law g.K.NumberKind.model g.met.K.NumberKind.rules _ _ _ (search rules)
