use Rattle.std.proofs.Common.{rules}
use Rattle.span.proofs.Lawful.{square_law}
use Rattle.span.proofs.span.Span.square.Goals as goal

pub returns-clause-narrowest : goal.returns-clause-narrowest
returns-clause-narrowest g c = square_law g.K.NumberKind.model g.met.K.NumberKind.rules _ _ (search rules)
