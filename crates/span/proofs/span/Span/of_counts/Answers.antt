use Rattle.std.proofs.Common.{rules}
use Rattle.span.proofs.Lawful.{counts_law}
use Rattle.span.proofs.span.Span.of_counts.Goals as goal

pub returns-clause-narrowest : goal.returns-clause-narrowest
returns-clause-narrowest g c = counts_law g.K.NumberKind.model g.met.K.NumberKind.rules _ _ _ (search rules)
