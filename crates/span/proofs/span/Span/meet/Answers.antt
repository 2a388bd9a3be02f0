use Rattle.std.proofs.Common.{rules}
use Rattle.span.proofs.Lawful.{met_law}
use Rattle.span.proofs.span.Span.meet.Goals as goal

pub returns-clause-both : goal.returns-clause-both
returns-clause-both g c = met_law g.K.NumberKind.model g.met.K.NumberKind.rules _ _ _ (search rules)
