use Rattle.std.proofs.Common.{rules}
use Rattle.span.proofs.Points.{scaled_left}
use Rattle.span.proofs.span.Span.scaled.Goals as goal

pub returns-in_err-lower-clause-left : goal.returns-in_err-lower-clause-left
returns-in_err-lower-clause-left g c = scaled_left g.K.NumberKind.model g.met.K.NumberKind.rules _ _ _ (search rules)

pub returns-clause-left : goal.returns-clause-left
returns-clause-left g c = scaled_left g.K.NumberKind.model g.met.K.NumberKind.rules _ _ _ (search rules)
