use Rattle.std.proofs.Common.{refl}
use Rattle.span.proofs.Agreed.{nested, only}
use Rattle.span.proofs.agreement.operations.Goals as goal

pub returns : goal.returns
returns g c = record {
  value = refl;
  only = only g.K.NumberKind.model g.met.K.NumberKind.rules;
  nested = nested g.K.NumberKind.model g.met.K.NumberKind.rules;
}
