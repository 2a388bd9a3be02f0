use Rattle.std.proofs.Common.{refl}
use Rattle.kind.proofs.Orders.{orderly}
use Rattle.kind.proofs.laws.directions.Goals as goal

pub returns : goal.returns
returns g c = record { value = refl; orderly = orderly g.K.NumberKind.model g.met.K.NumberKind.rules }
