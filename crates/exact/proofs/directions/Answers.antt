use Rattle.std.proofs.Common.{refl}
use Rattle.exact.proofs.Floors.{floor_is, ceiling_is}
use Rattle.exact.proofs.directions.Goals as goal

pub returns : goal.returns
returns c = record { value = refl; rounding = record { floor_is = floor_is; ceiling_is = ceiling_is } }
