-- What a whole number of units rounds to.
use Rattle.std.specs.Prelude.{ℤ, Option}
use Rattle.std.proofs.Common.{lit<}
use Rattle.kind.specs.Grid.{grid_above, grid_below, units_over}
use Rattle.sliding.specs.Grid.{sliding_grid}
use Rattle.sliding.specs.declared.mark.Sliding.{Sliding}

abbrev pub below : ℤ → Option Sliding
below k = grid_below sliding_grid (units_over sliding_grid k 1 (lit< tt))

abbrev pub above : ℤ → Option Sliding
above k = grid_above sliding_grid (units_over sliding_grid k 1 (lit< tt))
