-- What a ratio of units rounds to.
use Rattle.std.specs.Prelude.{Option}
use Rattle.kind.specs.Grid.{grid_below, units_over}
use Rattle.sliding.specs.Cut.{shifted}
use Rattle.sliding.specs.Grid.{sliding_grid}
use Rattle.sliding.specs.declared.mark.Sliding.{Sliding}
use Rattle.sliding.specs.declared.ratio.Ratio.{Ratio}

abbrev pub below : Ratio → Option Sliding
below q = grid_below sliding_grid (units_over sliding_grid (shifted q.n q.t) q.d q.held.positive)
