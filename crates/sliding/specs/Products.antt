-- What the exact product of two marks rounds to, and the choice between two products.
use Rattle.std.specs.Prelude.{Bool, cond, ℤ, Some, Option, int_le, nat_lt, unsigned_abs}
use Rattle.exact.specs.Optional.{◌>>=◌}
use Rattle.exact.specs.Fraction.{Frac}
use Rattle.kind.specs.Grid.{grid_above, grid_below, units_over}
use Rattle.sliding.specs.Grid.{sliding_grid}
use Rattle.sliding.specs.declared.mark.Sliding.{Sliding}

-- n/16,777,216 units
abbrev pub product : ℤ → Frac
product n = units_over sliding_grid n sliding_grid.unit sliding_grid.some_unit

abbrev pub below : ℤ → Option Sliding
below n = grid_below sliding_grid (product n)

abbrev pub above : ℤ → Option Sliding
above n = grid_above sliding_grid (product n)

-- n rounded down and m rounded up
abbrev pub ends : ℤ → ℤ → Option (Sliding × Sliding)
ends n m = below n >>= (λ l. above m >>= (λ u. Some (l, u)))

-- whether it is beyond −T or T
abbrev pub beyond : ℤ → Bool
beyond n = nat_lt 1208925747557035136778240 (unsigned_abs n)

abbrev pub lesser : ℤ → ℤ → ℤ
lesser x y = cond (int_le x y) x y

abbrev pub greater : ℤ → ℤ → ℤ
greater x y = cond (int_le x y) y x
