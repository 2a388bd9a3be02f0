-- What the exact product and the exact quotient of two marks round to.
use Rattle.std.specs.Prelude.{Option, Some, pos, ◌*ℤ◌}
use Rattle.std.proofs.Common.{lit<}
use Rattle.exact.specs.Fraction.{Frac}
use Rattle.exact.specs.Optional.{◌>>=◌}
use Rattle.kind.specs.Grid.{grid_above, grid_below, units_over}
use Rattle.fixed.specs.Grid.{fixed_grid}
use Rattle.fixed.specs.declared.mark.Fixed.{Fixed}
use Rattle.fixed.specs.declared.ratio.Product.{Product}
use Rattle.fixed.specs.declared.ratio.Ratio.{Ratio}

abbrev pub product : Product → Frac
product p = units_over fixed_grid p.n 65536 (lit< tt)

abbrev pub product_below : Product → Option Fixed
product_below p = grid_below fixed_grid (product p)

abbrev pub product_above : Product → Option Fixed
product_above p = grid_above fixed_grid (product p)

-- a pair is there where both marks are
abbrev pub pair : Option Fixed → Option Fixed → Option (Fixed × Fixed)
pair p q = p >>= (λ l. q >>= (λ u. Some (l, u)))

-- the least rounded down and the greatest rounded up
abbrev pub product_ends : Product → Product → Option (Fixed × Fixed)
product_ends least greatest = pair (product_below least) (product_above greatest)

abbrev pub ratio : Ratio → Frac
ratio q = units_over fixed_grid (q.n *ℤ pos 65536) q.d q.positive

abbrev pub below : Ratio → Option Fixed
below q = grid_below fixed_grid (ratio q)

abbrev pub above : Ratio → Option Fixed
above q = grid_above fixed_grid (ratio q)

-- of a ratio that may be absent
abbrev pub maybe_below : Option Ratio → Option Fixed
maybe_below o = o >>= below

abbrev pub maybe_above : Option Ratio → Option Fixed
maybe_above o = o >>= above
