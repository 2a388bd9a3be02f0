-- A kind whose marks are whole numbers of one unit. The kind rounds whole numbers of units; a fraction is rounded by the
-- floor over its denominator first. The fixed and the sliding kind are grids.
use Rattle.std.specs.Prelude.{◌≡◌, ℕ, ◌*◌, ◌^◌, ◌<◌, Bool, cond, ◌&&◌, ℤ, pos, neg_ℤ, ◌≤ℤ◌, Some, None, Option}
use Rattle.std.proofs.Common.{mul-pos}
use Rattle.exact.specs.Optional.{◌>>=◌}
use Rattle.exact.specs.Fraction.{Frac, ratio, neg_F, le_F}
use Rattle.exact.specs.Floor.{floor}
use Rattle.kind.specs.Model.{Model}

pub record Grid (K : Type 0) : Type 0 where
  -- marks are counted in 1/unit
  pub unit : ℕ
  pub some_unit : 0 < unit
  pub size : K → ℤ
  pub top : K
  pub nought : K
  pub one : K
  pub minus : K → K
  -- the greatest mark not above a whole number of units, for those from −T to T
  pub down : ℤ → Option K

module _ {K : Type 0} (g : Grid K) where
  abbrev pub grid_value : K → Frac
  grid_value a = ratio (g.size a) g.unit g.some_unit

  unfoldable pub inside? : Frac → Bool
  inside? x = le_F (neg_F (grid_value g.top)) x && le_F x (grid_value g.top)

  unfoldable pub grid_below : Frac → Option K
  grid_below x = cond (inside? x) (g.down (floor g.unit x)) None

  -- the negative of a mark that may be absent
  abbrev pub mirrored : Option K → Option K
  mirrored o = o >>= (λ a. Some (g.minus a))

  -- by the mirror image
  unfoldable pub grid_above : Frac → Option K
  grid_above x = grid_below (neg_F x) >>= (λ a. Some (g.minus a))

  abbrev pub grid_model : Model K
  grid_model = record { value = grid_value; top = g.top; nought = g.nought; unit = g.one; opposite = g.minus; below = grid_below; above = grid_above }

  -- n units over d
  unfoldable pub units_over : ℤ → (d : ℕ) → 0 < d → Frac
  units_over n d h = ratio n (d * g.unit) (mul-pos h g.some_unit)

-- the greatest mark not above k units
pub record Nearest {K : Type 0} (g : Grid K) (k : ℤ) : Type 0 where
  pub mark : K
  pub found : g.down k ≡ Some mark
  pub low : g.size mark ≤ℤ k
  pub most : (a : K) → g.size a ≤ℤ k → g.size a ≤ℤ g.size mark

-- what a grid owes
pub record Lawful {K : Type 0} (g : Grid K) : Type 0 where
  pub nought_is : g.size g.nought ≡ pos 0
  pub one_is : g.size g.one ≡ pos g.unit
  pub minus_is : (a : K) → g.size (g.minus a) ≡ neg_ℤ (g.size a)
  pub distinct : (a b : K) → g.size a ≡ g.size b → a ≡ b
  pub greatest : (a : K) → g.size a ≤ℤ g.size g.top
  pub bounded : g.size g.top ≤ℤ pos (2 ^ 40 * g.unit)
  pub nearest : (k : ℤ) → neg_ℤ (g.size g.top) ≤ℤ k → k ≤ℤ g.size g.top → Nearest g k
