-- Rounding to whole numbers of 1/g, for any fraction and any positive g: the one notion of rounding that all number kinds rest on.
use Rattle.std.specs.Prelude.{ℕ, ◌<◌, ℤ, pos, ◌*ℤ◌, neg_ℤ, ◌≤ℤ◌}
use Rattle.std.specs.Int.{int_div_euclid}
use Rattle.exact.specs.Fraction.{Frac, ratio, neg_F, ◌≤F◌}

-- k/g is the greatest not above x
pub record Floor (g : ℕ) (h : 0 < g) (x : Frac) (k : ℤ) : Type 0 where
  pub low : ratio k g h ≤F x
  pub greatest : (j : ℤ) → ratio j g h ≤F x → j ≤ℤ k

-- k/g is the least not below x
pub record Ceiling (g : ℕ) (h : 0 < g) (x : Frac) (k : ℤ) : Type 0 where
  pub high : x ≤F ratio k g h
  pub least : (j : ℤ) → x ≤F ratio j g h → k ≤ℤ j

unfoldable pub floor : ℕ → Frac → ℤ
floor g x = int_div_euclid (x.top *ℤ pos g) (pos x.bot)

unfoldable pub ceiling : ℕ → Frac → ℤ
ceiling g x = neg_ℤ (floor g (neg_F x))

-- for every denominator and every g the two functions are what they are called
pub record Rounding : Type 0 where
  pub floor_is : (g : ℕ) (h : 0 < g) (x : Frac) → Floor g h x (floor g x)
  pub ceiling_is : (g : ℕ) (h : 0 < g) (x : Frac) → Ceiling g h x (ceiling g x)
