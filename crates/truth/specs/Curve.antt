-- Curves, their one law, and the exact functions of lines.
use Rattle.std.specs.Prelude.{cond, pos}
use Rattle.exact.specs.Fraction.{Frac, whole, ◌+F◌, ◌*F◌, neg_F, ◌-F◌, ◌≈◌, max_F, le_F}
use Rattle.exact.specs.Interval.{Interval, In}

unfoldable pub square_F : Frac → Frac
square_F x = x *F x

unfoldable pub magnitude_F : Frac → Frac
magnitude_F x = max_F x (neg_F x)

-- q's value if s is below 0, otherwise r's
unfoldable pub branch_F : Frac → Frac → Frac → Frac
branch_F s q r = cond (le_F (whole (pos 0)) s) r q

-- numbers e, g, k of E, G, K for one pair of values
pub record Chord (f : Frac → Frac) (E G K : Interval) (u u0 : Frac) : Type 0 where
  pub e : Frac
  pub g : Frac
  pub k : Frac
  pub e_in : In e E
  pub g_in : In g G
  pub k_in : In k K
  pub rise : (f u -F f u0) ≈ (g *F (u -F u0))
  pub bend : g ≈ (e +F k *F (u -F u0))

-- for every u in U and u0 in U0, where U0 lies in U
abbrev pub CurveLaw : (Frac → Frac) → Interval → Interval → Interval → Interval → Interval → Type 0
CurveLaw f U U0 E G K = (u u0 : Frac) → In u U → In u0 U0 → In u0 U → Chord f E G K u u0
