-- Exact fractions: a whole number over a positive whole number, compared by cross products.
use Rattle.std.specs.Prelude.{◌≡◌, ℕ, zero, suc, ◌*◌, ◌<◌, Bool, cond, ℤ, pos, negsuc, ◌+ℤ◌, ◌*ℤ◌, neg_ℤ, ◌≤ℤ◌, ◌<ℤ◌, Some, None, Option, int_le}
use Rattle.std.proofs.Common.{lit<, suc-le-suc, zero-le, mul-pos}

pub record Frac : Type 0 where
  pub top : ℤ
  pub bot : ℕ
  pub positive : 0 < bot

infixl 6 ◌+F◌ ◌-F◌
infixl 7 ◌*F◌
infix 4 ◌≈◌ ◌≤F◌ ◌<F◌
-- n / d
abbrev pub ratio : ℤ → (d : ℕ) → 0 < d → Frac
ratio n d h = record { top = n; bot = d; positive = h }

unfoldable pub whole : ℤ → Frac
whole k = ratio k 1 (lit< tt)

unfoldable pub ◌+F◌ : Frac → Frac → Frac
x +F y = record { top = x.top *ℤ pos y.bot +ℤ y.top *ℤ pos x.bot; bot = x.bot * y.bot; positive = mul-pos x.positive y.positive }

unfoldable pub ◌*F◌ : Frac → Frac → Frac
x *F y = record { top = x.top *ℤ y.top; bot = x.bot * y.bot; positive = mul-pos x.positive y.positive }

unfoldable pub neg_F : Frac → Frac
neg_F x = record { top = neg_ℤ x.top; bot = x.bot; positive = x.positive }

abbrev pub ◌-F◌ : Frac → Frac → Frac
x -F y = x +F neg_F y

-- equal, at most, below
pub record ◌≈◌ (x y : Frac) : Type 0 where
  pub cross : x.top *ℤ pos y.bot ≡ y.top *ℤ pos x.bot

pub record ◌≤F◌ (x y : Frac) : Type 0 where
  pub cross : (x.top *ℤ pos y.bot) ≤ℤ (y.top *ℤ pos x.bot)

pub record ◌<F◌ (x y : Frac) : Type 0 where
  pub cross : (x.top *ℤ pos y.bot) <ℤ (y.top *ℤ pos x.bot)

abbrev pub Nonzero : Frac → Type 0
Nonzero x = x ≈ whole (pos 0) → ⊥

-- d / n, and 0 for n = 0
unfoldable pub over_top : ℤ → ℕ → Frac
over_top (pos zero) d = whole (pos 0)
over_top (pos (suc n)) d = ratio (pos d) (suc n) (suc-le-suc zero-le)
over_top (negsuc n) d = ratio (neg_ℤ (pos d)) (suc n) (suc-le-suc zero-le)

-- 1 / x, and 0 for x = 0
unfoldable pub inv_F : Frac → Frac
inv_F x = over_top x.top x.bot

-- 1 / x, absent for x = 0
abbrev pub unless_nought : ℤ → Frac → Option Frac
unless_nought (pos zero) y = None
unless_nought (pos (suc n)) y = Some y
unless_nought (negsuc n) y = Some y

abbrev pub inverse : Frac → Option Frac
inverse x = unless_nought x.top (inv_F x)

-- whether x is at most y
unfoldable pub le_F : Frac → Frac → Bool
le_F x y = int_le (x.top *ℤ pos y.bot) (y.top *ℤ pos x.bot)

-- the greater and the lesser of two
unfoldable pub max_F : Frac → Frac → Frac
max_F x y = cond (le_F x y) y x

unfoldable pub min_F : Frac → Frac → Frac
min_F x y = cond (le_F x y) x y
