-- Multiples of powers of two, and where a whole number is cut.
use Rattle.std.specs.Prelude.{◌≡◌, ℕ, ◌*◌, ◌^◌, ◌<◌, ◌≤◌, ℤ, pos, ◌*ℤ◌, unsigned_abs}
use Rattle.std.specs.Int.{int_div_euclid}

abbrev pub shifted : ℤ → ℕ → ℤ
shifted m s = m *ℤ pos (2 ^ s)

-- k with its lowest s bits cleared
abbrev pub cut : ℤ → ℕ → ℤ
cut k s = shifted (int_div_euclid k (pos (2 ^ s))) s

-- s is how many bits k has beyond 24
pub record Scale (k : ℤ) (s : ℕ) : Type 0 where
  pub under : unsigned_abs k < 16777216 * 2 ^ s
  pub full : 0 < s → 8388608 * 2 ^ s ≤ unsigned_abs k

-- n 2^t / d in 64 bits
pub record Held (n : ℤ) (d t : ℕ) : Type 0 where
  pub positive : 0 < d
  pub bound : unsigned_abs n ≤ 2 ^ 62
  pub wide : 0 < t → 16777216 * d ≤ unsigned_abs n
  pub short : t ≤ 32

-- n 2^t / d is a / b
pub record Stands (a : ℤ) (b : ℕ) (n : ℤ) (d t : ℕ) : Type 0 where
  pub held : Held n d t
  pub cross : shifted n t *ℤ pos b ≡ a *ℤ pos d
